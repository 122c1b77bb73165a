-- `digest_into` meets its contract: it answers by what the digest's own function answers.
use Rattle.sha256_c.specs.DigestCall.{digest_number}
use Rattle.sha256_c.proofs.digest_into.Goals as goal

pub returns-then-sha256_into : goal.returns-then-sha256_into
unfolding digest_number
returns-then-sha256_into c = record {
  answer = rw (← c.sha256_into.ensures.answer, c.if-sha256_into.true);
  after = c.sha256_into.ensures.after;
}

pub returns-else-sha256_into : goal.returns-else-sha256_into
unfolding digest_number
returns-else-sha256_into c = record {
  answer = rw (← c.sha256_into.ensures.answer, c.if-sha256_into.false);
  after = c.sha256_into.ensures.after;
}
