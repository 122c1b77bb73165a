-- `hash_rest` meets its contract: the padding ends in the same block, or in one more. Assumes nothing.
use Rattle.std.proofs.Common.{◌≡◌, length, refl, ◌∙◌, arith}
use Rattle.sha256_padding.specs.Padding.{zeros}
use Rattle.sha256_padding.specs.Ending.{opened}
use Rattle.sha256_padding.specs.Laws.EndingLaws.{opened_length, ends_here, ends_later}
use Rattle.sha256.specs.Laws.DigestLaws.{hash_all-block}
use Rattle.sha256.proofs.digest.hash_rest.Goals as goal

pub begin-requires : goal.begin-requires
unfolding zeros
begin-requires c = record {
  block_value = refl;
  rest_len_bound = omega arith;
}

pub returns-then-rest-lt56 : goal.returns-then-rest-lt56
returns-then-rest-lt56 c = let asked = c.args in
    c.hash_blocks.ensures
    ∙ rw (
      ends_here asked.rest.now asked.size c.requires c.if-rest-lt56.true,
      c.put_length.ensures.block_after,
      c.begin.ensures.block_after,
    )

pub returns : goal.returns
unfolding zeros
returns c = let asked = c.args in
    let whole : length (opened asked.rest.now) ≡ 64 = opened_length asked.rest.now (omega arith) in
    c.hash_blocks-2.ensures
    ∙ rw (
      ends_later asked.rest.now asked.size c.requires c.if-rest-lt56.false,
      hash_all-block asked.hash (opened asked.rest.now) _ whole,
      c.hash_blocks-next.ensures,
      c.put_length-2.ensures.block_after,
      c.begin.ensures.block_after,
    )
