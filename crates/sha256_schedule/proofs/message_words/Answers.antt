-- `message_words` meets its contract. The loop's invariant: the first t words are those of the block. Assumes nothing.
use Rattle.std.proofs.Common.{◌≡◌, ℕ, ◌<◌, length, take, refl, ◌∙◌, subst, arith, length-set}
use Rattle.sha256_schedule.specs.Schedule.{message_words}
use Rattle.sha256_schedule.specs.Laws.ScheduleLaws.{words_more}
use Rattle.sha256_schedule.proofs.Chunks.{chunk_word}
use Rattle.sha256_schedule.proofs.message_words.Goals as goal

pub loop-t-init : goal.loop-t-init
unfolding message_words
loop-t-init c = (omega arith, refl, refl)

pub loop-t-preserved : goal.loop-t-preserved
loop-t-preserved c = let head = c.loop-t in
    let room : head.t < length head.w = omega arith in (
      omega arith,
      length-set head.w head.t c.from_be_bytes.result ∙ head.invariant.1,
      words_more c.args.block.now head.w head.t c.from_be_bytes.result room head.invariant.2
          (rw c.as_chunks.ensures.front at c.from_be_bytes.ensures ∙ chunk_word c.args.block.now _ head.t (omega arith)),
    )

pub returns : goal.returns
returns c = let head = c.loop-t in
    let all : head.t ≡ 16 = omega arith in
    subst (λ (n : ℕ). take n head.w ≡ message_words c.args.block.now n) all head.invariant.2
