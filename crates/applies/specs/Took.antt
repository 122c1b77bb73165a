-- What a taken step leaves.
use Rattle.std.specs.Prelude.{◌≡◌}
use Rattle.protocol.specs.Bytes.{Bytes, over_front}
use Rattle.protocol.specs.State.{encode}
use Rattle.protocol.specs.Move.{Step, written}
use Rattle.answers.specs.Answers.{move_of}
use Rattle.answers.specs.declared.answer.Moved.{Moved}

-- the answer, the book and the reply after a step, where `reply` was lent
pub record Took (st : Step) (reply : Bytes) (r : Moved) (book_after replyAfter : Bytes) : Type 0 where
  pub answer : move_of r ≡ st.move
  pub book : book_after ≡ encode st.after
  pub reply_is : replyAfter ≡ over_front (written st) reply
