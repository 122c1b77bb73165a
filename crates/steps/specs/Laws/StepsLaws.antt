-- What the writes of each step leave: the step's frame in the reply and the step's state in the book.
use Rattle.std.specs.Prelude.{ℕ, ◌≡◌, [], ◌∷◌, ◌++◌}
use Rattle.std.proofs.Common.{◌∙◌, append-nil}
use Rattle.std.proofs.Math.Option.{some}
use Rattle.sha256.specs.Digest.{sha256}
use Rattle.protocol.specs.Bytes.{Bytes, zeros, join, over_front}
use Rattle.protocol.specs.Frame.{proposal, dummy_vote, block_vote}
use Rattle.protocol.specs.State.{State, at, encode, with_head, with_flag}
use Rattle.protocol.specs.Move.{unused, written, dummy_vote_step, output_step, new_finalized, some_or, parent_below}
use Rattle.protocol.specs.Move.{proposed_block, propose_step, block_vote_step}
use Rattle.answers.specs.declared.answer.Moved.TheVariants as Moved
use Rattle.answers.specs.Answers.{move_of}
use Rattle.applies.specs.Took.{Took}

-- ---- what is written
one_written : (frame : Bytes) → join (frame ∷ []) ++ zeros 0 ≡ frame
unfolding join zeros
one_written frame = append-nil (frame ++ []) ∙ append-nil frame

-- ---- the steps that write one frame and set one flag
module _ (s : State) (reply book_after replyAfter : Bytes) (c : ℕ) (c-is : c ≡ s.current) where
  pub took_dummy_vote : (own : ℕ) → own ≡ s.own → book_after ≡ encode (with_flag 2 s) →
      replyAfter ≡ over_front (dummy_vote own c) reply →
      Took (dummy_vote_step s) reply (Moved.Dummy c) book_after replyAfter
  unfolding dummy_vote_step written unused
  took_dummy_vote own own_is b r = record {
    answer = rw c-is;
    book = b;
    reply_is = r ∙ rw (own_is, c-is, one_written (dummy_vote s.own s.current));
  }

  pub took_block_vote : (own : ℕ) (digest block : Bytes) → own ≡ s.own → digest ≡ sha256 block →
      block ≡ (at s c).proposal → book_after ≡ encode (with_flag 4 s) →
      replyAfter ≡ over_front (block_vote own c digest) reply →
      Took (block_vote_step sha256 s) reply (Moved.Vote c) book_after replyAfter
  unfolding block_vote_step written unused
  took_block_vote own digest block own_is d p b r = record {
    answer = rw c-is;
    book = b;
    reply_is = r ∙ rw (
      d,
      p,
      own_is,
      c-is,
      one_written
          (block_vote s.own s.current (sha256 (at s s.current).proposal)),
    );
  }

  pub took_propose : (j : ℕ) → parent_below sha256 s ≡ some j → book_after ≡ encode (with_flag 8 s) →
      replyAfter ≡ over_front (proposal s.own s.current (proposed_block sha256 s j)) reply →
      Took (propose_step sha256 s) reply (Moved.Offer c) book_after replyAfter
  unfolding propose_step written unused some_or
  took_propose j j-is b r = record {
    answer = rw c-is;
    book = b;
    reply_is = r ∙ rw (j-is, one_written (proposal s.own s.current (proposed_block sha256 s j)));
  }

-- ---- the step that writes none
module _ (s : State) (g : ℕ) (g-is : g ≡ new_finalized sha256 s) where
  pub settled_answer : move_of (Moved.Final g) ≡ (output_step sha256 s).move
  unfolding output_step
  settled_answer = rw g-is

  pub settled_book : (book_after : Bytes) → book_after ≡ encode (with_head s s.flags s.current g) →
      book_after ≡ encode (output_step sha256 s).after
  unfolding output_step
  settled_book book_after b = b ∙ rw g-is
