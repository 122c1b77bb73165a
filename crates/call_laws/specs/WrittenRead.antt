-- What is written is read: each frame that Move or Fetch writes is the one that the answer names, and is read over
-- every book of the same n, H and leaders with the same kind, height, signers, digest and block. The other book need
-- not be sound. A book that is not sound, or a reply too short, is refused, and no frame is written.
use Rattle.std.specs.Prelude.{ℕ, ◌≡◌}
use Rattle.protocol.specs.Bytes.{Bytes}
use Rattle.protocol.specs.State.{decode}
use Rattle.protocol.specs.Move.{move_call}
use Rattle.protocol.specs.Fetch.{fetch_call}
use Rattle.call_laws.specs.Readable.{Said}
use Rattle.call_laws.specs.Named.{move_answer_frames, move_answer_fields, fetch_answer_frames, fetch_answer_fields}
use Rattle.call_laws.specs.Reply.{Wrote, blank_after}

-- ---- Move
-- what holds of the frames that a move on `book` writes to `reply`, for each other book
pub record MoveWritten (digest : Bytes → Bytes) (book reply other : Bytes) : Type 0 where
  -- they are the frames that the answer names
  pub named : (move_call digest book reply).frames ≡ move_answer_frames digest (decode book)
      (move_call digest book reply).answer
  -- each has 224 bytes, is read over the other book, and says there what the answer names
  pub said : Said (decode other) (move_answer_fields digest (decode book) (move_call digest book reply).answer)
      (move_call digest book reply).frames
  -- they stand at bytes 0 and 224 of the reply, or 224 zero bytes in place of a finalize that a pass does not cast
  pub wrote : Wrote (move_call digest book reply).frames (blank_after (move_call digest book reply).answer) reply
      (move_call digest book reply).reply

-- ---- Fetch
pub record FetchWritten (digest : Bytes → Bytes) (book : Bytes) (k h : ℕ) (reply other : Bytes) : Type 0 where
  pub named : (fetch_call digest book k h reply).frames ≡ fetch_answer_frames (decode book) k h
      (fetch_call digest book k h reply).answer
  pub said : Said (decode other) (fetch_answer_fields (decode book) k h (fetch_call digest book k h reply).answer)
      (fetch_call digest book k h reply).frames
  pub wrote : Wrote (fetch_call digest book k h reply).frames 0 reply (fetch_call digest book k h reply).reply
