-- Where the frames that a call writes stand in the lent reply.
use Rattle.std.specs.Prelude.{ℕ, ◌+◌, ◌*◌, ◌<◌, ◌≡◌, List, [], length, get_or, drop}
use Rattle.protocol.specs.Bytes.{Bytes, part, zeros}
use Rattle.protocol.specs.Frame.{frame_size}
use Rattle.protocol.specs.Answer.{Answer, refused, accepted, Move}
use Rattle.protocol.specs.Move.{unused}

-- a reply before and after a call that wrote these frames, and then `blank` zero bytes, to its front
pub record Wrote (frames : List Bytes) (blank : ℕ) (before after : Bytes) : Type 0 where
  -- frame 0 stands at byte 0, frame 1 at byte 224
  pub frame_at_lem : (i : ℕ) → i < length frames → part after (frame_size * i) frame_size ≡ get_or frames i []
  pub blank_after_lem : part after (frame_size * length frames) blank ≡ zeros blank
  -- the bytes past what is written keep their values
  pub rest_kept : drop (frame_size * length frames + blank) after ≡ drop (frame_size * length frames + blank) before
  pub same_length : length after ≡ length before

-- how many zero bytes a call of Move leaves after its frames
unfoldable pub blank_after : Answer Move → ℕ
blank_after (refused number) = 0
blank_after (accepted move) = unused move
