-- Register size and Read: the log of a sound book, by length and by bytes.
use Rattle.std.specs.Prelude.{ℕ, ◌*◌, ◌&&◌, cond, [], length, leb}
use Rattle.protocol.specs.Bytes.{Bytes, join, over_front}
use Rattle.protocol.specs.Block.{entry_size}
use Rattle.protocol.specs.State.{decode}
use Rattle.protocol.specs.Sound.{sound, log}
use Rattle.protocol.specs.Answer.{Answer, refused, accepted}

-- the length of the log in bytes
unfoldable pub log_size : Bytes → ℕ
log_size book = entry_size * length (log (decode book))

module _ (digest : Bytes → Bytes) where
  unfoldable pub size_call : Bytes → Answer ℕ
  size_call book = cond (sound digest book) (accepted (log_size book)) (refused 1)

  -- the part that a reading returns: the entries of the log, or the empty part
  unfoldable pub read_part : Bytes → Bytes → Bytes
  read_part book buffer =
      cond (sound digest book && leb (log_size book) (length buffer)) (join (log (decode book))) []

  -- the lent buffer after a reading
  unfoldable pub read_buffer : Bytes → Bytes → Bytes
  read_buffer book buffer = over_front (read_part book buffer) buffer
