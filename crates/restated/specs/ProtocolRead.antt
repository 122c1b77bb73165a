-- Written by tests/restated --write: what docs/statements has of
-- crates/protocol/specs/Read.antt.
use Rattle.std.specs.Prelude.{ℕ, ◌*◌, ◌&&◌, cond, [], length, leb}
use package.Rattle.protocol.specs.Bytes.{Bytes, join, over_front}
use package.Rattle.protocol.specs.Block.{entry_size}
use package.Rattle.protocol.specs.State.{decode}
use package.Rattle.protocol.specs.Sound.{sound, log}
use package.Rattle.protocol.specs.Answer.{Answer, refused, accepted}
use package.Rattle.protocol.specs.Read.{log_size}
use mathlib.Core.Path.{◌≡◌ as ◌is-kept◌, refl as by-text}
use package.Rattle.protocol.specs.Read as page

log_size-kept : Bytes → ℕ
log_size-kept book = entry_size * length (log (decode book))

same-log_size : log_size-kept is-kept page.log_size
unfolding log_size-kept page.log_size
same-log_size = by-text

module _ (digest : Bytes → Bytes) where
  abbrev read_part : Bytes → Bytes → Bytes
  read_part = page.read_part digest

  size_call-kept : Bytes → Answer ℕ
  size_call-kept book = cond (sound digest book) (accepted (log_size book)) (refused 1)

  same-size_call : size_call-kept is-kept page.size_call digest
  unfolding size_call-kept page.size_call
  same-size_call = by-text

  read_part-kept : Bytes → Bytes → Bytes
  read_part-kept book buffer =
      cond (sound digest book && leb (log_size book) (length buffer)) (join (log (decode book))) []

  same-read_part : read_part-kept is-kept page.read_part digest
  unfolding read_part-kept page.read_part
  same-read_part = by-text

  read_buffer-kept : Bytes → Bytes → Bytes
  read_buffer-kept book buffer = over_front (read_part book buffer) buffer

  same-read_buffer : read_buffer-kept is-kept page.read_buffer digest
  unfolding read_buffer-kept page.read_buffer
  same-read_buffer = by-text
