-- Written by tests/restated --write: what docs/statements has of
-- crates/call_laws/proofs/Laws/CallWrittenLaws.antt.
use Rattle.std.specs.Prelude.{ℕ}
use package.Rattle.protocol.specs.Bytes.{Bytes}
use package.Rattle.protocol.specs.State.{decode}
use package.Rattle.call_laws.specs.Readable.{SameSetting, DigestSized}
use package.Rattle.call_laws.specs.WrittenRead.{MoveWritten, FetchWritten}
use mathlib.Core.Path.{◌≡◌ as ◌is-kept◌, refl as by-text}
use package.Rattle.call_laws.proofs.Laws.CallWrittenLaws as page

pub move_written_read-kept : (digest : Bytes → Bytes) → DigestSized digest →
    (book reply other : Bytes) → SameSetting (decode book) (decode other) → MoveWritten digest book reply other
move_written_read-kept = page.move_written_read

pub fetch_written_read-kept : (digest : Bytes → Bytes) (book : Bytes) (k h : ℕ) (reply other : Bytes) →
    SameSetting (decode book) (decode other) → FetchWritten digest book k h reply other
fetch_written_read-kept = page.fetch_written_read
