-- Written by tests/restated --write: what docs/statements has of
-- crates/call_laws/specs/WrittenRead.antt.
use Rattle.std.specs.Prelude.{ℕ, ◌≡◌}
use package.Rattle.protocol.specs.Bytes.{Bytes}
use package.Rattle.protocol.specs.State.{decode}
use package.Rattle.protocol.specs.Move.{move_call}
use package.Rattle.protocol.specs.Fetch.{fetch_call}
use package.Rattle.call_laws.specs.Readable.{Said}
use package.Rattle.call_laws.specs.Named.{move_answer_frames, move_answer_fields, fetch_answer_frames, fetch_answer_fields}
use package.Rattle.call_laws.specs.Reply.{Wrote, blank_after}
use package.Rattle.call_laws.specs.WrittenRead.{MoveWritten, FetchWritten}
use mathlib.Core.Path.{◌≡◌ as ◌is-kept◌, refl as by-text}
use package.Rattle.call_laws.specs.WrittenRead as page

MoveWritten-kept : (digest : Bytes → Bytes) (book reply other : Bytes) (named : (move_call digest book reply).frames ≡ move_answer_frames digest (decode book) (move_call digest book reply).answer) (said : Said (decode other) (move_answer_fields digest (decode book) (move_call digest book reply).answer) (move_call digest book reply).frames) (wrote : Wrote (move_call digest book reply).frames (blank_after (move_call digest book reply).answer) reply (move_call digest book reply).reply) →
    MoveWritten digest book reply other
MoveWritten-kept digest book reply other x0 x1 x2 = record { named = x0; said = x1; wrote = x2 }

FetchWritten-kept : (digest : Bytes → Bytes) (book : Bytes) (k h : ℕ) (reply other : Bytes) (named : (fetch_call digest book k h reply).frames ≡ fetch_answer_frames (decode book) k h (fetch_call digest book k h reply).answer) (said : Said (decode other) (fetch_answer_fields (decode book) k h (fetch_call digest book k h reply).answer) (fetch_call digest book k h reply).frames) (wrote : Wrote (fetch_call digest book k h reply).frames 0 reply (fetch_call digest book k h reply).reply) →
    FetchWritten digest book k h reply other
FetchWritten-kept digest book k h reply other x0 x1 x2 = record { named = x0; said = x1; wrote = x2 }
