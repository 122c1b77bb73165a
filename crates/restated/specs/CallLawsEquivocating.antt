-- Written by tests/restated --write: what docs/statements has of
-- crates/call_laws/specs/Equivocating.antt.
use Rattle.std.specs.Prelude.{◌≡◌, ◌≢◌, true}
use package.Rattle.protocol.specs.Bytes.{Bytes}
use package.Rattle.protocol.specs.Frame.{kind, signer, frame_height, frame_block}
use package.Rattle.protocol.specs.State.{State, at, holds_proposal}
use package.Rattle.call_laws.specs.Readable.{IsRead}
use package.Rattle.call_laws.specs.Equivocating.{ProposedNow, Equivocation}
use mathlib.Core.Path.{◌≡◌ as ◌is-kept◌, refl as by-text}
use package.Rattle.call_laws.specs.Equivocating as page

ProposedNow-kept : (s : State) (frame : Bytes) (read : IsRead s frame) (proposes : kind frame ≡ 1) (here : frame_height frame ≡ s.current) (by_leader : signer frame ≡ (at s s.current).leader) →
    ProposedNow s frame
ProposedNow-kept s frame x0 x1 x2 x3 = record { read = x0; proposes = x1; here = x2; by_leader = x3 }

Equivocation-kept : (s : State) (frame : Bytes) (proposed : ProposedNow s frame) (held : holds_proposal (at s s.current) ≡ true) (unlike : (at s s.current).proposal ≢ frame_block frame) →
    Equivocation s frame
Equivocation-kept s frame x0 x1 x2 = record { proposed = x0; held = x1; unlike = x2 }
