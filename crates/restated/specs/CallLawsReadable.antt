-- Written by tests/restated --write: what docs/statements has of
-- crates/call_laws/specs/Readable.antt.
use Rattle.std.specs.Prelude.{ℕ, ◌≤◌, ◌≡◌, List, map, length}
use Rattle.std.proofs.Math.Option.{none}
use package.Rattle.protocol.specs.Every.{Every}
use package.Rattle.protocol.specs.Bytes.{Bytes, Sized}
use package.Rattle.protocol.specs.Tests.{first_refusal}
use package.Rattle.protocol.specs.Block.{digest_size}
use package.Rattle.protocol.specs.Frame.{frame_size}
use package.Rattle.protocol.specs.State.{State, at, last}
use package.Rattle.protocol.specs.Deliver.{read_rows}
use package.Rattle.call_laws.specs.Fields.{Fields, fields}
use package.Rattle.call_laws.specs.Readable.{IsRead, SameSetting, Said}
use mathlib.Core.Path.{◌≡◌ as ◌is-kept◌, refl as by-text}
use package.Rattle.call_laws.specs.Readable as page

abbrev IsRead-kept : State → Bytes → Type 0
IsRead-kept s frame = first_refusal (read_rows s frame) ≡ none

same-IsRead : IsRead-kept is-kept page.IsRead
same-IsRead = by-text

SameSetting-kept : (s s' : State) (same_n : s'.n ≡ s.n) (same_weights : s'.weights ≡ s.weights) (same_last : last s' ≡ last s) (same_leaders : (h : ℕ) → 1 ≤ h → h ≤ last s → (at s' h).leader ≡ (at s h).leader) →
    SameSetting s s'
SameSetting-kept s s' x0 x1 x2 x3 = record { same_n = x0; same_weights = x1; same_last = x2; same_leaders = x3 }

abbrev DigestSized-kept : (Bytes → Bytes) → Type 0
DigestSized-kept digest = (bytes : Bytes) → length (digest bytes) ≡ digest_size

same-DigestSized : DigestSized-kept is-kept page.DigestSized
same-DigestSized = by-text

Said-kept : (s : State) (said : List Fields) (frames : List Bytes) (says : map fields frames ≡ said) (sized : Every (Sized frame_size) frames) (read : Every (IsRead s) frames) →
    Said s said frames
Said-kept s said frames x0 x1 x2 = record { says = x0; sized = x1; read = x2 }
