-- Written by tests/restated --write: what docs/statements has of
-- crates/protocol/proofs/Laws/BuildLaws.antt.
use Rattle.std.specs.Prelude.{ℕ, ◌≡◌}
use package.Rattle.protocol.specs.Bytes.{Bytes}
use package.Rattle.protocol.specs.Frame.{frame_height, frame_of}
use mathlib.Core.Path.{◌≡◌ as ◌is-kept◌, refl as by-text}
use package.Rattle.protocol.proofs.Laws.BuildLaws as page

pub frame_height_lem-kept : (k s h mask : ℕ) (digest block : Bytes) → frame_height (frame_of k s h mask digest block) ≡ h
frame_height_lem-kept = page.frame_height_lem
