-- Written by tests/restated --write: what docs/statements has of
-- crates/protocol/proofs/Laws/BeforeLaws.antt.
use Rattle.std.specs.Prelude.{ℕ, ◌-◌, ◌*◌, ◌<◌, ◌≡◌, ◌&&◌, List, [], ◌∷◌, ◌++◌, length, ltb}
use package.Rattle.protocol.specs.Bytes.{Bytes, AreBytes, le16, zeros, join}
use package.Rattle.protocol.specs.Block.{new_block, block_well_formed}
use package.Rattle.protocol.specs.Frame.{frame_height, frame_of, frame_well_formed}
use package.Rattle.protocol.specs.Before.{block_before, frame_before}
use mathlib.Core.Path.{◌≡◌ as ◌is-kept◌, refl as by-text}
use package.Rattle.protocol.proofs.Laws.BeforeLaws as page

pub short_frame-kept : (k s h mask : ℕ) (digest block : Bytes) → h < 256 →
    frame_of k s h mask digest block ≡ (k ∷ s ∷ h ∷ 0 ∷ []) ++ (le16 mask ++ (zeros 10 ++ (digest ++ block)))
short_frame-kept = page.short_frame

pub short_block-kept : (h parent : ℕ) (digest : Bytes) (es : List Bytes) → parent < h → h < 256 →
    new_block h parent digest es ≡
    (h ∷ 0 ∷ parent ∷ 0 ∷ length es ∷ zeros 11) ++ (digest ++ (join es ++ zeros (128 - 16 * length es)))
short_block-kept = page.short_block

pub block_before_lem-kept : (h : ℕ) (block : Bytes) → AreBytes block →
    block_before h block ≡ (block_well_formed h block && ltb h 256)
block_before_lem-kept = page.block_before_lem

pub frame_before_lem-kept : (frame : Bytes) → AreBytes frame →
    frame_before frame ≡ (frame_well_formed frame && ltb (frame_height frame) 256)
frame_before_lem-kept = page.frame_before_lem
