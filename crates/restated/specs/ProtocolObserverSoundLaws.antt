-- Written by tests/restated --write: what docs/statements has of
-- crates/protocol/proofs/Laws/ObserverSoundLaws.antt.
use Prim.Native.Nat.{ℕ, ◌≤◌}
use Rattle.std.specs.Prelude.{◌≡◌, ◌⊎◌, true}
use package.Rattle.protocol.specs.SoundState.{SoundSetting}
use package.Rattle.protocol.specs.Bytes.{Bytes, is_zero}
use package.Rattle.protocol.specs.Tests.{implies, in_range}
use package.Rattle.protocol.specs.Block.{block_well_formed}
use package.Rattle.protocol.specs.State.{at, book_heights, most_heights, head_unused}
use package.Rattle.protocol.specs.State.{is_notarized}
use package.Rattle.protocol.specs.State.{maximum_replicas}
use package.Rattle.protocol.specs.View.{quorum, is_finalized}
use package.Rattle.protocol.specs.Sound.{view, masks_below}
use package.Rattle.protocol.specs.Observer.{observer_state}
use package.Rattle.protocol.specs.ObserverSound.{replica_head, observed_zero}
use package.Rattle.protocol.proofs.Laws.ObserverCodecLaws.{ExactObserver}
use mathlib.Core.Path.{◌≡◌ as ◌is-kept◌, refl as by-text}
use package.Rattle.protocol.proofs.Laws.ObserverSoundLaws as page

module _ (digest : Bytes → Bytes) where
  abbrev ObserverRows : (book : Bytes) → Type 0
  ObserverRows = page.ObserverRows digest

  ObserverRows-kept : (book : Bytes) (exact : ExactObserver book) (few : in_range 1 maximum_replicas (observer_state book).n ≡ true) (many : in_range 1 (most_heights (observer_state book).edition) (book_heights book) ≡ true) (setting : SoundSetting (observer_state book).edition (observer_state book).n (observer_state book).weights) (masks : (h : ℕ) → 1 ≤ h → h ≤ book_heights book → masks_below (observer_state book).n (at (observer_state book) h) ≡ true) (status : (h : ℕ) → 1 ≤ h → h ≤ book_heights book → ((at (observer_state book) h).status ≡ 0) ⊎ ((at (observer_state book) h).status ≡ 2)) (formed : (h : ℕ) → 1 ≤ h → h ≤ book_heights book → implies (is_notarized (at (observer_state book) h)) (block_well_formed h (at (observer_state book) h).notarized) ≡ true) (certified : (h : ℕ) → 1 ≤ h → h ≤ book_heights book → implies (is_notarized (at (observer_state book) h)) (quorum (view (observer_state book)) (at (observer_state book) h).certificate_mask) ≡ true) (head : is_zero (replica_head book) ≡ true) (rest : is_zero (head_unused book) ≡ true) (unused : (h : ℕ) → 1 ≤ h → h ≤ book_heights book → observed_zero book h ≡ 0) (final : ((observer_state book).finalized ≡ 0) ⊎ (is_finalized digest (view (observer_state book)) (observer_state book).finalized ≡ true)) →
      ObserverRows book
  ObserverRows-kept book x0 x1 x2 x3 x4 x5 x6 x7 x8 x9 x10 x11 = record { exact = x0; few = x1; many = x2; setting = x3; masks = x4; status = x5; formed = x6; certified = x7; head = x8; rest = x9; unused = x10; final = x11 }
