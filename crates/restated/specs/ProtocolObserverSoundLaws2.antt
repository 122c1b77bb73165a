-- Written by tests/restated --write: what docs/statements has of
-- crates/protocol/proofs/Laws/ObserverSoundLaws.antt.
use Prim.Native.Nat.{ℕ, ◌≤◌}
use Rattle.std.specs.Prelude.{◌≡◌, ◌⊎◌, true}
use package.Rattle.protocol.specs.SoundState.{SoundSetting}
use package.Rattle.protocol.specs.Bytes.{Bytes, is_zero}
use package.Rattle.protocol.specs.Tests.{implies, in_range}
use package.Rattle.protocol.specs.Block.{block_well_formed}
use package.Rattle.protocol.specs.State.{at, book_heights, most_heights, head_unused}
use package.Rattle.protocol.specs.State.{is_notarized}
use package.Rattle.protocol.specs.State.{maximum_replicas}
use package.Rattle.protocol.specs.View.{quorum, is_finalized}
use package.Rattle.protocol.specs.Sound.{view, masks_below}
use package.Rattle.protocol.specs.Observer.{observer_state}
use package.Rattle.protocol.specs.ObserverSound.{replica_head, observed_zero}
use package.Rattle.protocol.proofs.Laws.ObserverCodecLaws.{ExactObserver}
use package.Rattle.protocol.specs.SoundObserver.{SoundObserver}
use package.Rattle.protocol.specs.Bytes.{AreBytes}
use package.Rattle.protocol.specs.Observer.{decode_observer, encode_observer}
use package.Rattle.protocol.specs.ObserverSound.{observer_sound}
use package.Rattle.protocol.proofs.Laws.ObserverCodecLaws.{CleanObserver}
use mathlib.Core.Path.{◌≡◌ as ◌is-kept◌, refl as by-text}
use package.Rattle.protocol.proofs.Laws.ObserverSoundLaws as page

module _ (digest : Bytes → Bytes) where
  abbrev ObserverRows : (book : Bytes) → Type 0
  ObserverRows = page.ObserverRows digest

  pub observer_rows-kept : (book : Bytes) → observer_sound digest book ≡ true → ObserverRows book
  observer_rows-kept = page.observer_rows digest

module _ (digest : Bytes → Bytes) where
  module _ (book : Bytes) (e : observer_sound digest book ≡ true) where
    pub sound_observer-kept : SoundObserver digest (decode_observer book)
    sound_observer-kept = page.sound_observer digest book e

    pub sound_clean_observer-kept : CleanObserver book
    sound_clean_observer-kept = page.sound_clean_observer digest book e

    pub encode_decode_observer-kept : AreBytes book → encode_observer (decode_observer book) ≡ book
    encode_decode_observer-kept = page.encode_decode_observer digest book e

module _ (digest : Bytes → Bytes) where
  module _ (book : Bytes) (clean : CleanObserver book) (facts : SoundObserver digest (decode_observer book)) where
    pub observer_sound_of-kept : observer_sound digest book ≡ true
    observer_sound_of-kept = page.observer_sound_of digest book clean facts
