-- Written by tests/restated --write: what docs/statements has of
-- crates/observer_laws/proofs/Laws/ObserverSoundStays.antt.
use Rattle.std.specs.Prelude.{ℕ, ◌≡◌, true}
use package.Rattle.protocol.specs.Open.{Opening}
use package.Rattle.protocol.specs.Bytes.{Bytes}
use package.Rattle.protocol.specs.Answer.{accepted, done}
use package.Rattle.protocol.specs.ObserverSound.{observer_sound}
use package.Rattle.protocol.specs.ObserverCalls.{observer_open_call}
use package.Rattle.protocol.specs.ObserverCall.{ObserverCall}
use package.Rattle.protocol.specs.ObserverCall.{observation}
use mathlib.Core.Path.{◌≡◌ as ◌is-kept◌, refl as by-text}
use package.Rattle.observer_laws.proofs.Laws.ObserverSoundStays as page

module _ (digest : Bytes → Bytes) where
  pub observer_sound_stays-kept : (book : Bytes) (call : ObserverCall) → observer_sound digest book ≡ true →
      observer_sound digest (observation digest book call).book ≡ true
  observer_sound_stays-kept = page.observer_sound_stays digest

  pub observer_sound_opened-kept : (way : Opening) (book : Bytes) (n heights : ℕ) →
      (observer_open_call way book n heights).answer ≡ accepted done →
      observer_sound digest (observer_open_call way book n heights).book ≡ true
  observer_sound_opened-kept = page.observer_sound_opened digest
