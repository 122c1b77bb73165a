-- Written by tests/restated --write: what docs/statements has of
-- crates/paper/proofs/Laws/ObservingLaws.antt.
use Rattle.std.specs.Prelude.{◌≡◌, true}
use package.Rattle.protocol.specs.Bytes.{Bytes, AreBytes}
use package.Rattle.protocol.specs.ObserverSound.{observer_sound}
use package.Rattle.paper.specs.Observing.{ObserverStep}
use mathlib.Core.Path.{◌≡◌ as ◌is-kept◌, refl as by-text}
use package.Rattle.paper.proofs.Laws.ObservingLaws as page

module _ (digest : Bytes → Bytes) (book : Bytes) (ok : observer_sound digest book ≡ true) where
  pub observer_moves-kept : AreBytes book → ObserverStep digest book
  observer_moves-kept = page.observer_moves digest book ok
