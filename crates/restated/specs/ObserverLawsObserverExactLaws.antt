-- Written by tests/restated --write: what docs/statements has of
-- crates/observer_laws/proofs/Laws/ObserverExactLaws.antt.
use Rattle.std.specs.Prelude.{◌≡◌}
use package.Rattle.protocol.specs.Bytes.{Bytes, AreBytes}
use package.Rattle.protocol.specs.Answer.{Delivery, accepted}
use package.Rattle.protocol.specs.ObserverCalls.{observer_deliver_call}
use package.Rattle.observer_laws.specs.ObserverKeeping.{ObserverKeeps}
use mathlib.Core.Path.{◌≡◌ as ◌is-kept◌, refl as by-text}
use package.Rattle.observer_laws.proofs.Laws.ObserverExactLaws as page

pub observer_keeps_exact-kept : (digest : Bytes → Bytes) (book frame : Bytes) (news : Delivery) →
    (observer_deliver_call digest book frame).answer ≡ accepted news →
    AreBytes (observer_deliver_call digest book frame).book →
    (news' : Delivery) (after : Bytes) → AreBytes after → ObserverKeeps digest book frame news' after →
    (news' ≡ news) × (after ≡ (observer_deliver_call digest book frame).book)
observer_keeps_exact-kept = page.observer_keeps_exact
