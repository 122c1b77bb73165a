-- Written by tests/restated --write: what docs/statements has of
-- crates/observer_laws/proofs/Laws/ObserverKeepsLaws.antt.
use Rattle.std.specs.Prelude.{◌≡◌}
use package.Rattle.protocol.specs.Bytes.{Bytes}
use package.Rattle.protocol.specs.Answer.{Delivery, accepted}
use package.Rattle.protocol.specs.ObserverCalls.{observer_deliver_call}
use package.Rattle.observer_laws.specs.ObserverKeeping.{ObserverKeeps}
use mathlib.Core.Path.{◌≡◌ as ◌is-kept◌, refl as by-text}
use package.Rattle.observer_laws.proofs.Laws.ObserverKeepsLaws as page

pub observer_deliver_keeps-kept : (digest : Bytes → Bytes) (book frame : Bytes) (news : Delivery) →
    (observer_deliver_call digest book frame).answer ≡ accepted news →
    ObserverKeeps digest book frame news (observer_deliver_call digest book frame).book
observer_deliver_keeps-kept = page.observer_deliver_keeps
