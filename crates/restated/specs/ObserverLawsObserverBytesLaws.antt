-- Written by tests/restated --write: what docs/statements has of
-- crates/observer_laws/proofs/Laws/ObserverBytesLaws.antt.
use Rattle.std.specs.Prelude.{ℕ, ◌≡◌}
use package.Rattle.protocol.specs.Bytes.{Bytes}
use package.Rattle.protocol.specs.Open.{Opening}
use package.Rattle.protocol.specs.Answer.{accepted, done}
use package.Rattle.protocol.specs.ObserverCalls.{observer_open_call}
use package.Rattle.observer_laws.specs.ObserverOpened.{opened_observer}
use mathlib.Core.Path.{◌≡◌ as ◌is-kept◌, refl as by-text}
use package.Rattle.observer_laws.proofs.Laws.ObserverBytesLaws as page

pub observer_open_bytes-kept : (way : Opening) (book : Bytes) (n heights : ℕ) →
    (observer_open_call way book n heights).answer ≡ accepted done →
    (observer_open_call way book n heights).book ≡ opened_observer way n heights
observer_open_bytes-kept = page.observer_open_bytes
