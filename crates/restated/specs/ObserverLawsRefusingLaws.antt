-- Written by tests/restated --write: what docs/statements has of
-- crates/observer_laws/proofs/Laws/RefusingLaws.antt.
use mathlib.Core.List.{[], ◌∷◌}
use package.Rattle.protocol.specs.Bytes.{Bytes}
use package.Rattle.protocol.specs.Answer.{Delivery}
use package.Rattle.protocol.specs.ObserverCalls.{observer_deliver_call}
use package.Rattle.call_laws.specs.Refusals.{Refuses}
use package.Rattle.observer_laws.specs.Refusing.{refusal_rows, RefusesStatements}
use mathlib.Core.Path.{◌≡◌ as ◌is-kept◌, refl as by-text}
use package.Rattle.observer_laws.proofs.Laws.RefusingLaws as page

module _ (digest : Bytes → Bytes) where
  pub observer_deliver_refuses-kept : (book frame : Bytes) →
      Refuses Delivery (refusal_rows digest book frame) (observer_deliver_call digest book frame).answer (book ∷ [])
      ((observer_deliver_call digest book frame).book ∷ [])
  observer_deliver_refuses-kept = page.observer_deliver_refuses digest

  pub refuses_statements-kept : RefusesStatements digest
  refuses_statements-kept = page.refuses_statements digest
