-- Written by tests/restated --write: what docs/statements has of
-- crates/agreement/proofs/Laws/ObserverBookLaws.antt.
use Rattle.std.specs.Prelude.{ℕ, ◌≡◌}
use mathlib.Core.List.{List, [], ◌∷◌, ◌++◌}
use package.Rattle.protocol.specs.Bytes.{Bytes}
use package.Rattle.protocol.specs.State.{State}
use package.Rattle.agreement.proofs.Laws.ObserverRunLaws.{Followed}
use package.Rattle.agreement.specs.ObserverLists.{AnyMember, Meant, NoneForged}
use package.Rattle.agreement.specs.ObserverLists.{ObserverMember}
use package.Rattle.agreement.specs.ObserverLists.{of_observer}
use Rattle.std.proofs.Math.Option.{Option}
use package.Rattle.protocol.specs.Observer.{observer_state}
use package.Rattle.agreement.proofs.Laws.ObserverRunLaws.{FollowedBytes}
use package.Rattle.agreement.specs.ObserverLists.{ObserverFollows}
use package.Rattle.agreement.specs.ObserverLists.{observes}
use mathlib.Core.Path.{◌≡◌ as ◌is-kept◌, refl as by-text}
use package.Rattle.agreement.proofs.Laws.ObserverBookLaws as page

module _ (digest : Bytes → Bytes) (weights : List ℕ) (books names observers : ℕ → Type 0) (l : List AnyMember)
    (unforged : NoneForged digest (Meant books observers) names l) where
  module _ (P after : List AnyMember) (m : ObserverMember) (here : l ≡ P ++ (of_observer m ∷ after))
      (ours : observers m.observer) where
    abbrev P' : List AnyMember
    P' = P ++ (of_observer m ∷ [])

    abbrev FollowedIn : List AnyMember → State → Type 0
    FollowedIn Q = Followed digest weights books names observers Q

    pub next_followed-kept : (o : Option Bytes) → ObserverFollows digest weights m o →
        FollowedBytes digest weights books names observers P o → FollowedIn P' (observer_state (observes digest m).book)
    next_followed-kept = page.next_followed digest weights books names observers l unforged P after m here ours
