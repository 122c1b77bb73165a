-- Written by tests/restated --write: what docs/statements has of
-- crates/agreement/proofs/Laws/ObserverRunLaws.antt.
use Prim.Native.Nat.{ℕ, suc}
use Rattle.std.specs.Prelude.{◌≡◌, get_or}
use mathlib.Core.List.{List, Memᴰ}
use Rattle.std.proofs.Math.Option.{Option, some, none}
use package.Rattle.protocol.specs.Bytes.{Bytes}
use package.Rattle.protocol.specs.Sound.{view}
use package.Rattle.protocol.specs.Observer.{observer_state}
use package.Rattle.protocol.specs.SoundState.{Shaped}
use package.Rattle.protocol.specs.State.{Height, State, no_height}
use package.Rattle.agreement.proofs.Laws.BackingLaws.{ShownOf}
use package.Rattle.agreement.specs.Lists.{Statement, Wrote}
use package.Rattle.agreement.specs.ObserverLists.{AnyMember, AnyShows, Meant}
use package.Rattle.agreement.specs.ObserverLists.{replica_calls}
use mathlib.Core.Path.{◌≡◌ as ◌is-kept◌, refl as by-text}
use package.Rattle.agreement.proofs.Laws.ObserverRunLaws as page

module _ (digest : Bytes → Bytes) (weights : List ℕ) (books names observers : ℕ → Type 0) where
  abbrev AnyStates : List AnyMember → ℕ → Statement → Type 0
  AnyStates = page.AnyStates digest weights books names observers

  abbrev AnySeen : List AnyMember → Bytes → Type 0
  AnySeen = page.AnySeen digest weights books names observers

  abbrev ShownBy : List AnyMember → ℕ → Height → Type 0
  ShownBy = page.ShownBy digest weights books names observers

  abbrev Followed : (P : List AnyMember) (b : State) → Type 0
  Followed = page.Followed digest weights books names observers

  abbrev AnyStates-kept : List AnyMember → ℕ → Statement → Type 0
  AnyStates-kept P t st = names t → Wrote digest t st (replica_calls P)

  same-AnyStates : AnyStates-kept is-kept page.AnyStates digest weights books names observers
  same-AnyStates = by-text

  abbrev AnySeen-kept : List AnyMember → Bytes → Type 0
  AnySeen-kept P block = (m : AnyMember) × Memᴰ m P × Meant books observers m × AnyShows digest m block

  same-AnySeen : AnySeen-kept is-kept page.AnySeen digest weights books names observers
  same-AnySeen = by-text

  abbrev ShownBy-kept : List AnyMember → ℕ → Height → Type 0
  ShownBy-kept P h x = ShownOf digest (AnyStates P) (AnySeen P) h x

  same-ShownBy : ShownBy-kept is-kept page.ShownBy digest weights books names observers
  same-ShownBy = by-text

  Followed-kept : (P : List AnyMember) (b : State) (same_weights : (view b).weights ≡ weights) (shaped : Shaped b) (shown : (i : ℕ) → ShownBy P (suc i) (get_or b.heights i no_height)) →
      Followed P b
  Followed-kept P b x0 x1 x2 = record { same_weights = x0; shaped = x1; shown = x2 }

  abbrev FollowedBytes-kept : List AnyMember → Option Bytes → Type 0
  FollowedBytes-kept P none = Unit {0}
  FollowedBytes-kept P (some book) = Followed P (observer_state book)

  same-FollowedBytes : FollowedBytes-kept is-kept page.FollowedBytes digest weights books names observers
  same-FollowedBytes = by-text
