-- Written by tests/restated --write: what docs/statements has of
-- crates/agreement/specs/ObserverUnpacked.antt.
use Rattle.std.specs.Prelude.{ℕ, ◌≡◌, ◌⊎◌, ◌↔◌}
use mathlib.Core.List.{List, [], ◌∷◌, ◌++◌, map, Memᴰ}
use Rattle.std.proofs.Math.Option.{none}
use package.Rattle.protocol.specs.Bytes.{Bytes}
use package.Rattle.agreement.specs.Lists.{Begins, FewDishonest, HonestIn, KeepsOneBook, Member}
use package.Rattle.agreement.specs.Unpacked.{Unpacks, packet_in, stands_for, unpacked}
use package.Rattle.agreement.specs.ObserverLists.{AnyMember, of_replica, of_observer, replica_calls, observer_calls, Meant}
use package.Rattle.agreement.specs.ObserverLists.{AnyReads, ObserverKeepsOneBook, NoneForged, NoneCollide}
use mathlib.Core.Path.{◌≡◌ as ◌is-kept◌, refl as by-text}
use package.Rattle.agreement.specs.ObserverUnpacked as page

module _ (digest : Bytes → Bytes) where
  abbrev all_unpacked : List AnyMember → List AnyMember
  all_unpacked = page.all_unpacked digest

  abbrev ObserverUnpacks : (list : List AnyMember) → Type 1
  ObserverUnpacks = page.ObserverUnpacks digest

  all_unpacked-kept : List AnyMember → List AnyMember
  all_unpacked-kept [] = []
  all_unpacked-kept (of_replica m ∷ list) = map of_replica (stands_for digest m (packet_in m.call)) ++ all_unpacked-kept list
  all_unpacked-kept (of_observer m ∷ list) = of_observer m ∷ all_unpacked-kept list

  same-all_unpacked : all_unpacked-kept is-kept page.all_unpacked digest
  unfolding all_unpacked-kept page.all_unpacked
  same-all_unpacked = by-text

  ObserverUnpacks-kept : (list : List AnyMember) (no_packet : (m : Member) → Memᴰ (of_replica m) (all_unpacked list) → packet_in m.call ≡ none) (same_replicas : replica_calls (all_unpacked list) ≡ unpacked digest (replica_calls list)) (of_replicas : Unpacks digest (replica_calls list)) (same_observers : observer_calls (all_unpacked list) ≡ observer_calls list) (same_unforged : (books observers names : ℕ → Type 0) → NoneForged digest (Meant books observers) names list ↔ NoneForged digest (Meant books observers) names (all_unpacked list)) (same_collisions : (books observers : ℕ → Type 0) → NoneCollide digest (Meant books observers) list ↔ NoneCollide digest (Meant books observers) (all_unpacked list)) (same_readings : (m : AnyMember) (part : Bytes) → AnyReads digest m part → Memᴰ m list ↔ Memᴰ m (all_unpacked list)) →
      ObserverUnpacks list
  ObserverUnpacks-kept list x0 x1 x2 x3 x4 x5 x6 = record { no_packet = x0; same_replicas = x1; of_replicas = x2; same_observers = x3; same_unforged = x4; same_collisions = x5; same_readings = x6 }

  ObservedAgreementOn-kept : (granted list : List AnyMember) → Type 1
  ObservedAgreementOn-kept granted list =
      (weights : List ℕ) (dishonest : ℕ) (observers : ℕ → Type 0) → FewDishonest weights dishonest →
      ((s : ℕ) → HonestIn weights dishonest s → KeepsOneBook digest weights (replica_calls granted) s) →
      ((s : ℕ) → observers s → ObserverKeepsOneBook digest weights (observer_calls granted) s) →
      NoneForged digest (Meant (HonestIn weights dishonest) observers) (HonestIn weights dishonest) granted →
      NoneCollide digest (Meant (HonestIn weights dishonest) observers) granted →
      (m m' : AnyMember) (part part' : Bytes) → Memᴰ m list → Memᴰ m' list →
      Meant (HonestIn weights dishonest) observers m → Meant (HonestIn weights dishonest) observers m' →
      AnyReads digest m part → AnyReads digest m' part' → Begins part part' ⊎ Begins part' part

  same-ObservedAgreementOn : ObservedAgreementOn-kept is-kept page.ObservedAgreementOn digest
  unfolding ObservedAgreementOn-kept page.ObservedAgreementOn
  same-ObservedAgreementOn = by-text
