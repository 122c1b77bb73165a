-- Written by tests/restated --write: what docs/statements has of
-- crates/agreement/specs/ObserverWitness.antt.
use Rattle.std.specs.Prelude.{ℕ, ◌<◌, ◌≡◌, ◌⊎◌, List, [], ◌∷◌, ◌++◌, map, get_or, set, replicate}
use package.Rattle.protocol.specs.Bytes.{Bytes, zeros}
use package.Rattle.protocol.specs.Block.{new_block}
use package.Rattle.protocol.specs.Frame.{block_certificate, dummy_certificate, dummy_vote, finalize_certificate}
use package.Rattle.protocol.specs.Open.{unweighed}
use package.Rattle.protocol.specs.Call.{book_after}
use package.Rattle.protocol.specs.ObserverCall.{ObserverCall, observation, observer_delivery, observer_moving, observer_opening}
use package.Rattle.protocol.specs.ObserverCall.{observer_reading, observer_sizing}
use package.Rattle.agreement.specs.AnyDigest.{agreed, dishonest, heavy_two, light_four, openings, readings, split}
use package.Rattle.agreement.specs.AnyDigest.{timeouts, way, weights}
use package.Rattle.agreement.specs.Lists.{Begins}
use package.Rattle.agreement.specs.ObserverLists.{AnyMember, of_observer, of_replica}
use package.Rattle.agreement.specs.ObserverMet.{ObservedMet, ObserverOf, ObserverReads}
use package.Rattle.agreement.specs.Turns.{Turn, anything, next_block, next_log}
use package.Rattle.agreement.specs.ObserverWitness.{AnyTurn, by_replica, by_observer, observer_hears, observer_openings, observer_hearings, lonely_entry, lonely_block, lonely, by_replicas, build_any, anything_observed, meant_observers, any_turns}
use mathlib.Core.Path.{◌≡◌ as ◌is-kept◌, refl as by-text}
use package.Rattle.agreement.specs.ObserverWitness as page

AnyTurn-by_replica-kept : Turn → AnyTurn
AnyTurn-by_replica-kept = page.AnyTurn.by_replica

AnyTurn-by_observer-kept : ℕ → ObserverCall → AnyTurn
AnyTurn-by_observer-kept = page.AnyTurn.by_observer

AnyTurn-apart : AnyTurn → Unit {0}
AnyTurn-apart (page.AnyTurn.by_replica _) = tt
AnyTurn-apart (page.AnyTurn.by_observer _ _) = tt

build_any-kept : (Bytes → Bytes) → (books observed : List Bytes) → List AnyTurn → List AnyMember
build_any-kept digest books observed [] = []
build_any-kept digest books observed (by_replica (s, call) ∷ turns) =
    let book : Bytes = get_or books s [] in
    of_replica (record { replica = s; book = book; call = call }) ∷
    build_any-kept digest (set books s (book_after digest book call)) observed turns
build_any-kept digest books observed (by_observer s call ∷ turns) =
    let book : Bytes = get_or observed s [] in
    of_observer (record { observer = s; book = book; call = call }) ∷
    build_any-kept digest books (set observed s (observation digest book call).book) turns

same-build_any : build_any-kept is-kept page.build_any
unfolding build_any-kept page.build_any
same-build_any = by-text

observer_hears-kept : ℕ → Bytes → AnyTurn
observer_hears-kept s frame = by_observer s (observer_delivery frame)

same-observer_hears : observer_hears-kept is-kept page.observer_hears
unfolding observer_hears-kept page.observer_hears
same-observer_hears = by-text

anything_observed-kept : List Bytes
anything_observed-kept = replicate 432 9 ∷ replicate 616 9 ∷ replicate 248 9 ∷ []

same-anything_observed : anything_observed-kept is-kept page.anything_observed
unfolding anything_observed-kept page.anything_observed
same-anything_observed = by-text

observer_openings-kept : List AnyTurn
observer_openings-kept =
    by_observer 0 (observer_opening way 5 2) ∷ by_observer 1 (observer_opening way 5 3) ∷
    by_observer 2 (observer_opening unweighed 5 1) ∷ by_observer 0 (observer_opening way 5 3) ∷
    by_observer 1 (observer_reading (zeros 16)) ∷ []

same-observer_openings : observer_openings-kept is-kept page.observer_openings
unfolding observer_openings-kept page.observer_openings
same-observer_openings = by-text

observer_hearings-kept : List AnyTurn
observer_hearings-kept =
    observer_hears 0 (dummy_vote 1 2) ∷ observer_hears 0 (dummy_certificate 2 light_four) ∷
    observer_hears 0 (block_certificate 2 heavy_two next_block) ∷
    observer_hears 1 (finalize_certificate 2 7) ∷ by_observer 1 observer_moving ∷
    observer_hears 1 (block_certificate 2 heavy_two next_block) ∷ observer_hears 1 (dummy_certificate 1 heavy_two) ∷
    observer_hears 0 (finalize_certificate 2 7) ∷
    by_observer 0 observer_moving ∷ by_observer 1 observer_moving ∷ by_observer 0 observer_moving ∷
    by_observer 0 observer_sizing ∷ by_observer 0 (observer_reading (zeros 32)) ∷ []

same-observer_hearings : observer_hearings-kept is-kept page.observer_hearings
unfolding observer_hearings-kept page.observer_hearings
same-observer_hearings = by-text

lonely_entry-kept : Bytes
lonely_entry-kept = replicate 16 4

same-lonely_entry : lonely_entry-kept is-kept page.lonely_entry
unfolding lonely_entry-kept page.lonely_entry
same-lonely_entry = by-text

lonely_block-kept : Bytes
lonely_block-kept = new_block 1 0 (zeros 32) (lonely_entry ∷ [])

same-lonely_block : lonely_block-kept is-kept page.lonely_block
unfolding lonely_block-kept page.lonely_block
same-lonely_block = by-text

lonely-kept : List AnyTurn
lonely-kept =
    observer_hears 2 (block_certificate 1 light_four lonely_block) ∷ observer_hears 2 (finalize_certificate 1 light_four) ∷
    by_observer 2 observer_moving ∷ by_observer 2 (observer_reading (zeros 16)) ∷ []

same-lonely : lonely-kept is-kept page.lonely
unfolding lonely-kept page.lonely
same-lonely = by-text

abbrev by_replicas-kept : List Turn → List AnyTurn
by_replicas-kept turns = map by_replica turns

same-by_replicas : by_replicas-kept is-kept page.by_replicas
same-by_replicas = by-text

abbrev meant_observers-kept : ℕ → Type 0
meant_observers-kept s = s < 2

same-meant_observers : meant_observers-kept is-kept page.meant_observers
same-meant_observers = by-text

any_turns-kept : List AnyTurn
any_turns-kept =
    observer_openings ++ (by_replicas openings ++ (lonely ++ (by_replicas split ++ (by_replicas timeouts ++
    (observer_hears 0 (dummy_certificate 1 heavy_two) ∷ (by_replicas agreed ++ (observer_hearings ++
    (by_replicas readings ++ (by_observer 1 (observer_reading (zeros 40)) ∷ [])))))))))

same-any_turns : any_turns-kept is-kept page.any_turns
unfolding any_turns-kept page.any_turns
same-any_turns = by-text

module _ (digest : Bytes → Bytes) where
  abbrev list : List AnyMember
  list = page.list digest

  abbrev ObserverWitness : Type 0
  ObserverWitness = page.ObserverWitness digest

  list-kept : List AnyMember
  list-kept = build_any digest (anything 2) anything_observed any_turns

  same-list : list-kept is-kept page.list digest
  unfolding list-kept page.list
  same-list = by-text

  ObserverWitness-kept : (met : ObservedMet digest weights dishonest meant_observers list [] next_log) (opens_0 : ObserverOf list 0 (λ m. m.call ≡ observer_opening way 5 2)) (opens_1 : ObserverOf list 1 (λ m. m.call ≡ observer_opening way 5 3)) (opens_2 : ObserverOf list 2 (λ m. m.call ≡ observer_opening unweighed 5 1)) (lonely_reads : ObserverOf list 2 (ObserverReads digest lonely_entry)) (two_logs : Begins lonely_entry next_log ⊎ Begins next_log lonely_entry → ⊥) →
      ObserverWitness
  ObserverWitness-kept x0 x1 x2 x3 x4 x5 = record { met = x0; opens_0 = x1; opens_1 = x2; opens_2 = x3; lonely_reads = x4; two_logs = x5 }
