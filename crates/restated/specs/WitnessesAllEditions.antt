-- Written by tests/restated --write: what docs/statements has of
-- crates/witnesses/specs/AllEditions.antt.
use Rattle.std.specs.Prelude.{ℕ, ◌<◌, ◌≡◌, List, [], ◌∷◌, ◌++◌, map, replicate}
use package.Rattle.protocol.specs.Bytes.{Bytes, join, le16, zeros}
use package.Rattle.protocol.specs.Block.{new_block}
use package.Rattle.protocol.specs.Frame.{proposal, block_certificate, finalize_certificate}
use package.Rattle.protocol.specs.State.{book_size}
use package.Rattle.protocol.specs.Open.{unweighed, weighed, long}
use package.Rattle.protocol.specs.Call.{opening, reading}
use package.Rattle.protocol.specs.Observer.{observer_book_size}
use package.Rattle.protocol.specs.ObserverCall.{observer_moving, observer_opening, observer_reading}
use package.Rattle.agreement.specs.Lists.{Reads}
use package.Rattle.agreement.specs.Met.{MemberOf}
use package.Rattle.agreement.specs.ObserverLists.{AnyMember, replica_calls}
use package.Rattle.agreement.specs.ObserverMet.{ObservedMet, ObserverOf, ObserverReads}
use package.Rattle.agreement.specs.ObserverWitness.{AnyTurn, build_any, by_observer, by_replicas, observer_hears}
use package.Rattle.agreement.specs.Turns.{Turn, entry, hear, move, other_entry}
use package.Rattle.witnesses.specs.AllEditions.{weights, three, ones, openings, observer_openings, block, agreed, observer_turns, dishonest, any_books, any_observed, log, any_turns, meant_observers}
use mathlib.Core.Path.{◌≡◌ as ◌is-kept◌, refl as by-text}
use package.Rattle.witnesses.specs.AllEditions as page

abbrev weights-kept : List ℕ
weights-kept = replicate 4 1

same-weights : weights-kept is-kept page.weights
same-weights = by-text

abbrev dishonest-kept : ℕ
dishonest-kept = 8

same-dishonest : dishonest-kept is-kept page.dishonest
same-dishonest = by-text

abbrev three-kept : ℕ
three-kept = 11

same-three : three-kept is-kept page.three
same-three = by-text

ones-kept : Bytes
ones-kept = join (map le16 weights)

same-ones : ones-kept is-kept page.ones
unfolding ones-kept page.ones
same-ones = by-text

any_books-kept : List Bytes
any_books-kept = replicate (book_size 1) 9 ∷ replicate (book_size 1) 9 ∷ replicate (book_size 2) 9 ∷ []

same-any_books : any_books-kept is-kept page.any_books
unfolding any_books-kept page.any_books
same-any_books = by-text

any_observed-kept : List Bytes
any_observed-kept =
    replicate (observer_book_size 1) 9 ∷ replicate (observer_book_size 1) 9 ∷ replicate (observer_book_size 2) 9 ∷ []

same-any_observed : any_observed-kept is-kept page.any_observed
unfolding any_observed-kept page.any_observed
same-any_observed = by-text

openings-kept : List Turn
openings-kept =
    (0, opening unweighed 4 0 1 (3 ∷ [])) ∷ (1, opening (weighed ones) 4 1 1 (3 ∷ [])) ∷
    (2, opening (long ones) 4 2 2 (3 ∷ 3 ∷ [])) ∷ []

same-openings : openings-kept is-kept page.openings
unfolding openings-kept page.openings
same-openings = by-text

observer_openings-kept : List AnyTurn
observer_openings-kept =
    by_observer 0 (observer_opening unweighed 4 1) ∷ by_observer 1 (observer_opening (weighed ones) 4 1) ∷
    by_observer 2 (observer_opening (long ones) 4 2) ∷ by_observer 1 (observer_reading (zeros 16)) ∷ []

same-observer_openings : observer_openings-kept is-kept page.observer_openings
unfolding observer_openings-kept page.observer_openings
same-observer_openings = by-text

block-kept : Bytes
block-kept = new_block 1 0 (zeros 32) (entry ∷ other_entry ∷ [])

same-block : block-kept is-kept page.block
unfolding block-kept page.block
same-block = by-text

log-kept : Bytes
log-kept = entry ++ other_entry

same-log : log-kept is-kept page.log
unfolding log-kept page.log
same-log = by-text

agreed-kept : List Turn
agreed-kept =
    hear 0 (proposal 3 1 block) ∷ hear 1 (proposal 3 1 block) ∷ hear 2 (proposal 3 1 block) ∷
    move 0 ∷ move 1 ∷ move 2 ∷
    hear 0 (block_certificate 1 three block) ∷ hear 1 (block_certificate 1 three block) ∷
    hear 2 (block_certificate 1 three block) ∷ move 0 ∷ move 1 ∷ move 2 ∷
    hear 0 (finalize_certificate 1 three) ∷ hear 1 (finalize_certificate 1 three) ∷
    hear 2 (finalize_certificate 1 three) ∷ move 0 ∷ move 1 ∷ move 2 ∷
    (0, reading (zeros 32)) ∷ (1, reading (zeros 32)) ∷ (2, reading (zeros 32)) ∷ []

same-agreed : agreed-kept is-kept page.agreed
unfolding agreed-kept page.agreed
same-agreed = by-text

observer_turns-kept : ℕ → List AnyTurn
observer_turns-kept s =
    observer_hears s (block_certificate 1 three block) ∷ observer_hears s (finalize_certificate 1 three) ∷
    by_observer s observer_moving ∷ by_observer s (observer_reading (zeros 32)) ∷ []

same-observer_turns : observer_turns-kept is-kept page.observer_turns
unfolding observer_turns-kept page.observer_turns
same-observer_turns = by-text

any_turns-kept : List AnyTurn
any_turns-kept =
    by_replicas openings ++ (observer_openings ++ (by_replicas agreed ++
    (observer_turns 0 ++ (observer_turns 1 ++ observer_turns 2))))

same-any_turns : any_turns-kept is-kept page.any_turns
unfolding any_turns-kept page.any_turns
same-any_turns = by-text

abbrev meant_observers-kept : ℕ → Type 0
meant_observers-kept s = s < 3

same-meant_observers : meant_observers-kept is-kept page.meant_observers
same-meant_observers = by-text

module _ (digest : Bytes → Bytes) where
  abbrev list : List AnyMember
  list = page.list digest

  abbrev AllEditions : Type 0
  AllEditions = page.AllEditions digest

  list-kept : List AnyMember
  list-kept = build_any digest any_books any_observed any_turns

  same-list : list-kept is-kept page.list digest
  unfolding list-kept page.list
  same-list = by-text

  AllEditions-kept : (met : ObservedMet digest weights dishonest meant_observers list [] log) (opens_0 : MemberOf (replica_calls list) 0 (λ m. m.call ≡ opening unweighed 4 0 1 (3 ∷ []))) (opens_1 : MemberOf (replica_calls list) 1 (λ m. m.call ≡ opening (weighed ones) 4 1 1 (3 ∷ []))) (opens_2 : MemberOf (replica_calls list) 2 (λ m. m.call ≡ opening (long ones) 4 2 2 (3 ∷ 3 ∷ []))) (observer_opens_0 : ObserverOf list 0 (λ m. m.call ≡ observer_opening unweighed 4 1)) (observer_opens_1 : ObserverOf list 1 (λ m. m.call ≡ observer_opening (weighed ones) 4 1)) (observer_opens_2 : ObserverOf list 2 (λ m. m.call ≡ observer_opening (long ones) 4 2)) (reads_1 : MemberOf (replica_calls list) 1 (λ m. Reads digest m log)) (reads_2 : MemberOf (replica_calls list) 2 (λ m. Reads digest m log)) (observer_reads_2 : ObserverOf list 2 (ObserverReads digest log)) →
      AllEditions
  AllEditions-kept x0 x1 x2 x3 x4 x5 x6 x7 x8 x9 = record { met = x0; opens_0 = x1; opens_1 = x2; opens_2 = x3; observer_opens_0 = x4; observer_opens_1 = x5; observer_opens_2 = x6; reads_1 = x7; reads_2 = x8; observer_reads_2 = x9 }
