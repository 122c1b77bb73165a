-- The list with observers passes the tests whatever the digest, by computation: its replicas' calls are those of
-- `AnyDigest`, and its observers hear what honest replicas heard before.
use Rattle.std.specs.Prelude.{ℕ, zero, suc, ◌<◌, ◌⊎◌, Bool, true, length, set}
use native.Mathlib.Omega.{arith}
use Rattle.std.proofs.Math.Path.{◌≡◌, refl, ap}
use Rattle.std.proofs.Common.{inl, inr, lt-ltb}
use mathlib.Core.List.Memᴰ
use mathlib.Core.List.{List, [], ◌∷◌}
use Rattle.std.proofs.Math.Option.{none}
use Rattle.std.proofs.Math.ListN.{get_or}
use Rattle.std.proofs.Math.Dec.{ltb}
use Rattle.protocol.specs.Bytes.{Bytes, byte_at}
use Rattle.protocol.specs.Open.{unweighed}
use Rattle.protocol.specs.Call.{book_after}
use Rattle.protocol.proofs.Laws.RowLaws.{by_rows}
use Rattle.protocol.specs.ObserverCall.{observation, observer_opening}
use Rattle.protocol.specs.Tests.{all_of}
use Rattle.agreement.specs.AnyDigest.{agreed, dishonest, list as replicas_list, one_digest, openings, other_digest}
use Rattle.agreement.specs.AnyDigest.{readings, split, timeouts, way, weights}
use Rattle.agreement.proofs.Laws.AnyDigestLaws.{any_digest}
use Rattle.agreement.proofs.Laws.EchoLaws.{Echoes, echo_collide, echo_forged, echoes_sound}
use Rattle.agreement.proofs.Laws.MetLaws.{OneBegins}
use Rattle.agreement.proofs.Laws.ObserverMetLaws.{observed_applied}
use Rattle.agreement.specs.ListTests.{some_in}
use Rattle.agreement.proofs.Laws.ObserverListTestsLaws.{observer_keeps_lem, observer_reads_found}
use Rattle.agreement.specs.Lists.{Begins, HonestIn, Member, or_else}
use Rattle.agreement.specs.Met.{Met}
use Rattle.agreement.specs.ObserverListTests.{echoes, are_weights, observer_follows, observer_keeps, observer_reads_at}
use Rattle.agreement.specs.ObserverLists.{AnyMember, ObserverKeepsOneBook, observer_calls, observer_left_by}
use Rattle.agreement.specs.ObserverLists.{replica_calls}
use Rattle.agreement.specs.ObserverMet.{ObservedMet, ObserverOf}
use Rattle.agreement.specs.ObserverWitness.{AnyTurn, ObserverWitness, any_turns, anything_observed, build_any}
use Rattle.agreement.specs.ObserverWitness.{by_observer, by_replica, list, lonely, lonely_block, lonely_entry}
use Rattle.agreement.specs.ObserverWitness.{meant_observers, observer_hearings, observer_hears, observer_openings}
use Rattle.agreement.specs.Turns.{Turn, anything, build, entry, every_turn, next_block, next_log, other_entry}

-- ---- the replicas' calls
unfoldable pub replica_turns : List AnyTurn → List Turn
replica_turns [] = []
replica_turns (by_replica turn ∷ turns) = turn ∷ replica_turns turns
replica_turns (by_observer s call ∷ turns) = replica_turns turns

module _ (digest : Bytes → Bytes) where
  pub replicas_built : (books observed : List Bytes) (turns : List AnyTurn) →
      replica_calls (build_any digest books observed turns) ≡ build digest books (replica_turns turns)
  unfolding replica_calls build_any replica_turns build
  replicas_built books observed [] = refl
  replicas_built books observed (by_replica (s, call) ∷ turns) =
      ap (λ (rest : List Member). record { replica = s; book = get_or books s []; call = call } ∷ rest)
      (replicas_built (set books s (book_after digest (get_or books s []) call)) observed turns)
  replicas_built books observed (by_observer s call ∷ turns) =
      replicas_built books (set observed s (observation digest (get_or observed s []) call).book) turns

  same_calls : replica_calls (list digest) ≡ replicas_list digest
  unfolding list replicas_list any_turns replica_turns observer_openings observer_hearings observer_hears lonely openings
      split timeouts agreed readings
  same_calls = replicas_built (anything 2) anything_observed any_turns

  -- ---- the tests
  tests : List AnyMember → Bool
  tests l = all_of
      (observer_keeps digest weights 0 none (observer_calls l) ∷
      observer_keeps digest weights 1 none (observer_calls l) ∷
      echoes digest weights dishonest (λ s. ltb s 2) [] l ∷
      some_in (observer_reads_at digest next_log 0) l ∷
      some_in (observer_reads_at digest next_log 1) l ∷
      some_in (observer_reads_at digest [] 1) l ∷
      some_in (observer_reads_at digest lonely_entry 2) l ∷ [])

  tested : tests (list digest) ≡ true
  unfolding every_turn tests list way openings split timeouts agreed readings any_turns build_any anything_observed
      observer_openings observer_hearings observer_hears lonely lonely_block lonely_entry observer_keeps observer_follows
      are_weights observer_reads_at echoes observer_calls observer_left_by or_else one_digest other_digest
  tested = refl

  record Passes (l : List AnyMember) : Type 0 where
    keeps_0 : observer_keeps digest weights 0 none (observer_calls l) ≡ true
    keeps_1 : observer_keeps digest weights 1 none (observer_calls l) ≡ true
    echo : echoes digest weights dishonest (λ s. ltb s 2) [] l ≡ true
    reads_0 : some_in (observer_reads_at digest next_log 0) l ≡ true
    reads_1 : some_in (observer_reads_at digest next_log 1) l ≡ true
    reads_shorter : some_in (observer_reads_at digest [] 1) l ≡ true
    lonely_reads : some_in (observer_reads_at digest lonely_entry 2) l ≡ true

  passes_rows : (l : List AnyMember) → tests l ≡ true → Passes l
  unfolding tests
  passes_rows l e = by_rows _ e λ keeps_0 keeps_1 echo reads_0 reads_1 reads_shorter lonely_reads. record {
    keeps_0 = keeps_0;
    keeps_1 = keeps_1;
    echo = echo;
    reads_0 = reads_0;
    reads_1 = reads_1;
    reads_shorter = reads_shorter;
    lonely_reads = lonely_reads;
  }

  passes : Passes (list digest)
  passes = passes_rows (list digest) tested

  -- ---- from tests to facts
  keeps_each : (s : ℕ) → s < 2 → ObserverKeepsOneBook digest weights (observer_calls (list digest)) s
  keeps_each zero low = observer_keeps_lem digest weights 0 (observer_calls (list digest)) passes.keeps_0
  keeps_each (suc zero) low = observer_keeps_lem digest weights 1 (observer_calls (list digest)) passes.keeps_1
  keeps_each (suc (suc s)) low = absurd (omega arith)

  echo : Echoes digest (HonestIn weights dishonest) meant_observers (list digest)
  unfolding Echoes
  echo before m after frame here low delivered =
      echoes_sound digest weights dishonest (λ s. ltb s 2) (list digest) passes.echo before m after frame here
      (lt-ltb m.observer 2 low) delivered

  -- the first three calls
  openings_found : ObserverOf (list digest) 0 (λ m. m.call ≡ observer_opening way 5 2) ×
      ObserverOf (list digest) 1 (λ m. m.call ≡ observer_opening way 5 3) ×
      ObserverOf (list digest) 2 (λ m. m.call ≡ observer_opening unweighed 5 1)
  unfolding list any_turns observer_openings build_any
  openings_found = (
    (_, Memᴰ.head refl, refl, refl),
    (_, Memᴰ.tail (Memᴰ.head refl), refl, refl),
    (_, Memᴰ.tail (Memᴰ.tail (Memᴰ.head refl)), refl, refl),
  )

  -- the logs differ in their first byte
  two_logs : Begins lonely_entry next_log ⊎ Begins next_log lonely_entry → ⊥
  unfolding Begins lonely_entry next_log entry other_entry
  two_logs (inl e) = let z : ◌≡◌ {A = ℕ} 4 3 = ap (λ (bytes : Bytes). byte_at bytes 0) e in omega arith
  two_logs (inr e) = let z : ◌≡◌ {A = ℕ} 3 4 = ap (λ (bytes : Bytes). byte_at bytes 0) e in omega arith

  module _ (size : length (digest next_block) ≡ 32) where
    replicas_met : Met digest weights dishonest (replica_calls (list digest)) [] next_log
    replicas_met = rw same_calls (any_digest digest size).met

    met : ObservedMet digest weights dishonest meant_observers (list digest) [] next_log
    met = record {
      few = replicas_met.few;
      keeps = replicas_met.keeps;
      observers_keep = keeps_each;
      unforged = echo_forged digest (HonestIn weights dishonest) meant_observers (list digest) echo
          (HonestIn weights dishonest) replicas_met.unforged;
      collisionless = echo_collide digest (HonestIn weights dishonest) meant_observers (list digest) echo
          replicas_met.collisionless;
      honest_0 = replicas_met.honest_0;
      meant_0 = omega arith;
      meant_1 = omega arith;
      reads_replica = replicas_met.reads_0;
      reads_0 = observer_reads_found digest (list digest) next_log 0 passes.reads_0;
      reads_1 = observer_reads_found digest (list digest) next_log 1 passes.reads_1;
      not_empty = replicas_met.not_empty;
      reads_shorter = observer_reads_found digest (list digest) [] 1 passes.reads_shorter;
      begins = replicas_met.begins;
      begins_not = replicas_met.begins_not;
    }

    pub observer_witness : ObserverWitness digest
    observer_witness = record {
      met = met;
      opens_0 = openings_found.0;
      opens_1 = openings_found.1;
      opens_2 = openings_found.2;
      lonely_reads = observer_reads_found digest (list digest) lonely_entry 2 passes.lonely_reads;
      two_logs = two_logs;
    }

    -- agreement, applied to the list
    pub observed_on : OneBegins next_log next_log × OneBegins next_log next_log × OneBegins [] next_log
    observed_on = observed_applied digest weights dishonest meant_observers (list digest) [] next_log met
