-- The list passes the tests whatever the digest, by computation up to one comparison: the digest that a replica's vote
-- carries with that of the block.
use Rattle.std.specs.Prelude.{ℕ, zero, suc, ◌<◌, ◌≡◌, ◌≢◌, true, false, cond, ◌&&◌, List, [], ◌∷◌, ◌++◌, length, take}
use Rattle.std.proofs.Common.{arith, sym, ◌∙◌, lt-ltb}
use Rattle.std.proofs.Math.Path.{refl, ap}
use Rattle.std.proofs.Math.Bool.{Bool}
use mathlib.Core.List.Memᴰ
use Rattle.std.proofs.Math.Option.{none}
use Rattle.std.proofs.Math.Dec.{ltb}
use Rattle.std.proofs.Math.Seq.{take-append_seam}
use Rattle.protocol.specs.Bytes.{Bytes, same, zeros}
use Rattle.protocol.proofs.Laws.RowLaws.{by_rows, eq_same}
use Rattle.protocol.specs.Mask.{in_mask, total, weigh}
use Rattle.protocol.specs.Open.{unweighed, weighed, long}
use Rattle.protocol.specs.Call.{opening}
use Rattle.protocol.specs.ObserverCall.{observer_opening}
use Rattle.protocol.specs.Tests.{all_of}
use Rattle.agreement.specs.ListTests.{every_honest, is_honest, opens_once, not_forged, reads_at, shows_only, some_in}
use Rattle.agreement.proofs.Laws.EchoLaws.{Echoes, echo_collide, echo_forged, echoes_sound}
use Rattle.agreement.proofs.Laws.ListTestsLaws.{honest_in, one_block_sound, reads_found}
use Rattle.agreement.proofs.Laws.MetLaws.{OneBegins}
use Rattle.agreement.proofs.Laws.NotForgedLaws.{forged_sound}
use Rattle.agreement.proofs.Laws.ObserverListTestsLaws.{observer_keeps_lem, observer_reads_found}
use Rattle.agreement.proofs.Laws.ObserverMetLaws.{observed_applied}
use Rattle.agreement.proofs.Laws.ObserverWitnessLaws.{replica_turns, replicas_built}
use Rattle.agreement.proofs.Laws.TurnsLaws.{keeps}
use Rattle.agreement.specs.Lists.{Begins, FewDishonest, HonestIn, KeepsOneBook, Member, Reads, or_else}
use Rattle.agreement.specs.Met.{MemberOf}
use Rattle.agreement.specs.ObserverListTests.{are_weights, echoes, observer_follows, observer_keeps, observer_reads_at}
use Rattle.agreement.specs.ObserverLists.{AnyMember, ObserverKeepsOneBook, observer_calls, observer_left_by, replica_calls}
use Rattle.agreement.specs.ObserverMet.{ObservedMet, ObserverOf}
use Rattle.agreement.specs.ObserverWitness.{build_any, observer_hears}
use Rattle.agreement.specs.Turns.{Turn, build, entry, every_turn, other_entry}
use Rattle.witnesses.specs.AllEditions.{AllEditions, agreed, any_books, any_observed, any_turns, block, dishonest}
use Rattle.witnesses.specs.AllEditions.{list, log, meant_observers, observer_openings, observer_turns, ones}
use Rattle.witnesses.specs.AllEditions.{openings, weights}

-- ---- weights, and who is honest
few : FewDishonest weights dishonest
unfolding weigh total in_mask
few = omega arith

honest : HonestIn weights dishonest 0
unfolding is_honest in_mask
honest = honest_in weights dishonest 0 refl

have_books : every_honest dishonest (λ s. ltb s (length any_books)) (length weights) ≡ true
unfolding every_turn any_books
have_books = refl

-- ---- what is read
not_empty : log ≢ []
unfolding log entry other_entry
not_empty e = let z : ◌≡◌ {A = ℕ} 0 1 = cc in omega arith

begins : Begins [] log
unfolding Begins
begins = refl

begins_not : Begins log [] → ⊥
unfolding Begins log entry other_entry
begins_not e = let z : ◌≡◌ {A = ℕ} 0 1 = cc in omega arith

module _ (digest : Bytes → Bytes) where
  -- ---- the replicas' calls, by themselves
  turns : List Turn
  turns = replica_turns any_turns

  calls : List Member
  calls = build digest any_books turns

  same_calls : replica_calls (list digest) ≡ calls
  unfolding list calls turns
  same_calls = replicas_built digest any_books any_observed any_turns

  tests : List Member → Bool × Bool
  tests l = (
    all_of
        (every_honest dishonest (λ s. opens_once digest weights s false l) (length weights) ∷
        shows_only digest weights dishonest (block ∷ []) l ∷
        some_in (reads_at digest log 0) l ∷
        some_in (reads_at digest log 1) l ∷
        some_in (reads_at digest log 2) l ∷ []),
    not_forged digest weights dishonest [] l,
  )

  -- the digest in a vote for the block is the block's
  abbrev own_vote : Bool
  own_vote = same (digest block) (take 32 (digest block ++ zeros 176))

  -- the certificate is delivered three times, each time in the names of replicas 0 and 1
  abbrev backed : Bool → Bool
  backed b =
      let name : Bool = cond b true false && true in
      let certificate : Bool = (((name && name) && true) && true) && true in
      certificate && (certificate && (certificate && true))

  comes_to : tests calls ≡ (true, backed own_vote)
  unfolding every_turn tests calls turns replica_turns ones openings observer_openings agreed observer_turns observer_hears
      any_turns any_books block log
  comes_to = refl

  record Passes (l : List Member) : Type 0 where
    opens : every_honest dishonest (λ s. opens_once digest weights s false l) (length weights) ≡ true
    shows : shows_only digest weights dishonest (block ∷ []) l ≡ true
    reads_0 : some_in (reads_at digest log 0) l ≡ true
    reads_1 : some_in (reads_at digest log 1) l ≡ true
    reads_2 : some_in (reads_at digest log 2) l ≡ true

  passes_rows : (l : List Member) → (tests l).0 ≡ true → Passes l
  unfolding tests
  passes_rows l e = by_rows _ e λ opens shows reads_0 reads_1 reads_2. record {
    opens = opens;
    shows = shows;
    reads_0 = reads_0;
    reads_1 = reads_1;
    reads_2 = reads_2;
  }

  passes : Passes calls
  passes = passes_rows calls (ap (λ (r : Bool × Bool). r.0) comes_to)

  -- ---- the observers' calls
  observer_tests : List AnyMember → Bool
  observer_tests l = all_of
      (observer_keeps digest weights 0 none (observer_calls l) ∷
      observer_keeps digest weights 1 none (observer_calls l) ∷
      observer_keeps digest weights 2 none (observer_calls l) ∷
      echoes digest weights dishonest (λ s. ltb s 3) [] l ∷
      some_in (observer_reads_at digest log 0) l ∷
      some_in (observer_reads_at digest log 1) l ∷
      some_in (observer_reads_at digest log 2) l ∷
      some_in (observer_reads_at digest [] 1) l ∷ [])

  record ObserversPass (l : List AnyMember) : Type 0 where
    keeps_0 : observer_keeps digest weights 0 none (observer_calls l) ≡ true
    keeps_1 : observer_keeps digest weights 1 none (observer_calls l) ≡ true
    keeps_2 : observer_keeps digest weights 2 none (observer_calls l) ≡ true
    echo : echoes digest weights dishonest (λ s. ltb s 3) [] l ≡ true
    reads_0 : some_in (observer_reads_at digest log 0) l ≡ true
    reads_1 : some_in (observer_reads_at digest log 1) l ≡ true
    reads_2 : some_in (observer_reads_at digest log 2) l ≡ true
    reads_shorter : some_in (observer_reads_at digest [] 1) l ≡ true

  observer_rows : (l : List AnyMember) → observer_tests l ≡ true → ObserversPass l
  unfolding observer_tests
  observer_rows l e =
      by_rows _ e λ keeps_0 keeps_1 keeps_2 echo reads_0 reads_1 reads_2 reads_shorter. record {
        keeps_0 = keeps_0;
        keeps_1 = keeps_1;
        keeps_2 = keeps_2;
        echo = echo;
        reads_0 = reads_0;
        reads_1 = reads_1;
        reads_2 = reads_2;
        reads_shorter = reads_shorter;
      }

  observers_tested : observer_tests (list digest) ≡ true
  unfolding every_turn observer_tests list ones openings observer_openings agreed observer_turns observer_hears any_turns
      any_books any_observed block log build_any observer_keeps observer_follows are_weights observer_reads_at echoes
      observer_calls observer_left_by or_else
  observers_tested = refl

  observed : ObserversPass (list digest)
  observed = observer_rows (list digest) observers_tested

  keeps_each : (s : ℕ) → s < 3 → ObserverKeepsOneBook digest weights (observer_calls (list digest)) s
  keeps_each zero low = observer_keeps_lem digest weights 0 (observer_calls (list digest)) observed.keeps_0
  keeps_each (suc zero) low = observer_keeps_lem digest weights 1 (observer_calls (list digest)) observed.keeps_1
  keeps_each (suc (suc zero)) low = observer_keeps_lem digest weights 2 (observer_calls (list digest)) observed.keeps_2
  keeps_each (suc (suc (suc s))) low = absurd (omega arith)

  echo : Echoes digest (HonestIn weights dishonest) meant_observers (list digest)
  unfolding Echoes
  echo before m after frame here low delivered =
      echoes_sound digest weights dishonest (λ s. ltb s 3) (list digest) observed.echo before m after frame here
      (lt-ltb m.observer 3 low) delivered

  -- ---- the openings are the first calls
  opens : MemberOf (replica_calls (list digest)) 0 (λ m. m.call ≡ opening unweighed 4 0 1 (3 ∷ [])) ×
      MemberOf (replica_calls (list digest)) 1 (λ m. m.call ≡ opening (weighed ones) 4 1 1 (3 ∷ [])) ×
      MemberOf (replica_calls (list digest)) 2 (λ m. m.call ≡ opening (long ones) 4 2 2 (3 ∷ 3 ∷ []))
  unfolding list any_turns openings build_any replica_calls
  opens = (
    (_, Memᴰ.head refl, refl, refl),
    (_, Memᴰ.tail (Memᴰ.head refl), refl, refl),
    (_, Memᴰ.tail (Memᴰ.tail (Memᴰ.head refl)), refl, refl),
  )

  observers_open : ObserverOf (list digest) 0 (λ m. m.call ≡ observer_opening unweighed 4 1) ×
      ObserverOf (list digest) 1 (λ m. m.call ≡ observer_opening (weighed ones) 4 1) ×
      ObserverOf (list digest) 2 (λ m. m.call ≡ observer_opening (long ones) 4 2)
  unfolding list any_turns openings observer_openings build_any
  observers_open = (
    (_, Memᴰ.tail (Memᴰ.tail (Memᴰ.tail (Memᴰ.head refl))), refl, refl),
    (_, Memᴰ.tail (Memᴰ.tail (Memᴰ.tail (Memᴰ.tail (Memᴰ.head refl)))), refl, refl),
    (
      _,
      Memᴰ.tail (Memᴰ.tail (Memᴰ.tail (Memᴰ.tail (Memᴰ.tail (Memᴰ.head refl))))),
      refl,
      refl,
    ),
  )

  reads_at_lem : (s : ℕ) → some_in (reads_at digest log s) calls ≡ true →
      MemberOf (replica_calls (list digest)) s (λ m. Reads digest m log)
  reads_at_lem s e = rw same_calls (reads_found digest calls log s e)

  module _ (size : length (digest block) ≡ 32) where
    own_vote_lem : own_vote ≡ true
    own_vote_lem =
        let front = take-append_seam (digest block) (zeros 176) in
        eq_same _ _ (sym front ∙ ap (λ (k : ℕ). take k (digest block ++ zeros 176)) size)

    unforged : not_forged digest weights dishonest [] calls ≡ true
    unfolding tests
    unforged = ap (λ (r : Bool × Bool). r.1) comes_to ∙ ap backed own_vote_lem

    keeps_calls : (s : ℕ) → HonestIn weights dishonest s → KeepsOneBook digest weights calls s
    unfolding calls
    keeps_calls = keeps weights dishonest any_books have_books digest turns passes.opens

    met : ObservedMet digest weights dishonest meant_observers (list digest) [] log
    met = record {
      few = few;
      keeps = λ s h. rw same_calls (keeps_calls s h);
      observers_keep = keeps_each;
      unforged = echo_forged digest (HonestIn weights dishonest) meant_observers (list digest) echo
          (HonestIn weights dishonest) (rw same_calls (forged_sound digest weights dishonest calls unforged));
      collisionless = echo_collide digest (HonestIn weights dishonest) meant_observers (list digest) echo
          (rw same_calls (one_block_sound digest weights dishonest block calls passes.shows));
      honest_0 = honest;
      meant_0 = omega arith;
      meant_1 = omega arith;
      reads_replica = reads_at_lem 0 passes.reads_0;
      reads_0 = observer_reads_found digest (list digest) log 0 observed.reads_0;
      reads_1 = observer_reads_found digest (list digest) log 1 observed.reads_1;
      not_empty = not_empty;
      reads_shorter = observer_reads_found digest (list digest) [] 1 observed.reads_shorter;
      begins = begins;
      begins_not = begins_not;
    }

    pub all_editions : AllEditions digest
    all_editions = record {
      met = met;
      opens_0 = opens.0;
      opens_1 = opens.1;
      opens_2 = opens.2;
      observer_opens_0 = observers_open.0;
      observer_opens_1 = observers_open.1;
      observer_opens_2 = observers_open.2;
      reads_1 = reads_at_lem 1 passes.reads_1;
      reads_2 = reads_at_lem 2 passes.reads_2;
      observer_reads_2 = observer_reads_found digest (list digest) log 2 observed.reads_2;
    }

    -- agreement, applied to the list
    pub agreed_on : OneBegins log log × OneBegins log log × OneBegins [] log
    agreed_on = observed_applied digest weights dishonest meant_observers (list digest) [] log met
