-- The members of an unpacked list with observers: replicas' calls are unpacked, and observers' calls stay, each after
-- what stood before it. So demand 3 with observers holds where all that is granted is asked of the deliveries alone,
-- and not of packets.
use Rattle.std.specs.Prelude.{ℕ, ◌≡◌, ◌↔◌}
use Rattle.std.proofs.Common.{arith, subst, ◌∙◌}
use Rattle.std.proofs.Math.Path.{refl, sym, ap, ap₂}
use mathlib.Core.List.Memᴰ
use mathlib.Core.List.{List, [], ◌∷◌, ◌++◌, map, append_assoc, Memᴰ}
use Rattle.protocol.specs.Bytes.{Bytes}
use Rattle.protocol.proofs.Laws.TestsLaws.{member_split}
use Rattle.agreement.specs.Lists.{Member}
use Rattle.agreement.specs.Unpacked.{unpacked}
use Rattle.agreement.specs.ObserverLists.{AnyMember, AnyReads, ObservedAgreement, ObserverMember, observer_calls}
use Rattle.agreement.specs.ObserverLists.{of_observer, of_replica, replica_calls}
use Rattle.agreement.specs.ObserverUnpacked.{ObservedAgreementOn, all_unpacked}
use Rattle.agreement.proofs.Laws.ListsLaws.{split_head, split_never}
use Rattle.agreement.proofs.Laws.ObserverListsLaws.{member_replica, observers_append, replica_member}
use Rattle.agreement.proofs.Laws.ObserverListsLaws.{replicas_append}
use Rattle.agreement.proofs.Laws.UnpackedLaws.{Standing, reading_stays}
use Rattle.agreement.proofs.Laws.WithoutObserversLaws.{only_replicas}

no_observers : (list : List Member) → observer_calls (map of_replica list) ≡ []
unfolding observer_calls
no_observers [] = refl
no_observers (m ∷ list) = no_observers list

-- an observer's call stands past a front of replicas' calls
past_replicas : (ds : List Member) (rest before : List AnyMember) (m : ObserverMember) (after : List AnyMember) →
    map of_replica ds ++ rest ≡ before ++ (of_observer m ∷ after) →
    (later : List AnyMember) × (map of_replica ds ++ later ≡ before) × (rest ≡ later ++ (of_observer m ∷ after))
past_replicas [] rest before m after e = (before, refl, e)
past_replicas (d ∷ ds) rest [] m after e =
    let is : of_replica d ≡ of_observer m = (split_head e).0 in let z : ◌≡◌ {A = ℕ} 0 1 = cc in absurd (omega arith)
past_replicas (d ∷ ds) rest (x ∷ before) m after e =
    let (later, is, past) = past_replicas ds rest before m after (split_head e).1 in
    (later, ap₂ (λ (y : AnyMember) (ys : List AnyMember). y ∷ ys) (split_head e).0 is, past)

module _ (digest : Bytes → Bytes) where
  -- ---- the calls of replicas, and those of observers
  pub replicas_unpacked : (list : List AnyMember) →
      replica_calls (all_unpacked digest list) ≡ unpacked digest (replica_calls list)
  unfolding all_unpacked unpacked replica_calls
  replicas_unpacked [] = refl
  replicas_unpacked (of_replica m ∷ list) =
      replicas_append (map of_replica (Standing digest m)) (all_unpacked digest list) ∙
      ap₂ (λ (xs ys : List Member). xs ++ ys) (only_replicas (Standing digest m)) (replicas_unpacked list)
  replicas_unpacked (of_observer m ∷ list) = replicas_unpacked list

  pub observers_unpacked : (list : List AnyMember) → observer_calls (all_unpacked digest list) ≡ observer_calls list
  unfolding all_unpacked observer_calls
  observers_unpacked [] = refl
  observers_unpacked (of_replica m ∷ list) =
      observers_append (map of_replica (Standing digest m)) (all_unpacked digest list) ∙
      ap₂ (λ (xs ys : List ObserverMember). xs ++ ys) (no_observers (Standing digest m)) (observers_unpacked list)
  observers_unpacked (of_observer m ∷ list) = ap (λ (l : List ObserverMember). m ∷ l) (observers_unpacked list)

  -- ---- an observer's call, with what stands before and after it
  pub unpacked_at : (front : List AnyMember) (m : ObserverMember) (back : List AnyMember) →
      all_unpacked digest (front ++ (of_observer m ∷ back)) ≡
      all_unpacked digest front ++ (of_observer m ∷ all_unpacked digest back)
  unfolding all_unpacked
  unpacked_at [] m back = refl
  unpacked_at (of_observer x ∷ front) m back = ap (λ (l : List AnyMember). of_observer x ∷ l) (unpacked_at front m back)
  unpacked_at (of_replica x ∷ front) m back =
      ap (λ (l : List AnyMember). map of_replica (Standing digest x) ++ l) (unpacked_at front m back) ∙
      sym (append_assoc (map of_replica (Standing digest x)) (all_unpacked digest front) _)

  -- where the unpacked list is split at one, the list is
  abbrev SplitAt : (l before : List AnyMember) → ObserverMember → Type 0
  SplitAt l before m = (front : List AnyMember) × (back : List AnyMember) × (l ≡ front ++ (of_observer m ∷ back)) ×
      (all_unpacked digest front ≡ before)

  pub unpacked_split : (l before : List AnyMember) (m : ObserverMember) (after : List AnyMember) →
      all_unpacked digest l ≡ before ++ (of_observer m ∷ after) → SplitAt l before m
  unfolding all_unpacked
  unpacked_split [] before m after e = absurd (split_never (of_observer m) before after e)
  unpacked_split (of_observer x ∷ l) [] m after e =
      ([], l, ap (λ (y : AnyMember). y ∷ l) (split_head e).0, refl)
  unpacked_split (of_observer x ∷ l) (y ∷ before) m after e =
      let (front, back, is, same) = unpacked_split l before m after (split_head e).1 in (
        of_observer x ∷ front,
        back,
        ap (λ (z : List AnyMember). of_observer x ∷ z) is,
        ap₂ (λ (z : AnyMember) (zs : List AnyMember). z ∷ zs) (split_head e).0 same,
      )
  unpacked_split (of_replica x ∷ l) before m after e =
      let (later, whole, past) = past_replicas (Standing digest x) (all_unpacked digest l) before m after e in
      let (front, back, is, same) = unpacked_split l later m after past in (
        of_replica x ∷ front,
        back,
        ap (λ (z : List AnyMember). of_replica x ∷ z) is,
        ap (λ (z : List AnyMember). map of_replica (Standing digest x) ++ z) same ∙ whole,
      )

  -- ---- members
  among : (m : AnyMember) (l front back : List AnyMember) → l ≡ front ++ (m ∷ back) → Memᴰ m l
  among m l front back is = rw is (Memᴰ.append_right front (Memᴰ.head refl))

  pub observer_stays : (list : List AnyMember) (m : ObserverMember) →
      Memᴰ (of_observer m) list ↔ Memᴰ (of_observer m) (all_unpacked digest list)
  observer_stays list m = (
    λ i.
        let (front, back, is) = member_split list i in
        among (of_observer m) (all_unpacked digest list) (all_unpacked digest front) (all_unpacked digest back)
        (ap (all_unpacked digest) is ∙ unpacked_at front m back),
    λ i.
        let (before, after, is) = member_split (all_unpacked digest list) i in
        let (front, back, here, same) = unpacked_split list before m after is in
        among (of_observer m) list front back here,
  )

  -- a replica's call that stands in both unpacked lists of it, or in neither
  pub replica_unpacked : (list : List AnyMember) (m : Member) →
      Memᴰ (of_replica m) (all_unpacked digest list) ↔ Memᴰ m (unpacked digest (replica_calls list))
  replica_unpacked list m = (
    λ i. subst (Memᴰ m) (replicas_unpacked list) (replica_member (all_unpacked digest list) m i),
    λ i. member_replica (all_unpacked digest list) m (subst (Memᴰ m) (sym (replicas_unpacked list)) i),
  )

  -- ---- readings
  pub any_reading_stays : (list : List AnyMember) (m : AnyMember) (part : Bytes) → AnyReads digest m part →
      Memᴰ m list ↔ Memᴰ m (all_unpacked digest list)
  unfolding AnyReads
  any_reading_stays list (of_replica m) part reads =
      let stays = reading_stays digest (replica_calls list) m part reads in (
        λ i. (replica_unpacked list m).1 (stays.0 (replica_member list m i)),
        λ i. member_replica list m (stays.1 ((replica_unpacked list m).0 i)),
      )
  any_reading_stays list (of_observer m) part reads = observer_stays list m

  -- the readings of the list are those of the unpacked one
  pub observed_readings_unpacked : (list : List AnyMember) →
      ObservedAgreementOn digest (all_unpacked digest list) (all_unpacked digest list) →
      ObservedAgreementOn digest (all_unpacked digest list) list
  unfolding ObservedAgreementOn
  observed_readings_unpacked list claim n dishonest observers few keeps observed unforged collisionless =
      λ m m' part part' here here' meant meant' reads reads'.
      claim n dishonest observers few keeps observed unforged collisionless m m' part part'
      ((any_reading_stays list m part reads).0 here) ((any_reading_stays list m' part' reads').0 here') meant meant'
      reads reads'

  -- a refused packet then counts for nothing, even before the book is opened
  pub observed_deliveries_alone : ObservedAgreement digest → (list : List AnyMember) →
      ObservedAgreementOn digest (all_unpacked digest list) list
  unfolding ObservedAgreement ObservedAgreementOn
  observed_deliveries_alone claim list =
      observed_readings_unpacked list (λ n dishonest observers. claim n dishonest observers (all_unpacked digest list))
