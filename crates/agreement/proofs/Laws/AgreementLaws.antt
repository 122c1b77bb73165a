-- Of any two logs read from observers and honest replicas one is a beginning of the other.
use Rattle.std.specs.Prelude.{ℕ, ◌≤◌, ◌<◌, ◌≡◌, ◌⊎◌, true, ◌&&◌, length}
use Rattle.std.proofs.Common.{arith, sym, ap, ◌∙◌}
use Rattle.std.proofs.Math.Path.{refl, subst}
use Rattle.std.proofs.Math.Logic.{inl, inr}
use mathlib.Core.List.{List, [], ◌∷◌, ◌++◌, Memᴰ}
use Rattle.std.proofs.Math.Option.{Option, some, none}
use Rattle.std.proofs.Math.Dec.{leb}
use Rattle.protocol.specs.Bytes.{Bytes, join}
use Rattle.protocol.proofs.Laws.CallLaws.{only_opening, only_reading}
use Rattle.protocol.proofs.Laws.CodecLaws.{at_suc}
use Rattle.protocol.proofs.Laws.ObserverOpensLaws.{only_observer_opening, only_observer_reading}
use Rattle.protocol.proofs.Laws.TestsLaws.{and_both, cond-elim, le_or_lt, member_split}
use Rattle.protocol.specs.Observer.{observer_state}
use Rattle.protocol.specs.ObserverCalls.{observer_log_size, observer_read_part}
use Rattle.protocol.specs.ObserverSound.{observer_sound}
use Rattle.protocol.specs.Read.{log_size, read_part}
use Rattle.protocol.specs.Sound.{log, sound, view}
use Rattle.protocol.specs.State.{decode}
use Rattle.protocol.specs.View.{View, log_of}
use Rattle.agreement.proofs.Laws.GrantsLaws.{grants}
use Rattle.agreement.proofs.Laws.FollowedAfterLaws.{followed_after}
use Rattle.agreement.proofs.Laws.ObserverGrantsLaws.{observer_grants}
use Rattle.agreement.proofs.Laws.ObserverListsLaws.{observers_append, replica_member}
use Rattle.agreement.proofs.Laws.ObserverRunLaws.{Followed, FollowedBytes, followed_more}
use Rattle.agreement.proofs.Laws.GoodAfterLaws.{good_after}
use Rattle.agreement.proofs.Laws.RunLaws.{Good, GoodBytes}
use Rattle.agreement.proofs.Laws.ViewsLaws.{HadView, kept_shown, logs}
use Rattle.agreement.proofs.Laws.WithoutObserversLaws.{forged_to_replicas, without_observers}
use Rattle.agreement.specs.Lists.{Agreement, Begins, Continues, FewDishonest, Follows, HonestIn, KeepsOneBook}
use Rattle.agreement.specs.Lists.{Member, Opens, Reads, last_left}
use Rattle.agreement.specs.ObserverLists.{AnyMember, AnyReads, Meant, NoneCollide, NoneForged, ObservedAgreement}
use Rattle.agreement.specs.ObserverLists.{ObserverFollows, ObserverKeepsOneBook, ObserverMember, observer_calls}
use Rattle.agreement.specs.ObserverLists.{observer_last_left, observes, of_observer, of_replica, replica_calls}

module _ (digest : Bytes → Bytes) (weights : List ℕ) (dishonest : ℕ) (observers : ℕ → Type 0) (l : List AnyMember)
    (third : FewDishonest weights dishonest)
    (keeps : (s : ℕ) → HonestIn weights dishonest s → KeepsOneBook digest weights (replica_calls l) s)
    (observers_keep : (s : ℕ) → observers s → ObserverKeepsOneBook digest weights (observer_calls l) s)
    (unforged : NoneForged digest (Meant (HonestIn weights dishonest) observers) (HonestIn weights dishonest) l)
    (collisionless : NoneCollide digest (Meant (HonestIn weights dishonest) observers) l) where
  abbrev Honest : ℕ → Type 0
  Honest s = HonestIn weights dishonest s

  abbrev calls : List Member
  calls = replica_calls l

  abbrev Had : View → ℕ → Type 0
  Had v g = HadView digest weights dishonest observers l third keeps unforged collisionless v g

  -- ---- the sound book that an honest replica has before some member
  module _ (before after : List Member) (whole : calls ≡ before ++ after) (s : ℕ) (hs : Honest s) (book : Bytes)
      (left : last_left digest s before ≡ some book) where
    good : Good digest weights Honest Honest before s (decode book)
    good = subst (GoodBytes digest weights Honest Honest before s) left
        (good_after digest weights Honest Honest calls (forged_to_replicas digest Honest Honest observers l unforged)
        before after whole s (keeps s hs) hs hs)

    pub replica_had : sound digest book ≡ true → Had (view (decode book)) (decode book).finalized
    unfolding view
    replica_had ok = let granted = grants digest book ok in record {
      shown = kept_shown digest weights Honest Honest observers l before after whole (decode book) good.kept;
      same_weights = good.same_weights;
      certificates = granted.certificates;
      finalizes = granted.finalizes;
    }

  -- ---- and an observer
  pub observer_had : (before after : List AnyMember) → l ≡ before ++ after → (s : ℕ) → observers s → (book : Bytes) →
      observer_last_left digest s (observer_calls before) ≡ some book → observer_sound digest book ≡ true →
      Had (view (observer_state book)) (observer_state book).finalized
  unfolding view
  observer_had before after whole s meant book left ok = record {
    shown = λ i. rw (at_suc (observer_state book) i) (followed.shown i);
    same_weights = followed.same_weights;
    certificates = (observer_grants digest book ok).certificates;
    finalizes = (observer_grants digest book ok).finalizes;
  }
    where
      followed : Followed digest weights Honest Honest observers l (observer_state book)
      followed = rw whole (followed_more digest weights Honest Honest observers before after (observer_state book)
          (subst (FollowedBytes digest weights Honest Honest observers before) left
          (followed_after digest weights Honest Honest observers l unforged s (observers_keep s meant) meant before
          after whole)))

  -- ---- what is read
  ReadOf : Bytes → Type 0
  ReadOf part = (part ≡ []) ⊎ ((v : View) × (g : ℕ) × Had v g × (part ≡ join (log_of v g)))

  replica_read : (m : Member) (part : Bytes) → Memᴰ m calls → Honest m.replica → Reads digest m part →
      ReadOf part
  unfolding Reads read_part log ReadOf KeepsOneBook Follows Opens Continues
  replica_read m part here hm x =
      let (buffer, e, q) = only_reading digest m.book m.call part x in
      subst ReadOf (sym q)
      (cond-elim ReadOf (sound digest m.book && leb (log_size m.book) (length buffer))
      (λ ok. inr (_, _, had (and_both (sound digest m.book) _ ok).0, refl)) (λ ok. inl refl))
    where
      split : (front : List Member) × (back : List Member) × (calls ≡ front ++ (m ∷ back))
      split = member_split calls here

      go : sound digest m.book ≡ true → (o : Option Bytes) → last_left digest m.replica split.0 ≡ o →
          Follows digest weights m.replica m o → Had (view (decode m.book)) (decode m.book).finalized
      go ok none left o =
          let (buffer, e, q) = only_reading digest m.book m.call part x in
          let (way, n, heights, leaders, e', same, q') = only_opening digest m.book m.call
          (record { weights = weights; own = m.replica }) o in
          let z : ◌≡◌ {A = ℕ} 0 1 = cc in absurd (omega arith)
      go ok (some book) left x =
          replica_had split.0 (m ∷ split.1) split.2 m.replica hm m.book (left ∙ ap some (sym x.0)) ok

      had : sound digest m.book ≡ true → Had (view (decode m.book)) (decode m.book).finalized
      had ok =
          go ok (last_left digest m.replica split.0) refl
          (keeps m.replica hm split.0 m split.1 split.2 refl)

  observer_read : (m : ObserverMember) (part : Bytes) → Memᴰ (of_observer m) l → observers m.observer →
      (observes digest m).reads ≡ some part → ReadOf part
  unfolding observer_read_part log ReadOf ObserverKeepsOneBook ObserverFollows observer_calls
  observer_read m part here meant x =
      let (buffer, e, q) = only_observer_reading digest m.book m.call part x in
      subst ReadOf (sym q)
      (cond-elim ReadOf (observer_sound digest m.book && leb (observer_log_size m.book) (length buffer))
      (λ ok. inr (_, _, had (and_both (observer_sound digest m.book) _ ok).0, refl)) (λ ok. inl refl))
    where
      split : (front : List AnyMember) × (back : List AnyMember) × (l ≡ front ++ (of_observer m ∷ back))
      split = member_split l here

      go : observer_sound digest m.book ≡ true → (o : Option Bytes) →
          observer_last_left digest m.observer (observer_calls split.0) ≡ o → ObserverFollows digest weights m o →
          Had (view (observer_state m.book)) (observer_state m.book).finalized
      go ok none left opens =
          let (buffer, e, q) = only_observer_reading digest m.book m.call part x in
          let (way, n, heights, e', same, passed, made) = only_observer_opening digest m.book m.call weights
          opens in
          let z : ◌≡◌ {A = ℕ} 0 1 = cc in absurd (omega arith)
      go ok (some book) left (got, fixed) =
          observer_had split.0 (of_observer m ∷ split.1) split.2 m.observer meant m.book
          (left ∙ ap some (sym got)) ok

      had : observer_sound digest m.book ≡ true →
          Had (view (observer_state m.book)) (observer_state m.book).finalized
      had ok =
          go ok (observer_last_left digest m.observer (observer_calls split.0)) refl
          (observers_keep m.observer meant (observer_calls split.0) m (observer_calls split.1)
          (ap observer_calls split.2 ∙ observers_append split.0 (of_observer m ∷ split.1)) refl)

  read_of : (m : AnyMember) (part : Bytes) → Memᴰ m l → Meant Honest observers m → AnyReads digest m part →
      ReadOf part
  unfolding Meant AnyReads
  read_of (of_replica m) part here meant x = replica_read m part (replica_member l m here) meant x
  read_of (of_observer m) part here meant x = observer_read m part here meant x

  begins_nil : (part : Bytes) → Begins [] part
  unfolding Begins
  begins_nil part = refl

  compare : (part part' : Bytes) → ReadOf part → ReadOf part' → Begins part part' ⊎ Begins part' part
  unfolding ReadOf
  compare part part' (inl e) o = inl (rw e (begins_nil part'))
  compare part part' (inr x) (inl e) = inr (rw e (begins_nil part))
  compare part part' (inr (v, g, x, e)) (inr (v', g', x', e')) = rw (e, e') (go (le_or_lt g g'))
    where
      go : (g ≤ g') ⊎ (g' < g) → Begins (join (log_of v g)) (join (log_of v' g')) ⊎
          Begins (join (log_of v' g')) (join (log_of v g))
      go (inl le) = inl (logs digest weights dishonest observers l third keeps unforged collisionless v v' g g' x x' le)
      go (inr lt) = inr
          (logs digest weights dishonest observers l third keeps unforged collisionless v' v g' g x' x (omega arith))

pub observed_agreement : (digest : Bytes → Bytes) → ObservedAgreement digest
unfolding ObservedAgreement
observed_agreement digest weights dishonest observers l third keeps kept unforged apart m m' part part' i i' h h' x x' =
    compare digest weights dishonest observers l third keeps kept unforged apart part part'
    (read_of digest weights dishonest observers l third keeps kept unforged apart m part i h x)
    (read_of digest weights dishonest observers l third keeps kept unforged apart m' part' i' h' x')

pub agreement : (digest : Bytes → Bytes) → Agreement digest
agreement digest = without_observers digest (observed_agreement digest)
