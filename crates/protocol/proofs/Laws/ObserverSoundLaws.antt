-- What soundness says of an observer's state, apart from bytes: a sound book says a sound state, and a sound state's
-- bytes are a sound book.
use Prim.Native.Nat.{ℕ, suc, ◌+◌, ◌-◌, ◌*◌, ◌≤◌, ◌<◌}
use native.Mathlib.Omega.{arith}
use Rattle.std.specs.Prelude.{◌≡◌, ◌⊎◌, true, ◌||◌, [], ◌∷◌, eqb}
use Rattle.std.proofs.Common.{sym, subst, inl, inr}
use Rattle.std.proofs.lemmas.Bool.{false≢true}
use Rattle.std.proofs.Math.ListN.{length}
use borrow.Author.Tests.{eqb-true, eq-eqb, ltb-true}
use Rattle.protocol.specs.SoundState.{SoundHeight, SoundSetting, CertifiedState}
use Rattle.protocol.specs.SoundObserver.{SoundObserver}
use Rattle.protocol.specs.Every.{none, one}
use Rattle.protocol.specs.Bytes.{Bytes, byte_at, part, all, is_zero, AreBytes}
use Rattle.protocol.specs.Tests.{implies, in_range}
use Rattle.protocol.specs.Block.{block_well_formed}
use Rattle.protocol.specs.Mask.{below_bit}
use Rattle.protocol.specs.State.{State, Height, at, last, book_heights, book_current, most_heights, head_unused}
use Rattle.protocol.specs.State.{holds_proposal, is_notarized}
use Rattle.protocol.specs.State.{maximum_replicas}
use Rattle.protocol.specs.View.{View, quorum, is_finalized}
use Rattle.protocol.specs.Sound.{view, masks_below}
use Rattle.protocol.specs.Observer.{Observer, as_replica, as_replica_height, observer_state}
use Rattle.protocol.specs.Observer.{decode_observer, encode_observer, observer_book_size}
use Rattle.protocol.specs.ObserverSound.{observer_sound, replica_head, observed_zero}
use Rattle.protocol.proofs.Laws.TestsLaws.{and_both, or_either, or_right}
use Rattle.protocol.proofs.Laws.RowLaws.{by_rows, all_of_lem, every_height_at, every_height_lem, implies_true}
use Rattle.protocol.proofs.Laws.RowLaws.{true_implies, in_range_lem, range_in, zeros_is_zero}
use Rattle.protocol.proofs.Laws.BytesLaws.{zero_part}
use Rattle.protocol.proofs.Laws.SoundLaws.{zero_or_settled_in, masks_row_lem, certificate_row_lem, most_heights_lem}
use Rattle.protocol.proofs.Laws.ObserverStateLaws.{decode_encode_observer, as_shaped, last_as}
use Rattle.protocol.proofs.Laws.ObserverCodecLaws.{ExactObserver, CleanObserver, count_observed, at_observed}
use Rattle.protocol.proofs.Laws.ObserverCodecLaws.{observer_state_shaped, clean_observer_back, last_observed}
use Rattle.protocol.proofs.Laws.ObserverCodecLaws.{clean_encode_observer}

-- ---- rows about one height, as facts
holds_nothing : (x : Height) → (x.status ≡ 0) ⊎ (x.status ≡ 2) → holds_proposal x ≡ true → ⊥
unfolding holds_proposal
holds_nothing x (inl e) held = false≢true (rw e at held)
holds_nothing x (inr e) held = false≢true (rw e at held)

status_of : (k : ℕ) → (eqb k 0 || eqb k 2) ≡ true → (k ≡ 0) ⊎ (k ≡ 2)
status_of k e = go (or_either (eqb k 0) (eqb k 2) e)
  where
    go : (eqb k 0 ≡ true) ⊎ (eqb k 2 ≡ true) → (k ≡ 0) ⊎ (k ≡ 2)
    go (inl z) = inl (eqb-true _ _ z)
    go (inr z) = inr (eqb-true _ _ z)

of_status : (k : ℕ) → (k ≡ 0) ⊎ (k ≡ 2) → (eqb k 0 || eqb k 2) ≡ true
of_status k (inl z) = rw z
of_status k (inr z) = rw z

small_status : {k : ℕ} → (k ≡ 0) ⊎ (k ≡ 2) → k ≤ 3
small_status (inl z) = omega arith
small_status (inr z) = omega arith

module _ (v : View) (h : ℕ) (x : Height) where
  observed_facts : x.leader < v.n → masks_below v.n x ≡ true → (x.status ≡ 0) ⊎ (x.status ≡ 2) →
      implies (is_notarized x) (block_well_formed h x.notarized) ≡ true →
      implies (is_notarized x) (quorum v x.certificate_mask) ≡ true → SoundHeight v h x
  unfolding masks_below below_bit
  observed_facts leader masks status formed certified = by_rows _ masks λ certificate dummy finalize voter. record {
    leader_below = leader;
    status_small = small_status status;
    certificate_below = ltb-true _ _ certificate;
    dummy_below = ltb-true _ _ dummy;
    finalize_below = ltb-true _ _ finalize;
    voter_below = ltb-true _ _ voter;
    proposal_formed = λ held. absurd (holds_nothing x status held);
    notarized_formed = implies_true _ _ formed;
    certified = implies_true _ _ certified;
  }

four_zeros : (a b c d : ℕ) → is_zero (a ∷ b ∷ c ∷ d ∷ []) ≡ true → (a ≡ 0) × (b ≡ 0) × (c ≡ 0) × (d ≡ 0)
unfolding is_zero all
four_zeros a b c d e =
    let (first, more) = and_both _ _ e in
    let (second, rest) = and_both _ _ more in
    let (third, last) = and_both _ _ rest in
    (eqb-true a 0 first, eqb-true b 0 second, eqb-true c 0 third, eqb-true d 0 (and_both _ _ last).0)

-- what a sound observer's heights are linked and read by
pub certified_observer : {digest : Bytes → Bytes} {o : Observer} → SoundObserver digest o →
    CertifiedState digest (as_replica o)
unfolding as_replica
certified_observer {o = o} facts =
    let count = last_as o in
    record {
      last_high = rw count (omega (arith, facts.last_most, most_heights_lem o.edition));
      formed = λ h low high. (facts.each h low (rw count at high)).notarized_formed;
      certified = λ h low high. (facts.each h low (rw count at high)).certified;
      final = facts.final;
    }

-- a height of an observer has no leader
no_leader : (book : Bytes) (h : ℕ) → 1 ≤ h → h ≤ book_heights book → (at (observer_state book) h).leader ≡ 0
unfolding as_replica_height
no_leader book h low high =
    let e : suc (h - 1) ≡ h = omega arith in
    subst (λ (j : ℕ). (at (observer_state book) j).leader ≡ 0) e (rw (at_observed book (h - 1) (omega arith)))

module _ (digest : Bytes → Bytes) where
  -- ---- a sound book, row by row
  pub record ObserverRows (book : Bytes) : Type 0 where
    pub exact : ExactObserver book
    pub few : in_range 1 maximum_replicas (observer_state book).n ≡ true
    pub many : in_range 1 (most_heights (observer_state book).edition) (book_heights book) ≡ true
    pub setting : SoundSetting (observer_state book).edition (observer_state book).n (observer_state book).weights
    pub masks : (h : ℕ) → 1 ≤ h → h ≤ book_heights book →
        masks_below (observer_state book).n (at (observer_state book) h) ≡ true
    pub status : (h : ℕ) → 1 ≤ h → h ≤ book_heights book →
        ((at (observer_state book) h).status ≡ 0) ⊎ ((at (observer_state book) h).status ≡ 2)
    pub formed : (h : ℕ) → 1 ≤ h → h ≤ book_heights book →
        implies (is_notarized (at (observer_state book) h)) (block_well_formed h (at (observer_state book) h).notarized) ≡
        true
    pub certified : (h : ℕ) → 1 ≤ h → h ≤ book_heights book →
        implies (is_notarized (at (observer_state book) h))
        (quorum (view (observer_state book)) (at (observer_state book) h).certificate_mask) ≡ true
    pub head : is_zero (replica_head book) ≡ true
    pub rest : is_zero (head_unused book) ≡ true
    pub unused : (h : ℕ) → 1 ≤ h → h ≤ book_heights book → observed_zero book h ≡ 0
    pub final : ((observer_state book).finalized ≡ 0) ⊎
        (is_finalized digest (view (observer_state book)) (observer_state book).finalized ≡ true)

  zero_or : {A : Type 0} (g : ℕ) → (eqb g 0 ≡ true) ⊎ A → (g ≡ 0) ⊎ A
  zero_or g (inl z) = inl (eqb-true _ _ z)
  zero_or g (inr z) = inr z

  pub observer_rows : (book : Bytes) → observer_sound digest book ≡ true → ObserverRows book
  unfolding observer_sound observer_book_size
  observer_rows book e =
      let H : ℕ = book_heights book in
      by_rows _ e λ exact few many edition weights masks status formed certified head rest unused final. record {
        exact = eqb-true _ _ exact;
        few = few;
        many = many;
        setting = record { edition_row_lem = edition; weights_row_lem = weights };
        masks = λ h low high. every_height_at _ H h masks low high;
        status = λ h low high. status_of _ (every_height_at _ H h status low high);
        formed = λ h low high. every_height_at _ H h formed low high;
        certified = λ h low high. every_height_at _ H h certified low high;
        head = head;
        rest = rest;
        unused = λ h low high. eqb-true _ _ (every_height_at _ H h unused low high);
        final = zero_or _ (or_either _ _ final);
      }

  module _ (book : Bytes) (e : observer_sound digest book ≡ true) where
    abbrev R : ObserverRows book
    R = observer_rows book e

    pub exact_observer : ExactObserver book
    exact_observer = R.exact

    pub sound_observer : SoundObserver digest (decode_observer book)
    unfolding as_replica view
    sound_observer =
        let count = count_observed book in
        let (n_low, n_high) = in_range_lem 1 maximum_replicas (observer_state book).n R.few in
        let (low, high) = in_range_lem 1 (most_heights (observer_state book).edition) (book_heights book) R.many in
        record {
          shaped = observer_state_shaped book exact_observer;
          setting = R.setting;
          n_low = n_low;
          n_high = n_high;
          last_low = rw count low;
          last_most = rw count high;
          each = λ h l u.
              let u' : h ≤ book_heights book = rw count at u in
              observed_facts (view (observer_state book)) h (at (observer_state book) h)
              (rw (no_leader book h l u') n_low) (R.masks h l u') (R.status h l u') (R.formed h l u')
              (R.certified h l u');
          holds_none = λ h l u. R.status h l (rw count at u);
          final = R.final;
        }

    -- its bytes called zero are zero
    pub sound_clean_observer : CleanObserver book
    unfolding replica_head is_zero observed_zero
    sound_clean_observer =
        let size : length book ≡ 64 + 184 * book_heights book = exact_observer in
        let (own, flags, current, pending) = four_zeros (byte_at book 1) (byte_at book 3) (book_current book) (byte_at book 6)
        R.head in
        record {
          size = exact_observer;
          own_zero = own;
          flags_zero = flags;
          current_zero = current;
          pending_zero = pending;
          head_zeros = R.rest;
          content_zero = λ i h.
              let place : suc i - 1 ≡ i = omega arith in
              rw place at (R.unused (suc i) (omega arith) (omega arith));
        }

    pub encode_decode_observer : AreBytes book → encode_observer (decode_observer book) ≡ book
    encode_decode_observer small = clean_observer_back book small sound_clean_observer

    pub observer_finalized_in : (decode_observer book).finalized ≤ book_heights book
    unfolding as_replica
    observer_finalized_in =
        rw (last_observed book) at (zero_or_settled_in digest (observer_state book) R.final)

  -- ---- and back: a clean book of a sound state is sound
  module _ (book : Bytes) (clean : CleanObserver book) (facts : SoundObserver digest (decode_observer book)) where
    abbrev D : State
    D = observer_state book

    height_of : (h : ℕ) → 1 ≤ h → h ≤ book_heights book → SoundHeight (view D) h (at D h)
    height_of h low high = facts.each h low (rw (count_observed book) high)

    size_row : eqb (length book) (observer_book_size (book_heights book)) ≡ true
    unfolding observer_book_size
    size_row = eq-eqb _ _ clean.size

    head_row : is_zero (replica_head book) ≡ true
    unfolding replica_head is_zero all
    head_row = rw (clean.own_zero, clean.flags_zero, clean.current_zero, clean.pending_zero)

    unused_row : (h : ℕ) → 1 ≤ h → h ≤ book_heights book → eqb (observed_zero book h) 0 ≡ true
    unfolding observed_zero
    unused_row h low high = eq-eqb _ _ (clean.content_zero (h - 1) (omega arith))

    final_or : (D.finalized ≡ 0) ⊎ (is_finalized digest (view D) D.finalized ≡ true) →
        (eqb D.finalized 0 || is_finalized digest (view D) D.finalized) ≡ true
    final_or (inl z) = rw (eq-eqb D.finalized 0 z)
    final_or (inr z) = or_right (eqb D.finalized 0) z

    pub observer_sound_of : observer_sound digest book ≡ true
    unfolding observer_sound as_replica view
    observer_sound_of =
        let count = count_observed book in
        all_of_lem
        (one size_row
        (one (range_in _ _ _ facts.n_low facts.n_high)
        (one (range_in _ _ _ (rw count at facts.last_low) (rw count at facts.last_most))
        (one facts.setting.edition_row_lem
        (one facts.setting.weights_row_lem
        (one (every_height_lem _ _ (λ h low high. masks_row_lem (view D) h (at D h) (height_of h low high)))
        (one (every_height_lem _ _ (λ h low high. of_status _ (facts.holds_none h low (rw count high))))
        (one (every_height_lem _ _ (λ h low high. true_implies _ _ (height_of h low high).notarized_formed))
        (one (every_height_lem _ _ (λ h low high. certificate_row_lem (view D) h (at D h) (height_of h low high)))
        (one head_row
        (one clean.head_zeros
        (one (every_height_lem _ _ unused_row)
        (one (final_or facts.final) none)))))))))))))

  pub observer_sound_encode : (o : Observer) → SoundObserver digest o → observer_sound digest (encode_observer o) ≡ true
  observer_sound_encode o facts =
      let shaped = as_shaped o facts.shaped in
      observer_sound_of (encode_observer o) (clean_encode_observer o shaped)
      (subst (λ (other : Observer). SoundObserver digest other) (sym (decode_encode_observer o shaped)) facts)
