-- What soundness says of a state, apart from bytes: a sound book says a sound state, and a sound state's bytes are a
-- sound book.
use Prim.Native.Nat.{ℕ, zero, suc, ◌+◌, ◌-◌, ◌*◌, ◌≤◌, ◌<◌}
use native.Mathlib.Omega.{arith}
use Rattle.std.specs.Prelude.{◌≡◌, ◌⊎◌, Bool, true, false, ◌&&◌, ◌||◌, cond, eqb, leb, ltb}
use Rattle.std.proofs.Common.{sym, subst}
use Rattle.std.proofs.Math.Logic.{inl, inr}
use Rattle.std.proofs.Math.ListN.{length}
use borrow.Author.Tests.{eqb-true, eq-eqb, leb-true, le-leb, ltb-true, lt-ltb}
use Rattle.protocol.specs.SoundState.{SoundHeight, SoundSetting, SoundState, CertifiedState}
use Rattle.protocol.specs.Every.{none, one}
use Rattle.protocol.specs.Bytes.{Bytes, part, is_zero, AreBytes}
use Rattle.protocol.specs.Tests.{implies}
use Rattle.protocol.specs.Block.{maximum_heights, block_well_formed}
use Rattle.protocol.specs.Mask.{below_bit}
use Rattle.protocol.specs.State.{State, Height, at, last, decode, encode, book_size, holds_proposal, is_notarized}
use Rattle.protocol.specs.State.{book_heights, head_unused, maximum_replicas, most_heights}
use Rattle.protocol.specs.View.{View, quorum, extends_over, linked_within, linked, is_finalized}
use Rattle.protocol.specs.Sound.{view, masks_below, blocks_well_formed, content_zeros, sound}
use Rattle.protocol.proofs.Laws.TestsLaws.{and_both, or_either, or_right}
use Rattle.protocol.proofs.Laws.RowLaws.{not_passed, row, by_rows, all_of_lem, true_and, every_height_at, every_height_lem}
use Rattle.protocol.proofs.Laws.RowLaws.{implies_true, true_implies, in_range_lem, range_in, zeros_is_zero}
use Rattle.protocol.proofs.Laws.StateLaws.{decode_encode}
use Rattle.protocol.proofs.Laws.BytesLaws.{zero_part}
use Rattle.protocol.proofs.Laws.CodecLaws.{Exact, Clean, last_decode, decode_shaped, clean_back, notarized_in}
use Rattle.protocol.proofs.Laws.PlaceLaws.{clean_encode}
use Rattle.protocol.proofs.Laws.SoundRowNames.{length_row, replicas_row, own_row, heights_row, edition_row, weights_row}
use Rattle.protocol.proofs.Laws.SoundRowNames.{current_row}
use Rattle.protocol.proofs.Laws.SoundRowNames.{flags_row, pending_row, leaders_row, masks_row, status_row, blocks_row}
use Rattle.protocol.proofs.Laws.SoundRowNames.{certified_row, head_zeros_row, content_zeros_row, finalized_row}

-- ---- heights past the last are not linked
module _ (digest : Bytes → Bytes) (s : State) where
  pub linked_in : (h : ℕ) → linked digest (view s) h ≡ true → h ≤ last s
  unfolding linked linked_within view
  linked_in zero e = omega arith
  linked_in (suc i) e = go (or_either (eqb (suc i) 0) _ e)
    where
      go : (eqb (suc i) 0 ≡ true) ⊎ ((is_notarized (at s (suc i)) && extends_over digest
          (λ j. linked_within digest i (view s) j) (view s) (suc i) (at s (suc i)).notarized) ≡ true) → suc i ≤ last s
      go (inl z) = let impossible : suc i ≡ 0 = eqb-true (suc i) 0 z in absurd (omega arith)
      go (inr z) = notarized_in s i (and_both _ _ z).0

  pub not_linked_past : (h : ℕ) → last s < h → linked digest (view s) h ≡ false
  not_linked_past h past = not_passed (linked digest (view s) h) (λ e. let inside = linked_in h e in omega arith)

  pub not_finalized_past : (h : ℕ) → last s < h → is_finalized digest (view s) h ≡ false
  unfolding is_finalized
  not_finalized_past h past = rw (not_linked_past h past)

  pub zero_or_settled_in : (s.finalized ≡ 0) ⊎ (is_finalized digest (view s) s.finalized ≡ true) →
      s.finalized ≤ last s
  unfolding is_finalized
  zero_or_settled_in (inl z) = omega arith
  zero_or_settled_in (inr z) = linked_in s.finalized (and_both _ _ z).0

  pub finalized_in : SoundState digest s → s.finalized ≤ last s
  finalized_in facts = zero_or_settled_in facts.final

-- ---- rows about one height, as facts
module _ (v : View) (h : ℕ) (x : Height) where
  height_facts : ltb x.leader v.n ≡ true → masks_below v.n x ≡ true → leb x.status 3 ≡ true →
      blocks_well_formed h x ≡ true →
      implies (is_notarized x) (quorum v x.certificate_mask) ≡ true → SoundHeight v h x
  unfolding masks_below blocks_well_formed below_bit
  height_facts leader masks status blocks certified = by_rows _ masks λ certificate dummy finalize voter. record {
    leader_below = ltb-true _ _ leader;
    status_small = leb-true _ _ status;
    certificate_below = ltb-true _ _ certificate;
    dummy_below = ltb-true _ _ dummy;
    finalize_below = ltb-true _ _ finalize;
    voter_below = ltb-true _ _ voter;
    proposal_formed = implies_true _ _ formed.0;
    notarized_formed = implies_true _ _ formed.1;
    certified = implies_true _ _ certified;
  }
    where
      formed : (implies (holds_proposal x) (block_well_formed h x.proposal) ≡ true) ×
          (implies (is_notarized x) (block_well_formed h x.notarized) ≡ true)
      formed = and_both _ _ blocks

  module _ (facts : SoundHeight v h x) where
    pub masks_row_lem : masks_below v.n x ≡ true
    unfolding masks_below below_bit
    masks_row_lem = all_of_lem
        (one (lt-ltb _ _ facts.certificate_below) (one (lt-ltb _ _ facts.dummy_below)
        (one (lt-ltb _ _ facts.finalize_below) (one (lt-ltb _ _ facts.voter_below) none))))

    blocks_row_lem : blocks_well_formed h x ≡ true
    unfolding blocks_well_formed
    blocks_row_lem = true_and _ _ (true_implies _ _ facts.proposal_formed) (true_implies _ _ facts.notarized_formed)

    pub certificate_row_lem : implies (is_notarized x) (quorum v x.certificate_mask) ≡ true
    certificate_row_lem = true_implies _ _ facts.certified

-- H is at most 1,000
pub most_heights_lem : (edition : ℕ) → most_heights edition ≤ maximum_heights
unfolding most_heights
most_heights_lem edition = go (eqb edition 3)
  where
    go : (b : Bool) → cond b 1000 63 ≤ maximum_heights
    go true = omega arith
    go false = omega arith

pub last_high : {digest : Bytes → Bytes} {s : State} → SoundState digest s → last s ≤ maximum_heights
last_high {s = s} facts = omega (arith, facts.last_most, most_heights_lem s.edition)

-- what a sound state's heights are linked and read by
pub certified_state : {digest : Bytes → Bytes} {s : State} → SoundState digest s → CertifiedState digest s
certified_state facts = record {
  last_high = last_high facts;
  formed = λ h low high. (facts.each h low high).notarized_formed;
  certified = λ h low high. (facts.each h low high).certified;
  final = facts.final;
}

module _ (digest : Bytes → Bytes) where
  -- ---- a sound book, row by row
  module _ (book : Bytes) (e : sound digest book ≡ true) where
    abbrev H : ℕ
    H = book_heights book

    abbrev S : State
    S = decode book

    pub exact : Exact book
    unfolding sound book_size
    exact = eqb-true _ _ (row _ length_row e)

    heights_range : (1 ≤ H) × (H ≤ most_heights S.edition)
    unfolding sound
    heights_range = in_range_lem _ _ _ (row _ heights_row e)

    setting_rows_lem : SoundSetting S.edition S.n S.weights
    unfolding sound
    setting_rows_lem = record { edition_row_lem = row _ edition_row e; weights_row_lem = row _ weights_row e }

    current_range : (1 ≤ S.current) × (S.current ≤ H + 1)
    unfolding sound
    current_range = in_range_lem _ _ _ (row _ current_row e)

    n_range : (1 ≤ S.n) × (S.n ≤ maximum_replicas)
    unfolding sound
    n_range = in_range_lem _ _ _ (row _ replicas_row e)

    height_row : (h : ℕ) → 1 ≤ h → h ≤ H → SoundHeight (view S) h (at S h)
    unfolding sound view
    height_row h low high = height_facts (view S) h (at S h)
        (every_height_at _ H h (row _ leaders_row e) low high)
        (every_height_at _ H h (row _ masks_row e) low high)
        (every_height_at _ H h (row _ status_row e) low high)
        (every_height_at _ H h (row _ blocks_row e) low high)
        (every_height_at _ H h (row _ certified_row e) low high)

    head_zero_row : is_zero (head_unused book) ≡ true
    unfolding sound
    head_zero_row = row _ head_zeros_row e

    content_zero_row : (h : ℕ) → 1 ≤ h → h ≤ H → is_zero (content_zeros book h) ≡ true
    unfolding sound
    content_zero_row h low high = every_height_at _ H h (row _ content_zeros_row e) low high

    final_row_lem : (S.finalized ≡ 0) ⊎ (is_finalized digest (view S) S.finalized ≡ true)
    unfolding sound
    final_row_lem = zero_or (or_either _ _ (row _ finalized_row e))
      where
        zero_or : {A : Type 0} → (eqb S.finalized 0 ≡ true) ⊎ A → (S.finalized ≡ 0) ⊎ A
        zero_or (inl z) = inl (eqb-true _ _ z)
        zero_or (inr z) = inr z

    pub sound_decode : SoundState digest (decode book)
    unfolding sound
    sound_decode =
        let count = last_decode book in
        record {
          shaped = decode_shaped book exact;
          setting = setting_rows_lem;
          n_low = n_range.0;
          n_high = n_range.1;
          own_below = ltb-true _ _ (row _ own_row e);
          last_low = rw count heights_range.0;
          last_most = rw count heights_range.1;
          current_low = current_range.0;
          current_high = rw count current_range.1;
          flags_small = ltb-true _ _ (row _ flags_row e);
          pending_few = leb-true _ _ (row _ pending_row e);
          each = λ h low high. height_row h low (rw count at high);
          final = final_row_lem;
        }

    -- its bytes called zero are zero
    pub sound_clean : Clean book
    unfolding content_zeros
    sound_clean = record {
      size = exact;
      head_zeros = head_zero_row;
      content_zeros_lem = λ i h.
          let size : length book ≡ 576 + 880 * H = exact in
          let place : suc i - 1 ≡ i = omega arith in
          zero_part book (576 + 16 * i + 10) 6 (omega arith)
          (rw place at (content_zero_row (suc i) (omega arith) (omega arith)));
    }

    -- a mask's low byte above 255 would go over into its high byte
    pub encode_decode : AreBytes book → encode (decode book) ≡ book
    encode_decode small = clean_back book small sound_clean

  -- ---- and back: a clean book of a sound state is sound
  module _ (book : Bytes) (clean : Clean book) (facts : SoundState digest (decode book)) where
    abbrev D : State
    D = decode book

    height_of : (h : ℕ) → 1 ≤ h → h ≤ book_heights book → SoundHeight (view D) h (at D h)
    height_of h low high = facts.each h low (rw (last_decode book) high)

    size_row : eqb (length book) (book_size (book_heights book)) ≡ true
    unfolding book_size
    size_row = eq-eqb _ _ clean.size

    zeros_row : (h : ℕ) → 1 ≤ h → h ≤ book_heights book → is_zero (content_zeros book h) ≡ true
    unfolding content_zeros
    zeros_row h low high = rw (clean.content_zeros_lem (h - 1) (omega arith)) (zeros_is_zero 6)

    final_or : (D.finalized ≡ 0) ⊎ (is_finalized digest (view D) D.finalized ≡ true) →
        (eqb D.finalized 0 || is_finalized digest (view D) D.finalized) ≡ true
    final_or (inl z) = rw (eq-eqb D.finalized 0 z)
    final_or (inr z) = or_right (eqb D.finalized 0) z

    pub sound_of : sound digest book ≡ true
    unfolding sound view
    sound_of =
        let count = last_decode book in
        all_of_lem
        (one size_row
        (one (range_in _ _ _ facts.n_low facts.n_high)
        (one (lt-ltb _ _ facts.own_below)
        (one (range_in _ _ _ (rw count at facts.last_low) (rw count at facts.last_most))
        (one facts.setting.edition_row_lem
        (one facts.setting.weights_row_lem
        (one (range_in _ _ _ facts.current_low (rw count at facts.current_high))
        (one (lt-ltb _ _ facts.flags_small)
        (one (le-leb _ _ facts.pending_few)
        (one (every_height_lem _ _ (λ h low high. lt-ltb _ _ (height_of h low high).leader_below))
        (one (every_height_lem _ _ (λ h low high. masks_row_lem (view D) h (at D h) (height_of h low high)))
        (one (every_height_lem _ _ (λ h low high. le-leb _ _ (height_of h low high).status_small))
        (one (every_height_lem _ _ (λ h low high. blocks_row_lem (view D) h (at D h) (height_of h low high)))
        (one (every_height_lem _ _ (λ h low high. certificate_row_lem (view D) h (at D h) (height_of h low high)))
        (one clean.head_zeros
        (one (every_height_lem _ _ zeros_row)
        (one (final_or facts.final) none)))))))))))))))))

  pub sound_encode : (s : State) → SoundState digest s → sound digest (encode s) ≡ true
  sound_encode s facts =
      sound_of (encode s) (clean_encode s facts.shaped)
      (subst (λ (t : State). SoundState digest t) (sym (decode_encode s facts.shaped)) facts)
