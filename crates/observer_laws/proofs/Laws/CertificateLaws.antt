-- Deliver of a certificate goes by what a state shows: its rows, and what is kept.
use Rattle.std.specs.Prelude.{ℕ, ◌+◌, ◌≤◌, ◌≡◌, refl, Bool, true, false, ◌&&◌, cond, List, [], ◌∷◌, ◌++◌, eqb, leb}
use Rattle.std.proofs.Common.{arith, sym, ◌∙◌, eqb-true}
use Rattle.std.proofs.Math.Path.{ap, ap₂}
use Rattle.std.proofs.Math.Option.{Option, some, none}
use Rattle.protocol.specs.ReadFrame.{ReadFrame}
use Rattle.protocol.specs.Bytes.{Bytes, same}
use Rattle.protocol.specs.Tests.{Row, all_of, implies, in_range}
use Rattle.protocol.specs.Mask.{union, below_bit}
use Rattle.protocol.specs.Frame.{kind, frame_height, signer_mask, frame_block, frame_well_formed, is_certificate, is_statement}
use Rattle.protocol.specs.Frame.{is_block_certificate}
use Rattle.protocol.specs.Frame.{is_dummy_certificate}
use Rattle.protocol.specs.State.{State, Height, at, last, is_notarized}
use Rattle.protocol.specs.View.{View, quorum}
use Rattle.protocol.specs.Sound.{view}
use Rattle.protocol.specs.Observer.{ObservedHeight, observed_height}
use Rattle.protocol.specs.Deliver.{read_rows, clash_rows, second_proposal, keep, keep_block_certificate}
use Rattle.protocol.specs.Deliver.{keep_dummy_certificate, keep_finalize_certificate, with_notarized, with_masks}
use Rattle.protocol.proofs.Laws.RowLaws.{in_range_lem, not_passed}
use Rattle.protocol.proofs.Laws.DeliverLaws.{certificate_kind_lem, keep_cases}
use Rattle.observer_laws.proofs.Laws.AlikeLaws.{Alike, shown_at, same_last, same_shown, same_view}

-- ---- kinds 5 to 7 are none of kinds 1 to 4
module _ (k : ℕ) (is : is_certificate k ≡ true) where
  pub kind_range : (5 ≤ k) × (k ≤ 7)
  unfolding is_certificate
  kind_range = in_range_lem 5 7 k is

  pub other_kind : (j : ℕ) → j ≤ 4 → eqb k j ≡ false
  other_kind j few = not_passed (eqb k j) (λ e. omega (arith, eqb-true k j e, kind_range))

  pub no_statement : is_statement k ≡ false
  no_statement = certificate_kind_lem k kind_range.0

-- ---- rows
-- a row that stands twice fails as if it stood once
pub again : (test : Bool) (number : ℕ) (later : Option ℕ) →
    cond test (cond test later (some number)) (some number) ≡ cond test later (some number)
again true number later = refl
again false number later = refl

-- the rows of reading a certificate, among `n` replicas and over `H` heights
unfoldable pub read_rows_of : ℕ → ℕ → View → Bytes → List Row
read_rows_of n heights v frame =
    (4, frame_well_formed frame) ∷
    (6, in_range 1 heights (frame_height frame)) ∷
    (5, below_bit n (signer_mask frame)) ∷
    (7, true) ∷
    (9, quorum v (signer_mask frame)) ∷ []

-- and of its block being the one that is notarized, if one is
unfoldable pub clash_rows_of : ObservedHeight → Bytes → List Row
clash_rows_of x frame =
    (8, true) ∷
    (8, true) ∷
    (10, implies (is_block_certificate (kind frame) && leb 2 x.status) (same x.notarized (frame_block frame))) ∷ []

module _ (frame : Bytes) (is : is_certificate (kind frame) ≡ true) where
  pub read_rows_are : (s : State) → read_rows s frame ≡ read_rows_of s.n (last s) (view s) frame
  unfolding read_rows read_rows_of implies
  read_rows_are s = rw (no_statement (kind frame) is, other_kind (kind frame) is 1 (omega arith))

  pub clash_rows_are : (s : State) → clash_rows s frame ≡ clash_rows_of (shown_at s (frame_height frame)) frame
  unfolding clash_rows clash_rows_of second_proposal all_of implies observed_height is_notarized
  clash_rows_are s = rw (other_kind (kind frame) is 1 (omega arith), other_kind (kind frame) is 2 (omega arith))

  module _ {s t : State} (alike : Alike s t) where
    same_read_rows : read_rows t frame ≡ read_rows s frame
    same_read_rows =
        read_rows_are t ∙
        ap₂ (λ (n heights : ℕ). read_rows_of n heights (view t) frame) alike.same_n (same_last alike) ∙
        ap (λ (v : View). read_rows_of s.n (last s) v frame) (same_view alike) ∙ sym (read_rows_are s)

    same_clash_rows : clash_rows t frame ≡ clash_rows s frame
    same_clash_rows =
        clash_rows_are t ∙ ap (λ (x : ObservedHeight). clash_rows_of x frame) (same_shown alike (frame_height frame)) ∙
        sym (clash_rows_are s)

    pub same_rows : (read_rows t frame ++ clash_rows t frame) ≡ (read_rows s frame ++ clash_rows s frame)
    same_rows = ap₂ ◌++◌ same_read_rows same_clash_rows

-- ---- what is kept
-- what is shown of a height that is kept, if one is
unfoldable pub shown_kept : Option Height → Option ObservedHeight
shown_kept none = none
shown_kept (some y) = some (observed_height y)

shown_unless : (b : Bool) (y : Height) → shown_kept (cond b none (some y)) ≡ cond b none (some (observed_height y))
unfolding shown_kept
shown_unless true y = refl
shown_unless false y = refl

shown_cond : (b : Bool) (x y : Option Height) → shown_kept (cond b x y) ≡ cond b (shown_kept x) (shown_kept y)
shown_cond true x y = refl
shown_cond false x y = refl

-- the new status, masks and block of each kind of certificate, where it is not known
kept_block : ObservedHeight → Bytes → Option ObservedHeight
kept_block x frame = cond (leb 2 x.status) none (some (record {
  status = x.status + 2;
  certificate_mask = signer_mask frame;
  dummy_mask = x.dummy_mask;
  finalize_mask = x.finalize_mask;
  notarized = frame_block frame;
}))

kept_dummies : ℕ → ObservedHeight → Bytes → Option ObservedHeight
kept_dummies n x frame =
    cond (eqb (union n x.dummy_mask (signer_mask frame)) x.dummy_mask) none (some (record {
      status = x.status;
      certificate_mask = x.certificate_mask;
      dummy_mask = union n x.dummy_mask (signer_mask frame);
      finalize_mask = x.finalize_mask;
      notarized = x.notarized;
    }))

kept_finalizations : ℕ → ObservedHeight → Bytes → Option ObservedHeight
kept_finalizations n x frame =
    cond (eqb (union n x.finalize_mask (signer_mask frame)) x.finalize_mask) none (some (record {
      status = x.status;
      certificate_mask = x.certificate_mask;
      dummy_mask = x.dummy_mask;
      finalize_mask = union n x.finalize_mask (signer_mask frame);
      notarized = x.notarized;
    }))

keep_shown : ℕ → ObservedHeight → Bytes → Option ObservedHeight
keep_shown n x frame =
    cond (is_block_certificate (kind frame)) (kept_block x frame)
    (cond (is_dummy_certificate (kind frame)) (kept_dummies n x frame) (kept_finalizations n x frame))

module _ (n : ℕ) (x : Height) (frame : Bytes) where
  block_shown : shown_kept (keep_block_certificate x frame) ≡ kept_block (observed_height x) frame
  unfolding keep_block_certificate kept_block observed_height with_notarized is_notarized
  block_shown = shown_unless (is_notarized x) (with_notarized x (signer_mask frame) (frame_block frame))

  dummies_shown : shown_kept (keep_dummy_certificate n x frame) ≡ kept_dummies n (observed_height x) frame
  unfolding keep_dummy_certificate kept_dummies observed_height with_masks
  dummies_shown =
      shown_unless (eqb (union n x.dummy_mask (signer_mask frame)) x.dummy_mask)
      (with_masks x (union n x.dummy_mask (signer_mask frame)) x.finalize_mask)

  finalizations_shown : shown_kept (keep_finalize_certificate n x frame) ≡ kept_finalizations n (observed_height x) frame
  unfolding keep_finalize_certificate kept_finalizations observed_height with_masks
  finalizations_shown =
      shown_unless (eqb (union n x.finalize_mask (signer_mask frame)) x.finalize_mask)
      (with_masks x x.dummy_mask (union n x.finalize_mask (signer_mask frame)))

module _ (digest : Bytes → Bytes) (frame : Bytes) (is : is_certificate (kind frame) ≡ true) where
  keep_by_kind : (s : State) → keep digest s frame ≡
      cond (is_block_certificate (kind frame)) (keep_block_certificate (at s (frame_height frame)) frame)
      (cond (is_dummy_certificate (kind frame)) (keep_dummy_certificate s.n (at s (frame_height frame)) frame)
      (keep_finalize_certificate s.n (at s (frame_height frame)) frame))
  unfolding keep
  keep_by_kind s = rw (
    other_kind (kind frame) is 1 (omega arith),
    other_kind (kind frame) is 2 (omega arith),
    other_kind (kind frame) is 3 (omega arith),
    other_kind (kind frame) is 4 (omega arith),
  )

  keep_shown_lem : (s : State) →
      shown_kept (keep digest s frame) ≡ keep_shown s.n (shown_at s (frame_height frame)) frame
  unfolding keep_shown
  keep_shown_lem s =
      let x : Height = at s (frame_height frame) in
      ap shown_kept (keep_by_kind s) ∙
      shown_cond (is_block_certificate (kind frame)) _ _ ∙
      ap₂ (cond (is_block_certificate (kind frame))) (block_shown s.n x frame)
      (shown_cond (is_dummy_certificate (kind frame)) _ _ ∙
      ap₂ (cond (is_dummy_certificate (kind frame))) (dummies_shown s.n x frame)
      (finalizations_shown s.n x frame))

  pub same_kept : {s t : State} → Alike s t → shown_kept (keep digest t frame) ≡ shown_kept (keep digest s frame)
  same_kept {s} {t} alike =
      keep_shown_lem t ∙
      ap₂ (λ (n : ℕ) (x : ObservedHeight). keep_shown n x frame) alike.same_n (same_shown alike (frame_height frame)) ∙
      sym (keep_shown_lem s)

-- what holds of the height that each kind of certificate leaves holds of that which is kept
pub certificate_cases : (digest : Bytes → Bytes) (s : State) (frame : Bytes) → 5 ≤ kind frame → ReadFrame s frame →
    (P : ℕ → Option Height → Type 0) →
    (kind frame ≡ 5 → P 5 (keep_block_certificate (at s (frame_height frame)) frame)) →
    (kind frame ≡ 6 → P 6 (keep_dummy_certificate s.n (at s (frame_height frame)) frame)) →
    (kind frame ≡ 7 → P 7 (keep_finalize_certificate s.n (at s (frame_height frame)) frame)) →
    P (kind frame) (keep digest s frame)
certificate_cases digest s frame high read P five six seven = keep_cases digest s frame read P
    (never 1 (omega arith)) (never 2 (omega arith)) (never 3 (omega arith)) (never 4 (omega arith)) five six seven
  where
    never : {A : Type 0} (k : ℕ) → k ≤ 4 → kind frame ≡ k → A
    never k few is = absurd (omega arith)
