-- The rows of a frame that an observer is given, taken in the order of the code; and what they grant.
use Rattle.std.specs.Prelude.{ℕ, ◌≤◌, ◌≡◌, Bool, true, false, ◌&&◌, ◌∷◌}
use Rattle.std.proofs.Common.{arith, sym, ap, ◌∙◌}
use Rattle.std.proofs.Math.Option.{some}
use borrow.Author.Tests.{ne_eqb}
use Rattle.protocol.specs.Bytes.{Bytes, same}
use Rattle.protocol.specs.Tests.{all_of, implies, in_range, first_refusal}
use Rattle.protocol.specs.Mask.{below_bit}
use Rattle.protocol.specs.Frame.{kind, frame_height, frame_block, frame_well_formed, signer_mask, is_certificate}
use Rattle.protocol.specs.Frame.{is_block_certificate}
use Rattle.protocol.specs.State.{State, at, last, is_notarized}
use Rattle.protocol.specs.View.{quorum}
use Rattle.protocol.specs.Sound.{view}
use Rattle.protocol.specs.Deliver.{read_rows, clash_rows, second_proposal}
use Rattle.protocol.proofs.Laws.RowLaws.{pass_row, refuse_row, range_in}
use Rattle.protocol.proofs.Laws.DeliverLaws.{certificate_kind_lem}
use Rattle.protocol.proofs.Laws.ObserverDeliverLaws.{certificate_high}
use Rattle.frame_refusals.specs.Refusal.{three_rows}
use Rattle.observer_refusals.specs.Rows.{frame_rows, certificate_rows}

module _ (s : State) (frame : Bytes) where
  pub frame_malformed : frame_well_formed frame ≡ false → first_refusal (frame_rows s frame) ≡ some 4
  unfolding frame_rows
  frame_malformed e = refuse_row (4, frame_well_formed frame) _ e

  pub frame_statement : frame_well_formed frame ≡ true → is_certificate (kind frame) ≡ false →
      first_refusal (frame_rows s frame) ≡ some 16
  unfolding frame_rows
  frame_statement e f = pass_row (4, frame_well_formed frame) _ e ∙ refuse_row (16, is_certificate (kind frame)) _ f

  module _ (formed : frame_well_formed frame ≡ true) (certificate : is_certificate (kind frame) ≡ true) where
    -- 7 and 8 ask nothing of a certificate
    certificate_rows_lem : first_refusal (frame_rows s frame) ≡
        first_refusal ((6, in_range 1 (last s) (frame_height frame)) ∷ certificate_rows s (frame_height frame) frame)
    unfolding frame_rows certificate_rows read_rows clash_rows second_proposal first_refusal implies all_of
    certificate_rows_lem =
        let high : 5 ≤ kind frame = certificate_high (kind frame) certificate in
        rw (
          formed,
          certificate,
          certificate_kind_lem (kind frame) high,
          ne_eqb (kind frame) 1 (λ e. omega arith),
          ne_eqb (kind frame) 2 (λ e. omega arith),
        )

    pub frame_outside : in_range 1 (last s) (frame_height frame) ≡ false → first_refusal (frame_rows s frame) ≡ some 6
    frame_outside e = certificate_rows_lem ∙ refuse_row (6, in_range 1 (last s) (frame_height frame)) _ e

    pub frame_inside : in_range 1 (last s) (frame_height frame) ≡ true → (h : ℕ) → h ≡ frame_height frame →
        first_refusal (frame_rows s frame) ≡ first_refusal (certificate_rows s h frame)
    frame_inside e h is =
        certificate_rows_lem ∙ pass_row (6, in_range 1 (last s) (frame_height frame)) _ e
        ∙ ap (λ (j : ℕ). first_refusal (certificate_rows s j frame)) (sym is)

    pub frame_within : (h : ℕ) → h ≡ frame_height frame → 1 ≤ h → h ≤ last s →
        first_refusal (frame_rows s frame) ≡ first_refusal (certificate_rows s h frame)
    frame_within h is low high = frame_inside (rw (sym is) (range_in 1 (last s) h low high)) h is

-- the code's three tests are the rows of a certificate
pub certificate_tests : (s : State) (h : ℕ) (frame : Bytes) (members enough agreed : Bool) →
    members ≡ below_bit s.n (signer_mask frame) → enough ≡ quorum (view s) (signer_mask frame) →
    agreed ≡ implies (is_block_certificate (kind frame) && is_notarized (at s h))
    (same (at s h).notarized (frame_block frame)) →
    first_refusal (three_rows 5 9 10 members enough agreed) ≡ first_refusal (certificate_rows s h frame)
unfolding certificate_rows
certificate_tests s h frame members enough agreed e f g = rw (e, f, g)
