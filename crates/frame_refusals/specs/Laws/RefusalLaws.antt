-- Refusals by name and options, three rows in a row, and the rows of reading and of contradiction.
use Rattle.std.specs.Prelude.{ℕ, ◌≤◌, ◌≡◌, refl, Bool, true, false, ◌&&◌, not, [], ◌∷◌, eqb, Result, Ok, Err}
use Rattle.std.proofs.Common.{sym, ap, ◌∙◌}
use Rattle.std.proofs.Math.Option.{Option, some, none}
use Rattle.protocol.specs.Bytes.{Bytes, same}
use Rattle.protocol.specs.Tests.{all_of, implies, in_range, first_refusal}
use Rattle.protocol.specs.Frame.{kind, frame_height, frame_block, frame_well_formed, is_proposal, is_block_certificate}
use Rattle.protocol.specs.State.{State, at, last, holds_proposal, is_notarized}
use Rattle.protocol.proofs.Laws.RowLaws.{pass_row, refuse_row, range_in}
use Rattle.protocol.specs.Deliver.{read_rows, clash_rows, second_proposal}
use Rattle.answers.specs.declared.refusal.Refusal.{Refusal}
use Rattle.answers.specs.Refusal.{number_of, refusal_of}
use Rattle.frame_refusals.specs.Refusal.{three_rows, members_fit, leader_signed, signers_enough}
use Rattle.frame_refusals.specs.Refusal.{member_rows, vote_agrees}

-- ---- refusals
module _ {A : Type 0} where
  pub number_refuses : (result : Result A Refusal) (o : Option ℕ) (refusal : Refusal) → refusal_of result ≡ o →
      result ≡ Err refusal → o ≡ some (number_of refusal)
  number_refuses result o refusal e f = sym e ∙ ap (λ (r : Result A Refusal). refusal_of r) f

  pub zero_passes : (result : Result A Refusal) (o : Option ℕ) (answer : A) → refusal_of result ≡ o →
      result ≡ Ok answer → o ≡ none
  zero_passes result o answer e f = sym e ∙ ap (λ (r : Result A Refusal). refusal_of r) f

pub refusal_some : (A : Type 0) (refusal : Refusal) → refusal_of {A = A} (Err refusal) ≡ some (number_of refusal)
refusal_some A refusal = refl

-- ---- three rows
module _ (a b c : ℕ) (p q r : Bool) where
  pub first_fails : p ≡ false → first_refusal (three_rows a b c p q r) ≡ some a
  unfolding first_refusal
  first_fails e = rw e

  pub second_fails : p ≡ true → q ≡ false → first_refusal (three_rows a b c p q r) ≡ some b
  unfolding first_refusal
  second_fails e f = rw (e, f)

  pub third_fails : p ≡ true → q ≡ true → r ≡ false → first_refusal (three_rows a b c p q r) ≡ some c
  unfolding first_refusal
  third_fails e f g = rw (e, f, g)

  pub none_fails : p ≡ true → q ≡ true → r ≡ true → first_refusal (three_rows a b c p q r) ≡ none
  unfolding first_refusal
  none_fails e f g = rw (e, f, g)

-- ---- the rows of reading
read_rows_lem : (s : State) (frame : Bytes) →
    read_rows s frame ≡ (4, frame_well_formed frame) ∷ (6, in_range 1 (last s) (frame_height frame)) ∷ member_rows s
    (frame_height frame) frame
unfolding read_rows member_rows members_fit leader_signed signers_enough
read_rows_lem s frame = refl

module _ (s : State) (frame : Bytes) where
  pub read_malformed : frame_well_formed frame ≡ false → first_refusal (read_rows s frame) ≡ some 4
  read_malformed e = ap first_refusal (read_rows_lem s frame) ∙ refuse_row (4, frame_well_formed frame) _ e

  pub read_outside : frame_well_formed frame ≡ true → in_range 1 (last s) (frame_height frame) ≡ false →
      first_refusal (read_rows s frame) ≡ some 6
  read_outside e f =
      ap first_refusal (read_rows_lem s frame) ∙ pass_row (4, frame_well_formed frame) _ e
      ∙ refuse_row (6, in_range 1 (last s) (frame_height frame)) _ f

  pub read_inside : frame_well_formed frame ≡ true → in_range 1 (last s) (frame_height frame) ≡ true → (h : ℕ) →
      h ≡ frame_height frame →
      first_refusal (read_rows s frame) ≡ first_refusal (member_rows s h frame)
  read_inside e f h same =
      ap first_refusal (read_rows_lem s frame) ∙ pass_row (4, frame_well_formed frame) _ e
      ∙ pass_row (6, in_range 1 (last s) (frame_height frame)) _ f
      ∙ ap (λ (k : ℕ). first_refusal (member_rows s k frame)) (sym same)

  pub read_within : frame_well_formed frame ≡ true → (h : ℕ) → h ≡ frame_height frame → 1 ≤ h → h ≤ last s →
      first_refusal (read_rows s frame) ≡ first_refusal (member_rows s h frame)
  read_within e h same low high = read_inside e (rw (sym same) (range_in 1 (last s) h low high)) h same

-- ---- the rows of contradiction
-- a proposal is compared with the held one at every height but the current one
compared_elsewhere : (proposes holds is here : Bool) →
    implies (all_of (proposes ∷ holds ∷ not is ∷ [])) here ≡ implies ((proposes && holds) && not here) is
unfolding implies all_of
compared_elsewhere false holds is here = refl
compared_elsewhere true false is here = refl
compared_elsewhere true true false false = refl
compared_elsewhere true true false true = refl
compared_elsewhere true true true false = refl
compared_elsewhere true true true true = refl

pub clash_rows_lem : (s : State) (h : ℕ) (frame : Bytes) → h ≡ frame_height frame →
    clash_rows s frame ≡
    three_rows 8 8 10 (implies ((is_proposal (kind frame) && holds_proposal (at s h)) && not (eqb h s.current))
    (same (at s h).proposal (frame_block frame)))
    (vote_agrees (at s h) frame) (implies (is_block_certificate (kind frame) && is_notarized (at s h))
    (same (at s h).notarized (frame_block frame)))
unfolding clash_rows second_proposal vote_agrees
clash_rows_lem s h frame e =
    rw (
      e,
      compared_elsewhere (is_proposal (kind frame)) (holds_proposal (at s (frame_height frame)))
          (same (at s (frame_height frame)).proposal (frame_block frame)) (eqb (frame_height frame) s.current),
    )
