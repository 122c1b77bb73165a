-- Every call of an observer refuses as `Refusing` and `Refusals` say.
use Rattle.std.specs.Prelude.{ℕ, ◌≡◌, Bool}
use Rattle.std.proofs.Common.{arith, sym, ap, ◌∙◌, true≢false}
use Rattle.std.proofs.Math.Path.{refl}
use Rattle.std.proofs.Math.Bool.{true, false}
use mathlib.Core.List.{List, [], ◌∷◌, ◌++◌}
use Rattle.std.proofs.Math.Option.{Option, some, none}
use Rattle.protocol.specs.Open.{Opening, opened_weights}
use Rattle.protocol.specs.Bytes.{Bytes}
use Rattle.protocol.specs.Tests.{Row, first_refusal}
use Rattle.protocol.specs.Frame.{kind, frame_well_formed, is_certificate, is_statement}
use Rattle.protocol.specs.Answer.{Answer, Outcome, Done, Delivery, Move, refused, accepted, known, fresh, is_accepted}
use Rattle.protocol.specs.Answer.{unless_refused}
use Rattle.protocol.specs.State.{State, Height, is_notarized}
use Rattle.protocol.specs.Deliver.{read_rows, clash_rows, keep}
use Rattle.protocol.specs.Observer.{observer_state, observed_height}
use Rattle.protocol.specs.ObserverSound.{observer_sound}
use Rattle.protocol.specs.ObserverCall.{ObserverCall, Observation, observation, observes_book, observes_opening}
use Rattle.protocol.specs.ObserverCall.{observes_delivery, observes_move, observer_opening, observer_delivery}
use Rattle.protocol.specs.ObserverCall.{observer_moving, observer_sizing, observer_reading}
use Rattle.protocol.specs.ObserverCalls.{observer_open_rows, observer_open_call, observer_kept, observer_log_size}
use Rattle.protocol.specs.ObserverCalls.{observer_deliver_rows, observer_deliver_call, observer_move_rows, observer_move_call}
use Rattle.protocol.specs.ObserverCalls.{observer_moved, observer_size_call}
use Rattle.protocol.proofs.Laws.RowLaws.{in_range_lem, not_passed}
use Rattle.call_laws.specs.Refusals.{Refuses}
use Rattle.call_laws.proofs.Laws.RefusalsLaws.{outcome_refuses, test_refuses}
use Rattle.observer_laws.specs.Refusing.{certificate_rows, notarized_row, refusal_rows, RefusesStatements}
use Rattle.observer_laws.proofs.Laws.CertificateLaws.{read_rows_of, clash_rows_of, read_rows_are, clash_rows_are}
use Rattle.observer_laws.proofs.Laws.CertificateLaws.{again}

pub observer_open_refuses : (way : Opening) (book : Bytes) (n heights : ℕ) →
    Refuses Done (observer_open_rows way book n heights) (observer_open_call way book n heights).answer (book ∷ [])
    ((observer_open_call way book n heights).book ∷ [])
unfolding observer_open_call
observer_open_refuses way book n heights = outcome_refuses (observer_open_rows way book n heights) book _ _ refl

-- ---- Deliver: the rows that can fail
module _ (s : State) (frame : Bytes) where
  abbrev rest : List Row
  rest = read_rows s frame ++ clash_rows s frame

  -- a certificate
  certificate_refusal : is_certificate (kind frame) ≡ true →
      first_refusal ((4, frame_well_formed frame) ∷ (16, is_certificate (kind frame)) ∷ rest) ≡
      first_refusal (certificate_rows s frame ++ (notarized_row s frame ∷ []))
  unfolding certificate_rows notarized_row first_refusal read_rows_of clash_rows_of observed_height is_notarized
  certificate_refusal is =
      rw (is, read_rows_are frame is s, clash_rows_are frame is s) (again (frame_well_formed frame) 4 _)

  -- another frame
  other_refusal : (c : Bool) → is_certificate (kind frame) ≡ c →
      first_refusal ((4, frame_well_formed frame) ∷ (16, is_certificate (kind frame)) ∷ rest) ≡
      first_refusal (certificate_rows s frame ++ (notarized_row s frame ∷ []))
  other_refusal true is = certificate_refusal is
  other_refusal false is = unfold certificate_rows first_refusal in rw is

-- a call refuses by other rows of which the same one fails first
by_other_rows : {A : Type 0} (rows others : List Row) (answer : Answer A) (before after : List Bytes) →
    first_refusal rows ≡ first_refusal others → Refuses A rows answer before after → Refuses A others answer before after
by_other_rows rows others answer before after e refuses = record {
  by_number = λ number.
      let (forth, back) = refuses.by_number number in ((λ is. sym e ∙ forth is), λ is. back (e ∙ is));
  unchanged = refuses.unchanged;
}

module _ (digest : Bytes → Bytes) where
  same_refusal : (book frame : Bytes) →
      first_refusal (observer_deliver_rows digest book frame) ≡ first_refusal (refusal_rows digest book frame)
  unfolding observer_deliver_rows refusal_rows
  same_refusal book frame = go (observer_sound digest book) _ _
      (other_refusal (observer_state book) frame (is_certificate (kind frame)) refl)
    where
      go : (test : Bool) (rows others : List Row) → first_refusal rows ≡ first_refusal others →
          first_refusal ((1, test) ∷ rows) ≡ first_refusal ((1, test) ∷ others)
      go true rows others e = unfold first_refusal in e
      go false rows others e = unfold first_refusal in refl

  kept_accepted : (book frame : Bytes) (o : Option Height) →
      (news : Delivery) × ((observer_kept book frame o).answer ≡ accepted news)
  unfolding observer_kept
  kept_accepted book frame none = (known, refl)
  kept_accepted book frame (some y) = (fresh, refl)

  pub observer_deliver_refuses : (book frame : Bytes) →
      Refuses Delivery (refusal_rows digest book frame) (observer_deliver_call digest book frame).answer (book ∷ [])
      ((observer_deliver_call digest book frame).book ∷ [])
  unfolding observer_deliver_call
  observer_deliver_refuses book frame =
      let kept : Option Height = keep digest (observer_state book) frame in
      let (news, accepts) = kept_accepted book frame kept in
      by_other_rows (observer_deliver_rows digest book frame) (refusal_rows digest book frame) _ _ _
      (same_refusal book frame)
      (outcome_refuses (observer_deliver_rows digest book frame) book (observer_kept book frame kept) news accepts)

  pub observer_move_refuses : (book : Bytes) →
      Refuses Move (observer_move_rows digest book) (observer_move_call digest book).answer (book ∷ [])
      ((observer_move_call digest book).book ∷ [])
  unfolding observer_move_call observer_moved
  observer_move_refuses book = outcome_refuses (observer_move_rows digest book) book _ _ refl

  pub observer_size_refuses : (book : Bytes) →
      Refuses ℕ ((1, observer_sound digest book) ∷ []) (observer_size_call digest book) [] []
  unfolding observer_size_call
  observer_size_refuses book = test_refuses (observer_sound digest book) (observer_log_size book)

  -- ---- kinds 1 to 4
  no_certificate : (k : ℕ) → is_statement k ≡ true → is_certificate k ≡ false
  unfolding is_statement is_certificate
  no_certificate k e = not_passed _ (λ is. omega (arith, in_range_lem 1 4 k e, in_range_lem 5 7 k is))

  pub refuses_statements : RefusesStatements digest
  unfolding RefusesStatements observer_deliver_call observer_deliver_rows first_refusal unless_refused
  refuses_statements book frame was_sound formed statement =
      rw (was_sound, formed, no_certificate (kind frame) statement)

  -- ---- a refused call does nothing: it leaves the book as it was, opens none, delivers no frame and reads nothing
  nothing_done : {A : Type 0} (observes : Outcome A → Observation) (book : Bytes) →
      ((number : ℕ) → observes (record { answer = refused number; book = book }) ≡ observes_book book false) →
      (outcome : Outcome A) → (observes outcome).accepted ≡ true → (refusal : Option ℕ) →
      (observes (unless_refused refusal book outcome)).accepted ≡ false →
      observes (unless_refused refusal book outcome) ≡ observes_book book false
  unfolding unless_refused
  nothing_done observes book none_done outcome accepts none e = absurd (true≢false (sym accepts ∙ e))
  nothing_done observes book none_done outcome accepts (some number) e = none_done number

  pub observer_refused_does_nothing : (book : Bytes) (call : ObserverCall) →
      (observation digest book call).accepted ≡ false → observation digest book call ≡ observes_book book false
  unfolding observation is_accepted observer_open_call observer_deliver_call observer_move_call observer_moved
  observer_refused_does_nothing book (observer_opening way n heights) =
      nothing_done (observes_opening (opened_weights n way)) book (λ number. refl) _ refl
      (first_refusal (observer_open_rows way book n heights))
  observer_refused_does_nothing book (observer_delivery frame) =
      nothing_done (observes_delivery frame) book (λ number. refl)
      (observer_kept book frame (keep digest (observer_state book) frame))
      (ap is_accepted (kept_accepted book frame (keep digest (observer_state book) frame)).1)
      (first_refusal (observer_deliver_rows digest book frame))
  observer_refused_does_nothing book observer_moving =
      nothing_done observes_move book (λ number. refl) _ refl (first_refusal (observer_move_rows digest book))
  observer_refused_does_nothing book observer_sizing = λ e. rw e refl
  observer_refused_does_nothing book (observer_reading buffer) = λ e. absurd (true≢false e)
