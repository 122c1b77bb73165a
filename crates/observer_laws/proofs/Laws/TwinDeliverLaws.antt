-- Delivered to a sound book, a replica's or an observer's, a certificate leaves what `hear` leaves of its state, and
-- states that show the same answer alike.
use Rattle.std.specs.Prelude.{ℕ, ◌≡◌, true, List}
use Rattle.std.proofs.Common.{arith, sym, ap₂, ◌∙◌}
use Rattle.std.proofs.Math.Path.{refl, ap}
use Rattle.std.proofs.Math.Option.{Option, some, none}
use Rattle.protocol.specs.Bytes.{Bytes}
use Rattle.protocol.specs.Tests.{Row, first_refusal}
use Rattle.protocol.specs.Frame.{kind, frame_height, frame_well_formed}
use Rattle.protocol.specs.State.{State, Height, decode, with_height}
use Rattle.protocol.specs.Sound.{sound}
use Rattle.protocol.specs.Answer.{Answer, Outcome, Delivery, refused, accepted, known, fresh, unless_refused}
use Rattle.protocol.specs.Deliver.{read_rows, clash_rows, keep, kept, deliver_rows, deliver_call}
use Rattle.protocol.specs.Observer.{ObservedHeight, observer_state}
use Rattle.protocol.specs.ObserverSound.{observer_sound}
use Rattle.protocol.specs.ObserverCalls.{observer_kept, observer_deliver_rows, observer_deliver_call}
use Rattle.protocol.proofs.Laws.RowLaws.{split_rows}
use Rattle.protocol.proofs.Laws.StateLaws.{decode_encode}
use Rattle.protocol.proofs.Laws.SoundLaws.{sound_decode}
use Rattle.protocol.proofs.Laws.DeliverLaws.{no_proposal, heard_single, rows_read}
use Rattle.protocol.proofs.Laws.ObserverDeliverLaws.{observer_accepts}
use Rattle.protocol.proofs.Laws.ObserverAfterLaws.{observer_delivered}
use Rattle.call_laws.proofs.Laws.DeliverSoundLaws.{keep_sound}
use Rattle.observer_laws.specs.Twins.{IsCertificate}
use Rattle.observer_laws.proofs.Laws.AlikeLaws.{Alike}
use Rattle.observer_laws.proofs.Laws.CertificateLaws.{other_kind, same_rows, shown_kept, same_kept, again}
use Rattle.observer_laws.proofs.Laws.HearLaws.{hear_rows, left_by, hear}

-- the answer, by the first row that fails and by what is kept
unfoldable answer_by : Option ℕ → Option ObservedHeight → Answer Delivery
answer_by (some number) kept = refused number
answer_by none none = accepted known
answer_by none (some x) = accepted fresh

-- ---- a book of either kind, `state` its state, after a certificate: `leaves` says what it leaves where no row fails
module _ (digest : Bytes → Bytes) (book frame : Bytes) (state : Bytes → State)
    (leaves : Option Height → Outcome Delivery) where
  abbrev was : State
  was = state book

  -- what `leaves` has to do: nothing where nothing is kept, and else the height becomes the kept one
  record Leaves : Type 0 where
    nothing : leaves none ≡ record { answer = accepted known; book = book }
    answers_fresh : (y : Height) → (leaves (some y)).answer ≡ accepted fresh
    one_height : first_refusal (hear_rows was frame) ≡ none → (y : Height) → keep digest was frame ≡ some y →
        state (leaves (some y)).book ≡ with_height was (frame_height frame) y

  abbrev outcome : Option ℕ → Option Height → Outcome Delivery
  outcome refusal kept = unless_refused refusal book (leaves kept)

  module _ (does : Leaves) where
    answer_heard : (refusal : Option ℕ) (kept : Option Height) →
        (outcome refusal kept).answer ≡ answer_by refusal (shown_kept kept)
    unfolding unless_refused answer_by shown_kept
    answer_heard (some number) kept = refl
    answer_heard none none = ap (λ (o : Outcome Delivery). o.answer) does.nothing
    answer_heard none (some y) = does.answers_fresh y

    state_heard : (refusal : Option ℕ) → first_refusal (hear_rows was frame) ≡ refusal →
        (kept : Option Height) → keep digest was frame ≡ kept →
        state (outcome refusal kept).book ≡ left_by was frame refusal kept
    unfolding unless_refused left_by
    state_heard (some number) passes kept e = refl
    state_heard none passes none e = ap (λ (o : Outcome Delivery). state o.book) does.nothing
    state_heard none passes (some y) e = does.one_height passes y e

module _ (digest : Bytes → Bytes) (book frame : Bytes) (is : IsCertificate frame) where
  -- ---- a replica's book
  module _ (was_sound : sound digest book ≡ true) where
    abbrev s : State
    s = decode book

    deliver_by : deliver_call digest book frame ≡ unless_refused (first_refusal (hear_rows s frame)) book
        (kept digest book frame (keep digest s frame))
    unfolding deliver_call deliver_rows first_refusal
    deliver_by = rw (
      was_sound,
      heard_single digest book frame (no_proposal s frame (other_kind (kind frame) is 1 (omega arith))),
    )

    deliver_leaves : Leaves digest book frame decode (kept digest book frame)
    unfolding kept
    deliver_leaves = record {
      nothing = refl;
      answers_fresh = λ y. refl;
      one_height = λ passes y e.
          let (read, clash) = split_rows (read_rows s frame) (clash_rows s frame) passes in
          decode_encode (with_height s (frame_height frame) y)
          (keep_sound digest s (sound_decode digest book was_sound) frame (rows_read s frame read) y e).shaped;
    }

    deliver_answer : (deliver_call digest book frame).answer ≡ answer_by (first_refusal (hear_rows s frame))
        (shown_kept (keep digest s frame))
    deliver_answer =
        ap (λ (o : Outcome Delivery). o.answer) deliver_by ∙
        answer_heard digest book frame decode (kept digest book frame) deliver_leaves _ _

    pub deliver_hears : decode (deliver_call digest book frame).book ≡ hear digest s frame
    unfolding hear
    deliver_hears =
        ap (λ (o : Outcome Delivery). decode o.book) deliver_by ∙
        state_heard digest book frame decode (kept digest book frame) deliver_leaves _ refl _ refl

  -- ---- an observer's book
  module _ (was_sound : observer_sound digest book ≡ true) where
    abbrev t : State
    t = observer_state book

    rows_by : first_refusal (observer_deliver_rows digest book frame) ≡ first_refusal (hear_rows t frame)
    unfolding observer_deliver_rows first_refusal read_rows
    rows_by = rw (was_sound, is) (again (frame_well_formed frame) 4 _)

    observer_by : observer_deliver_call digest book frame ≡ unless_refused (first_refusal (hear_rows t frame)) book
        (observer_kept book frame (keep digest t frame))
    unfolding observer_deliver_call
    observer_by = rw rows_by

    observer_leaves : Leaves digest book frame observer_state (observer_kept book frame)
    unfolding observer_kept
    observer_leaves = record {
      nothing = refl;
      answers_fresh = λ y. refl;
      one_height = λ passes y e.
          observer_delivered digest book frame y (observer_accepts digest book frame (rows_by ∙ passes)) e;
    }

    observer_answer : (observer_deliver_call digest book frame).answer ≡ answer_by (first_refusal (hear_rows t frame))
        (shown_kept (keep digest t frame))
    observer_answer =
        ap (λ (o : Outcome Delivery). o.answer) observer_by ∙
        answer_heard digest book frame observer_state (observer_kept book frame) observer_leaves _ _

    pub observer_hears_lem : observer_state (observer_deliver_call digest book frame).book ≡ hear digest t frame
    unfolding hear
    observer_hears_lem =
        ap (λ (o : Outcome Delivery). observer_state o.book) observer_by ∙
        state_heard digest book frame observer_state (observer_kept book frame) observer_leaves _ refl _ refl

-- ---- both
pub same_answer : (digest : Bytes → Bytes) (book observer_book : Bytes) → sound digest book ≡ true →
    observer_sound digest observer_book ≡ true → Alike (decode book) (observer_state observer_book) → (frame : Bytes) →
    IsCertificate frame → (observer_deliver_call digest observer_book frame).answer ≡ (deliver_call digest book frame).answer
same_answer digest book observer_book was observer_was alike frame is =
    observer_answer digest observer_book frame is observer_was ∙
    ap₂ (λ (rows : List Row) (kept : Option ObservedHeight). answer_by (first_refusal rows) kept)
    (same_rows frame is alike) (same_kept digest frame is alike) ∙
    sym (deliver_answer digest book frame is was)
