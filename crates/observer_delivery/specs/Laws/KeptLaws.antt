-- What a certificate keeps, by its kind, and what an observer's delivery leaves.
use Rattle.std.specs.Prelude.{ℕ, ◌^◌, ◌<◌, ◌≡◌, ◌⊎◌, ◌≢◌, true, false, Bool, cond, eqb}
use Rattle.std.proofs.Common.{arith, ◌∙◌, inl, inr, true≢false}
use Rattle.std.proofs.Math.Path.{refl, sym, ap}
use Rattle.std.proofs.Math.Option.{Option, some, none}
use Rattle.protocol.specs.Bytes.{Bytes}
use Rattle.protocol.specs.Tests.{first_refusal}
use Rattle.protocol.specs.Mask.{union}
use Rattle.protocol.specs.Frame.{kind, frame_height, signer_mask}
use Rattle.protocol.specs.State.{State, Height, at, with_height, is_notarized}
use Rattle.protocol.specs.Sound.{view}
use Rattle.protocol.specs.Answer.{Outcome, Delivery, refused, unless_refused}
use Rattle.protocol.specs.Deliver.{keep, keep_block_certificate, keep_dummy_certificate, keep_finalize_certificate}
use Rattle.protocol.specs.Observer.{observed, observer_state, encode_observer}
use Rattle.protocol.specs.ObserverSound.{observer_sound}
use Rattle.protocol.specs.ObserverCalls.{observer_deliver_rows, observer_deliver_call, observer_kept}
use Rattle.protocol.proofs.Laws.RowLaws.{pass_row, refuse_row}
use Rattle.protocol.proofs.Laws.DeliverLaws.{keep_block_certificate_lem, keep_dummy_certificate_lem, keep_finalize_certificate_lem}
use Rattle.protocol.proofs.Laws.ObserverCodecLaws.{last_observed, count_observed}
use Rattle.protocol.proofs.Laws.ObserverDeliverLaws.{ObserverAccepts, observer_accepts}
use Rattle.book_fields.specs.Book.{SoundObserverBook}
use Rattle.book_fields.specs.Numbered.{mask_at, with_mask_at}
use Rattle.answers.specs.declared.answer.Delivered.{Delivered}
use Rattle.answers.specs.declared.answer.Delivered.TheVariants.{Fresh, Known}
use Rattle.contradictions.specs.Accepted.{accepted_book}
use Rattle.delivery.specs.Kept.{join_signers}
use Rattle.delivery.specs.Laws.JoinLaws.{signers_join}
use Rattle.observer_refusals.specs.Rows.{frame_rows}
use Rattle.observer_delivery.specs.Certificate.{CertificateRead, kept_at}

-- ---- known and new
module _ (book : Bytes) (h : ℕ) where
  pub known_certificate : (b : Bool) (y : Height) → b ≡ true →
      accepted_book Known book ≡ kept_at book h (cond b none (some y))
  unfolding kept_at
  known_certificate b y e = rw e

  pub new_certificate : (b : Bool) (y : Height) (after : Bytes) → b ≡ false →
      after ≡ encode_observer (observed (with_height (observer_state book) h y)) →
      accepted_book Fresh after ≡ kept_at book h (cond b none (some y))
  unfolding kept_at
  new_certificate b y after e f = rw (e, f)

-- ---- the kind of a certificate decides what it keeps
module _ (digest : Bytes → Bytes) (book : Bytes) (h : ℕ) (frame : Bytes) (given : CertificateRead book h frame) where
  abbrev s : State
  s = observer_state book

  abbrev x : Height
  x = at s h

  pub keeps_block : kind frame ≡ 5 → keep digest s frame ≡ keep_block_certificate x frame
  keeps_block e = rw given.height (keep_block_certificate_lem digest s frame e)

  joined : (k : ℕ) → mask_at x k < 2 ^ s.n →
      (let mask : ℕ = union s.n (mask_at x k) (signer_mask frame) in
      cond (eqb mask (mask_at x k)) none (some (with_mask_at x k mask))) ≡ join_signers k x (signer_mask frame)
  unfolding join_signers
  joined k fits = signers_join (mask_at x k) (with_mask_at x k) s.n fits (signer_mask frame)
      (given.read.mask_small given.certificate)

  pub dummies_join : kind frame ≡ 6 → keep digest s frame ≡ join_signers 1 x (signer_mask frame)
  unfolding view
  dummies_join e = keep_dummy_certificate_lem digest s frame e ∙ unfold keep_dummy_certificate in
      rw (← given.height) (joined 1 given.numbers.dummy_below)

  pub finalizations_join : kind frame ≢ 5 → kind frame ≢ 6 →
      keep digest s frame ≡ join_signers 2 x (signer_mask frame)
  unfolding view
  finalizations_join block dummy =
      let low = given.certificate in
      let high = given.read.kind_high in
      keep_finalize_certificate_lem digest s frame (omega arith) ∙ unfold keep_finalize_certificate in
      rw (← given.height) (joined 2 given.numbers.finalize_below)

-- ---- the call
abbrev refused_by : ℕ → Bytes → Outcome Delivery
refused_by number book = record { answer = refused number; book = book }

empty_status : (x : Height) → (x.status ≡ 0) ⊎ (x.status ≡ 2) → is_notarized x ≡ false → x.status ≡ 0
unfolding is_notarized
empty_status x (inl e) f = e
empty_status x (inr e) f = absurd (true≢false (rw e at f))

module _ (digest : Bytes → Bytes) (book frame : Bytes) where
  pub deliver_unsound : observer_sound digest book ≡ false → observer_deliver_call digest book frame ≡ refused_by 1 book
  unfolding observer_deliver_call observer_deliver_rows unless_refused
  deliver_unsound e =
      ap (λ (o : Option ℕ). unless_refused o book (observer_kept book frame (keep digest (observer_state book) frame)))
      (refuse_row (1, observer_sound digest book) _ e)

  module _ (is : SoundObserverBook digest book) where
    rows_are : first_refusal (observer_deliver_rows digest book frame) ≡
        first_refusal (frame_rows (observer_state book) frame)
    unfolding observer_deliver_rows frame_rows
    rows_are = pass_row (1, observer_sound digest book) _ is.is_sound_lem

    pub deliver_refused : (number : ℕ) → first_refusal (frame_rows (observer_state book) frame) ≡ some number →
        observer_deliver_call digest book frame ≡ refused_by number book
    unfolding observer_deliver_call unless_refused
    deliver_refused number e = rw (rows_are, e)

    module _ (passes : first_refusal (frame_rows (observer_state book) frame) ≡ none) (h : ℕ)
        (height : h ≡ frame_height frame) where
      pub deliver_kept : (answer : Delivered) (after : Bytes) →
          accepted_book answer after ≡ kept_at book h (keep digest (observer_state book) frame) →
          observer_deliver_call digest book frame ≡ accepted_book answer after
      unfolding observer_deliver_call unless_refused
      deliver_kept answer after keeps =
          rw (rows_are, passes) (at_height_lem (keep digest (observer_state book) frame) ∙ sym keeps)
        where
          at_height_lem : (y : Option Height) → observer_kept book frame y ≡ kept_at book h y
          at_height_lem none = unfold observer_kept kept_at in refl
          at_height_lem (some y) = unfold observer_kept kept_at in rw height

      pub certificate_read : CertificateRead book h frame
      certificate_read =
          let tested : ObserverAccepts digest book frame = observer_accepts digest book frame (rows_are ∙ passes) in
          let low = tested.read.low in
          let high = tested.read.high in
          let inside = last_observed book in
          let count = count_observed book in
          record {
            ready = is.ready;
            within = record { low = omega arith; high = omega arith };
            numbers = is.state.each h (omega arith) (omega arith);
            empty = empty_status (at (observer_state book) h) (is.state.holds_none h (omega arith) (omega arith));
            read = tested.read;
            certificate = tested.certificate;
            height = height;
          }
