-- Deliver leaves what `ObserverKeeping` says, and that leaves no choice.
use Rattle.std.specs.Prelude.{ℕ, ◌+◌, ◌-◌, ◌*◌, ◌≡◌, refl, ◌≢◌, true, length}
use Rattle.std.proofs.Common.{arith, subst, ◌∙◌}
use Rattle.std.proofs.Math.Path.{sym, ap}
use Rattle.std.proofs.Math.Option.{some, none}
use Rattle.std.proofs.Math.ListN.{length-set}
use Rattle.protocol.specs.Bytes.{Bytes, AreBytes}
use Rattle.protocol.specs.Answer.{Outcome, Delivery, accepted, known, fresh}
use Rattle.protocol.specs.Frame.{kind, frame_height}
use Rattle.protocol.specs.State.{State, Height, at, last, with_head, with_height, book_heights}
use Rattle.protocol.specs.Sound.{view}
use Rattle.protocol.specs.Deliver.{keep}
use Rattle.protocol.specs.Observer.{observed, observer_state, encode_observer}
use Rattle.protocol.specs.ObserverSound.{observer_sound}
use Rattle.protocol.specs.ObserverCalls.{observer_deliver_call}
use Rattle.protocol.proofs.Laws.ObserverCodecLaws.{last_observed}
use Rattle.protocol.proofs.Laws.ObserverSoundLaws.{exact_observer}
use Rattle.protocol.proofs.Laws.ObserverDeliverLaws.{ObserverAccepts, observer_deliver_cases}
use Rattle.protocol.proofs.Laws.ObserverAfterLaws.{observer_delivered}
use Rattle.call_laws.specs.KeptBytes.{SameOutside}
use Rattle.call_laws.proofs.Laws.KeepingLaws.{differ, known≢fresh}
use Rattle.call_laws.proofs.Laws.KeepsKindLaws.{left}
use Rattle.call_laws.proofs.Laws.KeepsStateLaws.{at_placed, placed_same}
use Rattle.call_laws.proofs.Laws.KeptBytesLaws.{keep_other}
use Rattle.call_laws.proofs.Laws.RefusalsLaws.{refused≢accepted}
use Rattle.observer_laws.specs.ObserverKeeping.{KeepsCertificate, ObserverKeeps, certificate_parts}
use Rattle.observer_laws.proofs.Laws.CertificateLaws.{certificate_cases}
use Rattle.observer_laws.proofs.Laws.AwakeLaws.{awake}
use Rattle.observer_laws.proofs.Laws.ObserverKeptLaws.{KeptCertificate, block_kept, dummies_kept, finalizes_kept}
use Rattle.observer_laws.proofs.Laws.ObserverWritesLaws.{fresh_writes}
use Rattle.observer_laws.proofs.Laws.ObserverSoundStaysLaws.{state, holds_none, read_awake, delivered}

module _ (digest : Bytes → Bytes) (book frame : Bytes) (accepts : ObserverAccepts digest book frame) where
  abbrev s : State
  s = observer_state book

  abbrev h : ℕ
  h = frame_height frame

  abbrev x : Height
  x = at s h

  kept : KeepsCertificate s.n frame x (left x (keep digest s frame))
  kept =
      let status = holds_none digest book accepts.was_sound h accepts.read.low accepts.read.high in
      certificate_cases digest s frame accepts.certificate accepts.read
      (λ _. KeptCertificate s.n frame x status)
      (λ five. block_kept s.n frame x status five (accepts.agrees.block five))
      (λ six. dummies_kept s.n frame x status (λ five. omega arith) six)
      (λ seven. finalizes_kept s.n frame x status (λ five. omega arith) seven)

  -- ---- known
  all_known : keep digest s frame ≡ none → ObserverKeeps digest book frame known book
  all_known e = record {
    known_same = λ _. refl;
    fresh_differs = λ same. absurd (known≢fresh same);
    other_bytes = λ _. record { same_byte = λ _ _. refl };
    same_length = refl;
    elsewhere = sym (placed_same s h accepts.read.low);
    here = unfold left in (rw e at kept);
    stays_sound = accepts.was_sound;
  }

  -- ---- fresh: the height becomes `y`
  module _ (y : Height) (e : keep digest s frame ≡ some y) where
    abbrev after : Bytes
    after = encode_observer (observed (with_height s h y))

    back : observer_state after ≡ with_height s h y
    back = observer_delivered digest book frame y accepts e

    placed : at (observer_state after) h ≡ y
    placed = ap (λ (t : State). at t h) back ∙ at_placed s h y accepts.read.low accepts.read.high

    sound_after : observer_sound digest after ≡ true
    sound_after = delivered digest book accepts.was_sound frame accepts y e

    same_count : book_heights after ≡ book_heights book
    same_count =
        let counted : last (with_height s h y) ≡ last s = unfold last with_height in length-set s.heights (h - 1) y in
        sym (last_observed after) ∙ ap last back ∙ counted ∙ last_observed book

    size_after : length after ≡ length book
    size_after =
        exact_observer digest after sound_after ∙ ap (λ (k : ℕ). 64 + 184 * k) same_count ∙
        sym (exact_observer digest book accepts.was_sound)

    changed : after ≢ book
    changed same =
        keep_other digest (awake s) (state digest book accepts.was_sound) frame
        (read_awake digest book accepts.was_sound frame accepts) y (unfold awake with_head keep at view in e)
        (sym placed ∙ ap (λ (b : Bytes). at (observer_state b) h) same ∙ (unfold awake with_head at in refl))

    untouched : AreBytes book → SameOutside (certificate_parts (book_heights book) h (kind frame)) book after
    untouched small = fresh_writes digest book frame accepts small y e

    all_fresh : ObserverKeeps digest book frame fresh after
    all_fresh = record {
      known_same = λ same. absurd (known≢fresh (sym same));
      fresh_differs = λ _. differ after book size_after changed;
      other_bytes = untouched;
      same_length = size_after;
      elsewhere = back ∙ ap (with_height s h) (sym placed);
      here = subst (KeepsCertificate s.n frame x) (sym placed) (unfold left in (rw e at kept));
      stays_sound = sound_after;
    }

-- a delivery that is not refused keeps what its certificate says, and changes nothing else
pub observer_deliver_keeps : (digest : Bytes → Bytes) (book frame : Bytes) (news : Delivery) →
    (observer_deliver_call digest book frame).answer ≡ accepted news →
    ObserverKeeps digest book frame news (observer_deliver_call digest book frame).book
observer_deliver_keeps digest book frame news =
    observer_deliver_cases digest book frame (λ (o : Outcome Delivery). o.answer ≡ accepted news →
    ObserverKeeps digest book frame news o.book)
    (λ number _ e. absurd (refused≢accepted number news e))
    (λ accepts e said. named (same_news said) (all_known digest book frame accepts e))
    (λ y accepts e said. named (same_news said) (all_fresh digest book frame accepts y e))
  where
    same_news : {a b : Delivery} → accepted a ≡ accepted b → a ≡ b
    same_news e = cc

    named : {answer : Delivery} {after : Bytes} → answer ≡ news → ObserverKeeps digest book frame answer after →
        ObserverKeeps digest book frame news after
    named {answer} {after} e is = subst (λ (z : Delivery). ObserverKeeps digest book frame z after) e is
