-- `ObserverKeeps` leaves no choice: what meets it is what Deliver answers and leaves.
use Rattle.std.specs.Prelude.{ℕ, ◌-◌, ◌^◌, ◌≤◌, ◌<◌, ◌≡◌, Bool, true, false}
use Rattle.std.proofs.Math.Decide.{ℕ_discrete}
use Rattle.std.proofs.Math.Path.{refl, sym, subst}
use Rattle.std.proofs.Common.{ap, ◌∙◌}
use Rattle.std.proofs.Math.ListN.{length-set}
use Rattle.protocol.specs.SoundState.{SoundHeight}
use Rattle.protocol.specs.Bytes.{Bytes, AreBytes}
use Rattle.protocol.specs.Answer.{Outcome, Delivery, accepted}
use Rattle.protocol.specs.Frame.{kind, frame_height}
use Rattle.protocol.specs.State.{State, Height, at, last, with_height, is_notarized}
use Rattle.protocol.specs.Sound.{view}
use Rattle.protocol.specs.Observer.{as_replica_height, observed, observed_height}
use Rattle.protocol.specs.Observer.{observer_state, encode_observer, decode_observer}
use Rattle.protocol.specs.ObserverCalls.{observer_deliver_call}
use Rattle.protocol.proofs.Laws.MaskLaws.{mask_same}
use Rattle.protocol.proofs.Laws.ObserverStateLaws.{observed_as, last_as}
use Rattle.protocol.proofs.Laws.ObserverSoundLaws.{sound_observer, encode_decode_observer}
use Rattle.protocol.proofs.Laws.ObserverDeliverLaws.{ObserverAccepts, observer_deliver_cases, observing_at}
use Rattle.call_laws.proofs.Laws.KeepsExactLaws.{news_of_same}
use Rattle.call_laws.proofs.Laws.RefusalsLaws.{refused≢accepted}
use Rattle.observer_laws.specs.ObserverKeeping.{SameBlock, BlockOf, KeepsCertificate, ObserverKeeps}
use Rattle.observer_laws.proofs.Laws.ObserverKeepsLaws.{observer_deliver_keeps}

-- ---- one height: its masks by their bits, and its block by the cases of `KeepsCertificate`
record AlikeBlock (y z : Height) : Type 0 where
  status : y.status ≡ z.status
  certificate : y.certificate_mask ≡ z.certificate_mask
  block : y.notarized ≡ z.notarized

module _ (n : ℕ) (frame : Bytes) (x y z : Height) (is : KeepsCertificate n frame x y)
    (is' : KeepsCertificate n frame x z) where
  both_same : SameBlock x y → SameBlock x z → AlikeBlock y z
  both_same a b = record {
    status = a.same_status ∙ sym b.same_status;
    certificate = a.same_certificate ∙ sym b.same_certificate;
    block = a.same_block ∙ sym b.same_block;
  }

  both_new : BlockOf frame y → BlockOf frame z → AlikeBlock y z
  both_new a b = record {
    status = a.notarized ∙ sym b.notarized;
    certificate = a.its_signers ∙ sym b.its_signers;
    block = a.its_block ∙ sym b.its_block;
  }

  alike_block : AlikeBlock y z
  alike_block = go (is_notarized x) refl (ℕ_discrete (kind frame) 5)
    where
      go : (b : Bool) → is_notarized x ≡ b → Dec (kind frame ≡ 5) → AlikeBlock y z
      go true e five = both_same (is.first_block_lem e) (is'.first_block_lem e)
      go false e (yes five) = both_new (is.this_block five e) (is'.this_block five e)
      go false e (no other) = both_same (is.no_block other) (is'.no_block other)

  -- what an observer keeps of the two
  alike_height : y.dummy_mask < 2 ^ n → z.dummy_mask < 2 ^ n → y.finalize_mask < 2 ^ n → z.finalize_mask < 2 ^ n →
      observed_height y ≡ observed_height z
  unfolding observed_height
  alike_height dummies-y dummies-z finalizes-y finalizes-z =
      let blocks = alike_block in
      let dummies : y.dummy_mask ≡ z.dummy_mask =
      mask_same n y.dummy_mask z.dummy_mask dummies-y dummies-z (λ t l. is.dummies t l ∙ sym (is'.dummies t l)) in
      let finalizes : y.finalize_mask ≡ z.finalize_mask =
      mask_same n y.finalize_mask z.finalize_mask finalizes-y finalizes-z
      (λ t l. is.finalizes t l ∙ sym (is'.finalizes t l)) in
      λ i. record {
        status = blocks.status i;
        certificate_mask = blocks.certificate i;
        dummy_mask = dummies i;
        finalize_mask = finalizes i;
        notarized = blocks.block i;
      }

-- ---- a book that meets `ObserverKeeps`
module _ (digest : Bytes → Bytes) (book frame : Bytes) (accepts : ObserverAccepts digest book frame) where
  abbrev s : State
  s = observer_state book

  abbrev h : ℕ
  h = frame_height frame

  module _ (news : Delivery) (after : Bytes) (is : ObserverKeeps digest book frame news after) where
    abbrev there : Height
    there = at (observer_state after) h

    same_n : (observer_state after).n ≡ s.n
    same_n = ap (λ (t : State). t.n) is.elsewhere ∙ unfold with_height in refl

    inside : h ≤ last (observer_state after)
    inside =
        let counted : last (observer_state after) ≡ last s =
        ap last is.elsewhere ∙ unfold last with_height in length-set s.heights (h - 1) there in
        rw counted accepts.read.high

    height_sound : SoundHeight (view (observer_state after)) h there
    height_sound = (sound_observer digest after is.stays_sound).each h accepts.read.low
        (rw (last_as (decode_observer after)) at inside)

    -- nothing but what an observer keeps
    back : as_replica_height (observed_height there) ≡ there
    back = observing_at (decode_observer after) h accepts.read.low inside

    dummies_below : there.dummy_mask < 2 ^ s.n
    unfolding view
    dummies_below = subst (λ (n : ℕ). there.dummy_mask < 2 ^ n) same_n height_sound.dummy_below

    finalizes_below : there.finalize_mask < 2 ^ s.n
    unfolding view
    finalizes_below = subst (λ (n : ℕ). there.finalize_mask < 2 ^ n) same_n height_sound.finalize_below

  -- two such books are one
  module _ (news news' : Delivery) (after after' : Bytes) (is : ObserverKeeps digest book frame news after)
      (is' : ObserverKeeps digest book frame news' after') (bytes : AreBytes after) (bytes' : AreBytes after') where
    same_height : at (observer_state after) h ≡ at (observer_state after') h
    same_height =
        sym (back news after is) ∙
        ap as_replica_height
        (alike_height s.n frame (at s h) (at (observer_state after) h) (at (observer_state after') h) is.here
        is'.here (dummies_below news after is) (dummies_below news' after' is') (finalizes_below news after is)
        (finalizes_below news' after' is')) ∙
        back news' after' is'

    same_state : observer_state after ≡ observer_state after'
    same_state = is.elsewhere ∙ ap (with_height s h) same_height ∙ sym is'.elsewhere

    same_after : after ≡ after'
    same_after =
        sym (whole news after is bytes) ∙ ap (λ (t : State). encode_observer (observed t)) same_state ∙
        whole news' after' is' bytes'
      where
        whole : (answer : Delivery) (bs : Bytes) → ObserverKeeps digest book frame answer bs → AreBytes bs →
            encode_observer (observed (observer_state bs)) ≡ bs
        whole answer bs kept small =
            ap encode_observer (observed_as (decode_observer bs)) ∙
            encode_decode_observer digest bs kept.stays_sound small

    same_news : news ≡ news'
    same_news = news_of_same book after after' news news' same_after is.known_same is'.known_same
        is.fresh_differs is'.fresh_differs

not_refused : (digest : Bytes → Bytes) (book frame : Bytes) (news : Delivery) →
    (observer_deliver_call digest book frame).answer ≡ accepted news → ObserverAccepts digest book frame
not_refused digest book frame news =
    observer_deliver_cases digest book frame (λ (o : Outcome Delivery). o.answer ≡ accepted news →
    ObserverAccepts digest book frame)
    (λ number _ e. absurd (refused≢accepted number news e)) (λ accepts _ _. accepts) (λ _ accepts _ _. accepts)

-- what meets `ObserverKeeps`, of a delivery that is not refused, is what Deliver answers and leaves
pub observer_keeps_exact : (digest : Bytes → Bytes) (book frame : Bytes) (news : Delivery) →
    (observer_deliver_call digest book frame).answer ≡ accepted news →
    AreBytes (observer_deliver_call digest book frame).book →
    (news' : Delivery) (after : Bytes) → AreBytes after → ObserverKeeps digest book frame news' after →
    (news' ≡ news) × (after ≡ (observer_deliver_call digest book frame).book)
observer_keeps_exact digest book frame news answer bytes news' after bytes' is =
    let accepts = not_refused digest book frame news answer in
    let right = observer_deliver_keeps digest book frame news answer in
    let left : Bytes = (observer_deliver_call digest book frame).book in (
      same_news digest book frame accepts news' news after left is right bytes' bytes,
      same_after digest book frame accepts news' news after left is right bytes' bytes,
    )
