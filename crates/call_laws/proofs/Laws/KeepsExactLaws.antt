-- `Keeps` leaves no choice: on the same book and frame, two replicas that meet it answer the same and leave the same
-- bytes.
use Prim.Native.Nat.{ℕ, zero, suc, ◌+◌, ◌*◌, ◌/◌, ◌%◌, ◌^◌, ◌<◌}
use Rattle.std.proofs.Common.{arith, ◌∙◌, inl, inr, true≢false, eqb-true}
use Rattle.std.proofs.Math.Nat.{add-zero}
use Rattle.std.specs.Prelude.{◌≡◌, refl, ◌⊎◌, ◌≢◌, Bool, true, false, ◌||◌, not, cond, [], length}
use Rattle.std.proofs.Math.Path.{sym, ap}
use Rattle.std.proofs.Math.Option.{none}
use Rattle.std.proofs.Math.Dec.{eqb}
use Rattle.std.proofs.lemmas.Bool.{not-true}
use Rattle.protocol.specs.Every.{Every, none, one}
use Rattle.protocol.specs.Bytes.{Bytes, byte_at, word16, part, same, AreBytes}
use Rattle.protocol.proofs.Laws.BytesLaws.{byte_part, word_low, word_high}
use Rattle.protocol.proofs.Laws.TestsLaws.{and_both, both_ways_lem, cond-elim}
use Rattle.protocol.proofs.Laws.EveryLaws.{every_append}
use Rattle.protocol.specs.Mask.{in_mask}
use Rattle.protocol.proofs.Laws.MaskLaws.{mask_same}
use Rattle.protocol.specs.Frame.{kind, signer, frame_height}
use Rattle.protocol.specs.Answer.{Outcome, accepted, Delivery, known, fresh}
use Rattle.protocol.specs.State.{Height, at, decode, holds_proposal, is_notarized, book_heights, flag}
use Rattle.protocol.specs.Sound.{view}
use Rattle.protocol.specs.Deliver.{deliver_call, leader_equivocates}
use Rattle.protocol.proofs.Laws.DeliverLaws.{Accepts, signer_few, deliver_cases}
use Rattle.call_laws.proofs.Laws.RefusalsLaws.{refused≢accepted}
use Rattle.call_laws.proofs.Laws.KeepsStateLaws.{state}
use Rattle.call_laws.specs.Equivocating.{Equivocation}
use Rattle.call_laws.proofs.Laws.EquivocatingLaws.{equivocation, passes_test}
use Rattle.call_laws.proofs.Laws.KeepingLaws.{deliver_keeps}
use Rattle.call_laws.specs.KeptBytes.{Part, content_at, body_at, proposal_parts, vote_parts, dummy_parts}
use Rattle.call_laws.specs.KeptBytes.{finalize_parts, notarized_parts, kept_parts, newly_notarized, delivery_parts}
use Rattle.call_laws.specs.Keeping.{Keeps, KeepsStatement, FiresTimer, NewlyKept, KeepsAt, Voted, ByVotes}
use Rattle.call_laws.proofs.Laws.SameBytesLaws.{Inside, same_bytes}
use Rattle.call_laws.proofs.Laws.KeptFieldsLaws.{KeptFields, kept_fields}
use Rattle.call_laws.proofs.Laws.SameHeightLaws.{same_status, same_holds, same_proposal, same_voters}
use Rattle.call_laws.proofs.Laws.SameHeightLaws.{notarized_too}

not_refused : (digest : Bytes → Bytes) (book frame : Bytes) (news : Delivery) →
    (deliver_call digest book frame).answer ≡ accepted news → Accepts digest book frame
not_refused digest book frame news =
    deliver_cases digest book frame (λ (o : Outcome Delivery). o.answer ≡ accepted news → Accepts digest book frame)
    (λ number _ e. absurd (refused≢accepted number news e)) (λ accepts _ _ _. accepts)
    (λ _ accepts _ _ _. accepts) (λ accepts _ _ _. accepts)

-- ---- the answer goes by the bytes
abbrev Changed : Bytes → Bytes → Type 0
Changed book after = (i : ℕ) × (i < length book) × (byte_at after i ≢ byte_at book i)

never_changed : {book after : Bytes} → after ≡ book → Changed book after → ⊥
never_changed e (i, l, differs) = differs (ap (λ (b : Bytes). byte_at b i) e)

pub news_of_same : (book after after' : Bytes) (news news' : Delivery) → after ≡ after' →
    (news ≡ known → after ≡ book) → (news' ≡ known → after' ≡ book) →
    (news ≡ fresh → Changed book after) → (news' ≡ fresh → Changed book after') → news ≡ news'
news_of_same book after after' known known same k k' f f' = refl
news_of_same book after after' fresh fresh same k k' f f' = refl
news_of_same book after after' known fresh same k k' f f' = absurd (never_changed (sym same ∙ k refl) (f' refl))
news_of_same book after after' fresh known same k k' f f' = absurd (never_changed (same ∙ k' refl) (f refl))

-- ---- two books that keep a frame's statement
module _ (digest : Bytes → Bytes) (book frame : Bytes) (accepts : Accepts digest book frame)
    (news news' : Delivery) (after after' : Bytes) (is : KeepsStatement digest book frame news after)
    (is' : KeepsStatement digest book frame news' after')
    (small : AreBytes book) (bytes : AreBytes after) (bytes' : AreBytes after') where
  abbrev h : ℕ
  h = frame_height frame

  abbrev c : ℕ
  c = content_at (book_heights book) h

  abbrev d : ℕ
  d = body_at (book_heights book) h

  abbrev x : Height
  x = at (decode book) h

  abbrev z : Height
  z = at (decode after) h

  abbrev z' : Height
  z' = at (decode after') h

  fields : KeptFields book frame after
  fields = kept_fields book frame after accepts is

  fields' : KeptFields book frame after'
  fields' = kept_fields book frame after' accepts is'

  here : KeepsAt digest (view (decode book)) (kind frame) frame x z
  here = is.keeps.here

  here' : KeepsAt digest (view (decode book)) (kind frame) frame x z'
  here' = is'.keeps.here

  both_notarized : is_notarized z ≡ is_notarized z'
  both_notarized = both_ways_lem (is_notarized z) (is_notarized z')
      (notarized_too digest (view (decode book)) (kind frame) frame x z z' here here')
      (notarized_too digest (view (decode book)) (kind frame) frame x z' z here' here)

  In : Part → Type 0
  In = Inside book after after'

  -- a byte, the two bytes of a mask, and an area
  byte_in : (i : ℕ) → byte_at after i ≡ byte_at after' i → In (i, 1)
  unfolding In
  byte_in i e zero l = rw add-zero e
  byte_in i e (suc m) l = absurd (omega arith)

  mask_in : (i : ℕ) → word16 after i ≡ word16 after' i → In (i, 2)
  unfolding In
  mask_in i e zero l = rw add-zero (sym (word_low after i bytes) ∙ ap (λ (w : ℕ). w % 256) e ∙
      word_low after' i bytes')
  mask_in i e (suc zero) l = sym (word_high after i bytes) ∙ ap (λ (w : ℕ). w / 256) e ∙ word_high after' i bytes'
  mask_in i e (suc (suc m)) l = absurd (omega arith)

  area_in : (i size : ℕ) → part after i size ≡ part after' i size → In (i, size)
  unfolding In
  area_in i size e m l = sym (byte_part after i size m l) ∙ ap (λ (b : Bytes). byte_at b m) e ∙
      byte_part after' i size m l

  status_in : In (c + 1, 1)
  status_in = byte_in (c + 1) (fields.status ∙ same ∙ sym fields'.status)
    where
      same : z.status ≡ z'.status
      same = unfold holds_proposal is_notarized in
          same_status z.status z'.status fields.sound.status_small fields'.sound.status_small
          (same_holds digest (view (decode book)) (kind frame) frame x z z' here here') both_notarized

  -- two masks below n with the same bits
  bits_in : (i : ℕ) {m m' : ℕ} → word16 after i ≡ m → word16 after' i ≡ m' → m < 2 ^ (view (decode after)).n →
      m' < 2 ^ (view (decode after')).n → ((t : ℕ) → t < (view (decode book)).n → in_mask m t ≡ in_mask m' t) → In (i, 2)
  unfolding view
  bits_in i {m} {m'} e e' l l' bits =
      let same = mask_same (decode book).n m m' (rw fields.same_n at l) (rw fields'.same_n at l') bits in
      mask_in i (e ∙ same ∙ sym e')

  dummy_in : In (c + 4, 2)
  dummy_in = bits_in (c + 4) fields.dummies fields'.dummies fields.sound.dummy_below
      fields'.sound.dummy_below (λ t l. here.masks.dummies t l ∙ sym (here'.masks.dummies t l))

  finalize_in : In (c + 6, 2)
  finalize_in = bits_in (c + 6) fields.finalizes fields'.finalizes fields.sound.finalize_below
      fields'.sound.finalize_below (λ t l. here.masks.finalizes t l ∙ sym (here'.masks.finalizes t l))

  voter_in : In (c + 8, 2)
  voter_in = bits_in (c + 8) fields.voters fields'.voters fields.sound.voter_below
      fields'.sound.voter_below (λ t l. here.votes.voters t l ∙ sym (here'.votes.voters t l))

  proposal_in : kind frame ≡ 1 → In (d, 176)
  proposal_in e = area_in d 176
      (fields.proposal ∙ here.proposal.this_proposal e ∙ sym (here'.proposal.this_proposal e) ∙
      sym fields'.proposal)

  few : kind frame ≡ 2 → signer frame < 16
  few = signer_few accepts.read (state digest book frame accepts).n_high

  vote_in : kind frame ≡ 2 → In (d + (352 + 32 * signer frame), 32)
  vote_in e = area_in (d + (352 + 32 * signer frame)) 32
      (fields.vote (signer frame) (few e) ∙ here.votes.this_vote e ∙ sym (here'.votes.this_vote e) ∙
      sym (fields'.vote (signer frame) (few e)))

  kept_in : Every In (kept_parts (book_heights book) h (kind frame) (signer frame))
  unfolding kept_parts proposal_parts vote_parts dummy_parts finalize_parts
  kept_in =
      cond-elim (Every In) (eqb (kind frame) 1) (λ e. one status_in (one (proposal_in (eqb-true _ _ e)) none)) λ _.
      cond-elim (Every In) (eqb (kind frame) 2) (λ e. one voter_in (one (vote_in (eqb-true _ _ e)) none)) λ _.
      cond-elim (Every In) (eqb (kind frame) 3 || eqb (kind frame) 6) (λ _. one dummy_in none) λ _.
      cond-elim (Every In) (eqb (kind frame) 4 || eqb (kind frame) 7) (λ _. one finalize_in none) λ _. none

  -- a block that is newly notarized, and its certificate
  newly_same : is_notarized x ≡ false → is_notarized z ≡ true →
      (z.notarized ≡ z'.notarized) × (z.certificate_mask ≡ z'.certificate_mask)
  unfolding ByVotes Voted NewlyKept
  newly_same free has = go (here.block.only_so has) (here'.block.only_so (sym both_notarized ∙ has))
    where
      By : Height → Type 0
      By w = (is_notarized x ≡ true) ⊎ ((kind frame ≡ 5) ⊎
          (NewlyKept (kind frame) frame x × ByVotes digest (view (decode book)) w))

      five : kind frame ≡ 5 → (z.notarized ≡ z'.notarized) × (z.certificate_mask ≡ z'.certificate_mask)
      five e = (
        (here.block.this_block e).1 ∙ sym (here'.block.this_block e).1,
        here.block.this_certificate e free ∙ sym (here'.block.this_certificate e free),
      )

      go : By z → By z' → (z.notarized ≡ z'.notarized) × (z.certificate_mask ≡ z'.certificate_mask)
      go (inl old) other = absurd (true≢false (sym old ∙ free))
      go (inr (inl e)) other = five e
      go (inr (inr (new, by))) (inl old) = absurd (true≢false (sym old ∙ free))
      go (inr (inr (new, by))) (inr (inl e)) = five e
      go (inr (inr (new, by))) (inr (inr (new', by'))) =
          let held = by.0.0 in (
            by.1 ∙ same_proposal digest (view (decode book)) (kind frame) frame x z z' here here' held ∙
                sym by'.1,
            by.2 ∙ same_voters digest (view (decode book)) (kind frame) frame x z z' here here' held ∙ sym by'.2,
          )

  notarized_in : Every In (cond (newly_notarized x z) (notarized_parts (book_heights book) h) [])
  unfolding notarized_parts newly_notarized
  notarized_in = cond-elim (Every In) (newly_notarized x z) (λ e.
      let both = and_both (not (is_notarized x)) (is_notarized z) e in
      let same = newly_same (not-true _ both.0) both.1 in
      one status_in
      (one (mask_in (c + 2) (fields.certificate ∙ same.1 ∙ sym fields'.certificate))
      (one (area_in (d + 176) 176 (fields.notarized ∙ same.0 ∙ sym fields'.notarized)) none))) (λ _. none)

  same_parts : delivery_parts book frame after' ≡ delivery_parts book frame after
  unfolding delivery_parts newly_notarized
  same_parts = rw both_notarized

  same_after : after ≡ after'
  unfolding In
  same_after = same_bytes book after after' (delivery_parts book frame after) (is.other_bytes small)
      (rw same_parts at (is'.other_bytes small)) (unfold delivery_parts in every_append kept_in notarized_in)
      (is.same_length ∙ sym is'.same_length)

  same_news : news ≡ news'
  same_news = news_of_same book after after' news news' same_after is.known_same is'.known_same
      is.fresh_differs is'.fresh_differs

-- ---- two books in which the timer fires
same_firing : (book : Bytes) (news news' : Delivery) (after after' : Bytes) → AreBytes book →
    FiresTimer book news after → FiresTimer book news' after' → (news' ≡ news) × (after' ≡ after)
same_firing book news news' after after' small is is' = go (flag 1 (decode book)) refl
  where
    go : (b : Bool) → flag 1 (decode book) ≡ b → (news' ≡ news) × (after' ≡ after)
    go true e =
        let (known-news, same) = is.fired_before e in
        let (known-news', same') = is'.fired_before e in
        (known-news' ∙ sym known-news, same' ∙ sym same)
    go false e =
        let (fresh-news, bytes) = is.fires_now e in
        let (fresh-news', bytes') = is'.fires_now e in
        (fresh-news' ∙ sym fresh-news, bytes' small ∙ sym (bytes small))

-- what meets `Keeps`, of a delivery that is not refused, is what Deliver answers and leaves
pub keeps_exact : (digest : Bytes → Bytes) (book frame : Bytes) (news : Delivery) →
    (deliver_call digest book frame).answer ≡ accepted news → AreBytes book →
    AreBytes (deliver_call digest book frame).book →
    (news' : Delivery) (after : Bytes) → AreBytes after → Keeps digest book frame news' after →
    (news' ≡ news) × (after ≡ (deliver_call digest book frame).book)
keeps_exact digest book frame news accepts small bytes news' after bytes' is =
    go (leader_equivocates (decode book) frame) refl
  where
    tested : Accepts digest book frame
    tested = not_refused digest book frame news accepts

    left : Bytes
    left = (deliver_call digest book frame).book

    right : Keeps digest book frame news left
    right = deliver_keeps digest book frame news accepts

    never : leader_equivocates (decode book) frame ≡ false → Equivocation (decode book) frame → ⊥
    never single is = true≢false (sym (passes_test digest book frame is) ∙ single)

    go : (b : Bool) → leader_equivocates (decode book) frame ≡ b → (news' ≡ news) × (after ≡ left)
    go true e =
        let equivocates = equivocation digest book frame tested e in
        same_firing book news news' left after small (right.equivocation equivocates) (is.equivocation equivocates)
    go false e =
        let keeps = right.statement (never e) in
        let keeps' = is.statement (never e) in (
          same_news digest book frame tested news' news after left keeps' keeps small bytes' bytes,
          same_after digest book frame tested news' news after left keeps' keeps small bytes' bytes,
        )
