-- Each frame that Move or Fetch writes is read over a state of the same replicas, heights and leaders.
use Rattle.std.specs.Prelude.{ℕ, ◌-◌, ◌^◌, ◌≤◌, ◌<◌, ◌≡◌, Bool, ◌&&◌, ◌||◌, not, cond, [], ◌∷◌}
use Rattle.std.proofs.Common.{arith, ◌∙◌}
use Rattle.std.proofs.Math.Path.{refl, sym}
use Rattle.std.proofs.Math.Bool.{true, false}
use Rattle.std.proofs.lemmas.Bool.{false≢true}
use Rattle.std.proofs.Math.Option.{Option, some, none}
use borrow.Author.Tests.{lt-ltb, leb-true}
use Rattle.protocol.specs.SoundState.{SoundHeight, SoundState}
use Rattle.protocol.specs.Every.{none}
use Rattle.protocol.specs.Bytes.{Bytes}
use Rattle.protocol.specs.Mask.{below_bit}
use Rattle.protocol.specs.Block.{block_well_formed}
use Rattle.protocol.specs.Frame.{finalize, block_certificate, dummy_certificate, finalize_certificate}
use Rattle.protocol.specs.State.{State, at, last, flag, is_notarized}
use Rattle.protocol.specs.View.{View, quorum, is_dummy, linked, digest_at}
use Rattle.protocol.specs.Sound.{view}
use Rattle.protocol.specs.Answer.{pass, on_block, on_dummy, certificate_kind}
use Rattle.protocol.specs.Move.{Step, is_running, is_some, some_or, parent_below, offered, proposed_block, passes_by, step}
use Rattle.protocol.specs.Move.{dummy_vote_applies, dummy_vote_step, output_step, pass_applies, pass_step, propose_applies}
use Rattle.protocol.specs.Move.{propose_step, block_vote_applies, block_vote_step, idle_step, passes_at}
use Rattle.protocol.specs.Certificates.{certificate_frame}
use Rattle.protocol.specs.Linked.{Linked, start, link}
use Rattle.protocol.proofs.Laws.LinkedLaws.{linked_sound}
use Rattle.protocol.proofs.Laws.ParentLaws.{parent_some}
use Rattle.protocol.proofs.Laws.TestsLaws.{and_both}
use Rattle.protocol.proofs.Laws.BlockLaws.{new_block_good}
use Rattle.protocol.proofs.Laws.ViewLaws.{digest_at_size, digest_at_start}
use Rattle.protocol.proofs.Laws.PendingLaws.{offered_few, offered_sized}
use Rattle.call_laws.specs.Fields.{block_certificate_fields, dummy_certificate_fields, finalize_certificate_fields}
use Rattle.call_laws.specs.Readable.{Said, SameSetting, DigestSized}
use Rattle.call_laws.specs.Named.{offered_block, move_fields, certificate_fields}
use Rattle.call_laws.proofs.Laws.ReadLaws.{Written, said_none, said_more, proposal_read, block_vote_read}
use Rattle.call_laws.proofs.Laws.ReadLaws.{dummy_vote_read, finalize_read, block_certificate_read}
use Rattle.call_laws.proofs.Laws.ReadLaws.{dummy_certificate_read, finalize_certificate_read}
use Rattle.call_laws.proofs.Laws.GrowsLaws.{same_quorum, views_alike}
use Rattle.protocol.proofs.Laws.MoveLaws.{step_cases, dummy_vote_rows, propose_rows, block_vote_rows}

-- a linked height from 1 on has a block
has_block_lem : {digest : Bytes → Bytes} {v : View} {h : ℕ} → Linked digest v h → 1 ≤ h → v.has_block h ≡ true
has_block_lem start low = absurd (omega arith)
has_block_lem (link has parent on) low = has

module _ (digest : Bytes → Bytes) (s : State) (is : SoundState digest s) (t : State) (same : SameSetting s t) where
  abbrev c : ℕ
  c = s.current

  own_small : s.own < t.n
  own_small = rw same.same_n is.own_below

  mask_small : (mask : ℕ) → mask < 2 ^ (view s).n → below_bit t.n mask ≡ true
  unfolding below_bit view
  mask_small mask small = rw same.same_n (lt-ltb mask (2 ^ s.n) small)

  as_many : (mask : ℕ) → quorum (view s) mask ≡ true → quorum (view t) mask ≡ true
  as_many mask e = same_quorum (view s) (view t) mask (views_alike s t same.same_n same.same_weights) e

  -- ---- certificates of a height
  module _ (h : ℕ) (low : 1 ≤ h) (high : h ≤ last s) where
    abbrev facts : SoundHeight (view s) h (at s h)
    facts = is.each h low high

    also_high : h ≤ last t
    also_high = rw same.same_last high

    pub block_certificate_lem : is_notarized (at s h) ≡ true →
        Written t (block_certificate_fields h (at s h).certificate_mask (at s h).notarized)
        (block_certificate h (at s h).certificate_mask (at s h).notarized)
    block_certificate_lem has =
        block_certificate_read t h low also_high (at s h).certificate_mask
        (mask_small (at s h).certificate_mask facts.certificate_below)
        (as_many (at s h).certificate_mask (facts.certified has)) (at s h).notarized (facts.notarized_formed has)

    pub dummy_certificate_lem : is_dummy (view s) h ≡ true →
        Written t (dummy_certificate_fields h (at s h).dummy_mask) (dummy_certificate h (at s h).dummy_mask)
    unfolding is_dummy view
    dummy_certificate_lem enough =
        dummy_certificate_read t h low also_high (at s h).dummy_mask
        (mask_small (at s h).dummy_mask facts.dummy_below)
        (as_many (at s h).dummy_mask enough)

    pub finalize_certificate_lem : quorum (view s) (at s h).finalize_mask ≡ true →
        Written t (finalize_certificate_fields h (at s h).finalize_mask) (finalize_certificate h (at s h).finalize_mask)
    finalize_certificate_lem enough =
        finalize_certificate_read t h low also_high (at s h).finalize_mask
        (mask_small (at s h).finalize_mask facts.finalize_below)
        (as_many (at s h).finalize_mask enough)

  -- ---- the moves
  abbrev Good : Step → Type 0
  Good st = Said t (move_fields digest s st.move) st.frames

  runs : is_running s ≡ true → c ≤ last s
  unfolding is_running
  runs e = leb-true _ _ e

  dummy_vote_lem : dummy_vote_applies s ≡ true → Good (dummy_vote_step s)
  unfolding dummy_vote_step move_fields
  dummy_vote_lem e =
      let high : c ≤ last s = runs (dummy_vote_rows s e).running in
      said_more (dummy_vote_read t c is.current_low (also_high c is.current_low high)
      s.own own_small) (said_none t)

  output_good : Good (output_step digest s)
  unfolding output_step move_fields
  output_good = said_none t

  -- the certificate of a pass, with whether the current height is linked
  certificate : (l : Bool) → linked digest (view s) c ≡ l → c ≤ last s →
      (l || is_dummy (view s) c && is_some (parent_below digest s)) ≡ true →
      Written t (certificate_fields s (certificate_kind (cond l on_block on_dummy)) c)
      (certificate_frame s (certificate_kind (cond l on_block on_dummy)) c)
  unfolding certificate_fields certificate_frame certificate_kind view
  certificate true e high reason = block_certificate_lem c is.current_low high
      (has_block_lem (linked_sound digest (view s) c e) is.current_low)
  certificate false e high reason = dummy_certificate_lem c is.current_low high (and_both _ _ reason).0

  pass_good : pass_applies digest s ≡ true → Good (pass_step digest s)
  unfolding pass_applies pass_step
  pass_good e = go (not (flag 1 s))
    where
      both : (is_running s ≡ true) × (passes_at digest (view s) c ≡ true)
      both = and_both _ _ e

      go : (inTime : Bool) → Said t (move_fields digest s (pass c (passes_by digest s) inTime))
          (certificate_frame s (certificate_kind (passes_by digest s)) c ∷
          cond inTime (finalize s.own c ∷ []) [])
      go true = unfold move_fields in
          said_more (certificate (linked digest (view s) c) refl (runs both.0) both.1)
          (said_more (finalize_read t c is.current_low (also_high c is.current_low (runs both.0))
          s.own own_small) (said_none t))
      go false = unfold move_fields in said_more (certificate (linked digest (view s) c) refl (runs both.0) both.1)
          (said_none t)

  -- ---- statements with a digest
  module _ (sized : DigestSized digest) where
    below_current : (j : ℕ) → parent_below digest s ≡ some j → j < c
    below_current j p = let chain = (parent_some digest (view s) (c - 1) j p).0 in
        omega (arith, is.current_low, chain.within)

    proposed_good : (parent : Option ℕ) → parent_below digest s ≡ parent → is_some parent ≡ true →
        block_well_formed c (proposed_block digest s (some_or 0 parent)) ≡ true
    unfolding is_some some_or proposed_block
    proposed_good none p e = absurd (false≢true e)
    proposed_good (some j) p e = new_block_good c j (digest_at digest (view s) j) (offered s j) (below_current j p)
        (digest_at_size digest (view s) sized j) (digest_at_start digest (view s) j) (offered_few s j)
        (offered_sized digest s is j)

    propose_good : propose_applies digest s ≡ true → Good (propose_step digest s)
    unfolding propose_step move_fields offered_block
    propose_good e =
        let rows = propose_rows digest s e in
        let high : c ≤ last s = runs rows.running in
        said_more
        (proposal_read t c is.current_low (also_high c is.current_low high)
        s.own own_small
        (proposed_block digest s (some_or 0 (parent_below digest s)))
        (proposed_good (parent_below digest s) refl rows.has_parent)
        (sym rows.leads ∙ sym (same.same_leaders c is.current_low high)))
        (said_none t)

    block_vote_lem : block_vote_applies digest s ≡ true → Good (block_vote_step digest s)
    unfolding block_vote_step move_fields
    block_vote_lem e =
        let high : c ≤ last s = runs (block_vote_rows digest s e).running in
        said_more (block_vote_read t c is.current_low (also_high c is.current_low high)
        s.own own_small (digest (at s c).proposal) (sized _))
        (said_none t)

    idle_good : Good (idle_step s)
    unfolding idle_step move_fields
    idle_good = said_none t

    pub step_said : Good (step digest s)
    step_said = step_cases digest s Good
        dummy_vote_lem (λ _ _. output_good) (λ _ _. pass_good) (λ _ _ _. propose_good) (λ _ _ _ _. block_vote_lem)
        (λ _ _ _ _ _. idle_good)
