-- What a move states is consistent with what was stated before.
use Prim.Native.Nat.{ℕ, suc, ◌+◌, ◌-◌, ◌*◌, ◌/◌, ◌%◌, ◌≤◌}
use native.Mathlib.Omega.{arith}
use Rattle.std.proofs.Common.{add-one, ◌∙◌, inl, inr}
use Rattle.std.specs.Prelude.{◌≡◌, refl, ◌⊎◌, Bool, not, cond, get_or, eqb}
use Rattle.std.proofs.Math.Path.{subst}
use Rattle.std.proofs.Math.Bool.{true, false}
use mathlib.Core.List.Memᴰ
use mathlib.Core.List.{List, [], ◌∷◌, Memᴰ}
use Rattle.std.proofs.Math.Option.{some}
use Rattle.protocol.specs.Bytes.{Bytes, le16, word16, zeros}
use Rattle.protocol.specs.Answer.{Certificate, certificate_kind}
use Rattle.protocol.specs.Certificates.{certificate_frame}
use Rattle.protocol.proofs.Laws.MoveLaws.{step_cases, dummy_vote_rows, propose_rows, block_vote_rows}
use Rattle.protocol.proofs.Laws.FlagLaws.{flag_set, flag_kept}
use Rattle.protocol.specs.Frame.{block_certificate, block_vote, dummy_certificate, dummy_vote, finalize}
use Rattle.protocol.specs.Frame.{finalize_certificate, frame_block, frame_digest, frame_height, frame_of, kind, proposal}
use Rattle.protocol.specs.Frame.{signer, signer_mask}
use Rattle.protocol.specs.Mask.{in_mask}
use Rattle.protocol.specs.Move.{Step, block_vote_applies, block_vote_step, dummy_vote_applies, dummy_vote_step, idle_step}
use Rattle.protocol.specs.Move.{output_step, passes_by, pass_step, propose_applies, propose_step, step}
use Rattle.protocol.specs.Sound.{view}
use Rattle.protocol.specs.State.{State, at, flag, no_height, with_head}
use Rattle.protocol.proofs.Laws.BytesLaws.{word16_le16}
use Rattle.protocol.proofs.Laws.TestsLaws.{cond-elim}
use Rattle.protocol.specs.View.{linked}
use Rattle.agreement.proofs.Laws.BackingLaws.{Backed}
use Rattle.agreement.specs.Lists.{Statement, finalizes, proposes, statement_of, votes_block, votes_dummy, when}
use Rattle.agreement.proofs.Laws.StatementsLaws.{Consistent, stated_block, stated_dummy, stated_finalize}
use Rattle.agreement.proofs.Laws.StatementsLaws.{stated_nothing}

when_some : {A : Type 0} (b : Bool) (a x : A) → when b a ≡ some x → (x ≡ a) × (b ≡ true)
unfolding when
when_some true a x e = (cc, refl)
when_some false a x e = let z : ◌≡◌ {A = ℕ} 0 1 = cc in absurd (omega arith)

-- ---- what the written frames say
module _ (digest : Bytes → Bytes) (o c s : ℕ) (st : Statement) where
  dummy_vote-says : statement_of digest (dummy_vote o c) s ≡ some st → st ≡ votes_dummy c
  unfolding statement_of dummy_vote frame_of kind signer frame_height word16 le16
  dummy_vote-says e = (when_some (eqb o s) (votes_dummy c) st (rw (word16_le16 c) at e)).0

  finalize_says : statement_of digest (finalize o c) s ≡ some st → st ≡ finalizes c
  unfolding statement_of finalize frame_of kind signer frame_height word16 le16
  finalize_says e = (when_some (eqb o s) (finalizes c) st (rw (word16_le16 c) at e)).0

  block_vote-says : (d : Bytes) → statement_of digest (block_vote o c d) s ≡ some st →
      st ≡ votes_block c (frame_digest (block_vote o c d))
  unfolding statement_of block_vote frame_of kind signer frame_height word16 le16
  block_vote-says d e = (when_some (eqb o s) (votes_block c (frame_digest (block_vote o c d))) st (rw (word16_le16 c) at e)
      ).0

  proposal_says : (p : Bytes) → statement_of digest (proposal o c p) s ≡ some st →
      (h : ℕ) × (q : Bytes) × (st ≡ proposes h q)
  unfolding statement_of proposal frame_of kind signer frame_height word16 le16
  proposal_says p e = (
    c,
    frame_block (proposal o c p),
    (when_some (eqb o s) (proposes c (frame_block (proposal o c p))) st (rw (word16_le16 c) at e)).0,
  )

  pub block_certificate-says : (m : ℕ) (p : Bytes) → statement_of digest (block_certificate c m p) s ≡ some st →
      (st ≡ votes_block c (digest p)) × (in_mask m s ≡ true)
  unfolding statement_of block_certificate frame_of kind signer frame_height signer_mask word16 le16 zeros frame_block
  block_certificate-says m p e =
      let q = when_some (in_mask (m % 256 + 256 * (m / 256)) s) (votes_block c (digest p)) st (rw (word16_le16 c) at e) in
      (q.0, rw (word16_le16 m) at q.1)

  pub dummy_certificate-says : (m : ℕ) → statement_of digest (dummy_certificate c m) s ≡ some st →
      (st ≡ votes_dummy c) × (in_mask m s ≡ true)
  unfolding statement_of dummy_certificate frame_of kind signer frame_height signer_mask word16 le16 zeros
  dummy_certificate-says m e =
      let q = when_some (in_mask (m % 256 + 256 * (m / 256)) s) (votes_dummy c) st (rw (word16_le16 c) at e) in
      (q.0, rw (word16_le16 m) at q.1)

  pub finalize_certificate-says : (m : ℕ) → statement_of digest (finalize_certificate c m) s ≡ some st →
      (st ≡ finalizes c) × (in_mask m s ≡ true)
  unfolding statement_of finalize_certificate frame_of kind signer frame_height signer_mask word16 le16 zeros
  finalize_certificate-says m e =
      let q = when_some (in_mask (m % 256 + 256 * (m / 256)) s) (finalizes c) st (rw (word16_le16 c) at e) in
      (q.0, rw (word16_le16 m) at q.1)

module _ (digest : Bytes → Bytes) (U : ℕ → Statement → Type 0) (U' : Statement → Type 0) (S : Bytes → Type 0) (s : ℕ)
    (b : State)
    (backed : (i : ℕ) → Backed digest U S (suc i) (get_or b.heights i no_height))
    (k : Consistent (U s) b.current (flag 1 b) (flag 4 b))
    (positive : 1 ≤ b.current) where
  abbrev c : ℕ
  c = b.current

  -- what is stated after a step that writes `fs`
  abbrev pub Adds : List Bytes → Type 0
  Adds fs = (t : Statement) → U' t → U s t ⊎ ((f : Bytes) × Memᴰ f fs × (statement_of digest f s ≡ some t))

  abbrev pub StepGood : Step → Type 0
  StepGood st = Adds st.frames → Consistent U' st.after.current (flag 1 st.after) (flag 4 st.after)

  -- a current height is backed under its own number
  backed_here : Backed digest U S c (at b c)
  unfolding at
  backed_here =
      subst (λ (h : ℕ). Backed digest U S h (get_or b.heights (c - 1) no_height))
      (let e : suc (c - 1) ≡ c = omega arith in e)
      (backed (c - 1))

  adds_none : Adds [] → (t : Statement) → U' t → U s t ⊎ ((h : ℕ) × (p : Bytes) × (t ≡ proposes h p))
  adds_none a t w = go (a t w)
    where
      go : U s t ⊎ ((f : Bytes) × Memᴰ f [] × (statement_of digest f s ≡ some t)) →
          U s t ⊎ ((h : ℕ) × (p : Bytes) × (t ≡ proposes h p))
      go (inl v) = inl v
      go (inr v) = absurd (Memᴰ.not-nil v.1)

  adds_one : (X : Statement → Type 0) (g : Bytes) → ((t : Statement) → statement_of digest g s ≡ some t → X t) →
      Adds (g ∷ []) →
      (t : Statement) → U' t → U s t ⊎ X t
  adds_one X g says a t w = go (a t w)
    where
      go : U s t ⊎ ((f : Bytes) × Memᴰ f (g ∷ []) × (statement_of digest f s ≡ some t)) → U s t ⊎ X t
      go (inl v) = inl v
      go (inr v) = let e = Memᴰ.eq_of_singleton v.1 in inr (says t (rw e at v.2))

  good_idle : StepGood (idle_step b)
  unfolding idle_step
  good_idle a = stated_nothing k (adds_none a) (λ e. e) (λ e. e)

  good_dummy : dummy_vote_applies b ≡ true → StepGood (dummy_vote_step b)
  unfolding dummy_vote_step with_head
  good_dummy e a =
      let new = adds_one (λ (t : Statement). t ≡ votes_dummy c) (dummy_vote b.own c)
      (dummy_vote-says digest b.own c s) a in
      let votes = dummy_vote_rows b e in
      let kept = flag_kept b c b.finalized 1 votes.not_yet in
      stated_dummy k new votes.fired (λ r. kept 0 (omega arith) ∙ r) (λ r. kept 2 (omega arith) ∙ r)

  good_output : StepGood (output_step digest b)
  unfolding output_step with_head flag
  good_output a = stated_nothing k (adds_none a) (λ e. e) (λ e. e)

  abbrev passed : Bytes
  passed = certificate_frame b (certificate_kind (passes_by digest b)) c

  -- a certificate states nothing new in its writer's name
  certificate_old : (t : Statement) → statement_of digest passed s ≡ some t → U s t
  unfolding certificate_frame certificate_kind
  certificate_old t =
      cond-elim (λ (by : Certificate). statement_of digest (certificate_frame b (certificate_kind by) c) s ≡ some t →
      U s t)
      (linked digest (view b) c)
      (λ l e. let q = block_certificate-says digest b.own c s t (at b c).certificate_mask (at b c).notarized e in
      rw q.0 (backed_here.shown.certifiers s q.1))
      (λ l e. let q = dummy_certificate-says digest b.own c s t (at b c).dummy_mask e in
      rw q.0 (backed_here.shown.dummies s q.1))

  good_pass : StepGood (pass_step digest b)
  unfolding pass_step with_head
  good_pass a = rw (add-one c) (stated_finalize k (λ t w. sort t (a t w)))
    where
      second : (t : Statement) (fired : Bool) {f : Bytes} → flag 1 b ≡ fired →
          Memᴰ f (cond (not fired) (finalize b.own c ∷ []) []) → statement_of digest f s ≡ some t →
          (t ≡ finalizes c) × (flag 1 b ≡ false)
      second t true e m r = absurd (Memᴰ.not-nil m)
      second t false e m r = let q = Memᴰ.eq_of_singleton m in (finalize_says digest b.own c s t (rw q at r), e)

      either : (t : Statement) {f : Bytes} →
          (f ≡ passed) ⊎ Memᴰ f (cond (not (flag 1 b)) (finalize b.own c ∷ []) []) →
          statement_of digest f s ≡ some t → U s t ⊎ ((t ≡ finalizes c) × (flag 1 b ≡ false))
      either t (inl q) r = inl (certificate_old t (rw q at r))
      either t (inr m) r = inr (second t (flag 1 b) refl m r)

      sort : (t : Statement) →
          U s t ⊎ ((f : Bytes) × Memᴰ f (passed ∷ cond (not (flag 1 b)) (finalize b.own c ∷ []) []) ×
          (statement_of digest f s ≡ some t)) →
          U s t ⊎ ((t ≡ finalizes c) × (flag 1 b ≡ false))
      sort t (inl u) = inl u
      sort t (inr u) = either t (Memᴰ.cases_cons u.1) u.2

  good_propose : propose_applies digest b ≡ true → StepGood (propose_step digest b)
  unfolding propose_step with_head
  good_propose e a =
      let X : Statement → Type 0 = λ (t : Statement). (h : ℕ) × (p : Bytes) × (t ≡ proposes h p) in
      let new = adds_one X _ (λ t r. proposal_says digest b.own c s t _ r) a in
      let kept = flag_kept b c b.finalized 3 (propose_rows digest b e).not_yet in
      stated_nothing k new (λ r. kept 0 (omega arith) ∙ r) (λ r. kept 2 (omega arith) ∙ r)

  good_block : block_vote_applies digest b ≡ true → StepGood (block_vote_step digest b)
  unfolding block_vote_step with_head
  good_block e a =
      let d : Bytes = digest (at b c).proposal in
      let vote : Bytes = block_vote b.own c d in
      let unset = (block_vote_rows digest b e).not_yet in
      let new = adds_one (λ (t : Statement). t ≡ votes_block c (frame_digest vote)) vote
      (λ t r. block_vote-says digest b.own c s t d r) a in
      stated_block k (frame_digest vote) new unset (flag_set b c b.finalized 2 unset)
      (λ r. flag_kept b c b.finalized 2 unset 0 (omega arith) ∙ r)

  pub step_good : StepGood (step digest b)
  step_good = step_cases digest b StepGood
      good_dummy (λ _ _. good_output) (λ _ _ _. good_pass) (λ _ _ _. good_propose) (λ _ _ _ _. good_block)
      (λ _ _ _ _ _. good_idle)
