-- Move and Fetch, refused or not: the frames that they write are those that their answers name, are read, and stand in
-- the reply.
use Rattle.std.specs.Prelude.{ℕ, ◌+◌, ◌*◌, ◌≤◌, ◌≡◌, Bool, not, [], ◌∷◌, eqb}
use native.Mathlib.Omega.{arith}
use Rattle.std.proofs.Math.Path.{refl}
use Rattle.std.proofs.Math.Bool.{true, false, cond}
use Rattle.std.proofs.Math.Option.{Option, some, none}
use Rattle.std.proofs.Math.ListN.{length}
use Rattle.protocol.specs.SoundState.{SoundState}
use Rattle.protocol.specs.Bytes.{Bytes}
use Rattle.protocol.specs.Tests.{first_refusal}
use Rattle.protocol.specs.Frame.{finalize, block_certificate, dummy_certificate, finalize_certificate}
use Rattle.protocol.specs.State.{State, at, decode, flag, is_notarized}
use Rattle.protocol.specs.View.{linked, quorum, is_dummy}
use Rattle.protocol.specs.Sound.{view}
use Rattle.protocol.specs.Answer.{pass, on_block, on_dummy, certificate_kind}
use Rattle.protocol.specs.Move.{Step, unused, written, moved, unless_move_refused, passes_by, step, dummy_vote_step}
use Rattle.protocol.specs.Move.{output_step, pass_step, propose_step, block_vote_step, idle_step, move_rows, move_call}
use Rattle.protocol.specs.Fetch.{has_certificate, unless_fetch_refused, fetch_rows, fetch_call}
use Rattle.protocol.specs.Certificates.{certificate_frame}
use Rattle.protocol.proofs.Laws.TestedLaws.{MoveTested, move_tested}
use Rattle.protocol.proofs.Laws.SoundLaws.{sound_decode}
use Rattle.call_laws.specs.Fields.{block_certificate_fields, dummy_certificate_fields, finalize_certificate_fields}
use Rattle.call_laws.specs.Readable.{Said, SameSetting, DigestSized}
use Rattle.call_laws.specs.Named.{offered_block, move_frames, move_answer_frames, move_answer_fields, certificate_fields}
use Rattle.call_laws.specs.Named.{fetch_answer_frames, fetch_answer_fields}
use Rattle.call_laws.specs.Reply.{Wrote, blank_after}
use Rattle.call_laws.proofs.Laws.ReplyLaws.{front_wrote, one_wrote, nothing_wrote}
use Rattle.call_laws.proofs.Laws.ReadLaws.{Written, said_none, said_more}
use Rattle.protocol.proofs.Laws.MoveLaws.{step_cases}
use Rattle.protocol.proofs.Laws.FetchLaws.{Fetches, fetch_tested}
use Rattle.call_laws.proofs.Laws.WrittenReadLaws.{step_said, block_certificate_lem, dummy_certificate_lem}
use Rattle.call_laws.proofs.Laws.WrittenReadLaws.{finalize_certificate_lem}
use Rattle.call_laws.specs.WrittenRead.{MoveWritten, FetchWritten}

pub same_setting : (s : State) → SameSetting s s
same_setting s = record { same_n = refl; same_weights = refl; same_last = refl; same_leaders = λ h low high. refl }

module _ (digest : Bytes → Bytes) (s : State) where
  -- ---- the frames of a step, by its name
  abbrev Named : Step → Type 0
  Named st = st.frames ≡ move_frames digest s st.move

  pass_named : Named (pass_step digest s)
  unfolding pass_step
  pass_named = go (linked digest (view s) s.current) (not (flag 1 s))
    where
      go : (l inTime : Bool) →
          (certificate_frame s (certificate_kind (cond l on_block on_dummy)) s.current ∷
          cond inTime (finalize s.own s.current ∷ []) []) ≡ move_frames digest s
          (pass s.current (cond l on_block on_dummy) inTime)
      go true true = unfold move_frames in refl
      go true false = unfold move_frames in refl
      go false true = unfold move_frames in refl
      go false false = unfold move_frames in refl

  step_named : Named (step digest s)
  unfolding move_frames dummy_vote_step output_step propose_step block_vote_step idle_step offered_block
  step_named = step_cases digest s Named
      (λ _. refl) (λ _ _. refl) (λ _ _ _. pass_named) (λ _ _ _ _. refl) (λ _ _ _ _ _. refl) (λ _ _ _ _ _. refl)

  -- ---- a step writes at most 448 bytes
  abbrev Fits : Step → Type 0
  Fits st = 224 * length st.frames + unused st.move ≤ 448

  pass_fits : Fits (pass_step digest s)
  unfolding pass_step
  pass_fits = go (not (flag 1 s))
    where
      go : (inTime : Bool) → 224 * length (certificate_frame s (certificate_kind (passes_by digest s)) s.current ∷ cond
          inTime (finalize s.own s.current ∷ []) []) +
          unused (pass s.current (passes_by digest s) inTime) ≤ 448
      go true = unfold unused in omega arith
      go false = unfold unused in omega arith

  step_fits : Fits (step digest s)
  unfolding unused dummy_vote_step output_step propose_step block_vote_step idle_step
  step_fits = step_cases digest s Fits
      (λ _. omega arith) (λ _ _. omega arith) (λ _ _ _. pass_fits) (λ _ _ _ _. omega arith) (λ _ _ _ _ _. omega arith)
      (λ _ _ _ _ _. omega arith)

-- ---- Move
module _ (digest : Bytes → Bytes) (book reply : Bytes) where
  abbrev state : State
  state = decode book

  pub move_named : (move_call digest book reply).frames ≡ move_answer_frames digest state
      (move_call digest book reply).answer
  unfolding move_call
  move_named = go (first_refusal (move_rows digest book reply))
    where
      go : (r : Option ℕ) → (unless_move_refused r book reply (step digest state)).frames ≡ move_answer_frames digest state
          (unless_move_refused r book reply (step digest state)).answer
      go none = unfold unless_move_refused moved move_answer_frames in step_named digest state
      go (some number) = unfold unless_move_refused move_answer_frames in refl

  module _ (sized : DigestSized digest) where
    pub move_said : (t : State) → SameSetting state t →
        Said t (move_answer_fields digest state (move_call digest book reply).answer) (move_call digest book reply).frames
    unfolding move_call
    move_said t same = go (first_refusal (move_rows digest book reply)) (move_tested digest book reply)
      where
        go : (r : Option ℕ) → (r ≡ none → MoveTested digest book reply) →
            Said t (move_answer_fields digest state (unless_move_refused r book reply (step digest state)).answer)
            (unless_move_refused r book reply (step digest state)).frames
        go none facts = unfold unless_move_refused moved move_answer_fields in
            step_said digest state (sound_decode digest book (facts refl).was_sound) t same sized
        go (some number) facts = unfold unless_move_refused move_answer_fields in said_none t

    pub move_wrote : Wrote (move_call digest book reply).frames (blank_after (move_call digest book reply).answer) reply
        (move_call digest book reply).reply
    unfolding move_call
    move_wrote = go (first_refusal (move_rows digest book reply)) (move_tested digest book reply)
      where
        go : (r : Option ℕ) → (r ≡ none → MoveTested digest book reply) →
            Wrote (unless_move_refused r book reply (step digest state)).frames
            (blank_after (unless_move_refused r book reply (step digest state)).answer) reply
            (unless_move_refused r book reply (step digest state)).reply
        go none facts = unfold unless_move_refused moved blank_after written in
            front_wrote (step digest state).frames
            (step_said digest state (sound_decode digest book (facts refl).was_sound) state (same_setting state) sized
            ).sized
            (unused (step digest state).move) reply (omega (arith, step_fits digest state, (facts refl).room))
        go (some number) facts = unfold unless_move_refused blank_after in nothing_wrote reply

-- ---- Fetch
module _ (digest : Bytes → Bytes) (book : Bytes) (k h : ℕ) (reply : Bytes) where
  pub fetch_named : (fetch_call digest book k h reply).frames ≡ fetch_answer_frames (decode book) k h
      (fetch_call digest book k h reply).answer
  unfolding fetch_call
  fetch_named = go (first_refusal (fetch_rows digest book k h reply))
    where
      go : (r : Option ℕ) → (unless_fetch_refused r (certificate_frame (decode book) k h) reply).frames ≡ fetch_answer_frames
          (decode book) k h (unless_fetch_refused r (certificate_frame (decode book) k h) reply).answer
      go none = unfold unless_fetch_refused fetch_answer_frames in refl
      go (some number) = unfold unless_fetch_refused fetch_answer_frames in refl

  certificate_said : (t : State) → SameSetting (decode book) t → Fetches digest book k h reply →
      Written t (certificate_fields (decode book) k h) (certificate_frame (decode book) k h)
  unfolding certificate_fields certificate_frame has_certificate
  certificate_said t same facts = go (eqb k 5) (eqb k 6) facts.gives.has
    where
      is : SoundState digest (decode book)
      is = sound_decode digest book facts.was_sound

      go : (five six : Bool) → cond five (is_notarized (at (decode book) h))
          (cond six (quorum (view (decode book)) (at (decode book) h).dummy_mask)
          (quorum (view (decode book)) (at (decode book) h).finalize_mask)) ≡ true →
          Written t
          (cond five (block_certificate_fields h (at (decode book) h).certificate_mask (at (decode book) h).notarized)
          (cond six (dummy_certificate_fields h (at (decode book) h).dummy_mask)
          (finalize_certificate_fields h (at (decode book) h).finalize_mask)))
          (cond five (block_certificate h (at (decode book) h).certificate_mask (at (decode book) h).notarized)
          (cond six (dummy_certificate h (at (decode book) h).dummy_mask)
          (finalize_certificate h (at (decode book) h).finalize_mask)))
      go true six e = block_certificate_lem digest (decode book) is t same h facts.gives.low facts.gives.high e
      go false true e = dummy_certificate_lem digest (decode book) is t same h facts.gives.low facts.gives.high
          (unfold is_dummy view in e)
      go false false e = finalize_certificate_lem digest (decode book) is t same h facts.gives.low facts.gives.high
          e

  pub fetch_said : (t : State) → SameSetting (decode book) t →
      Said t (fetch_answer_fields (decode book) k h (fetch_call digest book k h reply).answer)
      (fetch_call digest book k h reply).frames
  unfolding fetch_call
  fetch_said t same = go (first_refusal (fetch_rows digest book k h reply)) (fetch_tested digest book k h reply)
    where
      go : (r : Option ℕ) → (r ≡ none → Fetches digest book k h reply) →
          Said t (fetch_answer_fields (decode book) k h
          (unless_fetch_refused r (certificate_frame (decode book) k h) reply).answer)
          (unless_fetch_refused r (certificate_frame (decode book) k h) reply).frames
      go none facts = unfold unless_fetch_refused fetch_answer_fields in
          said_more (certificate_said t same (facts refl)) (said_none t)
      go (some number) facts = unfold unless_fetch_refused fetch_answer_fields in said_none t

  pub fetch_wrote : Wrote (fetch_call digest book k h reply).frames 0 reply (fetch_call digest book k h reply).reply
  unfolding fetch_call
  fetch_wrote = go (first_refusal (fetch_rows digest book k h reply)) (fetch_tested digest book k h reply)
    where
      go : (r : Option ℕ) → (r ≡ none → Fetches digest book k h reply) →
          Wrote (unless_fetch_refused r (certificate_frame (decode book) k h) reply).frames 0 reply
          (unless_fetch_refused r (certificate_frame (decode book) k h) reply).reply
      go none facts = unfold unless_fetch_refused in
          one_wrote (certificate_frame (decode book) k h) reply
          (certificate_said (decode book) (same_setting (decode book)) (facts refl)).size (facts refl).room
      go (some number) facts = unfold unless_fetch_refused in nothing_wrote reply

-- ---- what is written is read
pub move_written_read : (digest : Bytes → Bytes) → DigestSized digest →
    (book reply other : Bytes) → SameSetting (decode book) (decode other) → MoveWritten digest book reply other
move_written_read digest sized book reply other same = record {
  named = move_named digest book reply;
  said = move_said digest book reply sized (decode other) same;
  wrote = move_wrote digest book reply sized;
}

-- nothing is asked of the digest function
pub fetch_written_read : (digest : Bytes → Bytes) (book : Bytes) (k h : ℕ) (reply other : Bytes) →
    SameSetting (decode book) (decode other) → FetchWritten digest book k h reply other
fetch_written_read digest book k h reply other same = record {
  named = fetch_named digest book k h reply;
  said = fetch_said digest book k h reply (decode other) same;
  wrote = fetch_wrote digest book k h reply;
}
