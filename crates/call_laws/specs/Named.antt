-- The frames that an answer of Move or Fetch names, over the state before the call, and what they say.
use Rattle.std.specs.Prelude.{ℕ, true, false, cond, List, [], ◌∷◌}
use Rattle.protocol.specs.Bytes.{Bytes}
use Rattle.protocol.specs.Frame.{proposal, block_vote, dummy_vote, finalize, is_block_certificate, is_dummy_certificate}
use Rattle.protocol.specs.State.{State, at}
use Rattle.protocol.specs.Move.{some_or, parent_below, proposed_block}
use Rattle.protocol.specs.Certificates.{certificate_frame}
use Rattle.protocol.specs.Answer.{Answer, refused, accepted, Done, Move, idle, vote_dummy, output, pass, propose}
use Rattle.protocol.specs.Answer.{vote_block, certificate_kind}
use Rattle.call_laws.specs.Fields.{Fields, proposal_fields, block_vote_fields, dummy_vote_fields, finalize_fields}
use Rattle.call_laws.specs.Fields.{block_certificate_fields, dummy_certificate_fields, finalize_certificate_fields}

-- what the certificate of kind 5, 6 or 7 of a height says
unfoldable pub certificate_fields : State → ℕ → ℕ → Fields
certificate_fields s k h =
    cond (is_block_certificate k) (block_certificate_fields h (at s h).certificate_mask (at s h).notarized)
    (cond (is_dummy_certificate k) (dummy_certificate_fields h (at s h).dummy_mask)
    (finalize_certificate_fields h (at s h).finalize_mask))

-- ---- Move

module _ (digest : Bytes → Bytes) where
  -- the block that a proposal carries: on the best chain below the current height
  unfoldable pub offered_block : State → Bytes
  offered_block s = proposed_block digest s (some_or 0 (parent_below digest s))

  unfoldable pub move_frames : State → Move → List Bytes
  move_frames s idle = []
  move_frames s (vote_dummy h) = dummy_vote s.own h ∷ []
  move_frames s (output g) = []
  move_frames s (pass h certificate true) = certificate_frame s (certificate_kind certificate) h ∷ finalize s.own h ∷ []
  move_frames s (pass h certificate false) = certificate_frame s (certificate_kind certificate) h ∷ []
  move_frames s (propose h) = proposal s.own h (offered_block s) ∷ []
  move_frames s (vote_block h) = block_vote s.own h (digest (at s h).proposal) ∷ []

  unfoldable pub move_fields : State → Move → List Fields
  move_fields s idle = []
  move_fields s (vote_dummy h) = dummy_vote_fields s.own h ∷ []
  move_fields s (output g) = []
  move_fields s (pass h certificate true) =
      certificate_fields s (certificate_kind certificate) h ∷ finalize_fields s.own h ∷ []
  move_fields s (pass h certificate false) = certificate_fields s (certificate_kind certificate) h ∷ []
  move_fields s (propose h) = proposal_fields s.own h (offered_block s) ∷ []
  move_fields s (vote_block h) = block_vote_fields s.own h (digest (at s h).proposal) ∷ []

  -- a refused move names no frame
  unfoldable pub move_answer_frames : State → Answer Move → List Bytes
  move_answer_frames s (refused number) = []
  move_answer_frames s (accepted move) = move_frames s move

  unfoldable pub move_answer_fields : State → Answer Move → List Fields
  move_answer_fields s (refused number) = []
  move_answer_fields s (accepted move) = move_fields s move

-- ---- Fetch
unfoldable pub fetch_answer_frames : State → ℕ → ℕ → Answer Done → List Bytes
fetch_answer_frames s k h (refused number) = []
fetch_answer_frames s k h (accepted answer) = certificate_frame s k h ∷ []

unfoldable pub fetch_answer_fields : State → ℕ → ℕ → Answer Done → List Fields
fetch_answer_fields s k h (refused number) = []
fetch_answer_fields s k h (accepted answer) = certificate_fields s k h ∷ []
