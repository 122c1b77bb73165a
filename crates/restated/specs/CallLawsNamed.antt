-- Written by tests/restated --write: what docs/statements has of
-- crates/call_laws/specs/Named.antt.
use Rattle.std.specs.Prelude.{ℕ, true, false, cond, List, [], ◌∷◌}
use package.Rattle.protocol.specs.Bytes.{Bytes}
use package.Rattle.protocol.specs.Frame.{proposal, block_vote, dummy_vote, finalize, is_block_certificate, is_dummy_certificate}
use package.Rattle.protocol.specs.State.{State, at}
use package.Rattle.protocol.specs.Move.{some_or, parent_below, proposed_block}
use package.Rattle.protocol.specs.Certificates.{certificate_frame}
use package.Rattle.protocol.specs.Answer.{Answer, refused, accepted, Done, Move, idle, vote_dummy, output, pass, propose}
use package.Rattle.protocol.specs.Answer.{vote_block, certificate_kind}
use package.Rattle.call_laws.specs.Fields.{Fields, proposal_fields, block_vote_fields, dummy_vote_fields, finalize_fields}
use package.Rattle.call_laws.specs.Fields.{block_certificate_fields, dummy_certificate_fields, finalize_certificate_fields}
use package.Rattle.call_laws.specs.Named.{certificate_fields}
use mathlib.Core.Path.{◌≡◌ as ◌is-kept◌, refl as by-text}
use package.Rattle.call_laws.specs.Named as page

certificate_fields-kept : State → ℕ → ℕ → Fields
certificate_fields-kept s k h =
    cond (is_block_certificate k) (block_certificate_fields h (at s h).certificate_mask (at s h).notarized)
    (cond (is_dummy_certificate k) (dummy_certificate_fields h (at s h).dummy_mask)
    (finalize_certificate_fields h (at s h).finalize_mask))

same-certificate_fields : certificate_fields-kept is-kept page.certificate_fields
unfolding certificate_fields-kept page.certificate_fields
same-certificate_fields = by-text

fetch_answer_frames-kept : State → ℕ → ℕ → Answer Done → List Bytes
fetch_answer_frames-kept s k h (refused number) = []
fetch_answer_frames-kept s k h (accepted answer) = certificate_frame s k h ∷ []

same-fetch_answer_frames : fetch_answer_frames-kept is-kept page.fetch_answer_frames
unfolding fetch_answer_frames-kept page.fetch_answer_frames
same-fetch_answer_frames = by-text

fetch_answer_fields-kept : State → ℕ → ℕ → Answer Done → List Fields
fetch_answer_fields-kept s k h (refused number) = []
fetch_answer_fields-kept s k h (accepted answer) = certificate_fields s k h ∷ []

same-fetch_answer_fields : fetch_answer_fields-kept is-kept page.fetch_answer_fields
unfolding fetch_answer_fields-kept page.fetch_answer_fields
same-fetch_answer_fields = by-text

module _ (digest : Bytes → Bytes) where
  abbrev offered_block : State → Bytes
  offered_block = page.offered_block digest

  abbrev move_frames : State → Move → List Bytes
  move_frames = page.move_frames digest

  abbrev move_fields : State → Move → List Fields
  move_fields = page.move_fields digest

  offered_block-kept : State → Bytes
  offered_block-kept s = proposed_block digest s (some_or 0 (parent_below digest s))

  same-offered_block : offered_block-kept is-kept page.offered_block digest
  unfolding offered_block-kept page.offered_block
  same-offered_block = by-text

  move_frames-kept : State → Move → List Bytes
  move_frames-kept s idle = []
  move_frames-kept s (vote_dummy h) = dummy_vote s.own h ∷ []
  move_frames-kept s (output g) = []
  move_frames-kept s (pass h certificate true) = certificate_frame s (certificate_kind certificate) h ∷ finalize s.own h ∷ []
  move_frames-kept s (pass h certificate false) = certificate_frame s (certificate_kind certificate) h ∷ []
  move_frames-kept s (propose h) = proposal s.own h (offered_block s) ∷ []
  move_frames-kept s (vote_block h) = block_vote s.own h (digest (at s h).proposal) ∷ []

  same-move_frames : move_frames-kept is-kept page.move_frames digest
  unfolding move_frames-kept page.move_frames
  same-move_frames = by-text

  move_fields-kept : State → Move → List Fields
  move_fields-kept s idle = []
  move_fields-kept s (vote_dummy h) = dummy_vote_fields s.own h ∷ []
  move_fields-kept s (output g) = []
  move_fields-kept s (pass h certificate true) =
      certificate_fields s (certificate_kind certificate) h ∷ finalize_fields s.own h ∷ []
  move_fields-kept s (pass h certificate false) = certificate_fields s (certificate_kind certificate) h ∷ []
  move_fields-kept s (propose h) = proposal_fields s.own h (offered_block s) ∷ []
  move_fields-kept s (vote_block h) = block_vote_fields s.own h (digest (at s h).proposal) ∷ []

  same-move_fields : move_fields-kept is-kept page.move_fields digest
  unfolding move_fields-kept page.move_fields
  same-move_fields = by-text

  move_answer_frames-kept : State → Answer Move → List Bytes
  move_answer_frames-kept s (refused number) = []
  move_answer_frames-kept s (accepted move) = move_frames s move

  same-move_answer_frames : move_answer_frames-kept is-kept page.move_answer_frames digest
  unfolding move_answer_frames-kept page.move_answer_frames
  same-move_answer_frames = by-text

  move_answer_fields-kept : State → Answer Move → List Fields
  move_answer_fields-kept s (refused number) = []
  move_answer_fields-kept s (accepted move) = move_fields s move

  same-move_answer_fields : move_answer_fields-kept is-kept page.move_answer_fields digest
  unfolding move_answer_fields-kept page.move_answer_fields
  same-move_answer_fields = by-text
