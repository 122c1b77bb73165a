-- Written by tests/restated --write: what docs/statements has of
-- crates/protocol/proofs/Laws/DeliverLaws.antt.
use Rattle.std.specs.Prelude.{◌≡◌, ◌≢◌}
use Rattle.std.proofs.Math.Bool.{true, false}
use Rattle.std.proofs.Math.Option.{none}
use package.Rattle.protocol.specs.ReadFrame.{ReadFrame}
use package.Rattle.protocol.specs.Bytes.{Bytes}
use package.Rattle.protocol.specs.Tests.{first_refusal}
use package.Rattle.protocol.specs.Frame.{kind, signer, frame_height, frame_digest, frame_block}
use package.Rattle.protocol.specs.Mask.{in_mask}
use package.Rattle.protocol.specs.State.{State, at, decode, holds_proposal, is_notarized}
use package.Rattle.protocol.specs.State.{vote_of}
use package.Rattle.protocol.specs.Sound.{sound}
use package.Rattle.protocol.specs.Deliver.{read_rows}
use package.Rattle.protocol.specs.Deliver.{leader_equivocates}
use Prim.Native.Nat.{ℕ}
use Rattle.std.proofs.Math.Option.{some}
use package.Rattle.protocol.specs.State.{Height, encode, with_height}
use package.Rattle.protocol.specs.State.{flag, with_timer_fired}
use package.Rattle.protocol.specs.Answer.{Outcome, Delivery, refused, accepted, known, fresh}
use package.Rattle.protocol.specs.Deliver.{deliver_rows}
use package.Rattle.protocol.specs.Deliver.{keep, deliver_call}
use package.Rattle.protocol.specs.Deliver.{timer_fires}
use package.Rattle.protocol.proofs.Laws.DeliverLaws.{Equivocates, Agrees, Accepts}
use mathlib.Core.Path.{◌≡◌ as ◌is-kept◌, refl as by-text}
use package.Rattle.protocol.proofs.Laws.DeliverLaws as page

Equivocates-kept : (s : State) (frame : Bytes) (proposes : kind frame ≡ 1) (held : holds_proposal (at s (frame_height frame)) ≡ true) (unlike : (at s (frame_height frame)).proposal ≢ frame_block frame) (here : frame_height frame ≡ s.current) →
    Equivocates s frame
Equivocates-kept s frame x0 x1 x2 x3 = record { proposes = x0; held = x1; unlike = x2; here = x3 }

Agrees-kept : (s : State) (frame : Bytes) (proposal : kind frame ≡ 1 → holds_proposal (at s (frame_height frame)) ≡ true → leader_equivocates s frame ≡ false → (at s (frame_height frame)).proposal ≡ frame_block frame) (vote : kind frame ≡ 2 → in_mask (at s (frame_height frame)).voter_mask (signer frame) ≡ true → vote_of (at s (frame_height frame)) (signer frame) ≡ frame_digest frame) (block : kind frame ≡ 5 → is_notarized (at s (frame_height frame)) ≡ true → (at s (frame_height frame)).notarized ≡ frame_block frame) →
    Agrees s frame
Agrees-kept s frame x0 x1 x2 = record { proposal = x0; vote = x1; block = x2 }

Accepts-kept : (digest : Bytes → Bytes) (book frame : Bytes) (was_sound : sound digest book ≡ true) (passes : first_refusal (read_rows (decode book) frame) ≡ none) (read : ReadFrame (decode book) frame) (agrees : Agrees (decode book) frame) →
    Accepts digest book frame
Accepts-kept digest book frame x0 x1 x2 x3 = record { was_sound = x0; passes = x1; read = x2; agrees = x3 }

module _ (s : State) (frame : Bytes) where
  pub equivocates-kept : leader_equivocates s frame ≡ true → Equivocates s frame
  equivocates-kept = page.equivocates s frame

module _ (digest : Bytes → Bytes) (book frame : Bytes) where
  pub proposal_fires-kept : sound digest book ≡ true → first_refusal (read_rows (decode book) frame) ≡ none →
      Equivocates (decode book) frame → deliver_call digest book frame ≡ timer_fires book
  proposal_fires-kept = page.proposal_fires digest book frame

  pub deliver_cases-kept : (P : Outcome Delivery → Type 0) →
      ((number : ℕ) → first_refusal (deliver_rows digest book frame) ≡ some number →
      P (record { answer = refused number; book = book })) →
      (Accepts digest book frame → (leader_equivocates (decode book) frame ≡ true → flag 1 (decode book) ≡ true) →
      keep digest (decode book) frame ≡ none → P (record { answer = accepted known; book = book })) →
      ((y : Height) → Accepts digest book frame → leader_equivocates (decode book) frame ≡ false →
      keep digest (decode book) frame ≡ some y →
      P (record { answer = accepted fresh; book = encode (with_height (decode book) (frame_height frame) y) })) →
      (Accepts digest book frame → leader_equivocates (decode book) frame ≡ true → flag 1 (decode book) ≡ false →
      P (record { answer = accepted fresh; book = encode (with_timer_fired (decode book)) })) →
      P (deliver_call digest book frame)
  deliver_cases-kept = page.deliver_cases digest book frame
