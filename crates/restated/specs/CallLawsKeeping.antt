-- Written by tests/restated --write: what docs/statements has of
-- crates/call_laws/specs/Keeping.antt.
use Rattle.std.specs.Prelude.{ℕ, ◌+◌, ◌≤◌, ◌<◌, ◌≡◌, ◌⊎◌, ◌≢◌, Bool, true, false, ◌&&◌, ◌||◌, cond, eqb, length, set}
use package.Rattle.protocol.specs.Bytes.{Bytes, byte_at, AreBytes}
use package.Rattle.protocol.specs.Answer.{Delivery, known, fresh}
use package.Rattle.protocol.specs.Mask.{in_mask}
use package.Rattle.protocol.specs.Frame.{kind, signer, frame_height, signer_mask, frame_digest, frame_block, is_proposal}
use package.Rattle.protocol.specs.Frame.{is_block_vote}
use package.Rattle.protocol.specs.State.{State, Height, at, decode, with_height, holds_proposal, vote_of, flag}
use package.Rattle.protocol.specs.Sound.{view, sound}
use package.Rattle.call_laws.specs.KeptBytes.{SameOutside, delivery_parts}
use package.Rattle.call_laws.specs.Equivocating.{Equivocation}
use package.Rattle.call_laws.specs.Keeping.{Tallied, KeepsAt, KeepsState, KeepsStatement, FiresTimer, Keeps, says}
use mathlib.Core.Path.{◌≡◌ as ◌is-kept◌, refl as by-text}
use package.Rattle.call_laws.specs.Keeping as page

says-kept : (k statement certificate : ℕ) → Bytes → ℕ → Bool
says-kept k statement certificate frame t =
    cond (eqb k statement) (eqb (signer frame) t) (eqb k certificate && in_mask (signer_mask frame) t)

same-says : says-kept is-kept page.says
unfolding says-kept page.says
same-says = by-text

NewlyKept-kept : ℕ → Bytes → Height → Type 0
NewlyKept-kept k frame x =
    ((k ≡ 1) × (holds_proposal x ≡ false)) ⊎ ((k ≡ 2) × (in_mask x.voter_mask (signer frame) ≡ false))

same-NewlyKept : NewlyKept-kept is-kept page.NewlyKept
unfolding NewlyKept-kept page.NewlyKept
same-NewlyKept = by-text

abbrev AllTallied-kept : (Bytes → Bytes) → State → Type 0
AllTallied-kept digest s = (h : ℕ) → 1 ≤ h → Tallied digest (view s) (at s h)

same-AllTallied : AllTallied-kept is-kept page.AllTallied
same-AllTallied = by-text

KeepsState-kept : (digest : Bytes → Bytes) (s s' : State) (frame : Bytes) (elsewhere : s' ≡ with_height s (frame_height frame) (at s' (frame_height frame))) (here : KeepsAt digest (view s) (kind frame) frame (at s (frame_height frame)) (at s' (frame_height frame))) →
    KeepsState digest s s' frame
KeepsState-kept digest s s' frame x0 x1 = record { elsewhere = x0; here = x1 }

KeepsStatement-kept : (digest : Bytes → Bytes) (book frame : Bytes) (news : Delivery) (after : Bytes) (known_same : news ≡ known → after ≡ book) (fresh_differs : news ≡ fresh → (i : ℕ) × (i < length book) × (byte_at after i ≢ byte_at book i)) (other_bytes : AreBytes book → SameOutside (delivery_parts book frame after) book after) (same_length : length after ≡ length book) (keeps : KeepsState digest (decode book) (decode after) frame) (stays_sound : sound digest after ≡ true) →
    KeepsStatement digest book frame news after
KeepsStatement-kept digest book frame news after x0 x1 x2 x3 x4 x5 = record { known_same = x0; fresh_differs = x1; other_bytes = x2; same_length = x3; keeps = x4; stays_sound = x5 }

FiresTimer-kept : (book : Bytes) (news : Delivery) (after : Bytes) (fired_before : flag 1 (decode book) ≡ true → (news ≡ known) × (after ≡ book)) (fires_now : flag 1 (decode book) ≡ false → (news ≡ fresh) × (AreBytes book → after ≡ set book 3 (byte_at book 3 + 1))) →
    FiresTimer book news after
FiresTimer-kept book news after x0 x1 = record { fired_before = x0; fires_now = x1 }

Keeps-kept : (digest : Bytes → Bytes) (book frame : Bytes) (news : Delivery) (after : Bytes) (statement : (Equivocation (decode book) frame → ⊥) → KeepsStatement digest book frame news after) (equivocation : Equivocation (decode book) frame → FiresTimer book news after) →
    Keeps digest book frame news after
Keeps-kept digest book frame news after x0 x1 = record { statement = x0; equivocation = x1 }

module _ (n k : ℕ) (frame : Bytes) (x y : Height) where
  abbrev KeepsMasks : Type 0
  KeepsMasks = page.KeepsMasks n k frame x y

  abbrev KeepsVotes : Type 0
  KeepsVotes = page.KeepsVotes n k frame x y

  abbrev KeepsProposal : Type 0
  KeepsProposal = page.KeepsProposal n k frame x y

  KeepsMasks-kept : (dummies : (t : ℕ) → t < n → in_mask y.dummy_mask t ≡ (in_mask x.dummy_mask t || says k 3 6 frame t)) (finalizes : (t : ℕ) → t < n → in_mask y.finalize_mask t ≡ (in_mask x.finalize_mask t || says k 4 7 frame t)) →
      KeepsMasks
  KeepsMasks-kept x0 x1 = record { dummies = x0; finalizes = x1 }

  KeepsVotes-kept : (voters : (t : ℕ) → t < n → in_mask y.voter_mask t ≡ (in_mask x.voter_mask t || (is_block_vote k && eqb (signer frame) t))) (first_vote : (t : ℕ) → in_mask x.voter_mask t ≡ true → vote_of y t ≡ vote_of x t) (this_vote : k ≡ 2 → vote_of y (signer frame) ≡ frame_digest frame) →
      KeepsVotes
  KeepsVotes-kept x0 x1 x2 = record { voters = x0; first_vote = x1; this_vote = x2 }

  KeepsProposal-kept : (holds : holds_proposal y ≡ (holds_proposal x || is_proposal k)) (first_proposal : holds_proposal x ≡ true → y.proposal ≡ x.proposal) (this_proposal : k ≡ 1 → y.proposal ≡ frame_block frame) →
      KeepsProposal
  KeepsProposal-kept x0 x1 x2 = record { holds = x0; first_proposal = x1; this_proposal = x2 }
