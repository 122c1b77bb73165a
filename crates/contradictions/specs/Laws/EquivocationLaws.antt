-- A leader who proposes two blocks: the test of a proposal that names its height, and the timer that fires.
use Rattle.std.specs.Prelude.{ℕ, ◌≡◌, refl, Bool, true, false, ◌&&◌, not, [], ◌∷◌, eqb}
use Rattle.protocol.specs.Bytes.{Bytes, same}
use Rattle.protocol.specs.Tests.{all_of, implies}
use Rattle.protocol.specs.Frame.{kind, frame_height, frame_block}
use Rattle.protocol.specs.State.{State, at, decode, encode, holds_proposal, flag, with_flag, with_timer_fired}
use Rattle.protocol.specs.Deliver.{second_proposal, leader_equivocates, timer_fires}
use Rattle.answers.specs.declared.answer.Delivered.TheVariants.{Fresh, Known}
use Rattle.contradictions.specs.Accepted.{accepted_book}

-- ---- the test
-- the held proposal is compared at the current height only
compared_here : (holds is here : Bool) → (all_of (holds ∷ not is ∷ []) && here) ≡ not (implies (here && holds) is)
unfolding implies all_of
compared_here false is false = refl
compared_here false is true = refl
compared_here true false false = refl
compared_here true false true = refl
compared_here true true false = refl
compared_here true true true = refl

pub proposal_equivocates : (s : State) (h : ℕ) (frame : Bytes) → h ≡ frame_height frame → kind frame ≡ 1 →
    leader_equivocates s frame ≡
    not (implies (eqb h s.current && holds_proposal (at s h)) (same (at s h).proposal (frame_block frame)))
unfolding leader_equivocates second_proposal all_of
proposal_equivocates s h frame e one =
    rw (e, one) (compared_here (holds_proposal (at s (frame_height frame)))
    (same (at s (frame_height frame)).proposal (frame_block frame)) (eqb (frame_height frame) s.current))

-- ---- the timer
module _ (book : Bytes) where
  pub timer_fired : flag 1 (decode book) ≡ true → accepted_book Known book ≡ timer_fires book
  unfolding timer_fires
  timer_fired e = rw e

  pub timer_runs : flag 1 (decode book) ≡ false →
      accepted_book Fresh (encode (with_flag 1 (decode book))) ≡ timer_fires book
  unfolding timer_fires with_timer_fired
  timer_runs e = rw e
