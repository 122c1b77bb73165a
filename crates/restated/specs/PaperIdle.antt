-- Written by tests/restated --write: what docs/statements has of
-- crates/paper/specs/Idle.antt.
use Rattle.std.specs.Prelude.{ℕ, ◌+◌, ◌-◌, ◌≤◌, ◌≡◌, ◌↔◌, false}
use package.Rattle.protocol.specs.Bytes.{Bytes, AreBytes}
use package.Rattle.protocol.specs.State.{State, decode, last}
use package.Rattle.protocol.specs.Answer.{accepted, idle}
use package.Rattle.protocol.specs.Move.{step, after_moves, move_call, dummy_vote_applies, output_applies, pass_applies}
use package.Rattle.protocol.specs.Move.{propose_applies, block_vote_applies}
use mathlib.Core.Path.{◌≡◌ as ◌is-kept◌, refl as by-text}
use package.Rattle.paper.specs.Idle as page

module _ (digest : Bytes → Bytes) where
  abbrev NoMove : (s : State) → Type 0
  NoMove = page.NoMove digest

  abbrev IdlesJustThen : (book reply : Bytes) → Type 0
  IdlesJustThen = page.IdlesJustThen digest

  abbrev IdleWithin : ℕ → State → Type 0
  IdleWithin = page.IdleWithin digest

  NoMove-kept : (s : State) (no_dummy_vote : dummy_vote_applies s ≡ false) (no_output : output_applies digest s ≡ false) (no_pass : pass_applies digest s ≡ false) (no_proposal : propose_applies digest s ≡ false) (no_block_vote : block_vote_applies digest s ≡ false) →
      NoMove s
  NoMove-kept s x0 x1 x2 x3 x4 = record { no_dummy_vote = x0; no_output = x1; no_pass = x2; no_proposal = x3; no_block_vote = x4 }

  IdleMeansNoMove-kept : State → Type 0
  IdleMeansNoMove-kept s = ((step digest s).move ≡ idle → NoMove s) × (NoMove s → (step digest s).move ≡ idle)

  same-IdleMeansNoMove : IdleMeansNoMove-kept is-kept page.IdleMeansNoMove digest
  unfolding IdleMeansNoMove-kept page.IdleMeansNoMove
  same-IdleMeansNoMove = by-text

  IdlesJustThen-kept : (book reply : Bytes) (just_then : ((move_call digest book reply).answer ≡ accepted idle) ↔ NoMove (decode book)) (unchanged : AreBytes book → (move_call digest book reply).answer ≡ accepted idle → ((move_call digest book reply).book ≡ book) × ((move_call digest book reply).reply ≡ reply)) →
      IdlesJustThen book reply
  IdlesJustThen-kept book reply x0 x1 = record { just_then = x0; unchanged = x1 }

  IdleWithin-kept : ℕ → State → Type 0
  IdleWithin-kept most s = (k : ℕ) × (k ≤ most) × ((step digest (after_moves digest k s)).move ≡ idle)

  same-IdleWithin : IdleWithin-kept is-kept page.IdleWithin digest
  unfolding IdleWithin-kept page.IdleWithin
  same-IdleWithin = by-text

  MovesEnd-kept : State → Type 0
  MovesEnd-kept s = (s.current ≤ last s → IdleWithin (last s + 4 - s.current) s) ×
      (last s + 1 ≤ s.current → IdleWithin 1 s)

  same-MovesEnd : MovesEnd-kept is-kept page.MovesEnd digest
  unfolding MovesEnd-kept page.MovesEnd
  same-MovesEnd = by-text
