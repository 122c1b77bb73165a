-- Nothing idles: a replica answers idle just where no move applies, and moving until idle ends within a known number of
-- moves.
use Rattle.std.specs.Prelude.{ℕ, ◌+◌, ◌-◌, ◌≤◌, ◌≡◌, ◌↔◌, false}
use Rattle.protocol.specs.Bytes.{Bytes, AreBytes}
use Rattle.protocol.specs.State.{State, decode, last}
use Rattle.protocol.specs.Answer.{accepted, idle}
use Rattle.protocol.specs.Move.{step, after_moves, move_call, dummy_vote_applies, output_applies, pass_applies}
use Rattle.protocol.specs.Move.{propose_applies, block_vote_applies}

module _ (digest : Bytes → Bytes) where
  -- none of the five moves applies
  pub record NoMove (s : State) : Type 0 where
    pub no_dummy_vote : dummy_vote_applies s ≡ false
    pub no_output : output_applies digest s ≡ false
    pub no_pass : pass_applies digest s ≡ false
    pub no_proposal : propose_applies digest s ≡ false
    pub no_block_vote : block_vote_applies digest s ≡ false

  -- the move is idle if and only if no move applies
  unfoldable pub IdleMeansNoMove : State → Type 0
  IdleMeansNoMove s = ((step digest s).move ≡ idle → NoMove s) × (NoMove s → (step digest s).move ≡ idle)

  -- over bytes: Move answers idle if and only if no move applies, and then no byte of the book or the reply changes
  pub record IdlesJustThen (book reply : Bytes) : Type 0 where
    pub just_then : ((move_call digest book reply).answer ≡ accepted idle) ↔ NoMove (decode book)
    pub unchanged : AreBytes book → (move_call digest book reply).answer ≡ accepted idle →
        ((move_call digest book reply).book ≡ book) × ((move_call digest book reply).reply ≡ reply)

  -- a state is idle after at most so many moves
  unfoldable pub IdleWithin : ℕ → State → Type 0
  IdleWithin most s = (k : ℕ) × (k ≤ most) × ((step digest (after_moves digest k s)).move ≡ idle)

  -- with c the current height: at most H + 4 − c moves, and at most one where the season is full
  unfoldable pub MovesEnd : State → Type 0
  MovesEnd s = (s.current ≤ last s → IdleWithin (last s + 4 - s.current) s) ×
      (last s + 1 ≤ s.current → IdleWithin 1 s)
