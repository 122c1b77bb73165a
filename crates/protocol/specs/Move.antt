-- Move: the first of the five moves that applies, the frames that it writes and the state after it.
use Rattle.std.specs.Prelude.{ℕ, zero, suc, ◌+◌, ◌-◌, Bool, true, false, ◌&&◌, ◌||◌, not, cond, List, [], ◌∷◌, ◌++◌, length, take, eqb, leb, ltb}
use Rattle.std.proofs.Math.Option.{Option, some, none}
use Rattle.protocol.specs.Bytes.{Bytes, zeros, join, without, over_front}
use Rattle.protocol.specs.Tests.{all_of, Row, first_refusal}
use Rattle.protocol.specs.Block.{block_entries, new_block}
use Rattle.protocol.specs.Frame.{frame_size, proposal, block_vote, dummy_vote, finalize}
use Rattle.protocol.specs.State.{State, at, last, encode, decode, holds_proposal, flag, pending}
use Rattle.protocol.specs.State.{with_head, with_flag}
use Rattle.protocol.specs.View.{View, linked, is_dummy, extends, largest_finalized, parent_of, digest_at, log_at}
use Rattle.protocol.specs.Sound.{view, sound}
use Rattle.protocol.specs.Certificates.{certificate_frame}
use Rattle.protocol.specs.Answer.{Answer, refused, accepted, Move, idle, vote_dummy, output, pass, propose}
use Rattle.protocol.specs.Answer.{vote_block, Certificate, on_block, on_dummy, certificate_kind}

-- one move: its name, the state after it and the frames that it writes
pub record Step : Type 0 where
  pub move : Move
  pub after : State
  pub frames : List Bytes

-- the first step whose test passes, or the last resort
unfoldable pub first_step : List (Bool × Step) → Step → Step
first_step [] otherwise = otherwise
first_step (row ∷ rows) otherwise = cond row.0 row.1 (first_step rows otherwise)

-- of the entries that a block may carry those that it does: the first ones, as many as it takes
abbrev pub chosen : List Bytes → List Bytes
chosen es = take block_entries es

unfoldable pub is_some : {A : Type 0} → Option A → Bool
is_some none = false
is_some (some x) = true

unfoldable pub some_or : {A : Type 0} → A → Option A → A
some_or otherwise none = otherwise
some_or otherwise (some x) = x

-- the current height is one of the book's
unfoldable pub is_running : State → Bool
is_running s = leb s.current (last s)

unfoldable pub idle_step : State → Step
idle_step s = record { move = idle; after = s; frames = [] }

-- ---- move 1
unfoldable pub dummy_vote_applies : State → Bool
dummy_vote_applies s = all_of (is_running s ∷ flag 1 s ∷ not (flag 2 s) ∷ [])

unfoldable pub dummy_vote_step : State → Step
dummy_vote_step s = record {
  move = vote_dummy s.current;
  after = with_flag 2 s;
  frames = dummy_vote s.own s.current ∷ [];
}

-- ---- the entries of a proposal
-- the pending entries that the chain ending in height `j` lacks, as many as a block takes
unfoldable pub offered : State → ℕ → List Bytes
offered s j = chosen (without (log_at (view s) j) (pending s))

-- ---- what the call leaves
-- how many zero bytes follow the frames: the place of a finalize that a pass does not cast
unfoldable pub unused : Move → ℕ
unused idle = 0
unused (vote_dummy h) = 0
unused (output g) = 0
unused (pass h certificate true) = 0
unused (pass h certificate false) = frame_size
unused (propose h) = 0
unused (vote_block h) = 0

-- the bytes that a move writes to the front of the reply
unfoldable pub written : Step → Bytes
written st = join st.frames ++ zeros (unused st.move)

-- a move's answer, the book and the reply afterwards, and the frames written
pub record MoveOutcome : Type 0 where
  pub answer : Answer Move
  pub book : Bytes
  pub reply : Bytes
  pub frames : List Bytes

unfoldable pub moved : Bytes → Step → MoveOutcome
moved reply st = record {
  answer = accepted st.move;
  book = encode st.after;
  reply = over_front (written st) reply;
  frames = st.frames;
}

unfoldable pub unless_move_refused : Option ℕ → Bytes → Bytes → Step → MoveOutcome
unless_move_refused none book reply st = moved reply st
unless_move_refused (some number) book reply st =
    record { answer = refused number; book = book; reply = reply; frames = [] }

module _ (digest : Bytes → Bytes) where
  -- ---- move 2
  unfoldable pub new_finalized : State → ℕ
  new_finalized s = largest_finalized digest (view s) (last s)

  unfoldable pub output_applies : State → Bool
  output_applies s = ltb s.finalized (new_finalized s)

  unfoldable pub output_step : State → Step
  output_step s = record {
    move = output (new_finalized s);
    after = with_head s s.flags s.current (new_finalized s);
    frames = [];
  }

  -- ---- move 3
  -- the last block's height of the best chain of height c − 1, if there is such a chain
  abbrev pub parent_below : State → Option ℕ
  parent_below s = parent_of digest (view s) (s.current - 1)

  -- a notarized chain of height `c` is seen
  abbrev pub passes_at : View → ℕ → Bool
  passes_at v c = linked digest v c || is_dummy v c && is_some (parent_of digest v (c - 1))

  unfoldable pub pass_applies : State → Bool
  pass_applies s = is_running s && passes_at (view s) s.current

  -- a pass goes by the block's certificate where the current height is linked, else by that of the dummy block
  abbrev pub passes_by : State → Certificate
  passes_by s = cond (linked digest (view s) s.current) on_block on_dummy

  unfoldable pub pass_step : State → Step
  pass_step s =
      let c : ℕ = s.current in
      let inTime : Bool = not (flag 1 s) in
      record {
        move = pass c (passes_by s) inTime;
        after = with_head s 0 (c + 1) s.finalized;
        frames = certificate_frame s (certificate_kind (passes_by s)) c ∷ cond inTime (finalize s.own c ∷ []) [];
      }

  -- ---- move 4
  unfoldable pub propose_applies : State → Bool
  propose_applies s = all_of
      (is_running s ∷ eqb (at s s.current).leader s.own ∷ not (flag 8 s) ∷ is_some (parent_below s) ∷ [])

  unfoldable pub proposed_block : State → ℕ → Bytes
  proposed_block s j = new_block s.current j (digest_at digest (view s) j) (offered s j)

  unfoldable pub propose_step : State → Step
  propose_step s = record {
    move = propose s.current;
    after = with_flag 8 s;
    frames = proposal s.own s.current (proposed_block s (some_or 0 (parent_below s))) ∷ [];
  }

  -- ---- move 5
  unfoldable pub block_vote_applies : State → Bool
  block_vote_applies s =
      let c : ℕ = s.current in
      all_of
      (is_running s ∷ not (flag 4 s) ∷ holds_proposal (at s c) ∷ extends digest (view s) c (at s c).proposal ∷ [])

  unfoldable pub block_vote_step : State → Step
  block_vote_step s = record {
    move = vote_block s.current;
    after = with_flag 4 s;
    frames = block_vote s.own s.current (digest (at s s.current).proposal) ∷ [];
  }

  -- ---- the call
  unfoldable pub step : State → Step
  step s =
      first_step
      ((dummy_vote_applies s, dummy_vote_step s) ∷
      (output_applies s, output_step s) ∷
      (pass_applies s, pass_step s) ∷
      (propose_applies s, propose_step s) ∷
      (block_vote_applies s, block_vote_step s) ∷ [])
      (idle_step s)

  -- the state after a number of moves
  unfoldable pub after_moves : ℕ → State → State
  after_moves zero s = s
  after_moves (suc k) s = after_moves k (step s).after

  unfoldable pub move_rows : Bytes → Bytes → List Row
  move_rows book reply = (1, sound digest book) ∷ (3, leb 448 (length reply)) ∷ []

  unfoldable pub move_call : Bytes → Bytes → MoveOutcome
  move_call book reply = unless_move_refused (first_refusal (move_rows book reply)) book reply (step (decode book))
