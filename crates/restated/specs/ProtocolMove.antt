-- Written by tests/restated --write: what docs/statements has of
-- crates/protocol/specs/Move.antt.
use Rattle.std.specs.Prelude.{ℕ, zero, suc, ◌+◌, ◌-◌, Bool, true, false, ◌&&◌, ◌||◌, not, cond, List, [], ◌∷◌, ◌++◌, length, take, eqb, leb, ltb}
use Rattle.std.proofs.Math.Option.{Option, some, none}
use package.Rattle.protocol.specs.Bytes.{Bytes, zeros, join, without, over_front}
use package.Rattle.protocol.specs.Tests.{all_of, Row, first_refusal}
use package.Rattle.protocol.specs.Block.{block_entries, new_block}
use package.Rattle.protocol.specs.Frame.{frame_size, proposal, block_vote, dummy_vote, finalize}
use package.Rattle.protocol.specs.State.{State, at, last, encode, decode, holds_proposal, flag, pending}
use package.Rattle.protocol.specs.State.{with_head, with_flag}
use package.Rattle.protocol.specs.View.{View, linked, is_dummy, extends, largest_finalized, parent_of, digest_at, log_at}
use package.Rattle.protocol.specs.Sound.{view, sound}
use package.Rattle.protocol.specs.Certificates.{certificate_frame}
use package.Rattle.protocol.specs.Answer.{Answer, refused, accepted, Move, idle, vote_dummy, output, pass, propose}
use package.Rattle.protocol.specs.Answer.{vote_block, Certificate, on_block, on_dummy, certificate_kind}
use package.Rattle.protocol.specs.Move.{Step, chosen, is_running, unused, written, MoveOutcome, moved, first_step, is_some, some_or, idle_step, dummy_vote_applies, dummy_vote_step, offered, unless_move_refused}
use mathlib.Core.Path.{◌≡◌ as ◌is-kept◌, refl as by-text}
use package.Rattle.protocol.specs.Move as page

Step-kept : (move : Move) (after : State) (frames : List Bytes) →
    Step
Step-kept x0 x1 x2 = record { move = x0; after = x1; frames = x2 }

first_step-kept : List (Bool × Step) → Step → Step
first_step-kept [] otherwise = otherwise
first_step-kept (row ∷ rows) otherwise = cond row.0 row.1 (first_step-kept rows otherwise)

same-first_step : first_step-kept is-kept page.first_step
unfolding first_step-kept page.first_step
same-first_step = by-text

abbrev chosen-kept : List Bytes → List Bytes
chosen-kept es = take block_entries es

same-chosen : chosen-kept is-kept page.chosen
same-chosen = by-text

is_some-kept : {A : Type 0} → Option A → Bool
is_some-kept none = false
is_some-kept (some x) = true

same-is_some : {A : Type 0} → is_some-kept {A = A} is-kept page.is_some {A = A}
unfolding is_some-kept page.is_some
same-is_some = by-text

some_or-kept : {A : Type 0} → A → Option A → A
some_or-kept otherwise none = otherwise
some_or-kept otherwise (some x) = x

same-some_or : {A : Type 0} → some_or-kept {A = A} is-kept page.some_or {A = A}
unfolding some_or-kept page.some_or
same-some_or = by-text

is_running-kept : State → Bool
is_running-kept s = leb s.current (last s)

same-is_running : is_running-kept is-kept page.is_running
unfolding is_running-kept page.is_running
same-is_running = by-text

idle_step-kept : State → Step
idle_step-kept s = record { move = idle; after = s; frames = [] }

same-idle_step : idle_step-kept is-kept page.idle_step
unfolding idle_step-kept page.idle_step
same-idle_step = by-text

dummy_vote_applies-kept : State → Bool
dummy_vote_applies-kept s = all_of (is_running s ∷ flag 1 s ∷ not (flag 2 s) ∷ [])

same-dummy_vote_applies : dummy_vote_applies-kept is-kept page.dummy_vote_applies
unfolding dummy_vote_applies-kept page.dummy_vote_applies
same-dummy_vote_applies = by-text

dummy_vote_step-kept : State → Step
dummy_vote_step-kept s = record {
  move = vote_dummy s.current;
  after = with_flag 2 s;
  frames = dummy_vote s.own s.current ∷ [];
}

same-dummy_vote_step : dummy_vote_step-kept is-kept page.dummy_vote_step
unfolding dummy_vote_step-kept page.dummy_vote_step
same-dummy_vote_step = by-text

offered-kept : State → ℕ → List Bytes
offered-kept s j = chosen (without (log_at (view s) j) (pending s))

same-offered : offered-kept is-kept page.offered
unfolding offered-kept page.offered
same-offered = by-text

unused-kept : Move → ℕ
unused-kept idle = 0
unused-kept (vote_dummy h) = 0
unused-kept (output g) = 0
unused-kept (pass h certificate true) = 0
unused-kept (pass h certificate false) = frame_size
unused-kept (propose h) = 0
unused-kept (vote_block h) = 0

same-unused : unused-kept is-kept page.unused
unfolding unused-kept page.unused
same-unused = by-text

written-kept : Step → Bytes
written-kept st = join st.frames ++ zeros (unused st.move)

same-written : written-kept is-kept page.written
unfolding written-kept page.written
same-written = by-text

MoveOutcome-kept : (answer : Answer Move) (book : Bytes) (reply : Bytes) (frames : List Bytes) →
    MoveOutcome
MoveOutcome-kept x0 x1 x2 x3 = record { answer = x0; book = x1; reply = x2; frames = x3 }

moved-kept : Bytes → Step → MoveOutcome
moved-kept reply st = record {
  answer = accepted st.move;
  book = encode st.after;
  reply = over_front (written st) reply;
  frames = st.frames;
}

same-moved : moved-kept is-kept page.moved
unfolding moved-kept page.moved
same-moved = by-text

unless_move_refused-kept : Option ℕ → Bytes → Bytes → Step → MoveOutcome
unless_move_refused-kept none book reply st = moved reply st
unless_move_refused-kept (some number) book reply st =
    record { answer = refused number; book = book; reply = reply; frames = [] }

same-unless_move_refused : unless_move_refused-kept is-kept page.unless_move_refused
unfolding unless_move_refused-kept page.unless_move_refused
same-unless_move_refused = by-text

module _ (digest : Bytes → Bytes) where
  abbrev new_finalized : State → ℕ
  new_finalized = page.new_finalized digest

  abbrev output_applies : State → Bool
  output_applies = page.output_applies digest

  abbrev output_step : State → Step
  output_step = page.output_step digest

  abbrev parent_below : State → Option ℕ
  parent_below = page.parent_below digest

  abbrev passes_at : View → ℕ → Bool
  passes_at = page.passes_at digest

  abbrev pass_applies : State → Bool
  pass_applies = page.pass_applies digest

  abbrev passes_by : State → Certificate
  passes_by = page.passes_by digest

  abbrev pass_step : State → Step
  pass_step = page.pass_step digest

  abbrev propose_applies : State → Bool
  propose_applies = page.propose_applies digest

  abbrev proposed_block : State → ℕ → Bytes
  proposed_block = page.proposed_block digest

  abbrev propose_step : State → Step
  propose_step = page.propose_step digest

  abbrev block_vote_applies : State → Bool
  block_vote_applies = page.block_vote_applies digest

  abbrev block_vote_step : State → Step
  block_vote_step = page.block_vote_step digest

  abbrev step : State → Step
  step = page.step digest

  abbrev move_rows : Bytes → Bytes → List Row
  move_rows = page.move_rows digest

  new_finalized-kept : State → ℕ
  new_finalized-kept s = largest_finalized digest (view s) (last s)

  same-new_finalized : new_finalized-kept is-kept page.new_finalized digest
  unfolding new_finalized-kept page.new_finalized
  same-new_finalized = by-text

  output_applies-kept : State → Bool
  output_applies-kept s = ltb s.finalized (new_finalized s)

  same-output_applies : output_applies-kept is-kept page.output_applies digest
  unfolding output_applies-kept page.output_applies
  same-output_applies = by-text

  output_step-kept : State → Step
  output_step-kept s = record {
    move = output (new_finalized s);
    after = with_head s s.flags s.current (new_finalized s);
    frames = [];
  }

  same-output_step : output_step-kept is-kept page.output_step digest
  unfolding output_step-kept page.output_step
  same-output_step = by-text

  abbrev parent_below-kept : State → Option ℕ
  parent_below-kept s = parent_of digest (view s) (s.current - 1)

  same-parent_below : parent_below-kept is-kept page.parent_below digest
  same-parent_below = by-text

  abbrev passes_at-kept : View → ℕ → Bool
  passes_at-kept v c = linked digest v c || is_dummy v c && is_some (parent_of digest v (c - 1))

  same-passes_at : passes_at-kept is-kept page.passes_at digest
  same-passes_at = by-text

  pass_applies-kept : State → Bool
  pass_applies-kept s = is_running s && passes_at (view s) s.current

  same-pass_applies : pass_applies-kept is-kept page.pass_applies digest
  unfolding pass_applies-kept page.pass_applies
  same-pass_applies = by-text

  abbrev passes_by-kept : State → Certificate
  passes_by-kept s = cond (linked digest (view s) s.current) on_block on_dummy

  same-passes_by : passes_by-kept is-kept page.passes_by digest
  same-passes_by = by-text

  pass_step-kept : State → Step
  pass_step-kept s =
      let c : ℕ = s.current in
      let inTime : Bool = not (flag 1 s) in
      record {
        move = pass c (passes_by s) inTime;
        after = with_head s 0 (c + 1) s.finalized;
        frames = certificate_frame s (certificate_kind (passes_by s)) c ∷ cond inTime (finalize s.own c ∷ []) [];
      }

  same-pass_step : pass_step-kept is-kept page.pass_step digest
  unfolding pass_step-kept page.pass_step
  same-pass_step = by-text

  propose_applies-kept : State → Bool
  propose_applies-kept s = all_of
      (is_running s ∷ eqb (at s s.current).leader s.own ∷ not (flag 8 s) ∷ is_some (parent_below s) ∷ [])

  same-propose_applies : propose_applies-kept is-kept page.propose_applies digest
  unfolding propose_applies-kept page.propose_applies
  same-propose_applies = by-text

  proposed_block-kept : State → ℕ → Bytes
  proposed_block-kept s j = new_block s.current j (digest_at digest (view s) j) (offered s j)

  same-proposed_block : proposed_block-kept is-kept page.proposed_block digest
  unfolding proposed_block-kept page.proposed_block
  same-proposed_block = by-text

  propose_step-kept : State → Step
  propose_step-kept s = record {
    move = propose s.current;
    after = with_flag 8 s;
    frames = proposal s.own s.current (proposed_block s (some_or 0 (parent_below s))) ∷ [];
  }

  same-propose_step : propose_step-kept is-kept page.propose_step digest
  unfolding propose_step-kept page.propose_step
  same-propose_step = by-text

  block_vote_applies-kept : State → Bool
  block_vote_applies-kept s =
      let c : ℕ = s.current in
      all_of
      (is_running s ∷ not (flag 4 s) ∷ holds_proposal (at s c) ∷ extends digest (view s) c (at s c).proposal ∷ [])

  same-block_vote_applies : block_vote_applies-kept is-kept page.block_vote_applies digest
  unfolding block_vote_applies-kept page.block_vote_applies
  same-block_vote_applies = by-text

  block_vote_step-kept : State → Step
  block_vote_step-kept s = record {
    move = vote_block s.current;
    after = with_flag 4 s;
    frames = block_vote s.own s.current (digest (at s s.current).proposal) ∷ [];
  }

  same-block_vote_step : block_vote_step-kept is-kept page.block_vote_step digest
  unfolding block_vote_step-kept page.block_vote_step
  same-block_vote_step = by-text

  step-kept : State → Step
  step-kept s =
      first_step
      ((dummy_vote_applies s, dummy_vote_step s) ∷
      (output_applies s, output_step s) ∷
      (pass_applies s, pass_step s) ∷
      (propose_applies s, propose_step s) ∷
      (block_vote_applies s, block_vote_step s) ∷ [])
      (idle_step s)

  same-step : step-kept is-kept page.step digest
  unfolding step-kept page.step
  same-step = by-text

  after_moves-kept : ℕ → State → State
  after_moves-kept zero s = s
  after_moves-kept (suc k) s = after_moves-kept k (step s).after

  same-after_moves : after_moves-kept is-kept page.after_moves digest
  unfolding after_moves-kept page.after_moves
  same-after_moves = by-text

  move_rows-kept : Bytes → Bytes → List Row
  move_rows-kept book reply = (1, sound digest book) ∷ (3, leb 448 (length reply)) ∷ []

  same-move_rows : move_rows-kept is-kept page.move_rows digest
  unfolding move_rows-kept page.move_rows
  same-move_rows = by-text

  move_call-kept : Bytes → Bytes → MoveOutcome
  move_call-kept book reply = unless_move_refused (first_refusal (move_rows book reply)) book reply (step (decode book))

  same-move_call : move_call-kept is-kept page.move_call digest
  unfolding move_call-kept page.move_call
  same-move_call = by-text
