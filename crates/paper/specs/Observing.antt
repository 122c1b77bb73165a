-- What an observer does, in the paper's terms: of the five steps the last alone, finalized outputs.
use Rattle.std.specs.Prelude.{ℕ, ◌≤◌, ◌≡◌, ◌↔◌, set}
use Rattle.protocol.specs.Bytes.{Bytes}
use Rattle.protocol.specs.State.{head_put, State, last}
use Rattle.protocol.specs.Sound.{view}
use Rattle.protocol.specs.Answer.{accepted, idle, output}
use Rattle.protocol.specs.Observer.{observer_state}
use Rattle.protocol.specs.ObserverCalls.{observer_move_call}
use Rattle.paper.specs.Paper.{Finalization, SeenWithBlock}
use Rattle.paper.specs.Steps.{MayOutput}

-- the moves of an observer, whose state is `s`, on a sound book
pub record ObserverMoves (digest : Bytes → Bytes) (book : Bytes) (s : State) : Type 0 where
  -- it outputs if and only if a finalized blockchain higher than its log is seen, and else it is idle
  pub outputs_when : ((g : ℕ) × ((observer_move_call digest book).answer ≡ accepted (output g))) ↔ MayOutput digest s
  pub idles_when : ((observer_move_call digest book).answer ≡ accepted idle) ↔ (MayOutput digest s → ⊥)
  -- the output is the highest one, and byte 5 alone changes
  pub highest : (g : ℕ) → (observer_move_call digest book).answer ≡ accepted (output g) →
      SeenWithBlock digest (view s) g × Finalization (view s) g ×
      ((h : ℕ) → 1 ≤ h → h ≤ last s → SeenWithBlock digest (view s) h → Finalization (view s) h → h ≤ g)
  pub output_writes : (g : ℕ) → (observer_move_call digest book).answer ≡ accepted (output g) →
      (observer_move_call digest book).book ≡ head_put 5 44 g book
  pub idle_writes : (observer_move_call digest book).answer ≡ accepted idle → (observer_move_call digest book).book ≡ book

abbrev pub ObserverStep : (Bytes → Bytes) → Bytes → Type 0
ObserverStep digest book = ObserverMoves digest book (observer_state book)
