-- Written by tests/restated --write: what docs/statements has of
-- crates/paper/specs/Observing.antt.
use Rattle.std.specs.Prelude.{ℕ, ◌≤◌, ◌≡◌, ◌↔◌}
use package.Rattle.protocol.specs.Bytes.{Bytes}
use package.Rattle.protocol.specs.State.{head_put, State, last}
use package.Rattle.protocol.specs.Sound.{view}
use package.Rattle.protocol.specs.Answer.{accepted, idle, output}
use package.Rattle.protocol.specs.Observer.{observer_state}
use package.Rattle.protocol.specs.ObserverCalls.{observer_move_call}
use package.Rattle.paper.specs.Paper.{Finalization, SeenWithBlock}
use package.Rattle.paper.specs.Steps.{MayOutput}
use package.Rattle.paper.specs.Observing.{ObserverMoves}
use mathlib.Core.Path.{◌≡◌ as ◌is-kept◌, refl as by-text}
use package.Rattle.paper.specs.Observing as page

ObserverMoves-kept : (digest : Bytes → Bytes) (book : Bytes) (s : State) (outputs_when : ((g : ℕ) × ((observer_move_call digest book).answer ≡ accepted (output g))) ↔ MayOutput digest s) (idles_when : ((observer_move_call digest book).answer ≡ accepted idle) ↔ (MayOutput digest s → ⊥)) (highest : (g : ℕ) → (observer_move_call digest book).answer ≡ accepted (output g) → SeenWithBlock digest (view s) g × Finalization (view s) g × ((h : ℕ) → 1 ≤ h → h ≤ last s → SeenWithBlock digest (view s) h → Finalization (view s) h → h ≤ g)) (output_writes : (g : ℕ) → (observer_move_call digest book).answer ≡ accepted (output g) → (observer_move_call digest book).book ≡ head_put 5 44 g book) (idle_writes : (observer_move_call digest book).answer ≡ accepted idle → (observer_move_call digest book).book ≡ book) →
    ObserverMoves digest book s
ObserverMoves-kept digest book s x0 x1 x2 x3 x4 = record { outputs_when = x0; idles_when = x1; highest = x2; output_writes = x3; idle_writes = x4 }

abbrev ObserverStep-kept : (Bytes → Bytes) → Bytes → Type 0
ObserverStep-kept digest book = ObserverMoves digest book (observer_state book)

same-ObserverStep : ObserverStep-kept is-kept page.ObserverStep
same-ObserverStep = by-text
