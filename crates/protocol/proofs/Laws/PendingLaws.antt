-- Pending entries of a sound state, those that a list lacks, and those that a block takes: 16 bytes each, eight at
-- most.
use Rattle.std.specs.Prelude.{ℕ, ◌≤◌, length}
use Rattle.std.proofs.Common.{arith, length-take}
use Rattle.protocol.specs.SoundState.{SoundState}
use Rattle.protocol.specs.Every.{Every}
use Rattle.protocol.specs.Bytes.{Bytes, Sized}
use Rattle.protocol.specs.State.{State, pending}
use Rattle.protocol.specs.Move.{offered}
use Rattle.protocol.proofs.Laws.EveryLaws.{every_take}
use Rattle.protocol.proofs.Laws.PiecesLaws.{pieces_sized}
use Rattle.protocol.proofs.Laws.PoolLaws.{every_without}

pub pending_sized : (digest : Bytes → Bytes) (s : State) → SoundState digest s → Every (Sized 16) (pending s)
unfolding pending
pending_sized digest s sound =
    let few = sound.pending_few in
    let size = sound.shaped.pool_size_lem in
    pieces_sized 16 s.pending_count s.pool (omega arith)

pub offered_sized : (digest : Bytes → Bytes) (s : State) → SoundState digest s → (j : ℕ) →
    Every (Sized 16) (offered s j)
unfolding offered
offered_sized digest s sound j = every_take 8 (every_without _ (pending_sized digest s sound))

pub offered_few : (s : State) (j : ℕ) → length (offered s j) ≤ 8
unfolding offered
offered_few s j = rw length-take (omega arith)
