-- The frame of a proposal, as the code writes it.
use Rattle.std.specs.Prelude.{ℕ}
use Rattle.sha256.specs.Digest.{sha256}
use Rattle.protocol.specs.Bytes.{Bytes}
use Rattle.protocol.specs.Frame.{proposal}
use Rattle.protocol.specs.State.{State}
use Rattle.protocol.specs.Move.{proposed_block}

-- the proposal of a block on the block of height `j`
abbrev pub proposal_on : ℕ → State → Bytes
proposal_on j s = proposal s.own s.current (proposed_block sha256 s j)
