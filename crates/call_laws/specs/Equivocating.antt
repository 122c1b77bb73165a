-- When the leader of the current height equivocates (004, footnote 10): by a proposal that is read, of another block
-- than the one that the height holds.
use Rattle.std.specs.Prelude.{◌≡◌, ◌≢◌, true}
use Rattle.protocol.specs.Bytes.{Bytes}
use Rattle.protocol.specs.Frame.{kind, signer, frame_height, frame_block}
use Rattle.protocol.specs.State.{State, at, holds_proposal}
use Rattle.call_laws.specs.Readable.{IsRead}

-- a frame is read as its leader's proposal for the current height
pub record ProposedNow (s : State) (frame : Bytes) : Type 0 where
  pub read : IsRead s frame
  pub proposes : kind frame ≡ 1
  pub here : frame_height frame ≡ s.current
  pub by_leader : signer frame ≡ (at s s.current).leader

-- the leader equivocates: it proposes, and the current height holds another proposal of it
pub record Equivocation (s : State) (frame : Bytes) : Type 0 where
  pub proposed : ProposedNow s frame
  pub held : holds_proposal (at s s.current) ≡ true
  pub unlike : (at s s.current).proposal ≢ frame_block frame
