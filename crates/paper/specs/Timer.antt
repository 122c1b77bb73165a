-- The timer of step 2 (004, section 2.1): flag 1 says that it has fired. Which calls fire it, also by a leader who
-- equivocates (footnote 10 there), which start it anew, and what follows.
use Rattle.std.specs.Prelude.{ℕ, ◌+◌, ◌≤◌, ◌≡◌, ◌↔◌, ◌⊎◌, ◌≢◌, Bool, true, false, length}
use mathlib.Core.List.{List, [], ◌∷◌, Memᴰ}
use Rattle.std.proofs.Math.Option.{none}
use Rattle.protocol.specs.Bytes.{Bytes}
use Rattle.protocol.specs.Tests.{first_refusal}
use Rattle.protocol.specs.Frame.{frame_block, dummy_vote}
use Rattle.protocol.specs.State.{State, last, flag, decode, with_head}
use Rattle.protocol.specs.Answer.{Certificate, accepted, done, vote_dummy, pass}
use Rattle.protocol.specs.Open.{Opening, open_call}
use Rattle.protocol.specs.Deliver.{deliver_call}
use Rattle.protocol.specs.Packet.{packet_frames, packet_rows}
use Rattle.protocol.specs.Move.{step}
use Rattle.protocol.specs.Call.{Call, opening, delivery, packet_delivery, moving, signalling, book_after}
use Rattle.call_laws.specs.Equivocating.{ProposedNow, Equivocation}
use Rattle.paper.specs.Steps.{Makes}

-- of frames that are delivered to a book in order, with no call between, two are the leader's proposals for the current
-- height, of different blocks
pub record TwoBlocks (book : Bytes) (frames : List Bytes) : Type 0 where
  pub one : Bytes
  pub other : Bytes
  pub one_among : Memᴰ one frames
  pub other_among : Memᴰ other frames
  pub one_proposed : ProposedNow (decode book) one
  pub other_proposed : ProposedNow (decode book) other
  pub unlike : frame_block one ≢ frame_block other

module _ (digest : Bytes → Bytes) where
  -- of frames that are delivered in order, one is such a proposal at its turn
  unfoldable pub EquivocationAmong : Bytes → List Bytes → Type 0
  EquivocationAmong book [] = ⊥
  EquivocationAmong book (frame ∷ frames) =
      Equivocation (decode book) frame ⊎ EquivocationAmong (deliver_call digest book frame).book frames

  -- ---- the calls on a sound book that fire the timer
  pub data Fires (book : Bytes) : Call → Type 0 where
    by_signal : (h : ℕ) → h ≡ (decode book).current → h ≤ last (decode book) → Fires book (signalling h)
    by_equivocation : (frame : Bytes) → Equivocation (decode book) frame → Fires book (delivery frame)
    by_packet : (packet : Bytes) → first_refusal (packet_rows digest book packet) ≡ none →
        EquivocationAmong book (packet_frames packet) → Fires book (packet_delivery packet)

  -- ---- and those that start it anew: a pass; an opening too, which makes another book of the bytes
  pub data Restarts (book : Bytes) : Call → Type 0 where
    by_pass : (reply : Bytes) (certificate : Certificate) (finalized : Bool) → 448 ≤ length reply →
        (step digest (decode book)).move ≡ pass (decode book).current certificate finalized →
        Restarts book (moving reply)
    by_opening : (way : Opening) (n own heights : ℕ) (leaders : Bytes) →
        (open_call way book n own heights leaders).answer ≡ accepted done →
        Restarts book (opening way n own heights leaders)

  -- ---- flag 1 goes up and comes down just by these
  pub record Timer (book : Bytes) (call : Call) : Type 0 where
    pub goes_up : flag 1 (decode book) ≡ false →
        (flag 1 (decode (book_after digest book call)) ≡ true) ↔ Fires book call
    pub comes_down : flag 1 (decode book) ≡ true →
        (flag 1 (decode (book_after digest book call)) ≡ false) ↔ Restarts book call

  -- ---- what follows
  -- on the book `after`, which came of `book`, the next move is the vote for the dummy block of the same height
  abbrev pub VotesDummyNext : Bytes → Bytes → Type 0
  VotesDummyNext book after =
      let s : State = decode after in
      let c : ℕ = (decode book).current in
      Makes digest s (vote_dummy c) (dummy_vote (decode book).own c ∷ []) (with_head s (s.flags + 2) c s.finalized)
