-- Written by tests/restated --write: what docs/statements has of
-- crates/paper/specs/Timer.antt.
use Rattle.std.specs.Prelude.{ℕ, ◌+◌, ◌≤◌, ◌≡◌, ◌↔◌, ◌⊎◌, ◌≢◌, Bool, true, false, length}
use mathlib.Core.List.{List, [], ◌∷◌, Memᴰ}
use Rattle.std.proofs.Math.Option.{none}
use package.Rattle.protocol.specs.Bytes.{Bytes}
use package.Rattle.protocol.specs.Tests.{first_refusal}
use package.Rattle.protocol.specs.Frame.{frame_block, dummy_vote}
use package.Rattle.protocol.specs.State.{State, last, flag, decode, with_head}
use package.Rattle.protocol.specs.Answer.{Certificate, accepted, done, vote_dummy, pass}
use package.Rattle.protocol.specs.Open.{Opening, open_call}
use package.Rattle.protocol.specs.Deliver.{deliver_call}
use package.Rattle.protocol.specs.Packet.{packet_frames, packet_rows}
use package.Rattle.protocol.specs.Move.{step}
use package.Rattle.protocol.specs.Call.{Call, opening, delivery, packet_delivery, moving, signalling, book_after}
use package.Rattle.call_laws.specs.Equivocating.{ProposedNow, Equivocation}
use package.Rattle.paper.specs.Steps.{Makes}
use package.Rattle.paper.specs.Timer.{TwoBlocks, by_signal, by_equivocation, by_packet, by_pass, by_opening}
use mathlib.Core.Path.{◌≡◌ as ◌is-kept◌, refl as by-text}
use package.Rattle.paper.specs.Timer as page

TwoBlocks-kept : (book : Bytes) (frames : List Bytes) (one : Bytes) (other : Bytes) (one_among : Memᴰ one frames) (other_among : Memᴰ other frames) (one_proposed : ProposedNow (decode book) one) (other_proposed : ProposedNow (decode book) other) (unlike : frame_block one ≢ frame_block other) →
    TwoBlocks book frames
TwoBlocks-kept book frames x0 x1 x2 x3 x4 x5 x6 = record { one = x0; other = x1; one_among = x2; other_among = x3; one_proposed = x4; other_proposed = x5; unlike = x6 }

module _ (digest : Bytes → Bytes) where
  abbrev EquivocationAmong : Bytes → List Bytes → Type 0
  EquivocationAmong = page.EquivocationAmong digest

  abbrev Fires : (book : Bytes) → Call → Type 0
  Fires = page.Fires digest

  abbrev Restarts : (book : Bytes) → Call → Type 0
  Restarts = page.Restarts digest

  abbrev Timer : (book : Bytes) (call : Call) → Type 0
  Timer = page.Timer digest

  EquivocationAmong-kept : Bytes → List Bytes → Type 0
  EquivocationAmong-kept book [] = ⊥
  EquivocationAmong-kept book (frame ∷ frames) =
      Equivocation (decode book) frame ⊎ EquivocationAmong-kept (deliver_call digest book frame).book frames

  same-EquivocationAmong : EquivocationAmong-kept is-kept page.EquivocationAmong digest
  unfolding EquivocationAmong-kept page.EquivocationAmong
  same-EquivocationAmong = by-text

  Fires-by_signal-kept : (book : Bytes) → (h : ℕ) → h ≡ (decode book).current → h ≤ last (decode book) → Fires book (signalling h)
  Fires-by_signal-kept _ = page.Fires.by_signal

  Fires-by_equivocation-kept : (book : Bytes) → (frame : Bytes) → Equivocation (decode book) frame → Fires book (delivery frame)
  Fires-by_equivocation-kept _ = page.Fires.by_equivocation

  Fires-by_packet-kept : (book : Bytes) → (packet : Bytes) → first_refusal (packet_rows digest book packet) ≡ none → EquivocationAmong book (packet_frames packet) → Fires book (packet_delivery packet)
  Fires-by_packet-kept _ = page.Fires.by_packet

  Fires-apart : (book : Bytes) → (i0 : Call) → Fires book i0 → Unit {0}
  Fires-apart _ _ (page.Fires.by_signal _ _ _) = tt
  Fires-apart _ _ (page.Fires.by_equivocation _ _) = tt
  Fires-apart _ _ (page.Fires.by_packet _ _ _) = tt

  Restarts-by_pass-kept : (book : Bytes) → (reply : Bytes) (certificate : Certificate) (finalized : Bool) → 448 ≤ length reply → (step digest (decode book)).move ≡ pass (decode book).current certificate finalized → Restarts book (moving reply)
  Restarts-by_pass-kept _ = page.Restarts.by_pass

  Restarts-by_opening-kept : (book : Bytes) → (way : Opening) (n own heights : ℕ) (leaders : Bytes) → (open_call way book n own heights leaders).answer ≡ accepted done → Restarts book (opening way n own heights leaders)
  Restarts-by_opening-kept _ = page.Restarts.by_opening

  Restarts-apart : (book : Bytes) → (i0 : Call) → Restarts book i0 → Unit {0}
  Restarts-apart _ _ (page.Restarts.by_pass _ _ _ _ _) = tt
  Restarts-apart _ _ (page.Restarts.by_opening _ _ _ _ _ _) = tt

  Timer-kept : (book : Bytes) (call : Call) (goes_up : flag 1 (decode book) ≡ false → (flag 1 (decode (book_after digest book call)) ≡ true) ↔ Fires book call) (comes_down : flag 1 (decode book) ≡ true → (flag 1 (decode (book_after digest book call)) ≡ false) ↔ Restarts book call) →
      Timer book call
  Timer-kept book call x0 x1 = record { goes_up = x0; comes_down = x1 }

  abbrev VotesDummyNext-kept : Bytes → Bytes → Type 0
  VotesDummyNext-kept book after =
      let s : State = decode after in
      let c : ℕ = (decode book).current in
      Makes digest s (vote_dummy c) (dummy_vote (decode book).own c ∷ []) (with_head s (s.flags + 2) c s.finalized)

  same-VotesDummyNext : VotesDummyNext-kept is-kept page.VotesDummyNext digest
  same-VotesDummyNext = by-text
