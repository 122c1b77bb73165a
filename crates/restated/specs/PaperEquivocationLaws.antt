-- Written by tests/restated --write: what docs/statements has of
-- crates/paper/proofs/Laws/EquivocationLaws.antt.
use Rattle.std.specs.Prelude.{◌≡◌, false}
use Rattle.std.proofs.Math.Bool.{true}
use mathlib.Core.List.{List}
use package.Rattle.protocol.specs.Bytes.{Bytes}
use package.Rattle.protocol.specs.Answer.{Counts, accepted}
use package.Rattle.protocol.specs.State.{flag, decode}
use package.Rattle.protocol.specs.Sound.{sound}
use package.Rattle.protocol.specs.Deliver.{deliver_call, deliver_all}
use package.Rattle.protocol.specs.Packet.{packet_frames, packet_call}
use package.Rattle.call_laws.specs.Equivocating.{Equivocation}
use package.Rattle.paper.specs.Timer.{TwoBlocks, VotesDummyNext}
use mathlib.Core.Path.{◌≡◌ as ◌is-kept◌, refl as by-text}
use package.Rattle.paper.proofs.Laws.EquivocationLaws as page

module _ (digest : Bytes → Bytes) where
  module _ (book : Bytes) (frames : List Bytes) (was : sound digest book ≡ true)
      (two : TwoBlocks book frames) where
    pub two_blocks-kept : flag 2 (decode book) ≡ false → VotesDummyNext digest book (deliver_all digest book frames)
    two_blocks-kept = page.two_blocks digest book frames was two

module _ (digest : Bytes → Bytes) where
  pub two_blocks_packet-kept : (book packet : Bytes) (counts : Counts) → sound digest book ≡ true →
      (packet_call digest book packet).answer ≡ accepted counts → TwoBlocks book (packet_frames packet) →
      flag 2 (decode book) ≡ false → VotesDummyNext digest book (packet_call digest book packet).book
  two_blocks_packet-kept = page.two_blocks_packet digest

  pub second_block-kept : (book frame : Bytes) → sound digest book ≡ true → Equivocation (decode book) frame →
      flag 2 (decode book) ≡ false → VotesDummyNext digest book (deliver_call digest book frame).book
  second_block-kept = page.second_block digest
