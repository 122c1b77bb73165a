-- What a proposal's writes leave, and that the chain it stands on can be walked.
use Rattle.std.specs.Prelude.{ℕ, ◌-◌, ◌≤◌, ◌≡◌}
use Rattle.std.proofs.Common.{arith, ◌∙◌}
use Rattle.std.proofs.Math.Path.{sym}
use Rattle.std.proofs.Math.Option.{some}
use Rattle.std.proofs.Math.ListN.{length}
use Rattle.protocol.specs.Every.{Every}
use Rattle.sha256.specs.Digest.{sha256}
use Rattle.protocol.specs.Bytes.{Bytes, zeros, over_front, put, Sized}
use Rattle.protocol.proofs.Laws.BytesLaws.{length_zeros}
use Rattle.protocol.specs.Block.{new_block}
use Rattle.protocol.proofs.Laws.BuildLaws.{front_frame_block}
use Rattle.protocol.proofs.Laws.BlockLaws.{new_block_size}
use Rattle.protocol.proofs.Laws.EveryLaws.{every_take}
use Rattle.protocol.proofs.Laws.PendingLaws.{offered_few}
use Rattle.protocol.proofs.Laws.PoolLaws.{every_without}
use Rattle.protocol.proofs.Laws.PiecesLaws.{pieces_sized}
use Rattle.protocol.specs.Frame.{frame_of, proposal}
use Rattle.protocol.specs.State.{State, decode, pending, book_heights}
use Rattle.protocol.specs.Sound.{view}
use Rattle.protocol.specs.View.{digest_at}
use Rattle.protocol.proofs.Laws.LinkedLaws.{linked_complete}
use Rattle.protocol.proofs.Laws.ParentLaws.{parent_some}
use Rattle.protocol.specs.Move.{parent_below, offered, proposed_block}
use Rattle.protocol.proofs.Laws.LogLaws.{view_formed}
use Rattle.protocol.proofs.Laws.SoundLaws.{certified_state}
use Rattle.book_fields.specs.Laws.BookLaws.{ready_state}
use Rattle.book_fields.specs.Book.{SoundBook}
use Rattle.chains.specs.Walkable.{Walkable}

module _ (book : Bytes) (m : SoundBook sha256 book) where
  abbrev s : State
  s = decode book

  -- the chain below the current height
  pub walkable : s.current ≤ book_heights book → (j : ℕ) → parent_below sha256 s ≡ some j → Walkable book j
  walkable high j e =
      let chain = (parent_some sha256 (view s) (s.current - 1) j e).0 in
      let within : j ≤ s.current - 1 = chain.within in
      record {
        shown = m.ready.readable;
        high = omega arith;
        is_linked_lem = linked_complete sha256 (view s) chain.is_linked;
        formed = view_formed sha256 s (certified_state m.state);
      }

  entries_sized : (j : ℕ) → Every (Sized 16) (offered s j)
  unfolding offered pending
  entries_sized j =
      let few = m.state.pending_few in
      let size = (ready_state book m.ready).pool_size_lem in
      every_take 8 (every_without _ (pieces_sized 16 s.pending_count s.pool (omega arith)))

  -- a new block has the size of a block
  pub proposed_size : (digest : Bytes) (c j : ℕ) → length digest ≡ 32 → length (new_block c j digest (offered s j)) ≡ 176
  proposed_size digest c j digest_size_lem = new_block_size c j digest (offered s j) digest_size_lem (entries_sized j)
      (offered_few s j)

  -- the block in the place of a frame's zero bytes
  pub wrote_proposal : (reply middle replyAfter digest : Bytes) (c signer j : ℕ) → c ≡ s.current → signer ≡ s.own →
      length digest ≡ 32 → digest ≡ digest_at sha256 (view s) j →
      middle ≡ over_front (frame_of 1 signer c 0 (zeros 32) (zeros 176)) reply →
      replyAfter ≡ put middle 48 (new_block c j digest (offered s j)) →
      replyAfter ≡ over_front (proposal s.own s.current (proposed_block sha256 s j)) reply
  unfolding proposal proposed_block
  wrote_proposal reply middle replyAfter digest c signer j c-is signer-is digest_size_lem digest-is first second =
      let block : Bytes = new_block c j digest (offered s j) in
      let size : length block ≡ 176 = proposed_size digest c j digest_size_lem in
      let placed : put (over_front (frame_of 1 signer c 0 (zeros 32) (zeros 176)) reply) 48 block ≡ over_front
      (frame_of 1 signer c 0 (zeros 32) block) reply =
      front_frame_block 1 signer c 0 (zeros 32) (zeros 176) block (length_zeros 32) (length_zeros 176 ∙ sym size)
      reply in
      let named : over_front (frame_of 1 signer c 0 (zeros 32) block) reply ≡ over_front
      (proposal s.own s.current (proposed_block sha256 s j)) reply = rw (digest-is, signer-is, c-is) in
      second ∙ rw first (placed ∙ named)
