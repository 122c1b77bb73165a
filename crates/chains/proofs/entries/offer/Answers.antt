-- `offer` meets its contract: after `k` places the block has those of them that the chain lacks, eight at most.
use Rattle.std.proofs.Common.{◌≤◌, ◌<◌, arith, ◌≡◌, refl, sym, ap, ◌∙◌, List, [], length}
use Rattle.protocol.specs.Bytes.{Bytes, over_front, without}
use Rattle.protocol.specs.Block.{new_block}
use Rattle.protocol.specs.State.{decode, pending}
use Rattle.protocol.specs.Sound.{view}
use Rattle.protocol.specs.View.{log_at}
use Rattle.protocol.specs.Move.{offered}
use Rattle.protocol.proofs.Laws.EntriesLaws.{place_leaves, place_stays, pending_all, eight_taken}
use Rattle.protocol.proofs.Laws.EntriesLaws.{few_taken}
use Rattle.chains.proofs.Pending.{one_more, begun_again, filled_more}
use Rattle.chains.proofs.OfferLoop.{lacked, sized, entry_size, all_over}
use Rattle.chains.proofs.entries.offer.Goals as goal

pub loop-k-init : goal.loop-k-init
unfolding without
loop-k-init c =
    let args = c.args in (
      refl,
      omega arith,
      begun_again (new_block args.c args.j args.digest.now []) args.block.now c.start_block.ensures,
    )

pub returns-then-taken-eq8 : goal.returns-then-taken-eq8
unfolding offered
returns-then-taken-eq8 c =
    let args = c.args in
    let s = decode args.book.now in
    let log = log_at (view s) args.j in
    let size : length (lacked args.book.now args.j c.loop-k.k) ≡ 8 = omega arith in
    all_over args.book.now args.j c.requires.walkable c.requires.book_bound c.loop-k.k args.c args.digest.now
    args.block.now c.start_block.new.block c.loop-k.block c.requires.c_bound.1 c.start_block.ensures (omega arith)
    c.loop-k.invariant.2 (eight_taken log (pending s) c.loop-k.k size)

pub loop-k-preserved-then-chain_holds : goal.loop-k-preserved-then-chain_holds
loop-k-preserved-then-chain_holds c =
    let args = c.args in
    let s = decode args.book.now in
    let log = log_at (view s) args.j in
    let inside : c.loop-k.k < s.pending_count = omega arith in
    let leaves = place_leaves s log c.loop-k.k inside c.pending_entry-entry.ensures c.chain_holds.ensures
    c.if-chain_holds.true in (
      c.loop-k.invariant.0 ∙ ap length (sym leaves),
      c.loop-k.invariant.1,
      c.loop-k.invariant.2 ∙ ap (λ (l : List Bytes). over_front (new_block args.c args.j args.digest.now l)
          c.start_block.new.block) (sym leaves),
    )

pub add_entry-requires-clause-count_bound : goal.add_entry-requires-clause-count_bound
add_entry-requires-clause-count_bound c = omega (arith, c.if-taken-eq8.false)

pub add_entry-requires-clause-len : goal.add_entry-requires-clause-len
add_entry-requires-clause-len c =
    entry_size c.args.book.now c.args.j c.requires.walkable c.requires.book_bound c.loop-k.k (omega arith)
    c.pending_entry-entry.ensures

pub loop-k-preserved : goal.loop-k-preserved
loop-k-preserved c =
    let args = c.args in
    let s = decode args.book.now in
    let log = log_at (view s) args.j in
    let es = lacked args.book.now args.j c.loop-k.k in
    let inside : c.loop-k.k < s.pending_count = omega arith in
    let entry = c.pending_entry-entry.result.now in
    let stays = place_stays s log c.loop-k.k inside c.pending_entry-entry.ensures c.chain_holds.ensures
    c.if-chain_holds.false in
    let more : c.loop-k.taken < 8 = omega (arith, c.if-taken-eq8.false) in (
      one_more es entry c.loop-k.invariant.0 stays,
      omega arith,
      filled_more args.c args.j args.digest.now c.requires.c_bound.1 c.start_block.new.block es entry
          (sized args.book.now args.j c.requires.walkable c.requires.book_bound c.loop-k.k) c.loop-k.invariant.0 more
          (entry_size args.book.now args.j c.requires.walkable c.requires.book_bound c.loop-k.k inside
          c.pending_entry-entry.ensures) stays c.loop-k.invariant.2 c.add_entry.ensures,
    )

pub returns : goal.returns
unfolding offered
returns c =
    let args = c.args in
    let s = decode args.book.now in
    let log = log_at (view s) args.j in
    let over : s.pending_count ≤ c.loop-k.k = omega arith in
    let few : length (lacked args.book.now args.j c.loop-k.k) ≤ 8 = omega arith in
    all_over args.book.now args.j c.requires.walkable c.requires.book_bound c.loop-k.k args.c args.digest.now
    args.block.now c.start_block.new.block c.loop-k.block c.requires.c_bound.1 c.start_block.ensures few
    c.loop-k.invariant.2 (few_taken log (pending s) c.loop-k.k few (pending_all s c.loop-k.k over))
