-- `add_pending` meets its contract: after `k` places, those of their entries that the log lacks are in front of the
-- pool.
use Rattle.std.proofs.Common.{◌<◌, arith, refl, sym, ap, ◌∙◌, List, [], ◌∷◌, ◌++◌, length}
use Rattle.protocol.specs.Bytes.{Bytes, without}
use Rattle.protocol.specs.State.{decode, encode}
use Rattle.protocol.proofs.Laws.PoolLaws.{moved, moved_none}
use Rattle.chains.proofs.Pending.{walk_at, one_more}
use Rattle.chains.proofs.Closing.{staying, staying_few, staying_all, closed_ready, closed_walk}
use Rattle.chains.proofs.Closing.{closed_more, closed_end}
use Rattle.chains.proofs.AddPendingLoop.{entry_now, now_leaves, now_stays}
use Rattle.chains.proofs.entries.add_pending.Goals as goal

pub loop-k-init : goal.loop-k-init
unfolding without
loop-k-init c = (refl, sym (ap encode (moved_none (decode c.args.book.now)) ∙ c.requires.ready.whole))

pub pending_entry-requires-clause-readable : goal.pending_entry-requires-clause-readable
pending_entry-requires-clause-readable c =
    (closed_ready c.args.book.now c.requires.ready c.requires.book_bound.0 c.loop-k.k (omega arith) c.loop-k.book
    c.loop-k.invariant.1).readable

pub chain_holds-requires : goal.chain_holds-requires
chain_holds-requires c =
    closed_walk c.args.book.now c.requires.ready c.requires.book_bound.0 c.loop-k.k (omega arith) c.loop-k.book
    c.loop-k.invariant.1 (walk_at c.requires.walkable c.finalized-log_height.ensures.0)

pub loop-k-preserved-then-chain_holds : goal.loop-k-preserved-then-chain_holds
loop-k-preserved-then-chain_holds c =
    let s = decode c.args.book.now in
    let leaves = now_leaves c.args.book.now c.requires.ready c.requires.book_bound.0 c.loop-k.k (omega arith)
    c.loop-k.book c.loop-k.invariant.1 c.finalized-log_height.result c.finalized-log_height.ensures.0
    c.pending_entry.result.now c.pending_entry.ensures c.chain_holds.ensures c.if-chain_holds.true in (
      c.loop-k.invariant.0 ∙ ap length (sym leaves),
      c.loop-k.invariant.1 ∙ ap (λ (l : List Bytes). encode (moved s l)) (sym leaves),
    )

pub move_entry-requires-clause-ready : goal.move_entry-requires-clause-ready
move_entry-requires-clause-ready c =
    closed_ready c.args.book.now c.requires.ready c.requires.book_bound.0 c.loop-k.k (omega arith) c.loop-k.book
    c.loop-k.invariant.1

pub move_entry-requires-clause-to_le_from : goal.move_entry-requires-clause-to_le_from
move_entry-requires-clause-to_le_from c =
    let short = staying_few (decode c.args.book.now) c.loop-k.k in
    omega arith

pub overflow_add-left : goal.overflow_add-left
overflow_add-left c =
    let short = staying_few (decode c.args.book.now) c.loop-k.k in
    omega arith

pub loop-k-preserved : goal.loop-k-preserved
loop-k-preserved c =
    let book = c.args.book.now in
    let s = decode book in
    let entry = c.pending_entry.result.now in
    let inside : c.loop-k.k < s.pending_count = omega arith in
    let read = entry_now book c.requires.ready c.requires.book_bound.0 c.loop-k.k inside c.loop-k.book
    c.loop-k.invariant.1 c.pending_entry.ensures in
    let stays = now_stays book c.requires.ready c.requires.book_bound.0 c.loop-k.k inside c.loop-k.book
    c.loop-k.invariant.1 c.finalized-log_height.result c.finalized-log_height.ensures.0 entry c.pending_entry.ensures
    c.chain_holds.ensures c.if-chain_holds.false in (
      one_more (staying s c.loop-k.k) entry c.loop-k.invariant.0 stays,
      closed_more book c.requires.ready c.requires.book_bound.0 c.loop-k.k (omega arith) c.loop-k.book
          c.loop-k.invariant.1 c.loop-k.left c.loop-k.invariant.0 (omega arith) c.move_entry.ensures
          (stays ∙ ap (λ (e : Bytes). staying s c.loop-k.k ++ (e ∷ [])) read),
    )

pub finish_pool-requires-clause-ready : goal.finish_pool-requires-clause-ready
finish_pool-requires-clause-ready c =
    closed_ready c.args.book.now c.requires.ready c.requires.book_bound.0 c.loop-k.k (omega arith) c.loop-k.book
    c.loop-k.invariant.1

pub finish_pool-requires-clause-count_lt_maximum_pending :
    goal.finish_pool-requires-clause-count_lt_maximum_pending
finish_pool-requires-clause-count_lt_maximum_pending c =
    let all = ap length (staying_all (decode c.args.book.now) c.loop-k.k (omega arith)) in
    omega (arith, c.requires.book_bound.1)

pub returns : goal.returns
returns c =
    closed_end c.args.book.now c.requires.ready c.requires.book_bound.0 c.loop-k.k (omega arith) c.loop-k.book
    c.loop-k.invariant.1 c.loop-k.left c.args.entry.now c.loop-k.invariant.0
    (staying_all (decode c.args.book.now) c.loop-k.k (omega arith)) c.finish_pool.ensures
