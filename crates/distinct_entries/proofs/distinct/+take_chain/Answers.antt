-- `take_chain` meets its contract: the blocks below are gone through first, then the block of this height. The measure
-- is the height.
use Rattle.std.proofs.Common.{ℕ, ◌<◌, arith, ◌≡◌, sym, ap, subst, ◌∙◌, List}
use Rattle.protocol.specs.Bytes.{Bytes}
use Rattle.protocol.specs.Block.{parent_height}
use Rattle.protocol.specs.View.{View, log_at}
use Rattle.protocol.proofs.Laws.EntriesLaws.{log_start}
use Rattle.book_fields.specs.Book.{view_of}
use Rattle.chains.proofs.ChainWalk.{walk_step, walk_parent}
use Rattle.distinct_entries.specs.Taking.{up_to, Taken}
use Rattle.distinct_entries.proofs.Chain.{before_first}
use Rattle.distinct_entries.proofs.Takes.{none_taken}
use Rattle.distinct_entries.proofs.distinct.+take_chain.Goals as goal

-- what was taken of the chain below is what stands before the first place of this block
below_taken : (v : View) (h : ℕ) {j : ℕ} {block before filter buffer : Bytes} {count : ℕ} → block ≡ v.block h →
    j ≡ parent_height block → Taken (log_at v j) before filter buffer count →
    Taken (up_to v h 0) before filter buffer count
below_taken v h {before = before} {filter = filter} {buffer = buffer} {count = count} is parent taken =
    let j = parent ∙ ap parent_height is in
    subst (λ (es : List Bytes). Taken es before filter buffer count) (ap (log_at v) j ∙ sym (before_first v h)) taken

pub returns-then-h-eq0 : goal.returns-then-h-eq0
returns-then-h-eq0 g t c =
    let v = view_of g.K.Kind.kind c.args.book.now in
    let nothing = log_start v c.args.h (omega arith) in
    let filter = c.args.filter.now in
    let buffer = c.args.buffer.now in
    subst (λ (es : List Bytes). Taken es buffer filter buffer 0) (sym nothing)
    (none_taken buffer filter c.requires.in_bounds)

pub take_chain-count-requires : goal.take_chain-count-requires
take_chain-count-requires g t c =
    let low : 0 < c.args.h = omega arith in
    let step = walk_step c.requires.walkable_as low c.block-block.ensures.block in
    let below = step.below in
    let is = c.parent_height-parent.ensures.0 in
    λ κs lives. (omega arith, (lives, (walk_parent step is, c.requires.in_bounds)))

pub take_block-requires : goal.take_block-requires
take_block-requires g t c =
    let taken = below_taken (view_of g.K.Kind.kind c.args.book.now) c.args.h c.block-block.ensures.block
    c.parent_height-parent.ensures.0 c.take_chain-count.ensures in
    record {
      walkable_as = (c.requires.walkable_as, omega arith);
      marked = taken.marked;
      count_value = taken.counted;
    }

pub returns : goal.returns
returns g t c =
    let taken = below_taken (view_of g.K.Kind.kind c.args.book.now) c.args.h c.block-block.ensures.block
    c.parent_height-parent.ensures.0 c.take_chain-count.ensures in
    c.take_block.ensures _ taken
