-- `stands_before` meets its contract: what stands before a place is in its block, or in the chain below.
use Rattle.std.proofs.Common.{◌∙◌}
use Rattle.distinct_entries.proofs.Chain.{place_step, cut_entry, found_inside, found_below}
use Rattle.chains.proofs.ChainWalk.{walk_parent}
use Rattle.distinct_entries.proofs.distinct.stands_before.Goals as goal

pub chain_holds-requires : goal.chain_holds-requires
chain_holds-requires g c =
    walk_parent (place_step c.requires c.block-block.ensures.block) c.parent_height.ensures.0

pub returns-then-block_holds : goal.returns-then-block_holds
returns-then-block_holds g c = let is = c.block-block.ensures.block in
    c.if-block_holds.true
    ∙ found_inside c.requires is (cut_entry c.requires is) c.block_holds.ensures c.if-block_holds.true

pub returns-else-block_holds : goal.returns-else-block_holds
returns-else-block_holds g c = let is = c.block-block.ensures.block in
    found_below c.requires is (cut_entry c.requires is) c.block_holds.ensures
    c.if-block_holds.false c.parent_height.ensures.0 c.chain_holds.ensures
