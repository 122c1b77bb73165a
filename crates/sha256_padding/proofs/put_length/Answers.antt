-- `put_length` meets its contract. Assumes nothing.
use Rattle.std.proofs.Common.{◌∙◌}
use borrow.Rule.Slice.PartMut.{same_len_mid}
use Rattle.sha256_padding.proofs.Stores.{lengthened}
use Rattle.sha256_padding.proofs.put_length.Goals as goal

pub returns-clause-block_after : goal.returns-clause-block_after
returns-clause-block_after c = lengthened c.args.block.now _ c.args.size c.requires
    (c.copy_from_slice.ensures.after ∙ c.to_be_bytes.ensures)

pub returns-clause-block_len : goal.returns-clause-block_len
returns-clause-block_len c = same_len_mid 56 8 c.args.block.now _ c.copy_from_slice.ensures.len ∙ c.requires
