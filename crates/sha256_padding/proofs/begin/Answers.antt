-- `begin` meets its contract. Assumes nothing.
use Rattle.sha256_padding.proofs.Stores.{closed}
use Rattle.sha256_padding.proofs.begin.Goals as goal

pub returns-clause-block_after : goal.returns-clause-block_after
returns-clause-block_after c = rw (c.copy_from_slice.ensures.after, c.requires.block_value)
    (closed c.args.rest.now c.requires.rest_len_bound)
