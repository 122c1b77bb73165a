-- `sha256` meets its contract: the whole blocks where they lie, then the rest with the padding. Assumes nothing.
use Rattle.std.proofs.Common.{refl, ◌∙◌}
use Rattle.sha256.specs.Digest.{initial_hash}
use Rattle.sha256.proofs.Blocks.{all_blocks, parts}
use Rattle.sha256.proofs.digest.sha256.Goals as goal

pub returns : goal.returns
returns c = let message = c.args.message.now in
    c.to_bytes.ensures
    ∙ rw (c.hash_rest.ensures, c.hash_blocks.ensures, c.initial_hash.ensures, ← all_blocks initial_hash message)
    (parts message _ _ refl c.as_chunks.ensures.back)
