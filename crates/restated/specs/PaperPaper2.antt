-- Written by tests/restated --write: what docs/statements has of
-- crates/paper/specs/Paper.antt.
use Rattle.std.specs.Prelude.{suc, ◌≡◌}
use package.Rattle.protocol.specs.Bytes.{Bytes}
use package.Rattle.protocol.specs.Block.{block_height, parent_height, parent_digest}
use package.Rattle.protocol.specs.View.{View}
use package.Rattle.paper.specs.Paper.{Sequence, genesis, add_dummy, add_block, height, NotarizedBlock, NotarizedDummy, last_block, start, dummy_next, block_next}
use mathlib.Core.Path.{◌≡◌ as ◌is-kept◌, refl as by-text}
use package.Rattle.paper.specs.Paper as page

module _ (digest : Bytes → Bytes) where
  abbrev last_digest : Sequence → Bytes
  last_digest = page.last_digest digest

  abbrev Follows : (c : Sequence) (b : Bytes) → Type 0
  Follows = page.Follows digest

  module _ (v : View) where
    abbrev NotarizedBlockchain : Sequence → Type 0
    NotarizedBlockchain = page.NotarizedBlockchain digest v

    NotarizedBlockchain-start-kept : NotarizedBlockchain genesis
    NotarizedBlockchain-start-kept = page.NotarizedBlockchain.start

    NotarizedBlockchain-dummy_next-kept : {c : Sequence} → NotarizedBlockchain c → NotarizedDummy v (suc (height c)) → NotarizedBlockchain (add_dummy c)
    NotarizedBlockchain-dummy_next-kept = page.NotarizedBlockchain.dummy_next

    NotarizedBlockchain-block_next-kept : {c : Sequence} {b : Bytes} → NotarizedBlockchain c → Follows c b → NotarizedBlock v (suc (height c)) b → NotarizedBlockchain (add_block c b)
    NotarizedBlockchain-block_next-kept = page.NotarizedBlockchain.block_next

    NotarizedBlockchain-apart : (i0 : Sequence) → NotarizedBlockchain i0 → Unit {0}
    NotarizedBlockchain-apart _ (page.NotarizedBlockchain.start) = tt
    NotarizedBlockchain-apart _ (page.NotarizedBlockchain.dummy_next _ _) = tt
    NotarizedBlockchain-apart _ (page.NotarizedBlockchain.block_next _ _ _) = tt
