-- Written by tests/restated --write: what docs/statements has of
-- crates/paper/specs/Paper.antt.
use Rattle.std.specs.Prelude.{ℕ, suc, ◌≡◌}
use package.Rattle.protocol.specs.Bytes.{Bytes}
use package.Rattle.protocol.specs.Block.{block_height, parent_height, parent_digest}
use package.Rattle.protocol.specs.View.{View}
use package.Rattle.paper.specs.Paper.{Sequence, genesis, add_block, height, Finalization, start, add_dummy, NotarizedBlock, NotarizedDummy, last_block, dummy_next, block_next, ended}
use mathlib.Core.Path.{◌≡◌ as ◌is-kept◌, refl as by-text}
use package.Rattle.paper.specs.Paper as page

module _ (digest : Bytes → Bytes) where
  abbrev last_digest : Sequence → Bytes
  last_digest = page.last_digest digest

  abbrev Follows : (c : Sequence) (b : Bytes) → Type 0
  Follows = page.Follows digest

  module _ (v : View) where
    abbrev NotarizedBlockchain : Sequence → Type 0
    NotarizedBlockchain = page.NotarizedBlockchain digest v

    abbrev FinalizedBlockchain : Sequence → Type 0
    FinalizedBlockchain = page.FinalizedBlockchain digest v

    abbrev SeenOfHeight : (h : ℕ) → Type 0
    SeenOfHeight = page.SeenOfHeight digest v

    abbrev SeenWithBlock : (h : ℕ) → Type 0
    SeenWithBlock = page.SeenWithBlock digest v

    FinalizedBlockchain-start-kept : FinalizedBlockchain genesis
    FinalizedBlockchain-start-kept = page.FinalizedBlockchain.start

    FinalizedBlockchain-ended-kept : {c : Sequence} → NotarizedBlockchain c → Finalization v (height c) → FinalizedBlockchain c
    FinalizedBlockchain-ended-kept = page.FinalizedBlockchain.ended

    FinalizedBlockchain-apart : (i0 : Sequence) → FinalizedBlockchain i0 → Unit {0}
    FinalizedBlockchain-apart _ (page.FinalizedBlockchain.start) = tt
    FinalizedBlockchain-apart _ (page.FinalizedBlockchain.ended _ _) = tt

    SeenOfHeight-kept : (h : ℕ) (sequence : Sequence) (notarized : NotarizedBlockchain sequence) (its_height : height sequence ≡ h) →
        SeenOfHeight h
    SeenOfHeight-kept h x0 x1 x2 = record { sequence = x0; notarized = x1; its_height = x2 }

    SeenWithBlock-kept : (h : ℕ) (parent : Sequence) (block : Bytes) (notarized : NotarizedBlockchain (add_block parent block)) (its_height : suc (height parent) ≡ h) →
        SeenWithBlock h
    SeenWithBlock-kept h x0 x1 x2 x3 = record { parent = x0; block = x1; notarized = x2; its_height = x3 }
