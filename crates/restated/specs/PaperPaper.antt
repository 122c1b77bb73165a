-- Written by tests/restated --write: what docs/statements has of
-- crates/paper/specs/Paper.antt.
use Rattle.std.specs.Prelude.{ℕ, suc, ◌≡◌, true, List, [], ◌++◌}
use package.Rattle.protocol.specs.Bytes.{Bytes, zeros}
use package.Rattle.protocol.specs.Block.{digest_size, block_height, parent_height, parent_digest, entries}
use package.Rattle.protocol.specs.View.{View, quorum}
use package.Rattle.paper.specs.Paper.{Sequence, genesis, add_dummy, add_block, height, last_block, start, dummy_next, block_next}
use mathlib.Core.Path.{◌≡◌ as ◌is-kept◌, refl as by-text}
use package.Rattle.paper.specs.Paper as page

Sequence-genesis-kept : Sequence
Sequence-genesis-kept = page.Sequence.genesis

Sequence-add_dummy-kept : Sequence → Sequence
Sequence-add_dummy-kept = page.Sequence.add_dummy

Sequence-add_block-kept : Sequence → Bytes → Sequence
Sequence-add_block-kept = page.Sequence.add_block

Sequence-apart : Sequence → Unit {0}
Sequence-apart (page.Sequence.genesis) = tt
Sequence-apart (page.Sequence.add_dummy _) = tt
Sequence-apart (page.Sequence.add_block _ _) = tt

height-kept : Sequence → ℕ
height-kept genesis = 0
height-kept (add_dummy c) = suc (height-kept c)
height-kept (add_block c b) = suc (height-kept c)

same-height : height-kept is-kept page.height
unfolding height-kept page.height
same-height = by-text

linearize-kept : Sequence → List Bytes
linearize-kept genesis = []
linearize-kept (add_dummy c) = linearize-kept c
linearize-kept (add_block c b) = linearize-kept c ++ entries b

same-linearize : linearize-kept is-kept page.linearize
unfolding linearize-kept page.linearize
same-linearize = by-text

last_block-kept : Sequence → ℕ
last_block-kept genesis = 0
last_block-kept (add_dummy c) = last_block-kept c
last_block-kept (add_block c b) = suc (height c)

same-last_block : last_block-kept is-kept page.last_block
unfolding last_block-kept page.last_block
same-last_block = by-text

module _ (v : View) where
  abbrev NotarizedBlock : (h : ℕ) (b : Bytes) → Type 0
  NotarizedBlock = page.NotarizedBlock v

  NotarizedBlock-kept : (h : ℕ) (b : Bytes) (seen : v.has_block h ≡ true) (same : v.block h ≡ b) (votes : quorum v (v.certificate_mask h) ≡ true) →
      NotarizedBlock h b
  NotarizedBlock-kept h b x0 x1 x2 = record { seen = x0; same = x1; votes = x2 }

  abbrev NotarizedDummy-kept : ℕ → Type 0
  NotarizedDummy-kept h = quorum v (v.dummy_mask h) ≡ true

  same-NotarizedDummy : NotarizedDummy-kept is-kept page.NotarizedDummy v
  same-NotarizedDummy = by-text

  abbrev Finalization-kept : ℕ → Type 0
  Finalization-kept h = quorum v (v.finalize_mask h) ≡ true

  same-Finalization : Finalization-kept is-kept page.Finalization v
  same-Finalization = by-text

module _ (digest : Bytes → Bytes) where
  abbrev last_digest : Sequence → Bytes
  last_digest = page.last_digest digest

  abbrev Follows : (c : Sequence) (b : Bytes) → Type 0
  Follows = page.Follows digest

  abbrev Blockchain : Sequence → Type 0
  Blockchain = page.Blockchain digest

  last_digest-kept : Sequence → Bytes
  last_digest-kept genesis = zeros digest_size
  last_digest-kept (add_dummy c) = last_digest-kept c
  last_digest-kept (add_block c b) = digest b

  same-last_digest : last_digest-kept is-kept page.last_digest digest
  unfolding last_digest-kept page.last_digest
  same-last_digest = by-text

  Follows-kept : (c : Sequence) (b : Bytes) (its_height : block_height b ≡ suc (height c)) (its_parent : parent_height b ≡ last_block c) (its_digest : parent_digest b ≡ last_digest c) →
      Follows c b
  Follows-kept c b x0 x1 x2 = record { its_height = x0; its_parent = x1; its_digest = x2 }

  Blockchain-start-kept : Blockchain genesis
  Blockchain-start-kept = page.Blockchain.start

  Blockchain-dummy_next-kept : {c : Sequence} → Blockchain c → Blockchain (add_dummy c)
  Blockchain-dummy_next-kept = page.Blockchain.dummy_next

  Blockchain-block_next-kept : {c : Sequence} {b : Bytes} → Blockchain c → Follows c b → Blockchain (add_block c b)
  Blockchain-block_next-kept = page.Blockchain.block_next

  Blockchain-apart : (i0 : Sequence) → Blockchain i0 → Unit {0}
  Blockchain-apart _ (page.Blockchain.start) = tt
  Blockchain-apart _ (page.Blockchain.dummy_next _) = tt
  Blockchain-apart _ (page.Blockchain.block_next _ _) = tt
