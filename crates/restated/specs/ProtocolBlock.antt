-- Written by tests/restated --write: what docs/statements has of
-- crates/protocol/specs/Block.antt.
use Rattle.std.specs.Prelude.{ℕ, ◌+◌, ◌-◌, ◌*◌, Bool, List, [], ◌∷◌, ◌++◌, length, drop, eqb, leb, ltb}
use package.Rattle.protocol.specs.Bytes.{Bytes, byte_at, word16, le16, part, zeros, is_zero, join, pieces}
use package.Rattle.protocol.specs.Tests.{all_of, implies}
use package.Rattle.protocol.specs.Block.{block_size, digest_size, entry_size, block_entries, block_height, parent_height, entry_count, parent_digest, entries}
use mathlib.Core.Path.{◌≡◌ as ◌is-kept◌, refl as by-text}
use package.Rattle.protocol.specs.Block as page

abbrev maximum_heights-kept : ℕ
maximum_heights-kept = 1000

same-maximum_heights : maximum_heights-kept is-kept page.maximum_heights
same-maximum_heights = by-text

abbrev block_size-kept : ℕ
block_size-kept = 176

same-block_size : block_size-kept is-kept page.block_size
same-block_size = by-text

abbrev digest_size-kept : ℕ
digest_size-kept = 32

same-digest_size : digest_size-kept is-kept page.digest_size
same-digest_size = by-text

abbrev entry_size-kept : ℕ
entry_size-kept = 16

same-entry_size : entry_size-kept is-kept page.entry_size
same-entry_size = by-text

abbrev block_entries-kept : ℕ
block_entries-kept = 8

same-block_entries : block_entries-kept is-kept page.block_entries
same-block_entries = by-text

block_height-kept : Bytes → ℕ
block_height-kept block = word16 block 0

same-block_height : block_height-kept is-kept page.block_height
unfolding block_height-kept page.block_height
same-block_height = by-text

parent_height-kept : Bytes → ℕ
parent_height-kept block = word16 block 2

same-parent_height : parent_height-kept is-kept page.parent_height
unfolding parent_height-kept page.parent_height
same-parent_height = by-text

entry_count-kept : Bytes → ℕ
entry_count-kept block = byte_at block 4

same-entry_count : entry_count-kept is-kept page.entry_count
unfolding entry_count-kept page.entry_count
same-entry_count = by-text

parent_digest-kept : Bytes → Bytes
parent_digest-kept block = part block 16 digest_size

same-parent_digest : parent_digest-kept is-kept page.parent_digest
unfolding parent_digest-kept page.parent_digest
same-parent_digest = by-text

entries-kept : Bytes → List Bytes
entries-kept block = pieces entry_size (entry_count block) (drop 48 block)

same-entries : entries-kept is-kept page.entries
unfolding entries-kept page.entries
same-entries = by-text

block_well_formed-kept : ℕ → Bytes → Bool
block_well_formed-kept h block = all_of
    (eqb (length block) block_size ∷
    eqb (block_height block) h ∷
    ltb (parent_height block) h ∷
    leb (entry_count block) block_entries ∷
    is_zero (part block 5 11) ∷
    implies (eqb (parent_height block) 0) (is_zero (parent_digest block)) ∷
    is_zero (drop (48 + entry_size * entry_count block) block) ∷ [])

same-block_well_formed : block_well_formed-kept is-kept page.block_well_formed
unfolding block_well_formed-kept page.block_well_formed
same-block_well_formed = by-text

new_block-kept : ℕ → ℕ → Bytes → List Bytes → Bytes
new_block-kept h parent digest es =
    (le16 h ++ (le16 parent ++ (length es ∷ zeros 11))) ++
    (digest ++ (join es ++ zeros (entry_size * block_entries - entry_size * length es)))

same-new_block : new_block-kept is-kept page.new_block
unfolding new_block-kept page.new_block
same-new_block = by-text

all_entries-kept : List Bytes → List Bytes
all_entries-kept [] = []
all_entries-kept (block ∷ blocks) = entries block ++ all_entries-kept blocks

same-all_entries : all_entries-kept is-kept page.all_entries
unfolding all_entries-kept page.all_entries
same-all_entries = by-text
