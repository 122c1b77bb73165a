-- A block that is put together of a parent and entries: it is well formed, and its fields are those that it was made
-- of.
use Rattle.std.specs.Prelude.{ℕ, ◌+◌, ◌-◌, ◌*◌, ◌/◌, ◌≤◌, ◌<◌, ◌≡◌, true, List, ◌++◌, drop, eqb}
use Rattle.std.proofs.Common.{arith, sym, ◌∙◌, length-append, drop-drop}
use Rattle.std.proofs.Math.Path.{refl, ap}
use Rattle.std.proofs.Math.ListN.{length}
use Rattle.std.proofs.Math.Seq.{take_at, drop_at}
use borrow.Author.Tests.{eq-eqb, lt-ltb, le-leb, eqb-true}
use Rattle.protocol.specs.Every.{Every, none, one}
use Rattle.protocol.specs.Bytes.{Bytes, word16, le16, part, zeros, is_zero, all, join, pieces, Sized}
use Rattle.protocol.specs.Block.{block_height, parent_height, entry_count, parent_digest, entries, block_well_formed}
use Rattle.protocol.specs.Block.{new_block}
use Rattle.protocol.proofs.Laws.PiecesLaws.{pieces_join, length_join}
use Rattle.protocol.proofs.Laws.RowLaws.{all_of_lem, true_implies, zeros_is_zero}
use Rattle.protocol.proofs.Laws.BytesLaws.{length_zeros, word16_le16}

pub new_block_size : (h parent : ℕ) (digest : Bytes) (es : List Bytes) → length digest ≡ 32 → Every (Sized 16) es →
    length es ≤ 8 → length (new_block h parent digest es) ≡ 176
unfolding new_block le16
new_block_size h parent digest es size sized few =
    simp (length-append, length_zeros, length_join 16 es sized, size) (omega arith)

pub new_block_height : (h parent : ℕ) (digest : Bytes) (es : List Bytes) → block_height (new_block h parent digest es) ≡ h
unfolding block_height new_block word16 le16
new_block_height h parent digest es = word16_le16 h

pub new_block_parent : (h parent : ℕ) (digest : Bytes) (es : List Bytes) →
    parent_height (new_block h parent digest es) ≡ parent
unfolding parent_height new_block word16 le16
new_block_parent h parent digest es = word16_le16 parent

module _ (h parent : ℕ) (digest : Bytes) (es : List Bytes)
    (below : parent < h) (digest_size_lem : length digest ≡ 32) (from_start : parent ≡ 0 → is_zero digest ≡ true)
    (few : length es ≤ 8) (sized : Every (Sized 16) es) where
  abbrev block : Bytes
  block = new_block h parent digest es

  abbrev tail : Bytes
  tail = zeros (128 - 16 * length es)

  eleven_zeros : is_zero (part block 5 11) ≡ true
  unfolding is_zero all part new_block le16 zeros
  eleven_zeros = refl

  pub digest_back : parent_digest block ≡ digest
  unfolding parent_digest part new_block le16 zeros
  digest_back = take_at digest (join es ++ tail) 32 digest_size_lem

  entries_from_lem : drop 48 block ≡ join es ++ tail
  unfolding new_block le16 zeros
  entries_from_lem = drop_at digest (join es ++ tail) 32 digest_size_lem

  rest : drop (48 + 16 * length es) block ≡ tail
  rest = sym (drop-drop (16 * length es) 48 block)
      ∙ rw entries_from_lem (drop_at (join es) tail (16 * length es) (length_join 16 es sized))

  pub entries_back : entries block ≡ es
  unfolding entries entry_count new_block le16
  entries_back = ap (λ (b : Bytes). pieces 16 (length es) b) entries_from_lem ∙ pieces_join 16 es tail sized

  pub new_block_good : block_well_formed h block ≡ true
  unfolding block_well_formed entry_count new_block le16
  new_block_good =
      let its = new_block_height h parent digest es in
      let back = new_block_parent h parent digest es in
      all_of_lem
      (one (eq-eqb (length block) 176 (new_block_size h parent digest es digest_size_lem sized few))
      (one (eq-eqb (block_height block) h its)
      (one (lt-ltb (parent_height block) h (omega arith))
      (one (le-leb (length es) 8 few)
      (one eleven_zeros
      (one (true_implies (eqb (parent_height block) 0) _
      (λ e. ap is_zero digest_back ∙ from_start (sym back ∙ eqb-true (parent_height block) 0 e)))
      (one (ap is_zero rest ∙ zeros_is_zero (128 - 16 * length es)) none)))))))
