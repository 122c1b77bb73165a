-- What a store to a memory leaves known.
use Prim.Native.Nat.{ℕ, ◌+◌, ◌*◌, ◌≤◌, ◌<◌}
use native.Mathlib.Omega.{arith}
use mathlib.Core.Path.{◌≡◌, refl, sym, ap, subst, ◌∙◌}
use mathlib.Core.Logic.{◌⊎◌, inl, inr, ⊎_elim}
use mathlib.Core.Bool.{Bool, true, false}
use lib.ListN.{length, set, length-set}
use lib.Dec.{eqb}
use lib.Seq.{get_or-set_same, get_or-set_other}
use borrow.Author.Tests.{eqb-false, eqb-true}
use Rattle.protocol.specs.Bytes.{Bytes, byte_at, word16, le16, part, put}
use Rattle.protocol.proofs.Laws.BytesLaws.{length_put, put_other, put_there}
use Rattle.protocol.specs.View.{View, linked}
use Rattle.protocol.proofs.Laws.TestsLaws.{le_or_lt}
use Rattle.sha256.specs.Digest.{sha256}
use Rattle.memory.specs.Memo.{Known, KnownAt, run_start}
use Rattle.memory.proofs.Words.{parts_same, words_same, word_size, word_put}

-- ---- a store within the 36 bytes of a height
module _ {heights : ℕ} (v : View) (known after : Bytes) (memo : Known heights v known) (h : ℕ)
    (sized : length after ≡ length known)
    (outside : (k : ℕ) → (k < 36 * h) ⊎ (36 * h + 36 ≤ k) → byte_at after k ≡ byte_at known k) where
  -- what is known of another height stays known
  module _ (i : ℕ) (high : i ≤ heights) (other : i ≡ h → ⊥) where
    side : (k : ℕ) → 36 * i ≤ k → k < 36 * i + 36 → (i ≤ h) ⊎ (h < i) → (k < 36 * h) ⊎ (36 * h + 36 ≤ k)
    side k from to (inl below) = inl (let less : i < h =
        ⊎_elim (λ (q : h ≤ i). absurd (other (omega arith))) (λ (q : i < h). q) (le_or_lt h i) in omega arith)
    side k from to (inr above) = inr (omega arith)

    stays : (k : ℕ) → 36 * i ≤ k → k < 36 * i + 36 → byte_at after k ≡ byte_at known k
    stays k from to = outside k (side k from to (le_or_lt i h))

    elsewhere : KnownAt v after i
    elsewhere =
        let old = memo.each i high in
        let room = memo.room in
        let word : word16 after (36 * i + 2) ≡ word16 known (36 * i + 2) =
        words_same after known (36 * i + 2) (stays (36 * i + 2) (omega arith) (omega arith))
        (stays (36 * i + 2 + 1) (omega arith) (omega arith)) in
        record {
          is_linked_lem = λ q. old.is_linked_lem (sym (stays (36 * i) (omega arith) (omega arith)) ∙ q);
          not_linked = λ q. old.not_linked (sym (stays (36 * i) (omega arith) (omega arith)) ∙ q);
          digest = λ q.
              parts_same after known (36 * i + 4) (36 * i + 4) 32 (omega arith) (omega arith)
              (λ m in_part. stays (36 * i + 4 + m) (omega arith) (omega arith))
              ∙ old.digest (sym (stays (36 * i + 1) (omega arith) (omega arith)) ∙ q);
          run = λ q. word ∙ old.run (omega arith);
        }

  remember : KnownAt v after h → Known heights v after
  remember here = record {
    room = subst (λ (k : ℕ). 36 * (heights + 1) ≤ k) (sym sized) memo.room;
    each =
        λ i high. go i high (eqb i h) refl;
  }
    where
      go : (i : ℕ) → i ≤ heights → (b : Bool) → eqb i h ≡ b → KnownAt v after i
      go i high true e = subst (λ (k : ℕ). KnownAt v after k) (sym (eqb-true i h e)) here
      go i high false e = elsewhere i high (eqb-false i h e)

module _ {heights : ℕ} (v : View) (known : Bytes) (memo : Known heights v known) (h : ℕ) (inside : h ≤ heights) where
  abbrev old : KnownAt v known h
  old = memo.each h inside

  -- ---- one of the first two bytes is stored
  module _ (i value : ℕ) (from : 36 * h ≤ i) (to : i < 36 * h + 2) where
    abbrev marked : Bytes
    marked = set known i value

    marked_there : byte_at marked i ≡ value
    marked_there = get_or-set_same known i value 0 (let room = memo.room in omega arith)

    marked_other : (k : ℕ) → (k ≡ i → ⊥) → byte_at marked k ≡ byte_at known k
    marked_other k other = get_or-set_other known i k value 0 other

    mark :
        (byte_at marked (36 * h) ≡ 1 → linked sha256 v h ≡ true) →
        (byte_at marked (36 * h) ≡ 2 → linked sha256 v h ≡ false) →
        (byte_at marked (36 * h + 1) ≡ 1 → part known (36 * h + 4) 32 ≡ sha256 (v.block h)) → Known heights v marked
    mark links no-links stays =
        let room = memo.room in
        let sized = length-set known i value in
        let word : word16 marked (36 * h + 2) ≡ word16 known (36 * h + 2) =
        words_same marked known (36 * h + 2) (marked_other (36 * h + 2) (λ e. omega arith))
        (marked_other (36 * h + 2 + 1) (λ e. omega arith)) in
        remember v known marked memo h sized
        (λ k side. marked_other k (λ e. ⊎_elim (λ (q : k < 36 * h). omega arith) (λ (q : 36 * h + 36 ≤ k). omega arith)
        side))
        (record {
          is_linked_lem = links;
          not_linked = no-links;
          digest = λ q.
              parts_same marked known (36 * h + 4) (36 * h + 4) 32 (omega arith) (omega arith)
              (λ m in_part. marked_other (36 * h + 4 + m) (λ e. omega arith))
              ∙ stays q;
          run = λ q. word ∙ old.run (omega arith);
        })

  pub remember_linked : linked sha256 v h ≡ true → Known heights v (set known (36 * h) 1)
  remember_linked e = mark (36 * h) 1 (omega arith) (omega arith)
      (λ q. e)
      (λ q. let there = marked_there (36 * h) 1 (omega arith) (omega arith) in absurd (omega arith))
      (λ q. old.digest (sym (marked_other (36 * h) 1 (omega arith) (omega arith) (36 * h + 1) (λ p. omega arith)) ∙ q))

  pub remember_unlinked : linked sha256 v h ≡ false → Known heights v (set known (36 * h) 2)
  remember_unlinked e = mark (36 * h) 2 (omega arith) (omega arith)
      (λ q. let there = marked_there (36 * h) 2 (omega arith) (omega arith) in absurd (omega arith))
      (λ q. e)
      (λ q. old.digest (sym (marked_other (36 * h) 2 (omega arith) (omega arith) (36 * h + 1) (λ p. omega arith)) ∙ q))

  remember_seen : part known (36 * h + 4) 32 ≡ sha256 (v.block h) → Known heights v (set known (36 * h + 1) 1)
  remember_seen e =
      let first = marked_other (36 * h + 1) 1 (omega arith) (omega arith) (36 * h) (λ p. omega arith) in
      mark (36 * h + 1) 1 (omega arith) (omega arith) (λ q. old.is_linked_lem (sym first ∙ q))
      (λ q. old.not_linked (sym first ∙ q)) (λ q. e)

  -- ---- the start of a run is stored
  run_stored : (start : ℕ) → start ≡ run_start v h → Known heights v (put known (36 * h + 2) (le16 (start + 1)))
  run_stored start e =
      let room = memo.room in
      let two = word_size (start + 1) in
      let fits : 36 * h + 2 + length (le16 (start + 1)) ≤ length known = omega arith in
      let after = put known (36 * h + 2) (le16 (start + 1)) in
      let sized = length_put known (36 * h + 2) (le16 (start + 1)) fits in
      let below : (k : ℕ) → k < 36 * h + 2 → byte_at after k ≡ byte_at known k =
      λ k less. put_other known (le16 (start + 1)) (36 * h + 2) fits k (inl less) in
      let above : (k : ℕ) → 36 * h + 4 ≤ k → byte_at after k ≡ byte_at known k =
      λ k more. put_other known (le16 (start + 1)) (36 * h + 2) fits k (inr (omega arith)) in
      remember v known after memo h sized
      (λ k side. ⊎_elim (λ (q : k < 36 * h). below k (omega arith)) (λ (q : 36 * h + 36 ≤ k). above k (omega arith))
      side)
      (record {
        is_linked_lem = λ q. old.is_linked_lem (sym (below (36 * h) (omega arith)) ∙ q);
        not_linked = λ q. old.not_linked (sym (below (36 * h) (omega arith)) ∙ q);
        digest = λ q.
            parts_same after known (36 * h + 4) (36 * h + 4) 32 (omega arith) (omega arith)
            (λ m in_part. above (36 * h + 4 + m) (omega arith))
            ∙ old.digest (sym (below (36 * h + 1) (omega arith)) ∙ q);
        run = λ q. word_put known (36 * h + 2) (start + 1) (omega arith) ∙ ap (λ (k : ℕ). k + 1) e;
      })

  pub remember_run : (start : ℕ) → start ≡ run_start v h → (after : Bytes) →
      after ≡ put known (36 * h + 2) (le16 (start + 1)) → Known heights v after
  remember_run start e after stores = subst (λ (b : Bytes). Known heights v b) (sym stores) (run_stored start e)

  -- ---- a digest is stored, and then said to be known
  module _ (new : Bytes) (whole : length new ≡ 32) (unknown : byte_at known (36 * h + 1) ≡ 1 → ⊥)
      (is : new ≡ sha256 (v.block h)) where
    abbrev after : Bytes
    after = put known (36 * h + 4) new

    fits : 36 * h + 4 + length new ≤ length known
    fits = let room = memo.room in omega arith

    below : (k : ℕ) → k < 36 * h + 4 → byte_at after k ≡ byte_at known k
    below k less = put_other known new (36 * h + 4) fits k (inl less)

    -- the bytes of a digest may be stored as long as none is said to be known there
    remember_bytes : Known heights v after
    remember_bytes =
        let word : word16 after (36 * h + 2) ≡ word16 known (36 * h + 2) =
        words_same after known (36 * h + 2) (below (36 * h + 2) (omega arith)) (below (36 * h + 2 + 1) (omega arith)) in
        remember v known after memo h (length_put known (36 * h + 4) new fits)
        (λ k side. put_other known new (36 * h + 4) fits k
        (⊎_elim (λ (q : k < 36 * h). inl (omega arith)) (λ (q : 36 * h + 36 ≤ k). inr (omega arith)) side))
        (record {
          is_linked_lem = λ q. old.is_linked_lem (sym (below (36 * h) (omega arith)) ∙ q);
          not_linked = λ q. old.not_linked (sym (below (36 * h) (omega arith)) ∙ q);
          digest = λ q. absurd (unknown (sym (below (36 * h + 1) (omega arith)) ∙ q));
          run = λ q. word ∙ old.run (omega arith);
        })

    there : part after (36 * h + 4) 32 ≡ sha256 (v.block h)
    there = subst (λ (k : ℕ). part after (36 * h + 4) k ≡ new) whole (put_there known new (36 * h + 4) fits) ∙ is

-- the same after a store whose outcome is known by an equation
module _ {heights : ℕ} (v : View) (known : Bytes) (memo : Known heights v known) (j : ℕ) (inside : j ≤ heights)
    (new : Bytes) (whole : length new ≡ 32)
    (unknown : byte_at known (36 * j + 1) ≡ 1 → ⊥) (is : new ≡ sha256 (v.block j)) where
  digest_stored : (part (set (put known (36 * j + 4) new) (36 * j + 1) 1) (36 * j + 4) 32 ≡ sha256 (v.block j)) × Known
      heights v (set (put known (36 * j + 4) new) (36 * j + 1) 1)
  digest_stored =
      let bytes = remember_bytes v known memo j inside new whole unknown is in
      let stays = remember_seen v (put known (36 * j + 4) new) bytes j inside
      (there v known memo j inside new whole unknown is) in
      let room = bytes.room in
      ((stays.each j inside).digest (get_or-set_same (put known (36 * j + 4) new) (36 * j + 1) 1 0 (omega arith)), stays)

  pub stored : (stores : Bytes) → stores ≡ put known (36 * j + 4) new →
      (part (set stores (36 * j + 1) 1) (36 * j + 4) 32 ≡ sha256 (v.block j)) × Known heights v
      (set stores (36 * j + 1) 1)
  stored stores e =
      subst (λ (s : Bytes). (part (set s (36 * j + 1) 1) (36 * j + 4) 32 ≡ sha256 (v.block j)) × Known heights v
      (set s (36 * j + 1) 1)) (sym e) digest_stored
