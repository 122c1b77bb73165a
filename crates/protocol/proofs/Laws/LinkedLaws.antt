-- The tests of linked, extending and finalized hold exactly where the facts do, and need no fuel.
use Prim.Native.Nat.{ℕ, zero, suc, ◌-◌, ◌≤◌, ◌<◌}
use Rattle.std.proofs.Common.{arith, sym, ◌∙◌}
use Rattle.std.specs.Prelude.{◌≡◌, false, ◌&&◌, ◌||◌, [], ◌∷◌}
use Rattle.std.proofs.Math.Path.{refl, ap}
use Rattle.std.proofs.Math.Bool.{Bool, true}
use Rattle.std.proofs.Math.Dec.{eqb, ltb, eqb-suc-zero}
use borrow.Author.Tests.{ltb-true, lt-ltb}
use Rattle.protocol.specs.Bytes.{Bytes, same}
use Rattle.protocol.specs.Tests.{all_of}
use Rattle.protocol.specs.Block.{parent_height, parent_digest}
use Rattle.protocol.specs.View.{View, quorum, dummy_run, digest_at, extends_over, linked_within, linked, extends}
use Rattle.protocol.specs.View.{is_finalized}
use Rattle.protocol.specs.Linked.{OnParent, Linked, start, link, Extends, Finalized}
use Rattle.protocol.proofs.Laws.TestsLaws.{and_both}
use Rattle.protocol.proofs.Laws.ViewLaws.{run_sound, run_complete}
use Rattle.protocol.proofs.Laws.RowLaws.{by_rows, same_eq, same_self}

module _ (digest : Bytes → Bytes) where
  -- ---- no fuel
  -- which heights from `h` on are linked does not matter to a block of height `h`
  extends_over-below : (p q : ℕ → Bool) (v : View) (h : ℕ) (block : Bytes) →
      ((j : ℕ) → j < h → p j ≡ q j) → extends_over digest p v h block ≡ extends_over digest q v h block
  unfolding extends_over all_of
  extends_over-below p q v h block agree = go (ltb (parent_height block) h) refl
    where
      rest : Bool
      rest = all_of (same (parent_digest block) (digest_at digest v (parent_height block)) ∷ dummy_run v (parent_height block)
          (h - 1 - parent_height block) ∷ [])

      go : (b : Bool) → ltb (parent_height block) h ≡ b →
          (b && (p (parent_height block) && rest)) ≡ (b && (q (parent_height block) && rest))
      go true e = rw (agree (parent_height block) (ltb-true _ _ e))
      go false e = refl

  enough_fuel : (f g : ℕ) (v : View) (h : ℕ) → h ≤ f → h ≤ g → linked_within digest f v h ≡ linked_within digest g v h
  unfolding linked_within
  enough_fuel zero zero v h p q = refl
  enough_fuel zero (suc g) v zero p q = refl
  enough_fuel zero (suc g) v (suc h) p q = absurd (omega arith)
  enough_fuel (suc f) zero v zero p q = refl
  enough_fuel (suc f) zero v (suc h) p q = absurd (omega arith)
  enough_fuel (suc f) (suc g) v h p q =
      ap (λ (b : Bool). eqb h 0 || v.has_block h && b)
      (extends_over-below (λ j. linked_within digest f v j) (λ j. linked_within digest g v j) v h (v.block h)
      (λ j l. enough_fuel f g v j (omega arith) (omega arith)))

  pub linked_within_lem : (f : ℕ) (v : View) (h : ℕ) → h ≤ f → linked_within digest f v h ≡ linked digest v h
  unfolding linked
  linked_within_lem f v h p = enough_fuel f h v h p (omega arith)

  pub linked_zero : (v : View) → linked digest v 0 ≡ true
  unfolding linked linked_within
  linked_zero v = refl

  pub linked_suc : (v : View) (i : ℕ) → linked digest v
      (suc i) ≡ (v.has_block (suc i) && extends digest v (suc i) (v.block (suc i)))
  unfolding linked linked_within extends
  linked_suc v i =
      rw eqb-suc-zero
      (ap (λ (b : Bool). v.has_block (suc i) && b)
      (extends_over-below (λ j. linked_within digest i v j) (λ j. linked_within digest j v j) v (suc i) (v.block (suc i))
      (λ j l. enough_fuel i j v j (omega arith) (omega arith))))

  -- ---- the tests and the facts
  -- what the rows of an extending block say
  extends_rows : (v : View) (h : ℕ) (block : Bytes) → extends digest v h block ≡ true →
      (linked digest v (parent_height block) ≡ true) × OnParent digest v h (parent_height block) block
  unfolding extends extends_over
  extends_rows v h block e =
      by_rows _ e λ below parent names dummies.
      let lower : parent_height block < h = ltb-true _ _ below in (
        parent,
        record {
          height = refl;
          below = lower;
          names = same_eq _ _ names;
          dummies = λ k low high. run_sound v (parent_height block) (h - 1 - parent_height block) dummies k low
              (omega arith);
        },
      )

  extends_from : (v : View) (h j : ℕ) (block : Bytes) → linked digest v j ≡ true → OnParent digest v h j block →
      extends digest v h block ≡ true
  unfolding extends extends_over all_of
  extends_from v h j block e on =
      let lower : ltb j h ≡ true = lt-ltb j h on.below in
      let run : dummy_run v j (h - 1 - j) ≡ true =
      run_complete v j (h - 1 - j) (λ k low high. on.dummies k low (omega arith)) in
      rw (on.height, on.names, lower, e, same_self (digest_at digest v j), run)

  -- the block of a linked height, its linked parent, and what lies between
  pub linked_parent : (v : View) (i : ℕ) → linked digest v (suc i) ≡ true →
      let j : ℕ = parent_height (v.block (suc i)) in
      (v.has_block (suc i) ≡ true) × (linked digest v j ≡ true) × OnParent digest v (suc i) j (v.block (suc i))
  linked_parent v i e =
      let both = and_both (v.has_block (suc i)) (extends digest v (suc i) (v.block (suc i)))
      (sym (linked_suc v i) ∙ e) in
      let rows = extends_rows v (suc i) (v.block (suc i)) both.1 in
      (both.0, rows.0, rows.1)

  linked_under : (f : ℕ) (v : View) (h : ℕ) → h ≤ f → linked digest v h ≡ true → Linked digest v h
  linked_under zero v zero l e = start
  linked_under zero v (suc i) l e = absurd (omega arith)
  linked_under (suc f) v zero l e = start
  linked_under (suc f) v (suc i) l e =
      let (has, parent, on) = linked_parent v i e in
      let lower = on.below in
      link has (linked_under f v (parent_height (v.block (suc i))) (omega arith) parent) on

  pub linked_sound : (v : View) (h : ℕ) → linked digest v h ≡ true → Linked digest v h
  linked_sound v h e = linked_under h v h (omega arith) e

  link_test : (v : View) (h j : ℕ) → v.has_block h ≡ true → linked digest v j ≡ true →
      OnParent digest v h j (v.block h) → linked digest v h ≡ true
  link_test v zero j has e on = linked_zero v
  link_test v (suc i) j has e on = rw (linked_suc v i, has, extends_from v (suc i) j (v.block (suc i)) e on)

  pub linked_complete : (v : View) {h : ℕ} → Linked digest v h → linked digest v h ≡ true
  linked_complete v start = linked_zero v
  linked_complete v (link {h = h} {j = j} has parent on) = link_test v h j has (linked_complete v parent) on

  pub extends_sound : (v : View) (h : ℕ) (block : Bytes) → extends digest v h block ≡ true → Extends digest v h block
  extends_sound v h block e =
      let rows = extends_rows v h block e in
      record {
        parent = parent_height block;
        parent_linked = linked_sound v (parent_height block) rows.0;
        on_parent =
            rows.1;
      }

  pub extends_complete : (v : View) (h : ℕ) (block : Bytes) → Extends digest v h block → extends digest v h block ≡ true
  extends_complete v h block e = extends_from v h e.parent block (linked_complete v e.parent_linked) e.on_parent

  pub finalized_sound : (v : View) (h : ℕ) → is_finalized digest v h ≡ true → Finalized digest v h
  unfolding is_finalized
  finalized_sound v h e =
      let both = and_both (linked digest v h) (quorum v (v.finalize_mask h)) e in
      record { is_linked = linked_sound v h both.0; has_quorum = both.1 }

  pub finalized_complete : (v : View) (h : ℕ) → Finalized digest v h → is_finalized digest v h ≡ true
  unfolding is_finalized
  finalized_complete v h e = rw (linked_complete v e.is_linked, e.has_quorum)
