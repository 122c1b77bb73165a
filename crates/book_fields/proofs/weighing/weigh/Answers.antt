-- `weigh` meets its contract: edition 1 has as many counted replicas as there are, each of which weighs 1, and any other
-- edition none.
use Prim.Native.Nat.{ℕ, ◌+◌, ◌-◌}
use native.Mathlib.Omega.{arith}
use native.Mathlib.Nat.{zero-add, add-zero}
use mathlib.Core.Path.{◌≡◌, refl, sym, ap, ap₂, ◌∙◌}
use mathlib.Core.Bool.{Bool, true, false, cond}
use mathlib.Core.List.{List}
use lib.ListN.{length, take, replicate}
use lib.Seq.{take_all}
use lib.Dec.{eqb}
use Rattle.protocol.specs.Bytes.{byte_at}
use Rattle.protocol.specs.Mask.{in_mask, ones, weigh, total}
use Rattle.protocol.proofs.Laws.QuorumLaws.{total_equal, ones_weigh}
use Rattle.book_fields.specs.Book.{view_of}
use Rattle.book_fields.proofs.Showing.{replicas_at}
use Rattle.book_fields.proofs.weighing.weigh.Goals as goal

-- what is counted and what is weighed, together
module _ (mask : ℕ) (ws : List ℕ) where
  all-weighed : (t : Bool) (n : ℕ) → length ws ≡ n → (t ≡ true → ws ≡ replicate n 1) →
      cond t n 0 + total (take (n - cond t n 0) ws) ≡ total ws
  unfolding total
  all-weighed true n each even =
      let none : n - n ≡ 0 = omega arith in rw (none, even refl, total_equal n) (add-zero n)
  all-weighed false n each even =
      let whole : n - 0 ≡ n = omega arith in rw (whole, take_all n ws (omega arith)) (zero-add (total ws))

  held-weighed : (t : Bool) (n : ℕ) → length ws ≡ n → (t ≡ true → ws ≡ replicate n 1) →
      ones mask (cond t n 0) + weigh (λ s. in_mask mask s) (take (n - cond t n 0) ws) ≡ weigh (λ s. in_mask mask s) ws
  unfolding weigh ones
  held-weighed true n each even =
      let none : n - n ≡ 0 = omega arith in rw (none, even refl) (add-zero (ones mask n) ∙ ones_weigh mask n)
  held-weighed false n each even =
      let whole : n - 0 ≡ n = omega arith in
      rw (whole, take_all n ws (omega arith)) (zero-add (weigh (λ s. in_mask mask s) ws))

pub overflow_sub-n : goal.overflow_sub-n
overflow_sub-n g c = let n = replicas_at g.K.Kind.kind c.args.book.now c.requires in
    omega (arith, c.unweighed-counted.ensures.few, c.replicas-n.ensures.0, n)

pub count-requires : goal.count-requires
count-requires g c = omega (arith, c.unweighed-counted.ensures.few, c.requires.replicas)

pub overflow_add-all : goal.overflow_add-all
overflow_add-all g c = omega (
  arith,
  c.requires.replicas,
  c.unweighed-counted.ensures.few,
  c.replicas-n.ensures.1,
  c.weigh_first-given.ensures.small.1,
)

pub returns : goal.returns
returns g c = let replicas = c.replicas-n.ensures in
    let count = c.count.ensures in
    let mask = c.args.mask in
    let book = c.args.book.now in
    let ws = (view_of g.K.Kind.kind book).weights in
    let shown = c.requires in
    let here = replicas.0 ∙ sym (replicas_at g.K.Kind.kind book shown) in record {
      all = ap₂ ◌+◌ c.unweighed-counted.ensures.many (c.weigh_first-given.ensures.all ∙ ap₂ (λ (m x : ℕ). total (take (m - x) ws)) here c.unweighed-counted.ensures.many)
          ∙ all-weighed mask ws (eqb (byte_at book 7) 1) (byte_at book 0) shown.weight_each shown.even_weights;
      held = ap₂ ◌+◌ (count.0 ∙ ap (λ (x : ℕ). ones mask x) c.unweighed-counted.ensures.many)
          (c.weigh_first-given.ensures.held
          ∙ ap₂ (λ (m x : ℕ). weigh (λ s. in_mask mask s) (take (m - x) ws)) here c.unweighed-counted.ensures.many)
          ∙ held-weighed mask ws (eqb (byte_at book 7) 1) (byte_at book 0) shown.weight_each shown.even_weights;
      small = (
        omega (arith, count.1, c.weigh_first-given.ensures.small.0),
        omega (arith, shown.replicas, c.unweighed-counted.ensures.few, replicas.1, c.weigh_first-given.ensures.small.1),
      );
    }
