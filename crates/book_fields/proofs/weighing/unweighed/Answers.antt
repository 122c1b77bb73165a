-- `unweighed` meets its contract: n times a test as a number.
use Prim.Native.Nat.{ℕ, ◌*◌, ◌≤◌}
use native.Mathlib.Omega.{arith}
use mathlib.Core.Path.{◌≡◌, sym, ap₂, ◌∙◌}
use mathlib.Core.Bool.{Bool, true, false, cond}
use mir.Val.{bool_byte}
use lib.Dec.{eqb}
use Rattle.protocol.specs.Bytes.{byte_at}
use Rattle.book_fields.proofs.Showing.{head_room, replicas_at}
use Rattle.book_fields.proofs.weighing.unweighed.Goals as goal

times_test : (t : Bool) (n : ℕ) → n * bool_byte t ≡ cond t n 0
times_test true n = omega arith
times_test false n = omega arith

times-at-most : (t : Bool) (n : ℕ) → n * bool_byte t ≤ n
times-at-most true n = omega arith
times-at-most false n = omega arith

pub byte-requires : goal.byte-requires
byte-requires g c = omega (arith, head_room g.K.Kind.kind c.args.book.now c.requires)

pub overflow_mul-result : goal.overflow_mul-result
overflow_mul-result g c = omega (
  arith,
  times-at-most (eqb c.byte.result 1) c.replicas-n.result,
  c.replicas-n.ensures.1,
)

pub returns : goal.returns
returns g c = let n = c.replicas-n.result in
    let t = eqb c.byte.result 1 in
    let here : n ≡ byte_at c.args.book.now 0 =
    c.replicas-n.ensures.0 ∙ sym (replicas_at g.K.Kind.kind c.args.book.now c.requires) in
    let most = times-at-most t n in record {
      many = times_test t n ∙ ap₂ (λ (x m : ℕ). cond (eqb x 1) m 0) c.byte.ensures.0 here;
      few = omega (arith, most, here);
    }
