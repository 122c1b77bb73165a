-- `weight` meets its contract: the two bytes of a replica's weight, and 1 more in edition 1.
use native.Mathlib.Omega.{arith}
use lib.Dec.{eqb}
use Rattle.book_fields.proofs.Showing.{head_room, replicas_at, byte_number, byte_at_most}
use Rattle.book_fields.proofs.weighing.weight.Goals as goal

pub byte-requires : goal.byte-requires
byte-requires g c = omega (arith, head_room g.K.Kind.kind c.args.book.now c.requires.shown)

pub overflow_mul-s : goal.overflow_mul-s
overflow_mul-s g c = let shown = c.requires.shown in
    omega (arith, c.requires.s_bound, shown.replicas, replicas_at g.K.Kind.kind c.args.book.now shown)

pub overflow_add-s : goal.overflow_add-s
overflow_add-s g c = let shown = c.requires.shown in
    omega (arith, c.requires.s_bound, shown.replicas, replicas_at g.K.Kind.kind c.args.book.now shown)

pub word-requires : goal.word-requires
word-requires g c = let shown = c.requires.shown in
    omega (
      arith,
      c.requires.s_bound,
      shown.replicas,
      replicas_at g.K.Kind.kind c.args.book.now shown,
      head_room g.K.Kind.kind c.args.book.now shown,
    )

pub overflow_add-result : goal.overflow_add-result
overflow_add-result g c = omega (arith, c.word.ensures.1, byte_at_most (eqb c.byte.result 1))

pub returns : goal.returns
returns g c = let shown = c.requires.shown in
    let low = c.requires.s_bound in
    let n = replicas_at g.K.Kind.kind c.args.book.now shown in
    let one = byte_number (eqb c.byte.result 1) in (
      rw (one, c.word.ensures.0, c.byte.ensures.0)
          (shown.weighs c.args.s (omega (arith, low, n))),
      omega (arith, c.word.ensures.1, byte_at_most (eqb c.byte.result 1)),
    )
