-- `take_block` meets its contract: each entry is a repeat of one that stands before it, or is put behind the others.
use Rattle.std.proofs.Common.{ℕ, ◌+◌, ◌*◌, ◌≤◌, arith, le_of_lt, ◌≡◌, refl, sym, ap, subst, ◌∙◌, List, length}
use Rattle.protocol.specs.Bytes.{Bytes, part, put}
use Rattle.protocol.specs.Block.{entry_count}
use Rattle.protocol.specs.Distinct.{distinct}
use Rattle.protocol.specs.State.{maximum_entries}
use Rattle.book_fields.specs.Book.{view_of}
use Rattle.book_fields.specs.Kinds.{BookKind}
use Rattle.distinct_entries.specs.Taking.{Inside, entry_of, up_to, Taken}
use Rattle.distinct_entries.proofs.Chain.{inside_at, before_next, before_end, before_sized, before_few}
use Rattle.distinct_entries.proofs.Takes.{repeat_goes, new_goes}
use Rattle.distinct_entries.proofs.distinct.take_block.Goals as goal

-- what is counted in each turn of the loop stays in bounds
few : {kind : BookKind} {book : Bytes} {h k taken : ℕ} → Inside kind book h k →
    taken ≡ length (distinct (up_to (view_of kind book) h k)) → taken ≤ maximum_entries
few {k = k} inside counted =
    subst (λ (count : ℕ). count ≤ maximum_entries) (sym counted)
    (before_few inside.walk inside.low k (le_of_lt inside.inside))

pub loop-k-init : goal.loop-k-init
loop-k-init g c = (
  record { marked = c.requires.marked; counted = c.requires.count_value; same_length = refl; goes = λ before t. t },
  refl,
)

pub is_repeat-requires-clause-inside : goal.is_repeat-requires-clause-inside
is_repeat-requires-clause-inside g c =
    inside_at c.requires.walkable_as.0 c.requires.walkable_as.1 c.block-block.ensures.block
    c.entry_count-k-end.ensures.0 c.loop-k-test.true

pub is_repeat-requires-clause-marked_2 : goal.is_repeat-requires-clause-marked_2
is_repeat-requires-clause-marked_2 g c = c.loop-k.invariant.0.marked

pub loop-k-preserved-then-is_repeat : goal.loop-k-preserved-then-is_repeat
loop-k-preserved-then-is_repeat g c =
    let v = view_of g.K.Kind.kind c.args.book.now in
    let h = c.args.h in
    let k = c.loop-k.k in (
      repeat_goes c.loop-k.invariant.0 (entry_of v h k) (before_next v h k) c.is_repeat.ensures.marked
          (sym c.if-is_repeat.true ∙ c.is_repeat.ensures.answer),
      c.is_repeat.auto.filter ∙ c.loop-k.invariant.1,
    )

pub put_entry-requires : goal.put_entry-requires
put_entry-requires g c =
    let inside = inside_at c.requires.walkable_as.0 c.requires.walkable_as.1 c.block-block.ensures.block
    c.entry_count-k-end.ensures.0 c.loop-k-test.true in
    (c.block-block.ensures.whole, inside.few, few inside c.loop-k.invariant.0.counted)

pub overflow_add-taken : goal.overflow_add-taken
overflow_add-taken g c =
    let inside = inside_at c.requires.walkable_as.0 c.requires.walkable_as.1 c.block-block.ensures.block
    c.entry_count-k-end.ensures.0 c.loop-k-test.true in
    let most = few inside c.loop-k.invariant.0.counted in
    omega arith

pub loop-k-preserved : goal.loop-k-preserved
loop-k-preserved g c =
    let v = view_of g.K.Kind.kind c.args.book.now in
    let h = c.args.h in
    let k = c.loop-k.k in
    let inside = inside_at c.requires.walkable_as.0 c.requires.walkable_as.1 c.block-block.ensures.block
    c.entry_count-k-end.ensures.0 c.loop-k-test.true in
    let place = ap (λ (b : Bytes). part b (48 + 16 * k) 16) c.block-block.ensures.block in (
      new_goes c.loop-k.invariant.0 (entry_of v h k) (before_next v h k) c.is_repeat.ensures.marked
          (before_sized c.requires.walkable_as.0 c.requires.walkable_as.1 k (le_of_lt inside.inside))
          (sym c.if-is_repeat.false ∙ c.is_repeat.ensures.answer) c.put_entry.ensures.size
          (λ fits. c.put_entry.ensures.put fits ∙ ap (put c.loop-k.buffer (16 * c.loop-k.taken)) place),
      c.is_repeat.auto.filter ∙ c.loop-k.invariant.1,
    )

pub returns : goal.returns
returns g c before t =
    let over : c.loop-k.k ≡ c.entry_count-k-end.result = omega arith in
    let count : c.loop-k.k ≡ entry_count ((view_of g.K.Kind.kind c.args.book.now).block c.args.h) =
    over ∙ c.entry_count-k-end.ensures.0 ∙ ap entry_count c.block-block.ensures.block in
    subst (λ (es : List Bytes). Taken es before c.loop-k.filter c.loop-k.buffer c.loop-k.taken)
    (before_end c.loop-k.k c.requires.walkable_as.0 c.requires.walkable_as.1 count)
    (c.loop-k.invariant.0.goes before t)
