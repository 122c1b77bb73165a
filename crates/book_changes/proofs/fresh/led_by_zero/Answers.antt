-- `led_by_zero` meets its contract: the book is cleared, three bytes of its head are set, and weights, H and the current
-- height written.
use Rattle.std.proofs.Common.{arith, ◌∙◌, ap, length-set}
use Rattle.protocol.specs.Bytes.{Bytes, AreBytes, put, le16, zeros}
use Rattle.book_changes.proofs.Leaders.{head_made}
use Rattle.book_changes.proofs.fresh.led_by_zero.Goals as goal

pub bounds-book-1 : goal.bounds-book-1
bounds-book-1 c = simp length-set (omega arith)

pub bounds-book-7 : goal.bounds-book-7
bounds-book-7 c = simp length-set (omega arith)

pub copy_to-requires : goal.copy_to-requires
copy_to-requires c = simp length-set (omega arith)

pub put_word-requires : goal.put_word-requires
put_word-requires c = let size = simp length-set at c.copy_to.auto.target in
    let whole = c.fill.ensures.len in
    record {
      at_in_bounds = omega arith;
      value_bound = omega arith;
    }

pub put_word-requires-2 : goal.put_word-requires-2
put_word-requires-2 c = let size = c.put_word.auto.bytes ∙ (simp length-set at c.copy_to.auto.target) in
    let whole = c.fill.ensures.len in
    record {
      at_in_bounds = omega arith;
      value_bound = omega arith;
    }

pub shape_of-book : goal.shape_of-book
shape_of-book c = c.put_word-2.auto.bytes ∙ c.put_word.auto.bytes ∙ c.copy_to.auto.target
    ∙ simp length-set c.fill.ensures.len

pub returns : goal.returns
unfolding zeros
returns c = let args = c.args in
    let weights = args.weights.now in
    let small : AreBytes weights = λ i. omega (arith, c.type_inv.weights i) in
    c.put_word-2.ensures
    ∙ ap (λ (b : Bytes). put b 42 (le16 1)) (c.put_word.ensures ∙
    ap (λ (b : Bytes). put b 40 (le16 args.heights)) c.copy_to.ensures)
    ∙ head_made args.n args.own args.heights weights args.book.now _ c.requires.book_len small
    c.requires.weights_len c.requires.n_bound.0
    (c.fill.ensures.after (λ y e. e))
