-- `enter` meets its contract: the flags and the current height change and nothing else.
use native.Mathlib.Omega.{arith}
use mathlib.Core.Path.{◌∙◌, ap}
use lib.ListN.{length, set, length-set}
use lib.Seq.{get_or-set_other}
use Rattle.protocol.specs.Bytes.{byte_at}
use Rattle.book_fields.specs.Laws.HeadLaws.{entered, short_heights, put_length}
use Rattle.book_fields.proofs.head.enter.Goals as goal

pub put_number-requires : goal.put_number-requires
put_number-requires c = let book = c.args.book.now in
    let same = get_or-set_other book 3 7 0 0 (λ e. omega arith) in
    let few = short_heights (byte_at book 7) c.args.h (omega (arith, c.requires.h_bound)) in record {
      in_bounds = simp length-set (omega (arith, c.requires.ready.readable.sized.size));
      short_bound = (omega arith, omega arith);
      x_bound = (
        few.0,
        λ e. few.1 (rw same at e),
      );
    }

pub shape_of-book : goal.shape_of-book
shape_of-book c = let book = c.args.book.now in
    ap length c.put_number.ensures
    ∙ put_length 4 42 c.args.h (set book 3 0)
    (simp length-set (omega (arith, c.requires.ready.readable.sized.size))) (omega arith)
    ∙ length-set book 3 0

pub returns : goal.returns
returns c = c.put_number.ensures ∙ entered c.args.book.now c.requires.ready.whole c.args.h
