-- `set_finalized` meets its contract: one number of the head changes and nothing else.
use Rattle.std.proofs.Common.{arith, ◌∙◌}
use Rattle.protocol.specs.Bytes.{byte_at}
use Rattle.protocol.proofs.Laws.ObserverPlaceLaws.{book_observed_finalized}
use Rattle.book_fields.specs.Laws.HeadLaws.{short_heights}
use Rattle.observer_book.proofs.set_finalized.Goals as goal

pub put_number-requires : goal.put_number-requires
put_number-requires c = let few = short_heights (byte_at c.args.book.now 7) c.args.g (omega (arith, c.requires.g_bound)) in
    record {
      in_bounds = omega (arith, c.requires.observer_ready.readable.sized.size);
      short_bound = (omega arith, omega arith);
      x_bound = (few.0, few.1);
    }

pub returns : goal.returns
returns c = let ready = c.requires.observer_ready in
    c.put_number.ensures ∙
    book_observed_finalized c.args.book.now ready.readable.sized.size ready.whole c.args.g
