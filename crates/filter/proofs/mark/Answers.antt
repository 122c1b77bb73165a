-- `mark` meets its contract: where the bit was not set, no entry that the filter knows equals this one.
use Rattle.std.specs.Prelude.{◌%◌, ◌<◌}
use Rattle.std.proofs.Common.{arith, mod-lt, sym, ◌∙◌}
use Rattle.std.proofs.lemmas.Bool.{false≢true}
use Rattle.protocol.proofs.Laws.MaskLaws.{add_below}
use Rattle.filter.proofs.Filtering.{seen_is, not_marked, marked_again, marked_more}
use Rattle.filter.proofs.mark.Goals as goal

pub overflow_cast-filter : goal.overflow_cast-filter
overflow_cast-filter c = let place = c.place-place.result in
    let low : place % 8 < 8 = mod-lt place (omega arith) in
    let room = add_below (place % 8) 8 c.byte-before.result low (omega (arith, c.byte-before.ensures.1))
    (sym c.in_mask.ensures ∙ c.if-in_mask.false) in
    omega (arith, room, c.bit.ensures.0)

pub returns-then-in_mask : goal.returns-then-in_mask
returns-then-in_mask c = let args = c.args in
    let is = seen_is args.filter.now args.entry.now c.place-place.ensures c.byte_of-at.ensures.0
    c.byte-before.ensures.0 in record {
      unset = (λ es m e. absurd (false≢true (sym e)));
      marked = λ es m. marked_again args.filter.now es m args.entry.now
          (sym is ∙ sym c.in_mask.ensures ∙ c.if-in_mask.true);
    }

pub returns : goal.returns
returns c = let args = c.args in
    let unset = sym c.in_mask.ensures ∙ c.if-in_mask.false in
    let is = seen_is args.filter.now args.entry.now c.place-place.ensures c.byte_of-at.ensures.0
    c.byte-before.ensures.0 in record {
      unset = (λ es m e. not_marked args.filter.now es m args.entry.now (sym is ∙ unset));
      marked = λ es m. marked_more args.filter.now es m args.entry.now c.place-place.ensures
          c.byte_of-at.ensures.0 c.byte_of-at.ensures.1 c.byte-before.ensures.0 c.bit.ensures.0 unset;
    }
