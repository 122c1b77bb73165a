-- `step` meets its contract: the largest finalized height is written where it is larger, and else nothing.
use Rattle.std.proofs.Common.{ℕ, arith, sym, ap, ◌∙◌}
use Rattle.sha256.specs.Digest.{sha256}
use Rattle.protocol.specs.Move.{new_finalized}
use Rattle.protocol.specs.View.{largest_finalized}
use Rattle.protocol.specs.Sound.{view}
use Rattle.protocol.specs.Observer.{observer_state}
use Rattle.observer.specs.Laws.CallLaws.{outputs, rests}
use Rattle.observer.proofs.make_move.step.Goals as goal

pub largest_finalized-g-requires : goal.largest_finalized-g-requires
largest_finalized-g-requires c = record {
  shown = c.requires.sound_observer_book.ready.readable;
  memo_as = c.requires.memo_as;
  top_bound = omega (arith, c.heights-top.ensures.0);
}

pub returns : goal.returns
unfolding new_finalized
returns c =
    let s = observer_state c.args.book.now in
    let last-is = c.heights-top.ensures.0 ∙ sym c.requires.sound_observer_book.ready.readable.sized.count in
    let is = c.largest_finalized-g.ensures.answer
    ∙ ap (λ (h : ℕ). largest_finalized sha256 (view s) h) last-is in
    let all = outputs c.args.book.now _ is (omega (arith, c.finalized.ensures.0, c.if-g-finalized.false)) _
    c.set_finalized.ensures in
    record { answer = all.0; book = all.1 }

pub returns-then-g-finalized : goal.returns-then-g-finalized
unfolding new_finalized
returns-then-g-finalized c =
    let s = observer_state c.args.book.now in
    let last-is = c.heights-top.ensures.0 ∙ sym c.requires.sound_observer_book.ready.readable.sized.count in
    let is = c.largest_finalized-g.ensures.answer
    ∙ ap (λ (h : ℕ). largest_finalized sha256 (view s) h) last-is in
    let all = rests c.args.book.now _ is c.requires.sound_observer_book.ready.whole
    (omega (arith, c.finalized.ensures.0, c.if-g-finalized.true)) in
    record { answer = all.0; book = all.1 }
