-- `new_book` meets its contract: after `i` turns the first `i` heights have their leaders.
use Rattle.std.specs.Prelude.{◌+◌, ◌*◌, ◌≡◌, length}
use Rattle.protocol.specs.State.{encode}
use Rattle.protocol.specs.Open.{new_state, long}
use Rattle.book_changes.proofs.Leaders.{led}
use Rattle.book_changes.proofs.fresh.new_book.Given as goal

abbrev pub invariant-loop-i : goal.invariant-loop-i
invariant-loop-i l = (l.book ≡ encode (new_state (long l.weights) l.n l.own (led l.leaders l.i))) ×
    (length l.book ≡ 576 + 880 * length l.leaders)
