-- `replica_zero` meets its contract: its tests are those of the four bytes.
use Rattle.observer_soundness.proofs.ObserverTests.{replica_summed}
use Rattle.observer_soundness.proofs.replica_zero.Goals as goal

pub returns : goal.returns
returns c = rw (c.byte-pending.ensures.0, c.good_number-current.ensures.0, c.byte-flags.ensures.0, c.byte-own.ensures.0)
    (replica_summed c.args.book.now c.requires.in_bounds c.requires.book_value)
