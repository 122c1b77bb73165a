-- `mavunilai_observer_move` meets its contract: it packs what the call answers, whose height is low enough for that.
use Rattle.sha256.specs.Digest.{sha256}
use Rattle.packing.proofs.Laws.ObserverPackingLaws.{observer_move_low}
use Rattle.replica_c.proofs.mavunilai_observer_move.Goals as goal

pub moved_number-requires : goal.moved_number-requires
moved_number-requires c = rw c.make_move.ensures.answer (observer_move_low sha256 _)

pub returns : goal.returns
returns c = record {
  answer = cc;
  book = cc;
}
