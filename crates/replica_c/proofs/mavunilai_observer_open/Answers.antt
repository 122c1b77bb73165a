-- `mavunilai_observer_open` meets its contract: it packs what the call answers.
use Rattle.packing.specs.Packing.{packed_done}
use Rattle.replica_c.proofs.PackedCall.{packed_call}
use Rattle.replica_c.proofs.mavunilai_observer_open.Goals as goal

pub returns : goal.returns
returns c =
    let all = packed_call packed_done c.done_number.ensures (c.open.ensures.answer, c.open.ensures.book) in
    record { answer = all.0; book = all.1 }
