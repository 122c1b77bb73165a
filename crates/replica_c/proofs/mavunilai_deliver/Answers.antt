-- `mavunilai_deliver` meets its contract: it packs what the call answers.
use Rattle.packing.specs.Packing.{packed_delivery}
use Rattle.replica_c.proofs.PackedCall.{packed_call}
use Rattle.replica_c.proofs.mavunilai_deliver.Goals as goal

pub returns : goal.returns
returns c =
    let all = packed_call packed_delivery c.delivered_number.ensures (c.deliver.ensures.answer, c.deliver.ensures.book) in
    record { answer = all.0; book = all.1 }
