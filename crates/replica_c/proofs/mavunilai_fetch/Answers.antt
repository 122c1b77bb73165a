-- `mavunilai_fetch` meets its contract: it packs what the call answers.
use Rattle.packing.specs.Packing.{packed_done}
use Rattle.replica_c.proofs.PackedCall.{packed_call}
use Rattle.replica_c.proofs.mavunilai_fetch.Goals as goal

pub returns : goal.returns
returns c =
    let all = packed_call packed_done c.done_number.ensures (c.fetch.ensures.answer, c.fetch.ensures.reply) in
    record { answer = all.0; reply = all.1 }
