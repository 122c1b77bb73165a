-- `mavunilai_packet` meets its contract: it packs what the call answers, and writes the counts that it tells.
use Rattle.replica_c.proofs.mavunilai_packet.Goals as goal

pub returns : goal.returns
returns c = record {
  answer = cc;
  book = cc;
  counts = cc;
}
