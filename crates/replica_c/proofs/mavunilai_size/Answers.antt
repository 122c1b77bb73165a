-- `mavunilai_size` meets its contract: it packs what the call answers, whose size is low enough for that.
use Rattle.sha256.specs.Digest.{sha256}
use Rattle.packing.proofs.Laws.PackingLaws.{size_low}
use Rattle.replica_c.proofs.mavunilai_size.Goals as goal

pub size_number-requires : goal.size_number-requires
size_number-requires c = rw c.size.ensures (size_low sha256 _)

pub returns : goal.returns
returns c = cc
