-- `mavunilai_interface` meets its contract: both are the same number.
use mathlib.Core.Path.{refl}
use Rattle.replica_c.specs.Interface.{interface_number}
use Rattle.replica_c.proofs.mavunilai_interface.Goals as goal

pub returns : goal.returns
unfolding interface_number
returns c = refl
