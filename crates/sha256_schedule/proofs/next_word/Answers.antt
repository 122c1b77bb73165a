-- `next_word` meets its contract: each sum wraps as the standard's does, and the four words stand where it says.
-- Assumes nothing.
use Rattle.std.proofs.Common.{refl}
use Rattle.sha256_schedule.specs.Laws.ScheduleLaws.{next_by}
use Rattle.sha256_schedule.proofs.next_word.Goals as goal

pub returns : goal.returns
returns c = next_by c.args.w.now c.args.t c.lower_sigma_1.ensures refl c.lower_sigma_0.ensures refl refl
