-- `one_round` meets its contract: each sum wraps as the standard's does, and each word stands where the round puts it.
-- Assumes nothing.
use Rattle.std.proofs.Common.{refl}
use Rattle.sha256_rounds.specs.Rounds.{round}
use Rattle.sha256_rounds.specs.Laws.RoundsLaws.{variables_by}
use Rattle.sha256_rounds.proofs.one_round.Goals as goal

pub returns : goal.returns
unfolding round
returns c = variables_by _ _ _ _ refl refl c.choose.ensures refl c.upper_sigma_1.ensures refl c.upper_sigma_0.ensures
    c.majority.ensures refl refl refl
