-- `run_start` meets its contract: a height that is no dummy starts a run itself, and any other goes on with the run
-- below. The measure is the height.
use Rattle.memory.proofs.+run_start.Given as goal

-- `run_start` calls itself: the height falls, and what is asked of its callees.
abbrev pub decreases-run_start : goal.decreases-run_start
decreases-run_start g l = l.h
