-- `take_chain` calls itself: the height falls.
use Rattle.distinct_entries.proofs.distinct.+take_chain.Given as goal

abbrev pub decreases-take_chain : goal.decreases-take_chain
decreases-take_chain g l = l.h
