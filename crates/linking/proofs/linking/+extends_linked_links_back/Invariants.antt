-- `extends`, `linked` and `links_back` call each other: the number that falls on the way round.
use Rattle.std.proofs.Common.{◌+◌, ◌*◌}
use Rattle.linking.proofs.linking.+extends_linked_links_back.Given as goal

abbrev pub decreases-extends : goal.decreases-extends
decreases-extends g l = 3 * l.h

abbrev pub decreases-linked : goal.decreases-linked
decreases-linked g l = 3 * l.h + 2

abbrev pub decreases-links_back : goal.decreases-links_back
decreases-links_back g l = 3 * l.h + 1
