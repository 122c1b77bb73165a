-- Written by tests/restated --write: what docs/statements has of
-- crates/packing/proofs/Laws/ReadBackLaws.antt.
use Rattle.std.specs.Prelude.{◌≤◌}
use package.Rattle.protocol.specs.Answer.{Answer}
use package.Rattle.protocol.specs.Answer.{Move}
use package.Rattle.protocol.specs.Block.{maximum_heights}
use package.Rattle.packing.specs.Packing.{packed_move}
use package.Rattle.packing.specs.Packing.{answered_height}
use package.Rattle.packing.specs.Unpacking.{Numbered, MoveRead}
use mathlib.Core.Path.{◌≡◌ as ◌is-kept◌, refl as by-text}
use package.Rattle.packing.proofs.Laws.ReadBackLaws as page

pub move_read_back-kept : (a : Answer Move) → Numbered a → answered_height a ≤ maximum_heights → MoveRead (packed_move a) a
move_read_back-kept = page.move_read_back
