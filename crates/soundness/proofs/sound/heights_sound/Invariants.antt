-- Before each turn the heights passed are as they must be.
use Rattle.std.proofs.Common.{◌≡◌, ◌≤◌, true}
use Rattle.protocol.specs.Tests.{every_height}
use Rattle.soundness.proofs.sound.heights_sound.Given as goal

abbrev pub invariant-loop-h : goal.invariant-loop-h
invariant-loop-h g l = record {
  inside : l.h ≤ l.h-end;
  passed : every_height (g.R.Rows.height l.book) l.h ≡ true;
}
