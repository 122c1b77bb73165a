-- `block_sound` meets its contract: block and mask count only where a block is notarized.
use mathlib.Core.Path.{sym, ◌∙◌}
use Rattle.observer_soundness.proofs.ObserverTests.{block_held, block_none}
use Rattle.observer_soundness.proofs.block_sound.Goals as goal

pub returns : goal.returns
returns c = rw (
  c.quorum-certified.ensures,
  c.mask_at-signers.ensures.0,
  c.block_well_formed-formed.ensures,
  c.notarized.ensures,
)
    (block_held c.args.book.now c.args.h
    (sym c.is_notarized.ensures ∙ c.if-not-is_notarized.false))

pub returns-then-not-is_notarized : goal.returns-then-not-is_notarized
returns-then-not-is_notarized c = sym (block_none c.args.book.now c.args.h (sym c.is_notarized.ensures ∙ c.if-not-is_notarized.true))
