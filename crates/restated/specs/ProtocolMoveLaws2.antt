-- Written by tests/restated --write: what docs/statements has of
-- crates/protocol/proofs/Laws/MoveLaws.antt.
use Rattle.std.specs.Prelude.{◌≡◌, true, false}
use package.Rattle.protocol.specs.Bytes.{Bytes}
use package.Rattle.protocol.specs.State.{State, at, flag, holds_proposal}
use package.Rattle.protocol.specs.View.{extends}
use package.Rattle.protocol.specs.Sound.{view}
use package.Rattle.protocol.specs.Move.{is_running}
use package.Rattle.protocol.specs.Move.{block_vote_applies}
use mathlib.Core.Path.{◌≡◌ as ◌is-kept◌, refl as by-text}
use package.Rattle.protocol.proofs.Laws.MoveLaws as page

module _ (digest : Bytes → Bytes) (s : State) where
  abbrev VotesBlock : Type 0
  VotesBlock = page.VotesBlock digest s

  pub block_vote_rows-kept : block_vote_applies digest s ≡ true → VotesBlock
  block_vote_rows-kept = page.block_vote_rows digest s
