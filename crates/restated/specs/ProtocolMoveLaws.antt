-- Written by tests/restated --write: what docs/statements has of
-- crates/protocol/proofs/Laws/MoveLaws.antt.
use Rattle.std.specs.Prelude.{◌≡◌, true, false}
use package.Rattle.protocol.specs.Bytes.{Bytes}
use package.Rattle.protocol.specs.State.{State, at, flag, holds_proposal}
use package.Rattle.protocol.specs.View.{extends}
use package.Rattle.protocol.specs.Sound.{view}
use package.Rattle.protocol.specs.Move.{is_running}
use mathlib.Core.Path.{◌≡◌ as ◌is-kept◌, refl as by-text}
use package.Rattle.protocol.proofs.Laws.MoveLaws as page

module _ (digest : Bytes → Bytes) (s : State) where
  abbrev VotesBlock : Type 0
  VotesBlock = page.VotesBlock digest s

  VotesBlock-kept : (running : is_running s ≡ true) (not_yet : flag 4 s ≡ false) (held : holds_proposal (at s s.current) ≡ true) (extending : extends digest (view s) s.current (at s s.current).proposal ≡ true) →
      VotesBlock
  VotesBlock-kept x0 x1 x2 x3 = record { running = x0; not_yet = x1; held = x2; extending = x3 }
