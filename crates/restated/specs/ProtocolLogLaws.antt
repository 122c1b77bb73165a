-- Written by tests/restated --write: what docs/statements has of
-- crates/protocol/proofs/Laws/LogLaws.antt.
use Rattle.std.specs.Prelude.{◌≡◌, true, List}
use package.Rattle.protocol.specs.Bytes.{Bytes, holds, without}
use package.Rattle.protocol.specs.Distinct.{none_twice}
use package.Rattle.protocol.specs.State.{State}
use package.Rattle.protocol.specs.View.{log_at}
use package.Rattle.protocol.specs.Sound.{view, log}
use mathlib.Core.Path.{◌≡◌ as ◌is-kept◌, refl as by-text}
use package.Rattle.protocol.proofs.Laws.LogLaws as page

module _ (s : State) where
  pub log_once-kept : none_twice (log s) ≡ true
  log_once-kept = page.log_once s

  pub log_holds-kept : (x : Bytes) → holds x (log s) ≡ holds x (log_at (view s) s.finalized)
  log_holds-kept = page.log_holds s

  pub log_lacks-kept : (es : List Bytes) → without (log s) es ≡ without (log_at (view s) s.finalized) es
  log_lacks-kept = page.log_lacks s
