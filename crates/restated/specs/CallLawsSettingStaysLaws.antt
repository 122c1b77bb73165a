-- Written by tests/restated --write: what docs/statements has of
-- crates/call_laws/proofs/Laws/SettingStaysLaws.antt.
use Rattle.std.specs.Prelude.{◌≡◌, true}
use Rattle.std.proofs.Math.Option.{none}
use package.Rattle.protocol.specs.Bytes.{Bytes}
use package.Rattle.protocol.specs.State.{decode}
use package.Rattle.protocol.specs.Sound.{sound}
use package.Rattle.protocol.specs.Call.{Call}
use package.Rattle.protocol.specs.Call.{effect, book_after}
use package.Rattle.call_laws.specs.SettingStays.{SettingStays}
use mathlib.Core.Path.{◌≡◌ as ◌is-kept◌, refl as by-text}
use package.Rattle.call_laws.proofs.Laws.SettingStaysLaws as page

module _ (digest : Bytes → Bytes) where
  pub setting_stays-kept : (book : Bytes) (call : Call) → sound digest book ≡ true → (effect digest book call).opens ≡ none →
      SettingStays (decode book) (decode (book_after digest book call))
  setting_stays-kept = page.setting_stays digest
