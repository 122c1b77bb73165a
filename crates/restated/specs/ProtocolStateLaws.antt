-- Written by tests/restated --write: what docs/statements has of
-- crates/protocol/proofs/Laws/StateLaws.antt.
use Rattle.std.specs.Prelude.{◌≡◌}
use package.Rattle.protocol.specs.SoundState.{Shaped}
use package.Rattle.protocol.specs.State.{State, encode, decode}
use mathlib.Core.Path.{◌≡◌ as ◌is-kept◌, refl as by-text}
use package.Rattle.protocol.proofs.Laws.StateLaws as page

module _ (s : State) (shaped : Shaped s) where
  pub decode_encode-kept : decode (encode s) ≡ s
  decode_encode-kept = page.decode_encode s shaped
