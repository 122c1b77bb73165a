-- Written by tests/restated --write: what docs/statements has of
-- crates/protocol/proofs/Laws/ObserverStateLaws.antt.
use mathlib.Core.List.{map}
use package.Rattle.protocol.specs.SoundState.{Weighed}
use package.Rattle.protocol.specs.Every.{Every}
use package.Rattle.protocol.specs.Bytes.{Sized}
use package.Rattle.protocol.specs.Observer.{Observer}
use package.Rattle.protocol.specs.Observer.{observed_body_bytes}
use Rattle.std.specs.Prelude.{◌≡◌}
use package.Rattle.protocol.specs.Observer.{encode_observer}
use package.Rattle.protocol.specs.Observer.{decode_observer}
use package.Rattle.protocol.proofs.Laws.ObserverStateLaws.{ShapedObserver}
use mathlib.Core.Path.{◌≡◌ as ◌is-kept◌, refl as by-text}
use package.Rattle.protocol.proofs.Laws.ObserverStateLaws as page

ShapedObserver-kept : (o : Observer) (weighed : Weighed o.edition o.n o.weights) (blocks : Every (Sized 176) (map observed_body_bytes o.heights)) →
    ShapedObserver o
ShapedObserver-kept o x0 x1 = record { weighed = x0; blocks = x1 }

module _ (o : Observer) (shaped : ShapedObserver o) where
  pub decode_encode_observer-kept : decode_observer (encode_observer o) ≡ o
  decode_encode_observer-kept = page.decode_encode_observer o shaped
