-- Written by tests/restated --write: what docs/statements has of
-- crates/agreement/proofs/Laws/AnyDigestLaws.antt.
use Rattle.std.specs.Prelude.{◌≡◌, length}
use package.Rattle.protocol.specs.Bytes.{Bytes}
use package.Rattle.agreement.specs.AnyDigest.{AnyDigest}
use package.Rattle.agreement.specs.Turns.{next_block}
use mathlib.Core.Path.{◌≡◌ as ◌is-kept◌, refl as by-text}
use package.Rattle.agreement.proofs.Laws.AnyDigestLaws as page

module _ (digest : Bytes → Bytes) where
  module _ (size : length (digest next_block) ≡ 32) where
    pub any_digest-kept : AnyDigest digest
    any_digest-kept = page.any_digest digest size
