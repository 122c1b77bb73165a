-- Written by tests/restated --write: what docs/statements has of
-- crates/call_laws/proofs/Laws/KeepsExactLaws.antt.
use Rattle.std.specs.Prelude.{◌≡◌}
use package.Rattle.protocol.specs.Bytes.{Bytes, AreBytes}
use package.Rattle.protocol.specs.Answer.{accepted, Delivery}
use package.Rattle.protocol.specs.Deliver.{deliver_call}
use package.Rattle.call_laws.specs.Keeping.{Keeps}
use mathlib.Core.Path.{◌≡◌ as ◌is-kept◌, refl as by-text}
use package.Rattle.call_laws.proofs.Laws.KeepsExactLaws as page

pub keeps_exact-kept : (digest : Bytes → Bytes) (book frame : Bytes) (news : Delivery) →
    (deliver_call digest book frame).answer ≡ accepted news → AreBytes book →
    AreBytes (deliver_call digest book frame).book →
    (news' : Delivery) (after : Bytes) → AreBytes after → Keeps digest book frame news' after →
    (news' ≡ news) × (after ≡ (deliver_call digest book frame).book)
keeps_exact-kept = page.keeps_exact
