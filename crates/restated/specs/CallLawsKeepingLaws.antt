-- Written by tests/restated --write: what docs/statements has of
-- crates/call_laws/proofs/Laws/KeepingLaws.antt.
use Rattle.std.specs.Prelude.{◌≡◌}
use package.Rattle.protocol.specs.Bytes.{Bytes}
use package.Rattle.protocol.specs.Answer.{accepted, Delivery}
use package.Rattle.protocol.specs.Deliver.{deliver_call}
use package.Rattle.call_laws.specs.Keeping.{Keeps}
use mathlib.Core.Path.{◌≡◌ as ◌is-kept◌, refl as by-text}
use package.Rattle.call_laws.proofs.Laws.KeepingLaws as page

pub deliver_keeps-kept : (digest : Bytes → Bytes) (book frame : Bytes) (news : Delivery) →
    (deliver_call digest book frame).answer ≡ accepted news →
    Keeps digest book frame news (deliver_call digest book frame).book
deliver_keeps-kept = page.deliver_keeps
