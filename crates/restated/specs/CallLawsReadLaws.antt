-- Written by tests/restated --write: what docs/statements has of
-- crates/call_laws/proofs/Laws/ReadLaws.antt.
use Rattle.std.specs.Prelude.{◌≡◌}
use Rattle.std.proofs.Math.Option.{some}
use package.Rattle.protocol.specs.Bytes.{zeros}
use package.Rattle.protocol.specs.Tests.{first_refusal}
use package.Rattle.protocol.specs.State.{State}
use package.Rattle.protocol.specs.Deliver.{read_rows}
use mathlib.Core.Path.{◌≡◌ as ◌is-kept◌, refl as by-text}
use package.Rattle.call_laws.proofs.Laws.ReadLaws as page

pub zero_frame-kept : (t : State) → first_refusal (read_rows t (zeros 224)) ≡ some 4
zero_frame-kept = page.zero_frame
