-- Written by tests/restated --write: what docs/statements has of
-- crates/protocol/specs/Certificates.antt.
use Rattle.std.specs.Prelude.{ℕ, cond}
use package.Rattle.protocol.specs.Bytes.{Bytes}
use package.Rattle.protocol.specs.Frame.{is_block_certificate, is_dummy_certificate, block_certificate, dummy_certificate}
use package.Rattle.protocol.specs.Frame.{finalize_certificate}
use package.Rattle.protocol.specs.State.{State, Height, at}
use mathlib.Core.Path.{◌≡◌ as ◌is-kept◌, refl as by-text}
use package.Rattle.protocol.specs.Certificates as page

certificate_frame-kept : State → ℕ → ℕ → Bytes
certificate_frame-kept s k h =
    let x : Height = at s h in
    cond (is_block_certificate k) (block_certificate h x.certificate_mask x.notarized)
    (cond (is_dummy_certificate k) (dummy_certificate h x.dummy_mask) (finalize_certificate h x.finalize_mask))

same-certificate_frame : certificate_frame-kept is-kept page.certificate_frame
unfolding certificate_frame-kept page.certificate_frame
same-certificate_frame = by-text
