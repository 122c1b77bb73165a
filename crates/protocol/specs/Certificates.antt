-- The certificate of a height, as it is written: by a pass, and by Fetch.
use Rattle.std.specs.Prelude.{ℕ, cond}
use Rattle.protocol.specs.Bytes.{Bytes}
use Rattle.protocol.specs.Frame.{is_block_certificate, is_dummy_certificate, block_certificate, dummy_certificate}
use Rattle.protocol.specs.Frame.{finalize_certificate}
use Rattle.protocol.specs.State.{State, Height, at}

-- the certificate of kind 5, 6 or 7, with the signers that the state has kept
unfoldable pub certificate_frame : State → ℕ → ℕ → Bytes
certificate_frame s k h =
    let x : Height = at s h in
    cond (is_block_certificate k) (block_certificate h x.certificate_mask x.notarized)
    (cond (is_dummy_certificate k) (dummy_certificate h x.dummy_mask) (finalize_certificate h x.finalize_mask))
