-- Fetch: the certificate of a kind and a height, for sending.
use Rattle.std.specs.Prelude.{ℕ, zero, suc, Bool, cond, List, [], ◌∷◌, ◌++◌, length, leb}
use Rattle.std.proofs.Math.Option.{Option, some, none}
use Rattle.protocol.specs.Bytes.{Bytes, over_front}
use Rattle.protocol.specs.Tests.{in_range, Row, first_refusal}
use Rattle.protocol.specs.Frame.{frame_size, is_certificate, is_block_certificate, is_dummy_certificate}
use Rattle.protocol.specs.State.{State, Height, at, last, decode, is_notarized}
use Rattle.protocol.specs.View.{quorum}
use Rattle.protocol.specs.Sound.{view, sound}
use Rattle.protocol.specs.Certificates.{certificate_frame}
use Rattle.protocol.specs.Answer.{Answer, refused, accepted, Done, done}

-- the state has that certificate
unfoldable pub has_certificate : State → ℕ → ℕ → Bool
has_certificate s k h =
    let x : Height = at s h in
    cond (is_block_certificate k) (is_notarized x)
    (cond (is_dummy_certificate k) (quorum (view s) x.dummy_mask) (quorum (view s) x.finalize_mask))

-- ---- all certificates that Fetch gives of a state
unfoldable pub certificate_if : State → ℕ → ℕ → List Bytes
certificate_if s k h = cond (has_certificate s k h) (certificate_frame s k h ∷ []) []

-- those of a height, by kind
unfoldable pub certificates_at : State → ℕ → List Bytes
certificates_at s h = certificate_if s 5 h ++ (certificate_if s 6 h ++ certificate_if s 7 h)

-- those of the heights 1 to `h`, by height
unfoldable pub certificates_to : State → ℕ → List Bytes
certificates_to s zero = []
certificates_to s (suc h) = certificates_to s h ++ certificates_at s (suc h)

unfoldable pub every_certificate : State → List Bytes
every_certificate s = certificates_to s (last s)

-- ---- the call
-- the answer, the reply afterwards and the frame written
pub record FetchOutcome : Type 0 where
  pub answer : Answer Done
  pub reply : Bytes
  pub frames : List Bytes

unfoldable pub unless_fetch_refused : Option ℕ → Bytes → Bytes → FetchOutcome
unless_fetch_refused none frame reply =
    record { answer = accepted done; reply = over_front frame reply; frames = frame ∷ [] }
unless_fetch_refused (some number) frame reply = record { answer = refused number; reply = reply; frames = [] }

module _ (digest : Bytes → Bytes) where
  unfoldable pub fetch_rows : Bytes → ℕ → ℕ → Bytes → List Row
  fetch_rows book k h reply =
      let s : State = decode book in
      (1, sound digest book) ∷
      (4, is_certificate k) ∷
      (6, in_range 1 (last s) h) ∷
      (3, leb frame_size (length reply)) ∷
      (11, has_certificate s k h) ∷ []

  unfoldable pub fetch_call : Bytes → ℕ → ℕ → Bytes → FetchOutcome
  fetch_call book k h reply =
      unless_fetch_refused (first_refusal (fetch_rows book k h reply)) (certificate_frame (decode book) k h) reply
