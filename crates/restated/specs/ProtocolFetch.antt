-- Written by tests/restated --write: what docs/statements has of
-- crates/protocol/specs/Fetch.antt.
use Rattle.std.specs.Prelude.{ℕ, zero, suc, Bool, cond, List, [], ◌∷◌, ◌++◌, length, leb}
use Rattle.std.proofs.Math.Option.{Option, some, none}
use package.Rattle.protocol.specs.Bytes.{Bytes, over_front}
use package.Rattle.protocol.specs.Tests.{in_range, Row, first_refusal}
use package.Rattle.protocol.specs.Frame.{frame_size, is_certificate, is_block_certificate, is_dummy_certificate}
use package.Rattle.protocol.specs.State.{State, Height, at, last, decode, is_notarized}
use package.Rattle.protocol.specs.View.{quorum}
use package.Rattle.protocol.specs.Sound.{view, sound}
use package.Rattle.protocol.specs.Certificates.{certificate_frame}
use package.Rattle.protocol.specs.Answer.{Answer, refused, accepted, Done, done}
use package.Rattle.protocol.specs.Fetch.{has_certificate, certificate_if, certificates_at, certificates_to, FetchOutcome, unless_fetch_refused}
use mathlib.Core.Path.{◌≡◌ as ◌is-kept◌, refl as by-text}
use package.Rattle.protocol.specs.Fetch as page

has_certificate-kept : State → ℕ → ℕ → Bool
has_certificate-kept s k h =
    let x : Height = at s h in
    cond (is_block_certificate k) (is_notarized x)
    (cond (is_dummy_certificate k) (quorum (view s) x.dummy_mask) (quorum (view s) x.finalize_mask))

same-has_certificate : has_certificate-kept is-kept page.has_certificate
unfolding has_certificate-kept page.has_certificate
same-has_certificate = by-text

certificate_if-kept : State → ℕ → ℕ → List Bytes
certificate_if-kept s k h = cond (has_certificate s k h) (certificate_frame s k h ∷ []) []

same-certificate_if : certificate_if-kept is-kept page.certificate_if
unfolding certificate_if-kept page.certificate_if
same-certificate_if = by-text

certificates_at-kept : State → ℕ → List Bytes
certificates_at-kept s h = certificate_if s 5 h ++ (certificate_if s 6 h ++ certificate_if s 7 h)

same-certificates_at : certificates_at-kept is-kept page.certificates_at
unfolding certificates_at-kept page.certificates_at
same-certificates_at = by-text

certificates_to-kept : State → ℕ → List Bytes
certificates_to-kept s zero = []
certificates_to-kept s (suc h) = certificates_to-kept s h ++ certificates_at s (suc h)

same-certificates_to : certificates_to-kept is-kept page.certificates_to
unfolding certificates_to-kept page.certificates_to
same-certificates_to = by-text

every_certificate-kept : State → List Bytes
every_certificate-kept s = certificates_to s (last s)

same-every_certificate : every_certificate-kept is-kept page.every_certificate
unfolding every_certificate-kept page.every_certificate
same-every_certificate = by-text

FetchOutcome-kept : (answer : Answer Done) (reply : Bytes) (frames : List Bytes) →
    FetchOutcome
FetchOutcome-kept x0 x1 x2 = record { answer = x0; reply = x1; frames = x2 }

unless_fetch_refused-kept : Option ℕ → Bytes → Bytes → FetchOutcome
unless_fetch_refused-kept none frame reply =
    record { answer = accepted done; reply = over_front frame reply; frames = frame ∷ [] }
unless_fetch_refused-kept (some number) frame reply = record { answer = refused number; reply = reply; frames = [] }

same-unless_fetch_refused : unless_fetch_refused-kept is-kept page.unless_fetch_refused
unfolding unless_fetch_refused-kept page.unless_fetch_refused
same-unless_fetch_refused = by-text

module _ (digest : Bytes → Bytes) where
  abbrev fetch_rows : Bytes → ℕ → ℕ → Bytes → List Row
  fetch_rows = page.fetch_rows digest

  fetch_rows-kept : Bytes → ℕ → ℕ → Bytes → List Row
  fetch_rows-kept book k h reply =
      let s : State = decode book in
      (1, sound digest book) ∷
      (4, is_certificate k) ∷
      (6, in_range 1 (last s) h) ∷
      (3, leb frame_size (length reply)) ∷
      (11, has_certificate s k h) ∷ []

  same-fetch_rows : fetch_rows-kept is-kept page.fetch_rows digest
  unfolding fetch_rows-kept page.fetch_rows
  same-fetch_rows = by-text

  fetch_call-kept : Bytes → ℕ → ℕ → Bytes → FetchOutcome
  fetch_call-kept book k h reply =
      unless_fetch_refused (first_refusal (fetch_rows book k h reply)) (certificate_frame (decode book) k h) reply

  same-fetch_call : fetch_call-kept is-kept page.fetch_call digest
  unfolding fetch_call-kept page.fetch_call
  same-fetch_call = by-text
