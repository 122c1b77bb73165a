-- Written by tests/restated --write: what docs/statements has of
-- crates/observer_laws/specs/CertificatesRead.antt.
use Rattle.std.specs.Prelude.{ℕ, ◌≤◌, ◌≡◌, ◌≢◌, true, List, map}
use Rattle.std.proofs.Math.Option.{none}
use package.Rattle.protocol.specs.Bytes.{Bytes}
use package.Rattle.protocol.specs.Every.{Every}
use package.Rattle.protocol.specs.Tests.{first_refusal}
use package.Rattle.protocol.specs.Frame.{kind, frame_height, frame_block, is_certificate}
use package.Rattle.protocol.specs.State.{State, at, last, decode, is_notarized}
use package.Rattle.protocol.specs.Answer.{refused}
use package.Rattle.protocol.specs.Move.{move_call}
use package.Rattle.protocol.specs.Fetch.{fetch_call}
use package.Rattle.protocol.specs.Observer.{observer_state}
use package.Rattle.protocol.specs.ObserverSound.{observer_sound}
use package.Rattle.protocol.specs.ObserverCalls.{observer_deliver_call}
use package.Rattle.call_laws.specs.Fields.{fields}
use package.Rattle.call_laws.specs.Named.{move_answer_fields, fetch_answer_fields}
use package.Rattle.observer_laws.specs.Refusing.{certificate_rows}
use package.Rattle.observer_laws.specs.CertificatesRead.{OtherBlock}
use mathlib.Core.Path.{◌≡◌ as ◌is-kept◌, refl as by-text}
use package.Rattle.observer_laws.specs.CertificatesRead as page

OtherBlock-kept : (s : State) (frame : Bytes) (certifies : kind frame ≡ 5) (has_block_lem : is_notarized (at s (frame_height frame)) ≡ true) (unlike : (at s (frame_height frame)).notarized ≢ frame_block frame) →
    OtherBlock s frame
OtherBlock-kept s frame x0 x1 x2 = record { certifies = x0; has_block_lem = x1; unlike = x2 }

module _ (digest : Bytes → Bytes) where
  abbrev ReadByObserver : (book frame : Bytes) → Type 0
  ReadByObserver = page.ReadByObserver digest

  abbrev CertificatesRead : List Bytes → Bytes → Type 0
  CertificatesRead = page.CertificatesRead digest

  abbrev MoveReadByObserver : (book reply other : Bytes) → Type 0
  MoveReadByObserver = page.MoveReadByObserver digest

  abbrev FetchReadByObserver : (book : Bytes) (k h : ℕ) (reply other : Bytes) → Type 0
  FetchReadByObserver = page.FetchReadByObserver digest

  ReadByObserver-kept : (book frame : Bytes) (read : first_refusal (certificate_rows (observer_state book) frame) ≡ none) (refused_with : observer_sound digest book ≡ true → (number : ℕ) → (observer_deliver_call digest book frame).answer ≡ refused number → (number ≡ 10) × OtherBlock (observer_state book) frame) →
      ReadByObserver book frame
  ReadByObserver-kept book frame x0 x1 = record { read = x0; refused_with = x1 }

  CertificatesRead-kept : List Bytes → Bytes → Type 0
  CertificatesRead-kept frames other = Every (λ (frame : Bytes). is_certificate (kind frame) ≡ true →
      frame_height frame ≤ last (observer_state other) → ReadByObserver other frame) frames

  same-CertificatesRead : CertificatesRead-kept is-kept page.CertificatesRead digest
  unfolding CertificatesRead-kept page.CertificatesRead
  same-CertificatesRead = by-text

  MoveReadByObserver-kept : (book reply other : Bytes) (says : map fields (move_call digest book reply).frames ≡ move_answer_fields digest (decode book) (move_call digest book reply).answer) (read : CertificatesRead (move_call digest book reply).frames other) →
      MoveReadByObserver book reply other
  MoveReadByObserver-kept book reply other x0 x1 = record { says = x0; read = x1 }

  FetchReadByObserver-kept : (book : Bytes) (k h : ℕ) (reply other : Bytes) (says : map fields (fetch_call digest book k h reply).frames ≡ fetch_answer_fields (decode book) k h (fetch_call digest book k h reply).answer) (read : CertificatesRead (fetch_call digest book k h reply).frames other) →
      FetchReadByObserver book k h reply other
  FetchReadByObserver-kept book k h reply other x0 x1 = record { says = x0; read = x1 }
