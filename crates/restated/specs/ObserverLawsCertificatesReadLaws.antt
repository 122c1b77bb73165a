-- Written by tests/restated --write: what docs/statements has of
-- crates/observer_laws/proofs/Laws/CertificatesReadLaws.antt.
use Rattle.std.specs.Prelude.{ℕ}
use Rattle.std.proofs.Math.Path.{◌≡◌}
use package.Rattle.protocol.specs.Bytes.{Bytes}
use package.Rattle.protocol.specs.State.{decode}
use package.Rattle.protocol.specs.Observer.{observer_state}
use package.Rattle.call_laws.specs.Readable.{DigestSized}
use package.Rattle.observer_laws.specs.CertificatesRead.{MoveReadByObserver, FetchReadByObserver}
use mathlib.Core.Path.{◌≡◌ as ◌is-kept◌, refl as by-text}
use package.Rattle.observer_laws.proofs.Laws.CertificatesReadLaws as page

module _ (digest : Bytes → Bytes) where
  pub move_read_by_observer-kept : DigestSized digest → (book reply other : Bytes) →
      (observer_state other).n ≡ (decode book).n → (observer_state other).weights ≡ (decode book).weights →
      MoveReadByObserver digest book reply other
  move_read_by_observer-kept = page.move_read_by_observer digest

  pub fetch_read_by_observer-kept : (book : Bytes) (k h : ℕ) (reply other : Bytes) →
      (observer_state other).n ≡ (decode book).n → (observer_state other).weights ≡ (decode book).weights →
      FetchReadByObserver digest book k h reply other
  fetch_read_by_observer-kept = page.fetch_read_by_observer digest
