-- Written by tests/restated --write: what docs/statements has of
-- crates/protocol/proofs/Laws/FetchLaws.antt.
use Prim.Native.Nat.{ℕ, ◌≤◌}
use Rattle.std.specs.Prelude.{◌≡◌, length}
use Rattle.std.proofs.Math.Bool.{true}
use mathlib.Core.List.{[], ◌∷◌, Memᴰ}
use package.Rattle.protocol.specs.Bytes.{Bytes}
use package.Rattle.protocol.specs.State.{decode}
use package.Rattle.protocol.specs.Sound.{sound}
use package.Rattle.protocol.specs.Answer.{accepted, done}
use package.Rattle.protocol.specs.Fetch.{every_certificate}
use package.Rattle.protocol.specs.Fetch.{fetch_call}
use mathlib.Core.Path.{◌≡◌ as ◌is-kept◌, refl as by-text}
use package.Rattle.protocol.proofs.Laws.FetchLaws as page

module _ (digest : Bytes → Bytes) (book reply : Bytes) where
  pub fetched_in-kept : (k h : ℕ) {frame : Bytes} → Memᴰ frame (fetch_call digest book k h reply).frames →
      Memᴰ frame (every_certificate (decode book))
  fetched_in-kept = page.fetched_in digest book reply

  pub in_fetched-kept : sound digest book ≡ true → 224 ≤ length reply →
      {frame : Bytes} → Memᴰ frame (every_certificate (decode book)) →
      (k : ℕ) × (h : ℕ) × ((fetch_call digest book k h reply).answer ≡ accepted done) ×
      ((fetch_call digest book k h reply).frames ≡ frame ∷ [])
  in_fetched-kept = page.in_fetched digest book reply
