-- Written by tests/restated --write: what docs/statements has of
-- crates/call_laws/proofs/Laws/SoundStays.antt.
use Rattle.std.specs.Prelude.{ℕ, ◌≡◌, true}
use package.Rattle.protocol.specs.Bytes.{Bytes}
use package.Rattle.protocol.specs.Sound.{sound}
use package.Rattle.protocol.specs.Answer.{accepted, done}
use package.Rattle.protocol.specs.Open.{Opening, open_call}
use package.Rattle.protocol.specs.Call.{Call}
use package.Rattle.protocol.specs.Call.{book_after}
use mathlib.Core.Path.{◌≡◌ as ◌is-kept◌, refl as by-text}
use package.Rattle.call_laws.proofs.Laws.SoundStays as page

module _ (digest : Bytes → Bytes) where
  pub sound_stays-kept : (book : Bytes) (call : Call) → sound digest book ≡ true →
      sound digest (book_after digest book call) ≡ true
  sound_stays-kept = page.sound_stays digest

  pub sound_opened-kept : (way : Opening) (book : Bytes) (n own heights : ℕ) (leaders : Bytes) →
      (open_call way book n own heights leaders).answer ≡ accepted done →
      sound digest (open_call way book n own heights leaders).book ≡ true
  sound_opened-kept = page.sound_opened digest
