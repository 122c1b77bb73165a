-- Written by tests/restated --write: what docs/statements has of
-- crates/call_laws/proofs/Laws/Tallying.antt.
use Rattle.std.specs.Prelude.{ℕ, ◌≡◌, true}
use mathlib.Core.List.{List}
use package.Rattle.protocol.specs.Bytes.{Bytes}
use package.Rattle.protocol.specs.Sound.{sound}
use package.Rattle.protocol.specs.State.{decode}
use package.Rattle.protocol.specs.Answer.{accepted, done}
use package.Rattle.protocol.specs.Open.{Opening, open_call}
use package.Rattle.protocol.specs.Call.{Call}
use package.Rattle.protocol.specs.Call.{book_after, book_after_all}
use package.Rattle.call_laws.specs.Keeping.{AllTallied}
use mathlib.Core.Path.{◌≡◌ as ◌is-kept◌, refl as by-text}
use package.Rattle.call_laws.proofs.Laws.Tallying as page

module _ (digest : Bytes → Bytes) where
  pub tallied_stays-kept : (book : Bytes) (call : Call) → sound digest book ≡ true → AllTallied digest (decode book) →
      AllTallied digest (decode (book_after digest book call))
  tallied_stays-kept = page.tallied_stays digest

  pub tallied_stays_all-kept : (book : Bytes) (calls : List Call) → sound digest book ≡ true →
      AllTallied digest (decode book) → AllTallied digest (decode (book_after_all digest book calls))
  tallied_stays_all-kept = page.tallied_stays_all digest

  pub tallied_opened-kept : (way : Opening) (book : Bytes) (n own heights : ℕ) (leaders : Bytes) →
      (open_call way book n own heights leaders).answer ≡ accepted done →
      AllTallied digest (decode (open_call way book n own heights leaders).book)
  tallied_opened-kept = page.tallied_opened digest
