-- Written by tests/restated --write: what docs/statements has of
-- crates/protocol/proofs/Laws/HeadLaws.antt.
use mathlib.Core.List.{◌++◌}
use package.Rattle.protocol.specs.Bytes.{Bytes}
use package.Rattle.protocol.specs.State.{State, head_bytes}
use Rattle.std.specs.Prelude.{ℕ, ◌≡◌, length}
use Rattle.std.proofs.Math.Bool.{true}
use mathlib.Core.List.{List, map}
use package.Rattle.protocol.specs.Bytes.{le16, is_zero, join}
use package.Rattle.protocol.specs.State.{words}
use package.Rattle.protocol.specs.State.{head_unused, book_heights, book_current}
use package.Rattle.protocol.specs.State.{book_finalized}
use mathlib.Core.Path.{◌≡◌ as ◌is-kept◌, refl as by-text}
use package.Rattle.protocol.proofs.Laws.HeadLaws as page

pub words_back-kept : (ws : List ℕ) (count : ℕ) → length ws ≡ count → words count (join (map le16 ws)) ≡ ws
words_back-kept = page.words_back

module _ (s : State) (more : Bytes) where
  abbrev B : Bytes
  B = head_bytes s ++ more

  pub head_heights-kept : book_heights B ≡ length s.heights
  head_heights-kept = page.head_heights s more

  pub head_current-kept : book_current B ≡ s.current
  head_current-kept = page.head_current s more

  pub head_finalized-kept : book_finalized B ≡ s.finalized
  head_finalized-kept = page.head_finalized s more

  pub head_unused_lem-kept : is_zero (head_unused B) ≡ true
  head_unused_lem-kept = page.head_unused_lem s more
