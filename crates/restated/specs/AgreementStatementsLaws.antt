-- Written by tests/restated --write: what docs/statements has of
-- crates/agreement/proofs/Laws/StatementsLaws.antt.
use Rattle.std.specs.Prelude.{ℕ, ◌<◌, ◌≡◌, ◌⊎◌, Bool, true}
use package.Rattle.protocol.specs.Bytes.{Bytes}
use package.Rattle.agreement.specs.Lists.{Statement, finalizes, votes_block, votes_dummy}
use package.Rattle.agreement.proofs.Laws.StatementsLaws.{Consistent}
use mathlib.Core.Path.{◌≡◌ as ◌is-kept◌, refl as by-text}
use package.Rattle.agreement.proofs.Laws.StatementsLaws as page

Consistent-kept : (W : Statement → Type 0) (c : ℕ) (fired voted : Bool) (dummy_old : (h : ℕ) → W (votes_dummy h) → (h < c) ⊎ ((h ≡ c) × (fired ≡ true))) (finalize_old : (h : ℕ) → W (finalizes h) → h < c) (not_both : (h : ℕ) → W (votes_dummy h) → W (finalizes h) → ⊥) (block_old : (h : ℕ) (d : Bytes) → W (votes_block h d) → (h < c) ⊎ ((h ≡ c) × (voted ≡ true))) (block_one : (h : ℕ) (d d' : Bytes) → W (votes_block h d) → W (votes_block h d') → d ≡ d') →
    Consistent W c fired voted
Consistent-kept W c fired voted x0 x1 x2 x3 x4 = record { dummy_old = x0; finalize_old = x1; not_both = x2; block_old = x3; block_one = x4 }
