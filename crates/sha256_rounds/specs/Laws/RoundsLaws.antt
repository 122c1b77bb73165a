-- A round by the sums that the code forms. Assumes nothing.
use Rattle.std.specs.Prelude.{◌≡◌, ℕ, ◌+◌, ◌%◌, ◌^◌, [], ◌∷◌}
use Rattle.std.proofs.Common.{ap, arith}
use Rattle.std.proofs.Math.Nat.{mod-add-mod}
use Rattle.sha256_functions.specs.Words.{add}
use Rattle.sha256_functions.specs.Functions.{Ch, Maj, Σ0, Σ1}
use Rattle.sha256_rounds.specs.Rounds.{variables}

-- a sum of five words in another order
reordered : (h a b c d : ℕ) → ((((h + a) % 2 ^ 32 + b) % 2 ^ 32 + c) % 2 ^ 32 + d) % 2 ^ 32 ≡
    ((((h + d) % 2 ^ 32 + c) % 2 ^ 32 + a) % 2 ^ 32 + b) % 2 ^ 32
reordered h a b c d = simp mod-add-mod (ap (λ (n : ℕ). n % 2 ^ 32) (shuffled h a b c d))
  where
    shuffled : (h a b c d : ℕ) → h + a + b + c + d ≡ h + d + c + a + b
    shuffled h a b c d = omega arith

-- the sums of a round, each from the one before it
pub variables_by : (Kt Wt d h : ℕ) {a b c e f g h₁ h₂ ch h₃ s₁ T1 s₀ mj T2 a' e' : ℕ}
    → h₁ ≡ (h + Kt) % 2 ^ 32 → h₂ ≡ (h₁ + Wt) % 2 ^ 32 → ch ≡ Ch e f g → h₃ ≡ (h₂ + ch) % 2 ^ 32 → s₁ ≡ Σ1 e →
    T1 ≡ (h₃ + s₁) % 2 ^ 32
    → s₀ ≡ Σ0 a → mj ≡ Maj a b c → T2 ≡ (s₀ + mj) % 2 ^ 32 → a' ≡ (T1 + T2) % 2 ^ 32 → e' ≡ (d + T1) % 2 ^ 32
    → (a' ∷ a ∷ b ∷ c ∷ e' ∷ e ∷ f ∷ g ∷ []) ≡ variables Kt Wt a b c d e f g h
unfolding variables add
variables_by Kt Wt d h {e = e} {f = f} {g = g} p₁ p₂ p₃ p₄ p₅ p₆ p₇ p₈ p₉ p₁₀ p₁₁ =
    cc (reordered h Kt Wt (Ch e f g) (Σ1 e))
