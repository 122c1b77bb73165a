-- The eight words of a hash value. Assumes nothing.
use Rattle.std.specs.Prelude.{◌≡◌, ℕ, List, [], ◌∷◌, length, refl}
use Rattle.sha256.specs.Bytes.{Bytes}
use Rattle.sha256.specs.Compression.{add_words, compression}

-- eight words by eight equations
pub eight_words : {a a' b b' c c' d d' e e' f f' g g' h h' : ℕ} → a ≡ a' → b ≡ b' → c ≡ c' → d ≡ d' → e ≡ e' → f ≡ f' →
    g ≡ g' → h ≡ h'
    → ◌≡◌ {A = List ℕ} (a ∷ b ∷ c ∷ d ∷ e ∷ f ∷ g ∷ h ∷ []) (a' ∷ b' ∷ c' ∷ d' ∷ e' ∷ f' ∷ g' ∷ h' ∷ [])
eight_words p q r s t u v w = cc

-- a hash value has eight words
pub compression_length : (hash : List ℕ) (block : Bytes) → length (compression hash block) ≡ 8
unfolding compression add_words
compression_length hash block = refl
