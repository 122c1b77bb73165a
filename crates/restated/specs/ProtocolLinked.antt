-- Written by tests/restated --write: what docs/statements has of
-- crates/protocol/specs/Linked.antt.
use Rattle.std.specs.Prelude.{ℕ, ◌≤◌, ◌<◌, ◌≡◌, ◌⊎◌, true}
use package.Rattle.protocol.specs.Bytes.{Bytes}
use package.Rattle.protocol.specs.Block.{parent_height, parent_digest}
use package.Rattle.protocol.specs.View.{View, quorum, is_dummy, digest_at}
use package.Rattle.protocol.specs.Linked.{OnParent, Linked, start, link, Finalized, ChainOf, Largest}
use mathlib.Core.Path.{◌≡◌ as ◌is-kept◌, refl as by-text}
use package.Rattle.protocol.specs.Linked as page

OnParent-kept : (digest : Bytes → Bytes) (v : View) (h j : ℕ) (block : Bytes) (height : parent_height block ≡ j) (below : j < h) (names : parent_digest block ≡ digest_at digest v j) (dummies : (k : ℕ) → j < k → k < h → is_dummy v k ≡ true) →
    OnParent digest v h j block
OnParent-kept digest v h j block x0 x1 x2 x3 = record { height = x0; below = x1; names = x2; dummies = x3 }

Linked-start-kept : (digest : Bytes → Bytes) (v : View) → Linked digest v 0
Linked-start-kept _ _ = page.Linked.start

Linked-link-kept : (digest : Bytes → Bytes) (v : View) → {h j : ℕ} → v.has_block h ≡ true → Linked digest v j → OnParent digest v h j (v.block h) → Linked digest v h
Linked-link-kept _ _ = page.Linked.link

Linked-apart : (digest : Bytes → Bytes) (v : View) → (i0 : ℕ) → Linked digest v i0 → Unit {0}
Linked-apart _ _ _ (page.Linked.start) = tt
Linked-apart _ _ _ (page.Linked.link _ _ _) = tt

Finalized-kept : (digest : Bytes → Bytes) (v : View) (h : ℕ) (is_linked : Linked digest v h) (has_quorum : quorum v (v.finalize_mask h) ≡ true) →
    Finalized digest v h
Finalized-kept digest v h x0 x1 = record { is_linked = x0; has_quorum = x1 }

ChainOf-kept : (digest : Bytes → Bytes) (v : View) (h j : ℕ) (within : j ≤ h) (is_linked : Linked digest v j) (dummies : (k : ℕ) → j < k → k ≤ h → is_dummy v k ≡ true) →
    ChainOf digest v h j
ChainOf-kept digest v h j x0 x1 x2 = record { within = x0; is_linked = x1; dummies = x2 }

Largest-kept : (digest : Bytes → Bytes) (v : View) (h g : ℕ) (within : g ≤ h) (finalized : (g ≡ 0) ⊎ Finalized digest v g) (most : (k : ℕ) → 1 ≤ k → k ≤ h → Finalized digest v k → k ≤ g) →
    Largest digest v h g
Largest-kept digest v h g x0 x1 x2 = record { within = x0; finalized = x1; most = x2 }
