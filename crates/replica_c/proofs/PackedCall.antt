-- A call for C returns the packing of what the call answers, and leaves the bytes that the call leaves.
use Prim.Native.Nat.{ℕ}
use mathlib.Core.Path.{◌≡◌, ap, ◌∙◌}
use Rattle.protocol.specs.Bytes.{Bytes}

pub packed_call : {A : Type 0} (packed : A → ℕ) {returned : ℕ} {told answer : A} {left after : Bytes} →
    returned ≡ packed told → (told ≡ answer) × (left ≡ after) → (returned ≡ packed answer) × (left ≡ after)
packed_call packed e same = (e ∙ ap packed same.0, same.1)
