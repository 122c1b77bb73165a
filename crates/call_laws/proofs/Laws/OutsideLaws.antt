-- Bytes outside the parts that a write touches stay: one write, one after another, with more parts.
use Rattle.std.specs.Prelude.{ℕ, ◌+◌, ◌≤◌, ◌<◌, ◌≡◌, refl, ◌⊎◌, ◌≢◌, Bool, true, false, ◌&&◌, ◌||◌, List, [], ◌∷◌, ◌++◌, length, set, leb, ltb}
use Rattle.std.proofs.Common.{arith, ◌∙◌, inl, inr, true≢false, get_or-set_other, le-leb, lt-ltb}
use Rattle.protocol.specs.Bytes.{Bytes, put}
use Rattle.protocol.proofs.Laws.BytesLaws.{put_other}
use Rattle.protocol.specs.State.{at}
use Rattle.protocol.proofs.Laws.TestsLaws.{le_or_lt}
use Rattle.call_laws.specs.KeptBytes.{Part, in_parts, SameOutside}

-- ---- parts
-- byte `i` lies before a part or after it
abbrev Beside : Part → ℕ → Type 0
Beside p i = (i < p.0) ⊎ (p.0 + p.1 ≤ i)

or_false : (a b : Bool) → (a || b) ≡ false → (a ≡ false) × (b ≡ false)
or_false true b e = absurd (true≢false e)
or_false false b e = (refl, e)

beside : (p : Part) (i : ℕ) → (leb p.0 i && ltb i (p.0 + p.1)) ≡ false → Beside p i
beside p i e = go (le_or_lt p.0 i) (le_or_lt (p.0 + p.1) i)
  where
    go : (p.0 ≤ i) ⊎ (i < p.0) → (p.0 + p.1 ≤ i) ⊎ (i < p.0 + p.1) → Beside p i
    go (inr below) end = inl below
    go (inl low) (inl above) = inr above
    go (inl low) (inr high) = absurd (true≢false (rw (le-leb p.0 i low, lt-ltb i (p.0 + p.1) high) at e))

outside_first : (p : Part) (ps : List Part) (i : ℕ) → in_parts (p ∷ ps) i ≡ false → Beside p i
unfolding in_parts
outside_first p ps i e = beside p i (or_false (leb p.0 i && ltb i (p.0 + p.1)) (in_parts ps i) e).0

outside_both : (ps qs : List Part) (i : ℕ) → in_parts (ps ++ qs) i ≡ false →
    (in_parts ps i ≡ false) × (in_parts qs i ≡ false)
unfolding in_parts
outside_both [] qs i e = (refl, e)
outside_both (p ∷ ps) qs i e =
    let here = or_false (leb p.0 i && ltb i (p.0 + p.1)) (in_parts (ps ++ qs) i) e in
    let rest = outside_both ps qs i here.1 in
    (rw here.0 rest.0, rest.1)

-- ---- writes
pub put_outside : (before : Bytes) (a : ℕ) (new : Bytes) → a + length new ≤ length before →
    SameOutside ((a, length new) ∷ []) before (put before a new)
put_outside before a new fits = record {
  same_byte = λ i e. put_other before new a fits i (outside_first (a, length new) [] i e);
}

pub set_outside : (before : Bytes) (a v : ℕ) → SameOutside ((a, 1) ∷ []) before (set before a v)
set_outside before a v = record {
  same_byte = λ i e. get_or-set_other before a i v 0 (other i (outside_first (a, 1) [] i e));
}
  where
    other : (i : ℕ) → (i < a) ⊎ (a + 1 ≤ i) → i ≢ a
    other i (inl below) same = absurd (omega arith)
    other i (inr above) same = absurd (omega arith)

-- one write after another
pub both_outside : {ps qs : List Part} {a b c : Bytes} → SameOutside ps a b → SameOutside qs b c →
    SameOutside (ps ++ qs) a c
both_outside {ps} {qs} first second = record {
  same_byte = λ i e. let out = outside_both ps qs i e in second.same_byte i out.1 ∙ first.same_byte i out.0;
}

-- with more parts
pub more_outside : {ps : List Part} (qs : List Part) {a b : Bytes} → SameOutside ps a b → SameOutside (ps ++ qs) a b
more_outside {ps} qs same = record { same_byte = λ i e. same.same_byte i (outside_both ps qs i e).0 }
