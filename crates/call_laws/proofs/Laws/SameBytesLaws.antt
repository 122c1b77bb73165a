-- Two lists of bytes are equal where those outside some parts are a third one's, and those inside are the same in both.
use Rattle.std.specs.Prelude.{ℕ, ◌+◌, ◌-◌, ◌<◌, ◌≡◌, refl, ◌⊎◌, Bool, false, ◌&&◌, List, length, leb}
use Rattle.std.proofs.Common.{arith, sym, ◌∙◌, inl, inr, true≢false, ext_get_or, leb-true, ltb-true}
use Rattle.std.proofs.Math.Bool.{true}
use Rattle.std.proofs.Math.Option.{none}
use Rattle.std.proofs.Math.Dec.{ltb}
use Rattle.protocol.specs.Every.{Every, none, one}
use Rattle.protocol.specs.Bytes.{Bytes, byte_at}
use Rattle.protocol.proofs.Laws.TestsLaws.{and_both, or_either}
use Rattle.protocol.specs.State.{at}
use Rattle.call_laws.specs.KeptBytes.{Part, in_parts, SameOutside}

module _ (before after after' : Bytes) where
  abbrev pub Inside : Part → Type 0
  Inside p = (m : ℕ) → m < p.1 → byte_at after (p.0 + m) ≡ byte_at after' (p.0 + m)

  within : (p : Part) → Inside p → (i : ℕ) → (leb p.0 i && ltb i (p.0 + p.1)) ≡ true →
      byte_at after i ≡ byte_at after' i
  within p inside i e =
      let both = and_both (leb p.0 i) (ltb i (p.0 + p.1)) e in
      let low = leb-true p.0 i both.0 in
      let high = ltb-true i (p.0 + p.1) both.1 in
      let place : p.0 + (i - p.0) ≡ i = omega arith in
      rw place at (inside (i - p.0) (omega arith))

  in_part : {ps : List Part} → Every Inside ps → (i : ℕ) → in_parts ps i ≡ true → byte_at after i ≡ byte_at after' i
  unfolding in_parts
  in_part none i e = absurd (true≢false (sym e))
  in_part (one {x = p} {xs = ps} here rest) i e =
      go (or_either (leb p.0 i && ltb i (p.0 + p.1)) (in_parts ps i) e) (λ q. in_part rest i q)
    where
      go : ((leb p.0 i && ltb i (p.0 + p.1)) ≡ true) ⊎ (in_parts ps i ≡ true) →
          (in_parts ps i ≡ true → byte_at after i ≡ byte_at after' i) →
          byte_at after i ≡ byte_at after' i
      go (inl q) later = within p here i q
      go (inr q) later = later q

  pub same_bytes : (ps : List Part) → SameOutside ps before after → SameOutside ps before after' → Every Inside ps →
      length after ≡ length after' → after ≡ after'
  same_bytes ps out out' inside size = ext_get_or 0 after after' size (λ i _. go i (in_parts ps i) refl)
    where
      go : (i : ℕ) (b : Bool) → in_parts ps i ≡ b → byte_at after i ≡ byte_at after' i
      go i true e = in_part inside i e
      go i false e = out.same_byte i e ∙ sym (out'.same_byte i e)
