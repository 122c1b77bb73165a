-- A replica's bit joins a mask as a certificate's signers do: by the bitwise or.
use Rattle.std.specs.Prelude.{ℕ, ◌+◌, ◌^◌, ◌<◌, ◌≡◌, refl, Bool, true, false, ◌||◌, cond, eqb}
use Rattle.std.proofs.Common.{arith, zero-add, sym, ap, subst, ◌∙◌, ⊎_elim, pow_pos, ne_eqb}
use Rattle.std.proofs.Math.Decide.{ℕ_discrete}
use Rattle.std.proofs.Math.Bool.{or-false}
use Rattle.std.proofs.lemmas.Bool.{false≢true}
use Rattle.std.proofs.Math.Option.{Option, some, none}
use Rattle.std.specs.Int.Bits.{bit_or}
use Rattle.std.proofs.lemmas.Nat.{or_lt}
use Rattle.std.proofs.Math.Pow.{pow-lt}
use Rattle.protocol.specs.Mask.{in_mask, union}
use Rattle.protocol.specs.State.{Height}
use Rattle.protocol.proofs.Laws.TestsLaws.{eqb_self}
use Rattle.protocol.proofs.Laws.RowLaws.{not_passed}
use Rattle.protocol.proofs.Laws.MaskLaws.{in_mask-zero, in_mask-add, in_mask-add-self, in_mask-add-other, add_below}
use Rattle.protocol.proofs.Laws.MaskLaws.{mask_same}
use Rattle.protocol.proofs.Laws.UnionLaws.{in_mask-or, union_or, same_union}

-- the mask of one replica
in_own : (s : ℕ) → in_mask (2 ^ s) s ≡ true
in_own s = rw zero-add at (in_mask-add-self 0 s (in_mask-zero s))

alone : (s t : ℕ) → in_mask (2 ^ s) t ≡ true → t ≡ s
alone s t e = ⊎_elim (λ f. absurd (false≢true (sym (in_mask-zero t) ∙ f))) (λ p. p)
    (in_mask-add 0 s t (in_mask-zero s) (rw zero-add e))

module _ (n mask : ℕ) (fits : mask < 2 ^ n) (s : ℕ) (small : s < n) where
  or_known : in_mask mask s ≡ true → bit_or mask (2 ^ s) ≡ mask
  or_known e =
      sym (union_or n mask (2 ^ s) fits (pow-lt small)) ∙
      same_union n mask (2 ^ s) fits (λ t l f. subst (λ (k : ℕ). in_mask mask k ≡ true) (sym (alone s t f)) e)

  or_new : in_mask mask s ≡ false → bit_or mask (2 ^ s) ≡ mask + 2 ^ s
  or_new e =
      mask_same n (bit_or mask (2 ^ s)) (mask + 2 ^ s) (or_lt n mask (2 ^ s) fits (pow-lt small))
      (add_below s n mask small fits e)
      (λ t l. in_mask-or mask (2 ^ s) t ∙ bits t (ℕ_discrete t s))
    where
      bits : (t : ℕ) → Dec (t ≡ s) → (in_mask mask t || in_mask (2 ^ s) t) ≡ in_mask (mask + 2 ^ s) t
      bits t (yes p) = rw (p, e, in_own s, in_mask-add-self mask s e)
      bits t (no q) = rw (
        not_passed (in_mask (2 ^ s) t) (λ f. q (alone s t f)),
        or-false (in_mask mask t),
        in_mask-add-other mask s t e q,
      )

module _ (mask : ℕ) (change : ℕ → Height) where
  -- the height with a joined mask, if that is another
  abbrev joined_to : ℕ → Option Height
  joined_to joined = cond (eqb joined mask) none (some (change joined))

  pub vote_joins : (n : ℕ) → mask < 2 ^ n → (s : ℕ) → s < n →
      cond (in_mask mask s) none (some (change (mask + 2 ^ s))) ≡ joined_to (bit_or mask (2 ^ s))
  vote_joins n fits s small = pick (in_mask mask s) refl
    where
      known : joined_to mask ≡ none
      known = rw (eqb_self mask)

      new : joined_to (mask + 2 ^ s) ≡ some (change (mask + 2 ^ s))
      new = let positive : 0 < 2 ^ s = pow_pos s in rw (ne_eqb (mask + 2 ^ s) mask (λ e. omega arith))

      pick : (b : Bool) → in_mask mask s ≡ b → cond b none (some (change (mask + 2 ^ s))) ≡ joined_to (bit_or mask (2 ^ s))
      pick true e = sym (ap joined_to (or_known n mask fits s small e) ∙ known)
      pick false e = sym (ap joined_to (or_new n mask fits s small e) ∙ new)

  pub signers_join : (n : ℕ) → mask < 2 ^ n → (signers : ℕ) → signers < 2 ^ n →
      joined_to (union n mask signers) ≡ joined_to (bit_or mask signers)
  signers_join n fits signers small = ap joined_to (union_or n mask signers fits small)
