-- The bits of a height's masks and its status after a change.
use Rattle.std.specs.Prelude.{ℕ, ◌+◌, ◌%◌, ◌^◌, ◌<◌, ◌≡◌, refl, ◌≢◌, Bool, true, false, ◌||◌, eqb, leb}
use Rattle.std.proofs.Common.{arith, sym, ap, ◌∙◌, true≢false, eqb-true, leb-true, leb-false, le-leb}
use Rattle.std.proofs.Math.Decide.{ℕ_discrete}
use Rattle.std.proofs.lemmas.Bool.{eqb-false}
use Rattle.protocol.specs.Bytes.{Bytes}
use Rattle.protocol.specs.Mask.{in_mask, union}
use Rattle.protocol.specs.State.{Height, holds_proposal, is_notarized}
use Rattle.protocol.specs.Deliver.{with_proposal, with_notarized}
use Rattle.protocol.proofs.Laws.MaskLaws.{in_mask-add-self, in_mask-add-other}
use Rattle.protocol.proofs.Laws.UnionLaws.{union_bit}
use Rattle.protocol.proofs.Laws.TestsLaws.{eqb_self}

-- ---- bits of masks
pub or_none : (b : Bool) → b ≡ (b || false)
or_none true = refl
or_none false = refl

or_known : (b c : Bool) → (c ≡ true → b ≡ true) → b ≡ (b || c)
or_known true c e = refl
or_known false true e = absurd (true≢false (sym (e refl)))
or_known false false e = refl

-- a bit that the mask has already
pub known_bit : (m s t : ℕ) → in_mask m s ≡ true → in_mask m t ≡ (in_mask m t || eqb s t)
known_bit m s t has = or_known _ _ (λ e. rw (← eqb-true s t e) has)

-- bits that the mask has already
pub known_bits : {n : ℕ} (m more t : ℕ) → t < n → union n m more ≡ m → in_mask m t ≡ (in_mask m t || in_mask more t)
known_bits {n} m more t l e = ap (λ (z : ℕ). in_mask z t) (sym e) ∙ union_bit n m more t l

-- a bit that joins the mask
pub new_bit : (m s t : ℕ) → in_mask m s ≡ false → in_mask (m + 2 ^ s) t ≡ (in_mask m t || eqb s t)
new_bit m s t free = go (ℕ_discrete t s)
  where
    go : Dec (t ≡ s) → in_mask (m + 2 ^ s) t ≡ (in_mask m t || eqb s t)
    go (yes e) = rw (e, free, eqb_self s) (in_mask-add-self m s free)
    go (no e) = rw (distinct (eqb s t) refl) (in_mask-add-other m s t free e ∙ or_none _)
      where
        distinct : (b : Bool) → eqb s t ≡ b → eqb s t ≡ false
        distinct true f = absurd (e (sym (eqb-true s t f)))
        distinct false f = f

-- ---- statuses
pub holds_notarized : (x : Height) (mask : ℕ) (block : Bytes) →
    holds_proposal (with_notarized x mask block) ≡ holds_proposal x
unfolding holds_proposal with_notarized
holds_notarized x mask block = let even : (x.status + 2) % 2 ≡ x.status % 2 = omega arith in
    ap (λ (r : ℕ). eqb r 1) even

pub is_notarized_lem : (x : Height) (mask : ℕ) (block : Bytes) → is_notarized (with_notarized x mask block) ≡ true
unfolding is_notarized with_notarized
is_notarized_lem x mask block = le-leb 2 (x.status + 2) (omega arith)

pub proposal_status : (x : Height) (block : Bytes) → holds_proposal x ≡ false →
    is_notarized (with_proposal x block) ≡ is_notarized x
unfolding holds_proposal is_notarized with_proposal
proposal_status x block free = go (leb 2 x.status) refl
  where
    even : x.status % 2 ≡ 0
    even = let odd : x.status % 2 ≢ 1 = eqb-false _ _ free in omega arith

    go : (b : Bool) → leb 2 x.status ≡ b → leb 2 (x.status + 1) ≡ leb 2 x.status
    go true e = le-leb 2 (x.status + 1) (omega (arith, leb-true 2 x.status e)) ∙ sym e
    go false e =
        let none_yet : x.status ≡ 0 = omega (arith, even, leb-false 2 x.status e) in
        rw none_yet
