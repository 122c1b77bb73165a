-- The turns of the tally: a bit for each replica whose kept vote is for the digest.
use Rattle.std.specs.Prelude.{ℕ, ◌+◌, ◌*◌, ◌^◌, ◌≤◌, ◌<◌, ◌≡◌, Bool, ◌&&◌, cond}
use Rattle.std.proofs.Common.{arith, add-one, ap, ap₂, ◌∙◌}
use Rattle.std.proofs.Math.Nat.{pow-le-pow_right}
use Rattle.protocol.specs.Bytes.{Bytes, same}
use Rattle.protocol.specs.Mask.{in_mask, mask_of}
use Rattle.protocol.specs.State.{Height, vote_of}
use Rattle.protocol.specs.Deliver.{voters_for}
use Rattle.protocol.proofs.Laws.MaskLaws.{mask_of-below}
use Rattle.protocol.proofs.Laws.OneOrZeroLaws.{one_of_both, times_test}

-- replica `s` is one of the voters, and its kept vote is for this digest
abbrev pub votes : Height → ℕ → Bytes → ℕ → Bool
votes x voters digest s = in_mask voters s && same (vote_of x s) digest

-- what code finds of one replica: its bit, and whether the vote in its place is for the digest
pub vote_number : (x : Height) (voters : ℕ) (digest : Bytes) (s : ℕ) (vote : Bytes) (bit one : ℕ) → vote ≡ vote_of x s →
    bit ≡ cond (in_mask voters s) 1 0 → one ≡ cond (same vote digest) 1 0 →
    bit * one ≡ cond (votes x voters digest s) 1 0
vote_number x voters digest s vote bit one v b o =
    one_of_both (in_mask voters s) (same (vote_of x s) digest) bit one b
    (o ∙ ap (λ (d : Bytes). cond (same d digest) 1 0) v)

pub mask_small : (test : ℕ → Bool) (s mask : ℕ) → s ≤ 16 → mask ≡ mask_of test s → mask < 65536
mask_small test s mask h e =
    let below = mask_of-below test s in
    omega (arith, pow-le-pow_right {n = 2} (omega arith) {i = s} {j = 16} h)

-- one turn adds the bit of `s`, or nothing
pub mask_next : (test : ℕ → Bool) (s mask bit one : ℕ) → mask ≡ mask_of test s → bit ≡ 2 ^ s → one ≡ cond (test s) 1 0 →
    mask + bit * one ≡ mask_of test (s + 1)
unfolding mask_of
mask_next test s mask bit one e b o = rw (o, times_test (test s) bit, add-one s, e, b)

pub tallied : (x : Height) (digest : Bytes) (voters mask s n : ℕ) → voters ≡ x.voter_mask → s ≡ n →
    mask ≡ mask_of (votes x voters digest) s → mask ≡ voters_for x digest n
unfolding voters_for
tallied x digest voters mask s n p q e = e ∙ ap₂ (λ (m k : ℕ). mask_of (votes x m digest) k) p q
