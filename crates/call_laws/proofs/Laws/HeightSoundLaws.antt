-- A sound state stays sound when one of its heights gives way to one that has grown from it.
use Rattle.std.specs.Prelude.{ℕ, zero, suc, ◌≤◌, ◌<◌, ◌≡◌, ◌⊎◌, true}
use Rattle.std.proofs.Common.{arith, inl, inr}
use Rattle.std.proofs.Math.Decide.{ℕ_discrete}
use Rattle.std.proofs.Math.Path.{refl}
use Rattle.protocol.specs.SoundState.{ShapedHeight, SoundHeight, SoundState}
use Rattle.protocol.specs.Mask.{Within}
use Rattle.protocol.specs.Bytes.{Bytes}
use Rattle.protocol.specs.State.{State, Height, at, last, with_height, is_notarized}
use Rattle.protocol.specs.View.{View, is_finalized}
use Rattle.protocol.specs.Sound.{view}
use Rattle.protocol.proofs.Laws.PlaceLaws.{last_with, at_with, at_with_other, shaped_with}
use Rattle.call_laws.specs.Grows.{Grows, SameReplicas}
use Rattle.call_laws.proofs.Laws.GrowsLaws.{same_quorum, views_alike, weights_many, finalized_grows}

-- what was notarized at a height stays, and its masks have only gained members
pub record GrownHeight (n : ℕ) (x y : Height) : Type 0 where
  pub keeps_block : is_notarized x ≡ true → (is_notarized y ≡ true) × (y.notarized ≡ x.notarized)
  pub more_dummies : Within n x.dummy_mask y.dummy_mask
  pub more_finalizes : Within n x.finalize_mask y.finalize_mask

-- what may take the place of `x` at height `h`
pub record Replaces (v : View) (h : ℕ) (x y : Height) : Type 0 where
  pub shaped : ShapedHeight y
  pub sound : SoundHeight v h y
  pub grown : GrownHeight v.n x y

-- soundness of a height goes by the replicas alone
same_height : (v v' : View) (h : ℕ) (x : Height) → SameReplicas v v' → SoundHeight v h x → SoundHeight v' h x
same_height v v' h x same is = record {
  leader_below = rw same.same_n is.leader_below;
  status_small = is.status_small;
  certificate_below = rw same.same_n is.certificate_below;
  dummy_below = rw same.same_n is.dummy_below;
  finalize_below = rw same.same_n is.finalize_below;
  voter_below = rw same.same_n is.voter_below;
  proposal_formed = is.proposal_formed;
  notarized_formed = is.notarized_formed;
  certified = λ has. same_quorum v v' x.certificate_mask same (is.certified has);
}

module _ (s : State) (i : ℕ) (high : i < last s) (y : Height) where
  abbrev s' : State
  s' = with_height s (suc i) y

  -- to prove something of each height afterwards, prove it of the new one and of the old ones
  pub each_height : (P : ℕ → Height → Type 0) → P (suc i) y → ((h : ℕ) → 1 ≤ h → P h (at s h)) → (h : ℕ) → 1 ≤ h →
      P h (at s' h)
  each_height P new old zero low = absurd (omega arith)
  each_height P new old (suc j) low = go (ℕ_discrete j i)
    where
      go : Dec (j ≡ i) → P (suc j) (at s' (suc j))
      go (yes e) = rw e (rw (at_with s i y high) new)
      go (no e) = rw (at_with_other s i j y e) (old (suc j) low)

  module _ (digest : Bytes → Bytes) (is : SoundState digest s) (fits : Replaces (view s) (suc i) (at s (suc i)) y) where
    same : SameReplicas (view s) (view s')
    unfolding with_height
    same = views_alike s s' refl refl

    grown_each : (h : ℕ) → 1 ≤ h → GrownHeight (view s).n (at s h) (at s' h)
    grown_each = each_height (λ (h : ℕ) (x : Height). GrownHeight (view s).n (at s h) x) fits.grown
        (λ h low. record { keeps_block = λ has. (has, refl); more_dummies = λ t l e. e; more_finalizes = λ t l e. e })

    pub grows : Grows (view s) (view s')
    unfolding view
    grows = record {
      same_replicas = same;
      weight_each = weights_many s is.shaped is.n_high;
      keeps_block = λ h low. (grown_each h low).keeps_block;
      more_dummies = λ h low. (grown_each h low).more_dummies;
      more_finalizes = λ h low. (grown_each h low).more_finalizes;
    }

    sound_each : (h : ℕ) → 1 ≤ h → h ≤ last s → SoundHeight (view s') h (at s' h)
    sound_each = each_height (λ (h : ℕ) (x : Height). h ≤ last s → SoundHeight (view s') h x)
        (λ l. same_height (view s) (view s') (suc i) y same fits.sound)
        (λ h low l. same_height (view s) (view s') h (at s h) same (is.each h low l))

    final_stays : (g : ℕ) → (g ≡ 0) ⊎ (is_finalized digest (view s) g ≡ true) →
        (g ≡ 0) ⊎ (is_finalized digest (view s') g ≡ true)
    final_stays zero e = inl refl
    final_stays (suc g) (inl e) = inl e
    final_stays (suc g) (inr e) = inr (finalized_grows (view s) (view s') grows digest (suc g) (omega arith) e)

    pub with_height_sound : SoundState digest (with_height s (suc i) y)
    with_height_sound =
        let count : last s' ≡ last s = last_with s i y in
        record {
          shaped = shaped_with s i y is.shaped fits.shaped;
          setting = unfold with_height in is.setting;
          n_low = unfold with_height in is.n_low;
          n_high = unfold with_height in is.n_high;
          own_below = unfold with_height in is.own_below;
          last_low = rw count is.last_low;
          last_most = rw count (unfold with_height in is.last_most);
          current_low = unfold with_height in is.current_low;
          current_high = rw count (unfold with_height in is.current_high);
          flags_small = unfold with_height in is.flags_small;
          pending_few = unfold with_height in is.pending_few;
          each = λ h low high. sound_each h low (rw count at high);
          final = unfold with_height in final_stays s.finalized is.final;
        }
