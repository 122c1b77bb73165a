-- Two states that show the same: one n, and at each height the same status but for a held proposal, masks and block.
use Rattle.std.specs.Prelude.{ℕ, ◌-◌, ◌≡◌, refl, List, map, get_or, take, leb}
use Rattle.std.proofs.Math.Path.{sym, ap, ap₂}
use Rattle.std.proofs.Common.{◌∙◌}
use Rattle.std.proofs.Math.ListN.{length, length-map, get_or-map}
use Rattle.protocol.specs.State.{State, no_height, at, last, is_notarized}
use Rattle.protocol.specs.View.{View, log_of}
use Rattle.protocol.specs.Sound.{view, log}
use Rattle.protocol.specs.Observer.{ObservedHeight, observed_height}

pub record Alike (s t : State) : Type 0 where
  pub same_n : t.n ≡ s.n
  pub same_weights : t.weights ≡ s.weights
  pub same_heights : map observed_height t.heights ≡ map observed_height s.heights

-- what a state shows of height `h`
abbrev pub shown_at : State → ℕ → ObservedHeight
shown_at s h = observed_height (at s h)

shown_from : (s : State) (h : ℕ) →
    shown_at s h ≡ get_or (map observed_height s.heights) (h - 1) (observed_height no_height)
unfolding at
shown_from s h = sym (get_or-map observed_height s.heights (h - 1) no_height)

-- a view goes by what is shown
view_of : ℕ → List ℕ → (ℕ → ObservedHeight) → View
view_of n weights shown = record {
  n = n;
  weights = take n weights;
  has_block = λ h. leb 2 (shown h).status;
  block = λ h. (shown h).notarized;
  certificate_mask = λ h. (shown h).certificate_mask;
  dummy_mask = λ h. (shown h).dummy_mask;
  finalize_mask = λ h. (shown h).finalize_mask;
}

view_shown : (s : State) → view s ≡ view_of s.n s.weights (shown_at s)
unfolding view view_of is_notarized observed_height
view_shown s = refl

module _ {s t : State} (alike : Alike s t) where
  pub same_last : last t ≡ last s
  unfolding last
  same_last =
      sym (length-map t.heights observed_height) ∙ ap length alike.same_heights ∙
      length-map s.heights observed_height

  pub same_shown : (h : ℕ) → shown_at t h ≡ shown_at s h
  same_shown h = shown_from t h ∙ ap (λ (l : List ObservedHeight). get_or l (h - 1) (observed_height no_height))
      alike.same_heights ∙ sym (shown_from s h)

  pub same_view : view t ≡ view s
  same_view =
      view_shown t ∙ ap₂ (λ (n : ℕ) (shown : ℕ → ObservedHeight). view_of n t.weights shown) alike.same_n
      (λ i h. same_shown h i) ∙ ap (λ (weights : List ℕ). view_of s.n weights (shown_at s)) alike.same_weights
      ∙ sym (view_shown s)

  pub same_log : t.finalized ≡ s.finalized → log t ≡ log s
  unfolding log
  same_log e = ap₂ log_of same_view e
