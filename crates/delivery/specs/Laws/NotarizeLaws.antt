-- When a held proposal becomes the notarized block: it awaits votes, and its voters are a quorum.
use Rattle.std.specs.Prelude.{ℕ, ◌≡◌, refl, Bool, ◌&&◌, not, cond, [], ◌∷◌}
use Rattle.std.proofs.Math.Bool.{true, false}
use Rattle.protocol.specs.Bytes.{Bytes}
use Rattle.protocol.specs.Tests.{all_of}
use Rattle.protocol.specs.State.{State, Height, holds_proposal, is_notarized}
use Rattle.protocol.specs.View.{View, quorum}
use Rattle.protocol.specs.Sound.{view}
use Rattle.protocol.specs.Deliver.{voters_for, with_notarized, notarize}

-- three tests in a row, of which code makes the first two together
three_tests : {A : Type 0} (a b q : Bool) (x y : A) → (a && b) ≡ true → q ≡ true → cond (all_of (a ∷ b ∷ q ∷ [])) x y ≡ x
unfolding all_of
three_tests true true true x y e f = refl
three_tests true true false x y e f = cc
three_tests true false q x y e f = cc
three_tests false b q x y e f = cc

not_waiting : {A : Type 0} (a b q : Bool) (x y : A) → (a && b) ≡ false → cond (all_of (a ∷ b ∷ q ∷ [])) x y ≡ y
unfolding all_of
not_waiting true true q x y e = cc
not_waiting true false q x y e = refl
not_waiting false b q x y e = refl

not_enough : {A : Type 0} (a b q : Bool) (x y : A) → q ≡ false → cond (all_of (a ∷ b ∷ q ∷ [])) x y ≡ y
unfolding all_of
not_enough true true true x y e = cc
not_enough true true false x y e = refl
not_enough true false q x y e = refl
not_enough false b q x y e = refl

module _ (digest : Bytes → Bytes) (s : State) (x : Height) where
  abbrev Waits : Bool
  Waits = not (is_notarized x) && holds_proposal x

  pub notarizes : (voters : ℕ) → voters ≡ voters_for x (digest x.proposal) s.n → Waits ≡ true →
      quorum (view s) voters ≡ true →
      notarize digest (view s) x ≡ with_notarized x voters x.proposal
  notarizes voters tally waits enough = at_view (view s) (unfold view in tally) enough
    where
      at_view : (v : View) → voters ≡ voters_for x (digest x.proposal) v.n → quorum v voters ≡ true →
          notarize digest v x ≡ with_notarized x voters x.proposal
      at_view v e f = unfold notarize in rw (← e)
          (three_tests (not (is_notarized x)) (holds_proposal x) (quorum v voters) _ _ waits f)

  pub too_few_lem : (voters : ℕ) → voters ≡ voters_for x (digest x.proposal) s.n → quorum (view s) voters ≡ false →
      notarize digest (view s) x ≡ x
  too_few_lem voters tally few = at_view (view s) (unfold view in tally) few
    where
      at_view : (v : View) → voters ≡ voters_for x (digest x.proposal) v.n → quorum v voters ≡ false →
          notarize digest v x ≡ x
      at_view v e f = unfold notarize in rw (← e)
          (not_enough (not (is_notarized x)) (holds_proposal x) (quorum v voters) _ _ f)

  pub awaits_none : Waits ≡ false → notarize digest (view s) x ≡ x
  awaits_none waits = unfold notarize in not_waiting (not (is_notarized x)) (holds_proposal x) _ _ _ waits
