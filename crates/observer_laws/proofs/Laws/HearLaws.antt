-- What is left of a state by a certificate, refused or not: of states that show the same, states that show the same.
use Rattle.std.specs.Prelude.{ℕ, ◌-◌, set}
use Rattle.std.proofs.Common.{arith, sym, ap₂, ◌∙◌}
use Rattle.std.proofs.Math.Path.{◌≡◌, refl, subst}
use mathlib.Core.List.{List, [], ◌∷◌, ◌++◌}
use Rattle.std.proofs.Math.Option.{Option, some, none}
use Rattle.protocol.specs.Bytes.{Bytes}
use Rattle.protocol.specs.Every.{Every, none, one}
use Rattle.protocol.specs.Tests.{Row, first_refusal}
use Rattle.protocol.specs.Frame.{frame_height}
use Rattle.protocol.specs.State.{State, Height, with_height}
use Rattle.protocol.specs.Observer.{ObservedHeight, observed_height}
use Rattle.protocol.specs.Deliver.{read_rows, clash_rows, keep}
use Rattle.protocol.proofs.Laws.ObserverStateLaws.{map_set}
use Rattle.observer_laws.specs.Twins.{IsCertificate}
use Rattle.observer_laws.proofs.Laws.AlikeLaws.{Alike}
use Rattle.observer_laws.proofs.Laws.CertificateLaws.{same_rows, shown_kept, same_kept}

-- the rows of a certificate after that of soundness
abbrev pub hear_rows : State → Bytes → List Row
hear_rows s frame = read_rows s frame ++ clash_rows s frame

unfoldable pub left_by : State → Bytes → Option ℕ → Option Height → State
left_by s frame (some number) kept = s
left_by s frame none none = s
left_by s frame none (some y) = with_height s (frame_height frame) y

-- ---- states that show the same
pub alike_self : (s : State) → Alike s s
alike_self s = record { same_n = refl; same_weights = refl; same_heights = refl }

pub alike_back : {s t : State} → Alike s t → Alike t s
alike_back alike = record {
  same_n = sym alike.same_n;
  same_weights = sym alike.same_weights;
  same_heights = sym alike.same_heights;
}

pub alike_over : {s t u : State} → Alike s t → Alike t u → Alike s u
alike_over first second = record {
  same_n = second.same_n ∙ first.same_n;
  same_weights = second.same_weights ∙ first.same_weights;
  same_heights = second.same_heights ∙ first.same_heights;
}

pub alike_with : {s t : State} → Alike s t → (h : ℕ) (y z : Height) → observed_height z ≡ observed_height y →
    Alike (with_height s h y) (with_height t h z)
unfolding with_height
alike_with {s} {t} alike h y z e = record {
  same_n = alike.same_n;
  same_weights = alike.same_weights;
  same_heights =
      map_set observed_height t.heights (h - 1) z ∙
      ap₂ (λ (l : List ObservedHeight) (x : ObservedHeight). set l (h - 1) x) alike.same_heights e ∙
      sym (map_set observed_height s.heights (h - 1) y);
}

some_same : {A : Type 0} {a b : A} → some a ≡ some b → a ≡ b
some_same e = cc

module _ (digest : Bytes → Bytes) where
  unfoldable pub hear : State → Bytes → State
  hear s frame = left_by s frame (first_refusal (hear_rows s frame)) (keep digest s frame)

  unfoldable pub hear_all : State → List Bytes → State
  hear_all s [] = s
  hear_all s (frame ∷ frames) = hear_all (hear s frame) frames

  pub hear_append : (s : State) (frames more : List Bytes) →
      hear_all s (frames ++ more) ≡ hear_all (hear_all s frames) more
  unfolding hear_all
  hear_append s [] more = refl
  hear_append s (frame ∷ frames) more = hear_append (hear s frame) frames more

  left_alike : {s t : State} → Alike s t → (frame : Bytes) (refusal : Option ℕ) (kept kept' : Option Height) →
      shown_kept kept' ≡ shown_kept kept → Alike (left_by s frame refusal kept) (left_by t frame refusal kept')
  unfolding left_by shown_kept
  left_alike alike frame (some number) kept kept' e = alike
  left_alike alike frame none none none e = alike
  left_alike alike frame none (some y) (some z) e = alike_with alike (frame_height frame) y z (some_same e)
  left_alike alike frame none none (some z) e = let z : ◌≡◌ {A = ℕ} 0 1 = cc in absurd (omega arith)
  left_alike alike frame none (some y) none e = let z : ◌≡◌ {A = ℕ} 0 1 = cc in absurd (omega arith)

  pub hear_alike : {s t : State} → Alike s t → (frame : Bytes) → IsCertificate frame →
      Alike (hear s frame) (hear t frame)
  unfolding hear
  hear_alike {s} {t} alike frame is =
      subst (λ (rows : List Row). Alike (hear s frame) (left_by t frame (first_refusal rows) (keep digest t frame)))
      (sym (same_rows frame is alike))
      (left_alike alike frame (first_refusal (hear_rows s frame)) (keep digest s frame) (keep digest t frame)
      (same_kept digest frame is alike))

  pub hear_all_alike : {s t : State} → Alike s t → (frames : List Bytes) → Every IsCertificate frames →
      Alike (hear_all s frames) (hear_all t frames)
  unfolding hear_all
  hear_all_alike alike [] are = alike
  hear_all_alike {s = s} {t = t} alike (frame ∷ frames) (one is are) =
      hear_all_alike {s = hear s frame} {t = hear t frame} (hear_alike alike frame is) frames are
