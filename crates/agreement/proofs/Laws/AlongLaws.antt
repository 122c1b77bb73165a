-- A property of each member of a list and those before it: by splits of the list, and along it.
use Rattle.std.specs.Prelude.{◌≡◌, refl}
use Rattle.std.proofs.Math.Path.{ap, subst}
use Rattle.std.proofs.Common.{◌∙◌}
use mathlib.Core.List.{List, [], ◌∷◌, ◌++◌, append-nil}
use Rattle.std.proofs.Math.Seq.{append_snoc}
use Rattle.agreement.proofs.Laws.ListsLaws.{split_head, split_never}
use Rattle.agreement.specs.Lists.{Member}

module _ (Q : List Member → Member → Type 0) where
  -- `P`: the members before the list
  unfoldable pub Along : (P list : List Member) → Type 0
  Along P [] = Unit {0}
  Along P (m ∷ ms) = Q P m × Along (P ++ (m ∷ [])) ms

  abbrev pub AtEach : (P list : List Member) → Type 0
  AtEach P list = (before : List Member) (m : Member) (after : List Member) → list ≡ before ++ (m ∷ after) →
      Q (P ++ before) m

  pub along : (P list : List Member) → AtEach P list → Along P list
  unfolding Along
  along P [] each = tt
  along P (m ∷ ms) each = (
    rw append-nil at (each [] m ms refl),
    along (P ++ (m ∷ [])) ms (λ before x after e. rw (append_snoc P m before)
        (each (m ∷ before) x after (ap (λ (l : List Member). m ∷ l) e))),
  )

  pub at_each : (P list : List Member) → Along P list → AtEach P list
  unfolding Along
  at_each P [] all before m after e = absurd (split_never m before after e)
  at_each P (x ∷ xs) all [] m after e = rw append-nil (subst (λ (y : Member). Q P y) (split_head e).0 all.0)
  at_each P (x ∷ xs) all (y ∷ before) m after e =
      subst (λ (z : List Member). Q z m)
      (append_snoc P x before ∙ ap (λ (z : Member). P ++ (z ∷ before)) (split_head e).0)
      (at_each (P ++ (x ∷ [])) xs all.1 before m after (split_head e).1)

  -- ---- two lists, one after the other
  pub along_join : (P xs ys : List Member) → Along P xs → Along (P ++ xs) ys → Along P (xs ++ ys)
  unfolding Along
  along_join P [] ys front rest = rw append-nil at rest
  along_join P (x ∷ xs) ys front rest =
      (front.0, along_join (P ++ (x ∷ [])) xs ys front.1 (rw (append_snoc P x xs) rest))

  pub along_cut : (P xs ys : List Member) → Along P (xs ++ ys) → Along P xs × Along (P ++ xs) ys
  unfolding Along
  along_cut P [] ys all = (tt, rw append-nil all)
  along_cut P (x ∷ xs) ys all =
      let (front, rest) = along_cut (P ++ (x ∷ [])) xs ys all.1 in
      ((all.0, front), subst (λ (z : List Member). Along z ys) (append_snoc P x xs) rest)
