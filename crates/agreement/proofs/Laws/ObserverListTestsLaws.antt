-- An observer that passes the test of its book keeps it, and a reading that is found by its test is one.
use Rattle.std.specs.Prelude.{ℕ, ◌≡◌, refl, Bool, true, not, eqb}
use Rattle.std.proofs.Math.Path.{sym, subst}
use Rattle.std.proofs.Common.{ap, ◌∙◌}
use Rattle.std.proofs.lemmas.Bool.{false≢true}
use mathlib.Core.List.{List, [], ◌∷◌, ◌++◌, Memᴰ}
use Rattle.std.proofs.Math.Option.{Option, some, none}
use borrow.Author.Tests.{eq-eqb, eqb-true}
use Rattle.protocol.specs.Bytes.{Bytes, same}
use Rattle.protocol.proofs.Laws.RowLaws.{implies_true, same_eq}
use Rattle.protocol.proofs.Laws.TestsLaws.{and_both}
use Rattle.protocol.specs.Move.{is_some}
use Rattle.protocol.specs.Tests.{implies}
use Rattle.agreement.proofs.Laws.ListTestsLaws.{reads_part_lem, some_in_lem}
use Rattle.agreement.proofs.Laws.ListsLaws.{or_else_assoc, or_else_none, split_head, split_never}
use Rattle.agreement.specs.ListTests.{reads_part, some_in}
use Rattle.agreement.specs.Lists.{or_else}
use Rattle.agreement.specs.ObserverListTests.{are_weights, observer_follows, observer_keeps, observer_reads_at}
use Rattle.agreement.specs.ObserverLists.{AnyMember, ObserverFollows, ObserverKeepsOneBook, ObserverMember}
use Rattle.agreement.specs.ObserverLists.{observer_last_left, observer_left_by, observes, of_observer, of_replica}
use Rattle.agreement.specs.ObserverMet.{ObserverOf, ObserverReads}

are_weights_lem : (weights : List ℕ) (o : Option (List ℕ)) → are_weights weights o ≡ true → o ≡ some weights
unfolding are_weights
are_weights_lem weights none e = absurd (false≢true e)
are_weights_lem weights (some opened) e = ap some (same_eq opened weights e)

is_none : (o : Option (List ℕ)) → not (is_some o) ≡ true → o ≡ none
unfolding is_some
is_none none e = refl
is_none (some k) e = absurd (false≢true e)

module _ (digest : Bytes → Bytes) where
  module _ (weights : List ℕ) (s : ℕ) where
    follows_sound : (m : ObserverMember) (left : Option Bytes) → observer_follows digest weights m left ≡ true →
        ObserverFollows digest weights m left
    unfolding observer_follows ObserverFollows
    follows_sound m none e = are_weights_lem weights (observes digest m).opens e
    follows_sound m (some book) e =
        let q = and_both (same m.book book) (not (is_some (observes digest m).opens)) e in
        (same_eq m.book book q.0, is_none (observes digest m).opens q.1)

    abbrev mine : Option Bytes → ObserverMember → Bool
    mine left m = implies (eqb m.observer s) (observer_follows digest weights m left)

    abbrev later : Option Bytes → ObserverMember → List ObserverMember → Bool
    later left m ms = observer_keeps digest weights s (or_else (observer_left_by digest s m) left) ms

    keeps_from : (left : Option Bytes) (list : List ObserverMember) → observer_keeps digest weights s left list ≡ true →
        (before : List ObserverMember) (m : ObserverMember) (after : List ObserverMember) →
        list ≡ before ++ (m ∷ after) → m.observer ≡ s →
        ObserverFollows digest weights m (or_else (observer_last_left digest s before) left)
    unfolding observer_keeps observer_last_left or_else
    keeps_from left [] test before m after e own = absurd (split_never m before after e)
    keeps_from left (x ∷ xs) test [] m after e own =
        let q = subst (λ (y : ObserverMember). mine left y ≡ true) (split_head e).0
        (and_both (mine left x) (later left x xs) test).0 in
        follows_sound m left (implies_true _ _ q (eq-eqb m.observer s own))
    keeps_from left (x ∷ xs) test (y ∷ before) m after e own =
        let q = (and_both (mine left x) (later left x xs) test).1 in
        let r = keeps_from (or_else (observer_left_by digest s x) left) xs q before m after (split_head e).1 own in
        subst (λ (o : Option Bytes). ObserverFollows digest weights m o)
        (ap (λ (z : ObserverMember). or_else (observer_last_left digest s before)
        (or_else (observer_left_by digest s z) left)) (split_head e).0
        ∙ sym (or_else_assoc (observer_last_left digest s before) (observer_left_by digest s y) left)) r

    pub observer_keeps_lem : (list : List ObserverMember) → observer_keeps digest weights s none list ≡ true →
        ObserverKeepsOneBook digest weights list s
    unfolding ObserverKeepsOneBook
    observer_keeps_lem list test before m after e own =
        subst (λ (o : Option Bytes). ObserverFollows digest weights m o)
        (sym (or_else_none (observer_last_left digest s before)))
        (keeps_from none list test before m after e own)

  pub observer_reads_found : (list : List AnyMember) (part : Bytes) (s : ℕ) →
      some_in (observer_reads_at digest part s) list ≡ true → ObserverOf list s (ObserverReads digest part)
  observer_reads_found list part s e = let (m, i, t) = some_in_lem (observer_reads_at digest part s) list e in go m i t
    where
      go : (m : AnyMember) → Memᴰ m list → observer_reads_at digest part s m ≡ true →
          ObserverOf list s (ObserverReads digest part)
      go (of_replica m) i t = unfold observer_reads_at in absurd (false≢true t)
      go (of_observer m) i t = unfold observer_reads_at in
          (let q = and_both (eqb m.observer s) (reads_part part (observes digest m).reads) t in
          (m, i, eqb-true m.observer s q.0, reads_part_lem digest part (observes digest m).reads q.1))
