-- Every book of a meant observer along the list shows only what is backed.
use Rattle.std.specs.Prelude.{ℕ, ◌≡◌, Bool}
use Rattle.std.proofs.Math.Path.{refl, ap, subst}
use Rattle.std.proofs.Common.{sym, ◌∙◌}
use Rattle.std.proofs.Math.Bool.{true, false, cond}
use mathlib.Core.List.{List, [], ◌∷◌, ◌++◌, append-nil}
use Rattle.std.proofs.Math.Option.{some, none}
use Rattle.std.proofs.Math.Seq.{append_snoc}
use Rattle.std.proofs.Math.Dec.{eqb}
use borrow.Author.Tests.{eqb-true}
use Rattle.protocol.specs.Bytes.{Bytes}
use Rattle.agreement.proofs.Laws.ObserverListsLaws.{observer_left_snoc, observers_append}
use Rattle.agreement.proofs.Laws.ObserverRunLaws.{FollowedBytes, bytes_more}
use Rattle.agreement.specs.Lists.{or_else}
use Rattle.agreement.specs.ObserverLists.{AnyMember, Meant, NoneForged, ObserverKeepsOneBook}
use Rattle.agreement.specs.ObserverLists.{ObserverMember, observer_calls, observer_last_left}
use Rattle.agreement.specs.ObserverLists.{observer_left_by, observes, of_observer, of_replica}
use Rattle.agreement.proofs.Laws.ObserverBookLaws.{next_followed}

-- ---- the book of one observer along the list
module _ (digest : Bytes → Bytes) (weights : List ℕ) (books names observers : ℕ → Type 0) (l : List AnyMember)
    (unforged : NoneForged digest (Meant books observers) names l) where
  module _ (s : ℕ) (keeps : ObserverKeepsOneBook digest weights (observer_calls l) s) (ours : observers s) where
    abbrev LeftIn : List AnyMember → Type 0
    LeftIn P = FollowedBytes digest weights books names observers P (observer_last_left digest s (observer_calls P))

    -- a call of an observer, of this one or of another
    observer_more : (P after : List AnyMember) (m : ObserverMember) → l ≡ P ++ (of_observer m ∷ after) → LeftIn P →
        FollowedBytes digest weights books names observers (P ++ (of_observer m ∷ []))
        (or_else (observer_left_by digest s m) (observer_last_left digest s (observer_calls P)))
    unfolding observer_left_by or_else ObserverKeepsOneBook observer_calls
    observer_more P after m here f = go (eqb m.observer s) refl
      where
        go : (b : Bool) → eqb m.observer s ≡ b →
            FollowedBytes digest weights books names observers (P ++ (of_observer m ∷ []))
            (or_else (cond b (some (observes digest m).book) none) (observer_last_left digest s (observer_calls P)))
        go true e =
            let own = eqb-true m.observer s e in
            let split = ap observer_calls here ∙ observers_append P (of_observer m ∷ after) in
            next_followed digest weights books names observers l unforged P after m here (rw own ours)
            (observer_last_left digest s (observer_calls P))
            (keeps (observer_calls P) m (observer_calls after) split own) f
        go false e =
            bytes_more digest weights books names observers P (of_observer m ∷ [])
            (observer_last_left digest s (observer_calls P)) f

    one_more : (P after : List AnyMember) (m : AnyMember) → l ≡ P ++ (m ∷ after) → LeftIn P → LeftIn (P ++ (m ∷ []))
    unfolding observer_calls
    one_more P after (of_replica m) here f =
        subst (λ (calls : List ObserverMember). FollowedBytes digest weights books names observers
        (P ++ (of_replica m ∷ [])) (observer_last_left digest s calls))
        (sym (observers_append P (of_replica m ∷ []) ∙ append-nil (observer_calls P)))
        (bytes_more digest weights books names observers P (of_replica m ∷ [])
        (observer_last_left digest s (observer_calls P)) f)
    one_more P after (of_observer m) here f =
        subst (FollowedBytes digest weights books names observers (P ++ (of_observer m ∷ [])))
        (sym (ap (observer_last_left digest s) (observers_append P (of_observer m ∷ []))
        ∙ observer_left_snoc digest s (observer_calls P) m))
        (observer_more P after m here f)

    walk : (P Q after : List AnyMember) → l ≡ P ++ (Q ++ after) → LeftIn P → LeftIn (P ++ Q)
    walk P [] after here f = rw append-nil f
    walk P (m ∷ Q) after here f =
        rw (← append_snoc P m Q)
        (walk (P ++ (m ∷ [])) Q after (here ∙ sym (append_snoc P m (Q ++ after))) (one_more P (Q ++ after) m here f))

    -- the book that a meant observer has after the calls of `P`
    pub followed_after : (P after : List AnyMember) → l ≡ P ++ after → LeftIn P
    unfolding observer_calls observer_last_left
    followed_after P after here = walk [] P after here tt
