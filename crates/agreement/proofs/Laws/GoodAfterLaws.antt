-- Every book of an honest replica along the list is good.
use Rattle.std.specs.Prelude.{ℕ, ◌≡◌, ◌≢◌, Bool, cond}
use Rattle.std.proofs.Math.Path.{refl, subst}
use Rattle.std.proofs.Common.{sym, ◌∙◌}
use Rattle.std.proofs.Math.Bool.{true, false}
use mathlib.Core.List.Memᴰ
use mathlib.Core.List.{List, [], ◌∷◌, ◌++◌, append-nil}
use Rattle.std.proofs.Math.Option.{Option, some, none}
use Rattle.std.proofs.Math.Seq.{append_snoc}
use Rattle.std.proofs.Math.Dec.{eqb}
use borrow.Author.Tests.{eqb-true, eqb-false}
use Rattle.protocol.specs.Bytes.{Bytes}
use Rattle.protocol.specs.State.{decode}
use Rattle.agreement.specs.Lists.{KeepsOneBook, Member, NotForged, Wrote, does}
use Rattle.agreement.specs.Lists.{last_left, left_by, or_else}
use Rattle.agreement.proofs.Laws.CallingLaws.{nothing_new, unchanged}
use Rattle.agreement.proofs.Laws.ListsLaws.{last_left_snoc}
use Rattle.agreement.proofs.Laws.RunLaws.{GoodBytes}
use Rattle.agreement.proofs.Laws.ReplicaLaws.{next_good}

module _ (digest : Bytes → Bytes) (weights : List ℕ) (books names : ℕ → Type 0) (l : List Member)
    (unforged : NotForged digest books names l) where
  module _ (P after : List Member) (m : Member) (here : l ≡ P ++ (m ∷ after)) (s : ℕ)
      (keeps : KeepsOneBook digest weights l s) (mine : books s) (hs : names s) where
    other_good : (m.replica ≢ s) → (o : Option Bytes) → GoodBytes digest weights books names P s o →
        GoodBytes digest weights books names (P ++ (m ∷ [])) s o
    other_good ne none g = λ st w. g st (nothing_new digest weights books names P m s (λ e. absurd (ne e)) st w)
    other_good ne (some book) g = unchanged digest weights books names P m s (decode book) g (λ e. absurd (ne e))

    one_more : GoodBytes digest weights books names P s (last_left digest s P) →
        GoodBytes digest weights books names (P ++ (m ∷ [])) s (last_left digest s (P ++ (m ∷ [])))
    unfolding left_by or_else KeepsOneBook
    one_more g =
        subst (λ (o : Option Bytes). GoodBytes digest weights books names (P ++ (m ∷ [])) s o)
        (sym (last_left_snoc digest s P m))
        (go (eqb m.replica s) refl)
      where
        go : (b : Bool) → eqb m.replica s ≡ b →
            GoodBytes digest weights books names (P ++ (m ∷ [])) s
            (or_else (cond b (some (does digest m).book) none) (last_left digest s P))
        go true e =
            let own = eqb-true m.replica s e in
            next_good digest weights books names l unforged P after m here s mine hs own (last_left digest s P)
            (keeps P m after here own) g
        go false e = other_good (eqb-false m.replica s e) (last_left digest s P) g

  walk : (P Q after : List Member) → l ≡ P ++ (Q ++ after) → (s : ℕ) → KeepsOneBook digest weights l s →
      books s → names s →
      GoodBytes digest weights books names P s (last_left digest s P) →
      GoodBytes digest weights books names (P ++ Q) s (last_left digest s (P ++ Q))
  walk P [] after here s keeps mine hs g = rw append-nil g
  walk P (m ∷ Q) after here s keeps mine hs g =
      rw (← append_snoc P m Q)
      (walk (P ++ (m ∷ [])) Q after (here ∙ sym (append_snoc P m (Q ++ after))) s keeps mine hs
      (one_more P (Q ++ after) m here s keeps mine hs g))

  -- the book that a replica of its own book and name has after the calls of `P`
  pub good_after : (P after : List Member) → l ≡ P ++ after → (s : ℕ) → KeepsOneBook digest weights l s →
      books s → names s →
      GoodBytes digest weights books names P s (last_left digest s P)
  unfolding last_left Wrote
  good_after P after here s keeps mine hs = walk [] P after here s keeps mine hs (λ st w. Memᴰ.not-nil w.2)
