-- A list of calls by turns keeps one book for each replica that opens its book first and once: each call gets the book
-- that its replica's last call left, whatever the calls.
use Rattle.std.specs.Prelude.{ℕ, ◌<◌, ◌≡◌, Bool, ◌||◌, cond, length, set}
use Rattle.std.proofs.Math.Path.{refl, sym, ap, subst}
use Rattle.std.proofs.Common.{◌∙◌, get_or-set_same, get_or-set_other, lt-length-set}
use Rattle.std.proofs.Math.Bool.{true, false}
use Rattle.std.proofs.lemmas.Bool.{false≢true}
use mathlib.Core.List.{List, [], ◌∷◌, ◌++◌}
use Rattle.std.proofs.Math.Option.{Option, some, none}
use Rattle.std.proofs.Math.ListN.{get_or}
use Rattle.std.proofs.Math.Dec.{eqb}
use borrow.Author.Tests.{eqb-true, eqb-false, eq-eqb, not-true}
use Rattle.protocol.specs.Bytes.{Bytes, same}
use Rattle.protocol.specs.Move.{is_some}
use Rattle.protocol.specs.Call.{Call, Opened, book_after}
use Rattle.protocol.specs.Tests.{implies}
use Rattle.protocol.proofs.Laws.RowLaws.{implies_true, same_eq}
use Rattle.protocol.proofs.Laws.TestsLaws.{and_both}
use Rattle.agreement.specs.ListTests.{opens_in_turn, opens_once, opens_for}
use Rattle.agreement.specs.Lists.{Continues, Follows, KeepsOneBook, Member, Opens, does, last_left, left_by, or_else}
use Rattle.agreement.proofs.Laws.ListsLaws.{or_else_assoc, or_else_none, split_head, split_never}
use Rattle.agreement.specs.Turns.{Turn, build}

opens_for_lem : (weights : List ℕ) (s : ℕ) (o : Option Opened) → opens_for weights s o ≡ true →
    o ≡ some (record { weights = weights; own = s })
unfolding opens_for
opens_for_lem weights s none e = absurd (false≢true e)
opens_for_lem weights s (some opened) e =
    let q = and_both (same opened.weights weights) (eqb opened.own s) e in
    rw (← same_eq opened.weights weights q.0, ← eqb-true opened.own s q.1) refl

opens_nothing : (o : Option Opened) → is_some o ≡ false → o ≡ none
unfolding is_some
opens_nothing none e = refl
opens_nothing (some opened) e = absurd (false≢true (sym e))

module _ (digest : Bytes → Bytes) (weights : List ℕ) (s : ℕ) where
  -- the book that replica `s` left before the turns that start with these books, if it had a turn
  abbrev left : Bool → List Bytes → Option Bytes
  left opened books = cond opened (some (get_or books s [])) none

  follows_sound : (m : Member) (opened : Bool) (books : List Bytes) → m.book ≡ get_or books s [] →
      opens_in_turn digest weights s opened m ≡ true → Follows digest weights s m (left opened books)
  unfolding opens_in_turn Follows Opens Continues
  follows_sound m true books got e = (got, opens_nothing (does digest m).opens (not-true _ e))
  follows_sound m false books got e = opens_for_lem weights s (does digest m).opens e

  module _ (books : List Bytes) (inside : s < length books) (t : ℕ) (call : Call) where
    abbrev first : Member
    first = record { replica = t; book = get_or books t []; call = call }

    abbrev books_after : List Bytes
    books_after = set books t (book_after digest (get_or books t []) call)

    abbrev opens : Bool → Bool
    opens opened = implies (eqb t s) (opens_in_turn digest weights s opened first)

    left_next : (opened : Bool) →
        left (eqb t s || opened) books_after ≡ or_else (left_by digest s first) (left opened books)
    unfolding left_by or_else
    left_next opened = go (eqb t s) refl opened
      where
        go : (own : Bool) → eqb t s ≡ own → (o : Bool) →
            left (own || o) books_after ≡ or_else (cond own (some (does digest first).book) none) (left o books)
        go true e o =
            let t≡s = eqb-true t s e in
            ap some (subst (λ (j : ℕ). get_or books_after j [] ≡ (does digest first).book) t≡s
            (get_or-set_same books t _ [] (rw t≡s inside)))
        go false e true = ap some (get_or-set_other books t s _ [] (λ z. eqb-false t s e (sym z)))
        go false e false = refl

  keeps_from : (books : List Bytes) → s < length books → (opened : Bool) (turns : List Turn) →
      opens_once digest weights s opened (build digest books turns) ≡ true → (before : List Member) (m : Member)
      (after : List Member) →
      build digest books turns ≡ before ++ (m ∷ after) → m.replica ≡ s →
      Follows digest weights s m (or_else (last_left digest s before) (left opened books))
  unfolding opens_once last_left or_else build
  keeps_from books inside opened [] test before m after e own = absurd (split_never m before after e)
  keeps_from books inside opened ((t, call) ∷ turns) test [] m after e own =
      let x≡m = (split_head e).0 in
      let t≡s : t ≡ s = ap (λ (y : Member). y.replica) x≡m ∙ own in
      let q = (and_both (opens books inside t call opened) _ test).0 in
      subst (λ (y : Member). Follows digest weights s y (left opened books)) x≡m
      (follows_sound (first books inside t call) opened books (ap (λ (j : ℕ). get_or books j []) t≡s)
      (implies_true _ _ q (eq-eqb t s t≡s)))
  keeps_from books inside opened ((t, call) ∷ turns) test (y ∷ before) m after e own =
      let x≡y = (split_head e).0 in
      let r = keeps_from (books_after books inside t call) (lt-length-set books t _ inside) (eqb t s || opened) turns
      (and_both (opens books inside t call opened) _ test).1 before m after (split_head e).1 own in
      subst (λ (o : Option Bytes). Follows digest weights s m o)
      (ap (or_else (last_left digest s before)) (left_next books inside t call opened
      ∙ ap (λ (z : Member). or_else (left_by digest s z) (left opened books)) x≡y)
      ∙ sym (or_else_assoc (last_left digest s before) (left_by digest s y) (left opened books))) r

  pub keeps_one_book : (books : List Bytes) → s < length books → (turns : List Turn) →
      opens_once digest weights s false (build digest books turns) ≡ true →
      KeepsOneBook digest weights (build digest books turns) s
  unfolding KeepsOneBook
  keeps_one_book books inside turns test before m after e own =
      subst (λ (o : Option Bytes). Follows digest weights s m o) (sym (or_else_none (last_left digest s before)))
      (keeps_from books inside false turns test before m after e own)
