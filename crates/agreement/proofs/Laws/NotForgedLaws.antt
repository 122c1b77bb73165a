-- A list that passes the test of its statements has none forged: those delivered in honest names were written before.
use Rattle.std.specs.Prelude.{ℕ, ◌≡◌, ◌⊎◌, true, cond, length, drop, eqb}
use Rattle.std.proofs.Math.Path.{refl, sym, ap, subst}
use Rattle.std.proofs.Common.{◌∙◌, inl, inr}
use mathlib.Core.List.Memᴰ
use mathlib.Core.List.{List, [], ◌∷◌, ◌++◌, append-nil, Memᴰ}
use Rattle.std.proofs.Math.Option.{Option, some, none}
use Rattle.std.proofs.Math.Seq.{append_snoc}
use Rattle.protocol.specs.Bytes.{Bytes, byte_at, holds}
use Rattle.protocol.proofs.Laws.RowLaws.{implies_true}
use Rattle.protocol.proofs.Laws.TestsLaws.{and_both}
use Rattle.agreement.specs.ListTests.{delivers_backed, every_in, is_backed, not_forged, signed, signed_in}
use Rattle.agreement.specs.ListTests.{statement_bytes}
use Rattle.agreement.specs.Lists.{HonestIn, Member, NotForged, Statement, Wrote, delivers, finalizes, proposes}
use Rattle.agreement.specs.Lists.{statement_of, votes_block, votes_dummy, writes}
use Rattle.agreement.proofs.Laws.ListTestsLaws.{every_honest_lem, every_in_lem, holds_member, is_honest_lem}
use Rattle.agreement.proofs.Laws.ListsLaws.{split_head, split_never, wrote_more}

-- ---- statements as bytes
-- the statement that its bytes say
statement_from : Bytes → Statement
statement_from bytes =
    let h : ℕ = byte_at bytes 1 in
    cond (eqb (byte_at bytes 0) 1) (proposes h (drop 2 bytes))
    (cond (eqb (byte_at bytes 0) 2) (votes_block h (drop 2 bytes))
    (cond (eqb (byte_at bytes 0) 3) (votes_dummy h) (finalizes h)))

statement_back : (st : Statement) → statement_from (statement_bytes st) ≡ st
unfolding statement_from statement_bytes
statement_back (proposes h block) = refl
statement_back (votes_block h digest) = refl
statement_back (votes_dummy h) = refl
statement_back (finalizes h) = refl

same_statement : (s t : ℕ) (a b : Statement) → s ∷ statement_bytes a ≡ t ∷ statement_bytes b → (s ≡ t) × (a ≡ b)
same_statement s t a b e = (
  ap (λ (x : Bytes). byte_at x 0) e,
  sym (statement_back a) ∙ ap (λ (x : Bytes). statement_from (drop 1 x)) e
      ∙ statement_back b,
)

module _ (digest : Bytes → Bytes) (weights : List ℕ) (dishonest : ℕ) where
  -- the statements of a log were written by these members
  abbrev Logged : List Member → List Bytes → Type 0
  Logged P log = (s : ℕ) (st : Statement) → Memᴰ (s ∷ statement_bytes st) log → Wrote digest s st P

  signed_in_lem : (s : ℕ) (frames : List Bytes) (t : ℕ) (st : Statement) →
      Memᴰ (t ∷ statement_bytes st) (signed_in digest s frames) →
      (t ≡ s) × (frame : Bytes) × Memᴰ frame frames × (statement_of digest frame s ≡ some st)
  unfolding signed_in signed
  signed_in_lem s [] t st i = absurd (Memᴰ.not-nil i)
  signed_in_lem s (f ∷ frames) t st i =
      go (statement_of digest f s) refl (Memᴰ.append_cases (signed digest s (statement_of digest f s)) i)
      (signed_in_lem s frames t st)
    where
      Found : List Bytes → Type 0
      Found l = (t ≡ s) × (frame : Bytes) × Memᴰ frame l × (statement_of digest frame s ≡ some st)

      go : (o : Option Statement) → statement_of digest f s ≡ o →
          Memᴰ (t ∷ statement_bytes st) (signed digest s o) ⊎ Memᴰ (t ∷ statement_bytes st)
          (signed_in digest s frames) →
          (Memᴰ (t ∷ statement_bytes st) (signed_in digest s frames) → Found frames) → Found (f ∷ frames)
      go o e (inr j) below = let r = below j in (r.0, r.1, Memᴰ.tail r.2, r.3)
      go none e (inl j) below = absurd (Memᴰ.not-nil j)
      go (some st') e (inl j) below =
          let q = same_statement t s st st' (Memᴰ.eq_of_singleton j) in
          (q.0, f, Memᴰ.head refl, e ∙ ap some (sym q.1))

  logged_more : (P : List Member) (log : List Bytes) (m : Member) → Logged P log →
      Logged (P ++ (m ∷ [])) (signed_in digest m.replica (writes digest m) ++ log)
  unfolding Wrote
  logged_more P log m h s st i = go (Memᴰ.append_cases (signed_in digest m.replica (writes digest m)) i)
    where
      go : Memᴰ (s ∷ statement_bytes st) (signed_in digest m.replica (writes digest m)) ⊎ Memᴰ
          (s ∷ statement_bytes st) log →
          Wrote digest s st (P ++ (m ∷ []))
      go (inl j) = let r = signed_in_lem m.replica (writes digest m) s st j in (
        m,
        r.1,
        Memᴰ.append_right P (Memᴰ.head refl),
        sym r.0,
        r.2,
        ap (statement_of digest r.1) r.0
            ∙ r.3,
      )
      go (inr j) = wrote_more digest s st P (m ∷ []) (h s st j)

  backed_sound : (P : List Member) (log : List Bytes) (frame : Bytes) → Logged P log →
      is_backed digest weights dishonest log frame ≡ true →
      (s : ℕ) (st : Statement) → HonestIn weights dishonest s → statement_of digest frame s ≡ some st →
      Wrote digest s st P
  unfolding is_backed signed HonestIn
  backed_sound P log frame h t s st hs e =
      let q = every_honest_lem dishonest
      (λ s. every_in (λ statement. holds statement log) (signed digest s (statement_of digest frame s)))
      (length weights) t s hs in
      let r = every_in_lem (λ (x : Bytes). holds x log) (signed digest s (some st)) (rw e at q) (s ∷ statement_bytes st)
      (Memᴰ.head refl) in
      h s st (holds_member (s ∷ statement_bytes st) log r)

  delivers_backed_lem : (log : List Bytes) (m : Member) → delivers_backed digest weights dishonest log m ≡ true →
      HonestIn weights dishonest m.replica →
      (frame : Bytes) → Memᴰ frame (delivers digest m) → is_backed digest weights dishonest log frame ≡ true
  unfolding delivers_backed
  delivers_backed_lem log m t hm frame d =
      every_in_lem (is_backed digest weights dishonest log) (delivers digest m)
      (implies_true _ _ t (is_honest_lem weights dishonest m.replica hm)) frame d

  forged_from : (P : List Member) (log : List Bytes) (l : List Member) → Logged P log →
      not_forged digest weights dishonest log l ≡ true →
      (before : List Member) (m : Member) (after : List Member) (frame : Bytes) (s : ℕ) (st : Statement) →
      l ≡ before ++ (m ∷ after) →
      HonestIn weights dishonest m.replica → HonestIn weights dishonest s → Memᴰ frame (delivers digest m)
      → statement_of digest frame s ≡ some st → Wrote digest s st (P ++ before)
  unfolding not_forged
  forged_from P log [] h t before m after frame s st e hm hs d r = absurd (split_never m before after e)
  forged_from P log (x ∷ xs) h t [] m after frame s st e hm hs d r =
      let q = subst (λ (y : Member). delivers_backed digest weights dishonest log y ≡ true) (split_head e).0
      (and_both _ _ t).0 in
      rw append-nil (backed_sound P log frame h (delivers_backed_lem log m q hm frame d) s st hs r)
  forged_from P log (x ∷ xs) h t (y ∷ before) m after frame s st e hm hs d r =
      let rest = signed_in digest x.replica (writes digest x) ++ log in
      let q = (and_both (delivers_backed digest weights dishonest log x) (not_forged digest weights dishonest rest xs) t
      ).1 in
      let w = forged_from (P ++ (x ∷ [])) rest xs (logged_more P log x h) q before m after frame s st
      (split_head e).1 hm hs d r in
      subst (λ (z : List Member). Wrote digest s st z)
      (append_snoc P x before ∙ ap (λ (z : Member). P ++ (z ∷ before)) (split_head e).0) w

  pub forged_sound : (l : List Member) → not_forged digest weights dishonest [] l ≡ true →
      NotForged digest (HonestIn weights dishonest) (HonestIn weights dishonest) l
  unfolding NotForged
  forged_sound l t before m after frame s st e hm hs d r =
      forged_from [] [] l (λ s st i. absurd (Memᴰ.not-nil i)) t before m after frame s st e hm hs d r
