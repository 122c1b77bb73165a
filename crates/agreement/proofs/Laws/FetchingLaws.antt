-- A fetched certificate states nothing new in its writer's name: what it says was delivered before.
use Prim.Native.Nat.{ℕ, suc, ◌-◌, ◌≤◌}
use native.Mathlib.Omega.{arith}
use Rattle.std.specs.Prelude.{◌≡◌, ◌⊎◌, get_or, eqb}
use Rattle.std.proofs.Math.Path.{refl, subst}
use Rattle.std.proofs.Math.Logic.{inl}
use Rattle.std.proofs.Common.{inr}
use mathlib.Core.List.Memᴰ
use mathlib.Core.List.{List, [], ◌∷◌, ◌++◌, Memᴰ}
use Rattle.std.proofs.Math.Option.{Option, some, none}
use Rattle.protocol.specs.Bytes.{Bytes}
use Rattle.protocol.specs.Certificates.{certificate_frame}
use Rattle.protocol.specs.Fetch.{fetch_call, fetch_rows, unless_fetch_refused}
use Rattle.protocol.proofs.Laws.FetchLaws.{fetch_tested}
use Rattle.protocol.specs.State.{Height, State, at, decode, no_height}
use Rattle.protocol.specs.Tests.{first_refusal}
use Rattle.protocol.proofs.Laws.TestsLaws.{cond-elim}
use Rattle.agreement.proofs.Laws.BackingLaws.{Backed}
use Rattle.agreement.specs.Lists.{Member, Statement, Wrote, statement_of, writes}
use Rattle.agreement.proofs.Laws.MovingLaws.{block_certificate-says, dummy_certificate-says}
use Rattle.agreement.proofs.Laws.MovingLaws.{finalize_certificate-says}
use Rattle.agreement.proofs.Laws.CallingLaws.{backed_more, unchanged}
use Rattle.agreement.proofs.Laws.ListsLaws.{wrote_last}
use Rattle.agreement.proofs.Laws.RunLaws.{Good, Seen, States}
use Rattle.agreement.proofs.Laws.StatementsLaws.{stated_nothing}

module _ (digest : Bytes → Bytes) (weights : List ℕ) (books names : ℕ → Type 0) (P : List Member) (m : Member) (s : ℕ)
    (book : Bytes) (k h : ℕ)
    (reply : Bytes) (g : Good digest weights books names P s (decode book)) where
  abbrev b : State
  b = decode book

  abbrev P' : List Member
  P' = P ++ (m ∷ [])

  abbrev Was : Statement → Type 0
  Was st = States digest weights books names P s st

  abbrev BackedAs : ℕ → Height → Type 0
  BackedAs j x = Backed digest (States digest weights books names P) (Seen digest weights books names P) j x

  backed_at : 1 ≤ h → BackedAs h (at b h)
  unfolding at
  backed_at low =
      subst (λ (j : ℕ). BackedAs j (get_or b.heights (h - 1) no_height)) (let e : suc (h - 1) ≡ h = omega arith in e)
      (g.kept.backed (h - 1))

  certificate_old : 1 ≤ h → (st : Statement) → statement_of digest (certificate_frame b k h) s ≡ some st → Was st
  unfolding certificate_frame
  certificate_old low st =
      let x = at b h in
      cond-elim (λ (f : Bytes). statement_of digest f s ≡ some st → Was st) (eqb k 5)
      (λ z e. let q = block_certificate-says digest s h s st x.certificate_mask x.notarized e in
      rw q.0 ((backed_at low).shown.certifiers s q.1))
      (λ z. cond-elim (λ (f : Bytes). statement_of digest f s ≡ some st → Was st) (eqb k 6)
      (λ y e. let q = dummy_certificate-says digest s h s st x.dummy_mask e in
      rw q.0 ((backed_at low).shown.dummies s q.1))
      (λ y e. let q = finalize_certificate-says digest s h s st x.finalize_mask e in
      rw q.0 ((backed_at low).shown.finalizations s q.1)))

  stated_before : writes digest m ≡ certificate_frame b k h ∷ [] → 1 ≤ h → (st : Statement) →
      States digest weights books names P' s st → Was st
  stated_before e low st w honest = go (wrote_last digest s st P m (w honest))
    where
      go : Wrote digest s st P ⊎
          ((m.replica ≡ s) × (f : Bytes) × Memᴰ f (writes digest m) × (statement_of digest f s ≡ some st)) →
          Wrote digest s st P
      go (inl v) = v
      go (inr (own, f, i, says)) =
          let z = Memᴰ.eq_of_singleton (rw e at i) in certificate_old low st (rw z at says) honest

  -- a replica that fetches stays as good as it was
  pub fetch_good : writes digest m ≡ (fetch_call digest book k h reply).frames → Good digest weights books names P' s b
  unfolding fetch_call unless_fetch_refused
  fetch_good = go (first_refusal (fetch_rows digest book k h reply)) refl
    where
      go : (r : Option ℕ) → first_refusal (fetch_rows digest book k h reply) ≡ r →
          writes digest m ≡ (unless_fetch_refused r (certificate_frame b k h) reply).frames →
          Good digest weights books names P' s b
      go (some number) p e = unchanged digest weights books names P m s b g (λ z. e)
      go none p e =
          let low = (fetch_tested digest book k h reply p).gives.low in
          record {
            same_weights = g.same_weights;
            kept = record {
              shaped = g.kept.shaped;
              backed = λ i. backed_more digest weights books names P m (g.kept.backed i);
            };
            consistent = stated_nothing g.consistent (λ st w. inl (stated_before e low st w)) (λ q. q) (λ q. q);
          }
