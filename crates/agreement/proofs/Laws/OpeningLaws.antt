-- A new book, and a book with one more pending entry.
use Prim.Native.Nat.{ℕ, zero, suc, ◌≤◌}
use Rattle.std.proofs.Common.{arith, sym, ap, ◌∙◌, true≢false}
use Rattle.std.specs.Prelude.{◌≡◌, true, get_or}
use Rattle.std.proofs.Math.Path.{refl}
use Rattle.std.proofs.lemmas.Bool.{false≢true}
use mathlib.Core.List.{List, [], ◌∷◌, ◌++◌, map}
use Rattle.std.proofs.Math.Option.{Option, some, none}
use Rattle.std.proofs.Math.ListN.{length-append}
use Rattle.protocol.specs.Every.{Every, none as no_more, one}
use Rattle.protocol.specs.Answer.{Done, Outcome, accepted, done, is_accepted, unless_refused}
use Rattle.protocol.specs.Bytes.{Bytes, without, Sized}
use Rattle.protocol.proofs.Laws.EveryLaws.{every_append}
use Rattle.protocol.specs.Frame.{finalize}
use Rattle.protocol.specs.Mask.{in_mask}
use Rattle.protocol.proofs.Laws.MaskLaws.{in_mask-zero}
use Rattle.protocol.proofs.Laws.NewStateLaws.{new_shaped, opened_front}
use Rattle.protocol.specs.Open.{Opening, opened_weights, new_height, new_state, open_call, open_rows}
use Rattle.protocol.proofs.Laws.TestedLaws.{submit_tested, open_ranges, open_tested}
use Rattle.protocol.specs.Sound.{log, view}
use Rattle.protocol.specs.State.{Height, State, decode, encode, flag, holds_proposal, is_notarized, no_height, pending}
use Rattle.protocol.specs.State.{maximum_replicas}
use Rattle.protocol.proofs.Laws.PiecesLaws.{pieces_sized}
use Rattle.protocol.proofs.Laws.PoolLaws.{every_without, pending_pool_size}
use Rattle.protocol.specs.Submit.{still_pending, submit_call, submit_rows, with_pending}
use Rattle.protocol.specs.Tests.{first_refusal}
use Rattle.agreement.proofs.Laws.BackingLaws.{Backed}
use Rattle.agreement.proofs.Laws.GrantsLaws.{grants}
use Rattle.agreement.specs.Lists.{Member, Statement, Wrote, writes}
use Rattle.agreement.proofs.Laws.CallingLaws.{backed_more, nothing_new, quiet, unchanged, unless_refused_good}
use Rattle.agreement.proofs.Laws.RunLaws.{Good, States, encoded}

-- ---- one more pending entry
module _ (digest : Bytes → Bytes) (weights : List ℕ) (books names : ℕ → Type 0) (P : List Member) (m : Member) where
  pub submit_good : (s : ℕ) (book entry : Bytes) → Good digest weights books names P s (decode book) →
      writes digest m ≡ [] →
      Good digest weights books names (P ++ (m ∷ [])) s (decode (submit_call digest book entry).book)
  unfolding submit_call still_pending with_pending flag pending
  submit_good s book entry g silent =
      unless_refused_good digest weights books names P m s (first_refusal (submit_rows digest book entry)) book _
      (unchanged digest weights books names P m s b g (λ q. silent))
      (λ r. encoded digest weights books names (P ++ (m ∷ [])) s _ (added r))
    where
      b : State
      b = decode book

      still : List Bytes
      still = without (log b) (pending b)

      es : List Bytes
      es = still ++ (entry ∷ [])

      added : first_refusal (submit_rows digest book entry) ≡ none →
          Good digest weights books names (P ++ (m ∷ [])) s (with_pending b es)
      added r =
          let tested = submit_tested digest book entry r in
          let w = (grants digest book tested.was_sound).pends in
          let ps = g.kept.shaped.pool_size_lem in
          let full : Every (Sized 16) es = every_append
          (every_without (log b) (pieces_sized 16 b.pending_count b.pool (omega arith)))
          (one tested.size no_more) in
          let room = tested.room in
          quiet digest weights books names P m s b (with_pending b es) g (λ q. silent) (unfold view in refl) refl
          (λ q. q) (λ q. q)
          (record {
            weighed = g.kept.shaped.weighed;
            pool_size_lem = pending_pool_size es full (rw length-append (omega arith));
            heights = g.kept.shaped.heights;
          })
          (λ i. backed_more digest weights books names P m (g.kept.backed i))

-- ---- a new book
pub nobody : {A : Type 0} (mask t : ℕ) → mask ≡ 0 → in_mask mask t ≡ true → A
nobody mask t z e = absurd (true≢false (sym e ∙ ap (λ (x : ℕ). in_mask x t) z ∙ in_mask-zero t))

module _ (digest : Bytes → Bytes) {W : ℕ → Statement → Type 0} {S : Bytes → Type 0} where
  -- a height where nothing is kept
  pub backed_nothing : (h : ℕ) (x : Height) → x.status ≡ 0 → x.certificate_mask ≡ 0 → x.dummy_mask ≡ 0 →
      x.finalize_mask ≡ 0 → x.voter_mask ≡ 0 →
      Backed digest W S h x
  unfolding holds_proposal is_notarized
  backed_nothing h x status certificate dummy finalize voters = record {
    shown = record {
      dummies = λ t e. nobody x.dummy_mask t dummy e;
      finalizations = λ t e. nobody x.finalize_mask t finalize e;
      certifiers = λ t e. nobody x.certificate_mask t certificate e;
      notarized_seen = λ e. absurd (false≢true (rw status at e));
    };
    held = record {
      ballots = λ t e. nobody x.voter_mask t voters e;
      proposal_seen = λ e. absurd (false≢true (rw status at e));
    };
  }

  backed_leaders : (leaders : Bytes) (i h : ℕ) → Backed digest W S h (get_or (map (new_height) leaders) i no_height)
  unfolding new_height no_height
  backed_leaders [] i h = backed_nothing h no_height refl refl refl refl refl
  backed_leaders (l ∷ leaders) zero h = backed_nothing h (new_height l) refl refl refl refl refl
  backed_leaders (l ∷ leaders) (suc i) h = backed_leaders leaders i h

open_unrefused : (way : Opening) (book : Bytes) (n own heights : ℕ) (leaders : Bytes) →
    is_accepted (open_call way book n own heights leaders).answer ≡ true →
    (n ≤ maximum_replicas) × ((open_call way book n own heights leaders).book ≡ encode (new_state way n own leaders))
unfolding open_call unless_refused is_accepted
open_unrefused way book n own heights leaders = go (first_refusal (open_rows way book n own heights leaders)) refl
  where
    opened : Outcome Done
    opened = record { answer = accepted done; book = encode (new_state way n own leaders) }

    go : (o : Option ℕ) → first_refusal (open_rows way book n own heights leaders) ≡ o →
        is_accepted (unless_refused o book opened).answer ≡ true →
        (n ≤ maximum_replicas) × ((unless_refused o book opened).book ≡ encode (new_state way n own leaders))
    go none passed e =
        let tested = open_tested way n own heights leaders book passed in
        ((open_ranges way n own heights leaders tested.in_ranges_lem).n_high, refl)
    go (some number) passed e = absurd (false≢true e)

module _ (digest : Bytes → Bytes) (weights : List ℕ) (books names : ℕ → Type 0) (P : List Member) (m : Member) where
  new_book_good : (s : ℕ) (way : Opening) (n : ℕ) (leaders : Bytes) → n ≤ maximum_replicas →
      opened_weights n way ≡ weights → names s → ((st : Statement) → Wrote digest s st P → ⊥) →
      writes digest m ≡ [] → Good digest weights books names (P ++ (m ∷ [])) s (new_state way n s leaders)
  unfolding new_state view
  new_book_good s way n leaders few same hs none_before silent = record {
    same_weights = opened_front way n few ∙ same;
    kept = record { shaped = new_shaped way n s leaders; backed = λ i. backed_leaders digest leaders i (suc i) };
    consistent = record {
      dummy_old = λ h w. absurd (never _ w);
      finalize_old = λ h w. absurd (never _ w);
      not_both = λ h w w'. never _ w;
      block_old = λ h d w. absurd (never _ w);
      block_one = λ h d d' w w'. absurd (never _ w);
    };
  }
    where
      never : (st : Statement) → States digest weights books names (P ++ (m ∷ [])) s st → ⊥
      never st w = none_before st (nothing_new digest weights books names P m s (λ e. silent) st (w hs))

  pub opening_good : (s : ℕ) (way : Opening) (n : ℕ) (book : Bytes) (heights : ℕ) (leaders : Bytes) →
      opened_weights n way ≡ weights → names s →
      ((st : Statement) → Wrote digest s st P → ⊥) → writes digest m ≡ [] →
      is_accepted (open_call way book n s heights leaders).answer ≡ true →
      Good digest weights books names (P ++ (m ∷ [])) s (decode (open_call way book n s heights leaders).book)
  opening_good s way n book heights leaders same hs none_before silent e =
      let (few, made) = open_unrefused way book n s heights leaders e in
      rw made
      (encoded digest weights books names (P ++ (m ∷ [])) s (new_state way n s leaders)
      (new_book_good s way n leaders few same hs none_before silent))
