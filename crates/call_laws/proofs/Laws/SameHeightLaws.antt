-- Two heights that keep what `Keeping` says of the same height and frame hold the same.
use Rattle.std.specs.Prelude.{ℕ, ◌+◌, ◌%◌, ◌≤◌, ◌<◌, ◌≡◌, refl, ◌⊎◌, ◌≢◌, cond, Bool, ◌&&◌, eqb, leb}
use Rattle.std.proofs.Common.{arith, sym, subst, ◌∙◌, inl, inr, eqb-true, leb-true, leb-false}
use Rattle.std.proofs.Math.Bool.{true, false}
use Rattle.std.proofs.lemmas.Bool.{eqb-false}
use Rattle.protocol.specs.Bytes.{Bytes, same}
use Rattle.protocol.proofs.Laws.TestsLaws.{and_both, or_either}
use Rattle.protocol.specs.Mask.{in_mask}
use Rattle.protocol.proofs.Laws.MaskLaws.{mask_of-same}
use Rattle.protocol.specs.Frame.{kind, signer}
use Rattle.protocol.specs.State.{Height, at, holds_proposal, is_notarized, vote_of}
use Rattle.protocol.specs.View.{View}
use Rattle.protocol.specs.Deliver.{voters_for}
use Rattle.call_laws.specs.Keeping.{NewlyKept, KeepsAt, held_voters, Voted, Tallied, ByVotes}

-- a status is known by its two tests
status_is : (a : ℕ) → a ≤ 3 → a ≡ cond (eqb (a % 2) 1) 1 0 + cond (leb 2 a) 2 0
status_is a few = go (eqb (a % 2) 1) (leb 2 a) refl refl
  where
    go : (p q : Bool) → eqb (a % 2) 1 ≡ p → leb 2 a ≡ q → a ≡ cond p 1 0 + cond q 2 0
    go true true e f = omega (arith, eqb-true (a % 2) 1 e, leb-true 2 a f)
    go true false e f = omega (arith, eqb-true (a % 2) 1 e, leb-false 2 a f)
    go false true e f = let even : a % 2 ≢ 1 = eqb-false (a % 2) 1 e in omega (arith, leb-true 2 a f)
    go false false e f = let even : a % 2 ≢ 1 = eqb-false (a % 2) 1 e in omega (arith, leb-false 2 a f)

pub same_status : (a b : ℕ) → a ≤ 3 → b ≤ 3 → eqb (a % 2) 1 ≡ eqb (b % 2) 1 → leb 2 a ≡ leb 2 b → a ≡ b
same_status a b few few' odd two = status_is a few ∙ rw (odd, two) (sym (status_is b few'))

module _ (digest : Bytes → Bytes) (v : View) (k : ℕ) (frame : Bytes) (x y y' : Height)
    (is : KeepsAt digest v k frame x y) (is' : KeepsAt digest v k frame x y') where
  pub same_holds : holds_proposal y ≡ holds_proposal y'
  same_holds = is.proposal.holds ∙ sym is'.proposal.holds

  same_voter : (t : ℕ) → t < v.n → in_mask y.voter_mask t ≡ in_mask y'.voter_mask t
  same_voter t l = is.votes.voters t l ∙ sym (is'.votes.voters t l)

  same_vote : (t : ℕ) → t < v.n → in_mask y.voter_mask t ≡ true → vote_of y t ≡ vote_of y' t
  same_vote t l has = go (or_either (in_mask x.voter_mask t) (eqb k 2 && eqb (signer frame) t)
      (sym (is.votes.voters t l) ∙ has))
    where
      go : (in_mask x.voter_mask t ≡ true) ⊎ ((eqb k 2 && eqb (signer frame) t) ≡ true) → vote_of y t ≡ vote_of y' t
      go (inl old) = is.votes.first_vote t old ∙ sym (is'.votes.first_vote t old)
      go (inr new) =
          let both = and_both (eqb k 2) (eqb (signer frame) t) new in
          let kind : k ≡ 2 = eqb-true k 2 both.0 in
          let who : signer frame ≡ t = eqb-true (signer frame) t both.1 in
          subst (λ (r : ℕ). vote_of y r ≡ vote_of y' r) who
          (is.votes.this_vote kind ∙ sym (is'.votes.this_vote kind))

  -- a held proposal is the frame's, or the one held before
  pub same_proposal : holds_proposal y ≡ true → y.proposal ≡ y'.proposal
  same_proposal held = go (or_either (holds_proposal x) (eqb k 1) (sym is.proposal.holds ∙ held))
    where
      go : (holds_proposal x ≡ true) ⊎ (eqb k 1 ≡ true) → y.proposal ≡ y'.proposal
      go (inl old) = is.proposal.first_proposal old ∙ sym (is'.proposal.first_proposal old)
      go (inr new) = is.proposal.this_proposal (eqb-true k 1 new) ∙
          sym (is'.proposal.this_proposal (eqb-true k 1 new))

  pub same_voters : holds_proposal y ≡ true → held_voters digest v y ≡ held_voters digest v y'
  unfolding voters_for
  same_voters held = mask_of-same _ _ v.n (λ t l. go t l (in_mask y.voter_mask t) refl)
    where
      go : (t : ℕ) → t < v.n → (b : Bool) → in_mask y.voter_mask t ≡ b →
          (in_mask y.voter_mask t && same (vote_of y t) (digest y.proposal)) ≡
          (in_mask y'.voter_mask t && same (vote_of y' t) (digest y'.proposal))
      go t l true e = rw (← same_voter t l, e, same_vote t l e, same_proposal held)
      go t l false e = rw (← same_voter t l, e)

  same_voted : Voted digest v y → Voted digest v y'
  unfolding Voted
  same_voted (held, enough) = (sym same_holds ∙ held, rw (same_voters held) at enough)

  pub notarized_too : is_notarized y ≡ true → is_notarized y' ≡ true
  unfolding Tallied ByVotes
  notarized_too has = go (is.block.only_so has)
    where
      go : (is_notarized x ≡ true) ⊎ ((k ≡ 5) ⊎ (NewlyKept k frame x × ByVotes digest v y)) → is_notarized y' ≡ true
      go (inl old) = (is'.block.first_block_lem old).0
      go (inr (inl five)) = (is'.block.this_block five).0
      go (inr (inr (new, by))) = is'.block.counted new (same_voted by.0)
