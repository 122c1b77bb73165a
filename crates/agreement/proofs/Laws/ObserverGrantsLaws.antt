-- What the proof of agreement takes from the soundness of an observer's book.
use Rattle.std.specs.Prelude.{ℕ, suc, ◌%◌, ◌≤◌, ◌<◌, ◌≡◌, ◌⊎◌}
use Rattle.std.proofs.Common.{arith, inl, inr}
use Rattle.std.proofs.Math.Bool.{true}
use Rattle.std.proofs.Math.Dec.{eqb}
use borrow.Author.Tests.{eqb-true}
use Rattle.protocol.specs.Bytes.{Bytes}
use Rattle.protocol.proofs.Laws.CodecLaws.{notarized_in}
use Rattle.protocol.proofs.Laws.ObserverCodecLaws.{last_observed}
use Rattle.protocol.proofs.Laws.RowLaws.{by_rows, every_height_at, implies_true, in_range_lem}
use Rattle.protocol.proofs.Laws.TestsLaws.{or_either}
use Rattle.protocol.specs.Observer.{observer_state}
use Rattle.protocol.specs.ObserverSound.{observer_sound}
use Rattle.protocol.specs.Sound.{view}
use Rattle.protocol.specs.State.{State, at, book_heights, holds_proposal, is_notarized, last}
use Rattle.protocol.specs.View.{is_finalized, quorum}

pub record ObserverGrants (digest : Bytes → Bytes) (s : State) : Type 0 where
  pub few : s.n ≤ 16
  -- no proposal is held
  pub none_held : (h : ℕ) → 1 ≤ h → h ≤ last s → holds_proposal (at s h) ≡ true → ⊥
  pub certificates : (i : ℕ) → is_notarized (at s (suc i)) ≡ true →
      quorum (view s) (at s (suc i)).certificate_mask ≡ true
  pub finalizes : (s.finalized ≡ 0) ⊎ (is_finalized digest (view s) s.finalized ≡ true)

module _ (digest : Bytes → Bytes) (book : Bytes) where
  abbrev b : State
  b = observer_state book

  pub observer_grants : observer_sound digest book ≡ true → ObserverGrants digest b
  unfolding observer_sound holds_proposal
  observer_grants e =
      by_rows _ e λ size replicas many edition weights masks status formed certified head zeros content final. record {
        few = (in_range_lem 1 16 b.n replicas).1;
        none_held = λ h low high holds.
            let inside : h ≤ book_heights book = rw (last_observed book) at high in
            odd (at b h).status (or_either _ _ (every_height_at _ (book_heights book) h status low inside)) holds;
        certificates = λ i q.
            let inside : i < book_heights book = rw (last_observed book) at (notarized_in b i q) in
            implies_true _ _ (every_height_at _ (book_heights book) (suc i) certified (omega arith) inside) q;
        finalizes = settled (or_either (eqb b.finalized 0) _ final);
      }
    where
      odd : (status : ℕ) → (eqb status 0 ≡ true) ⊎ (eqb status 2 ≡ true) → eqb (status % 2) 1 ≡ true → ⊥
      odd status (inl z) holds = omega (arith, eqb-true status 0 z, eqb-true (status % 2) 1 holds)
      odd status (inr z) holds = omega (arith, eqb-true status 2 z, eqb-true (status % 2) 1 holds)

      settled : (eqb b.finalized 0 ≡ true) ⊎ (is_finalized digest (view b) b.finalized ≡ true) →
          (b.finalized ≡ 0) ⊎ (is_finalized digest (view b) b.finalized ≡ true)
      settled (inl z) = inl (eqb-true _ _ z)
      settled (inr z) = inr z
