-- What the proof of agreement takes from soundness.
use Rattle.std.specs.Prelude.{ℕ, suc, ◌+◌, ◌≤◌, ◌<◌, ◌≡◌, ◌⊎◌, eqb}
use Rattle.std.proofs.Common.{arith, inl, inr}
use Rattle.std.proofs.Math.Bool.{true}
use borrow.Author.Tests.{eqb-true, leb-true}
use Rattle.protocol.specs.Bytes.{Bytes}
use Rattle.protocol.proofs.Laws.CodecLaws.{last_decode, notarized_in}
use Rattle.protocol.proofs.Laws.RowLaws.{every_height_at, implies_true, in_range_lem, row}
use Rattle.protocol.specs.Sound.{sound, view}
use Rattle.protocol.specs.State.{State, at, decode, is_notarized, book_heights}
use Rattle.protocol.proofs.Laws.TestsLaws.{or_either}
use Rattle.protocol.specs.View.{is_finalized, quorum}
use Rattle.protocol.proofs.Laws.SoundRowNames.{replicas_row, current_row, pending_row, certified_row, finalized_row}

pub record Grants (digest : Bytes → Bytes) (s : State) : Type 0 where
  pub few : s.n ≤ 16
  pub positive : 1 ≤ s.current
  pub pends : s.pending_count ≤ 32
  pub certificates : (i : ℕ) → is_notarized (at s (suc i)) ≡ true →
      quorum (view s) (at s (suc i)).certificate_mask ≡ true
  pub finalizes : (s.finalized ≡ 0) ⊎ (is_finalized digest (view s) s.finalized ≡ true)

module _ (digest : Bytes → Bytes) (book : Bytes) where
  abbrev b : State
  b = decode book

  pub grants : sound digest book ≡ true → Grants digest b
  unfolding sound
  grants e = record {
    few = (in_range_lem 1 16 b.n (row _ replicas_row e)).1;
    positive = (in_range_lem 1 (book_heights book + 1) b.current (row _ current_row e)).0;
    pends = leb-true b.pending_count 32 (row _ pending_row e);
    certificates = certified;
    finalizes = settled (or_either (eqb b.finalized 0) _ (row _ finalized_row e));
  }
    where
      certified : (i : ℕ) → is_notarized (at b (suc i)) ≡ true → quorum (view b) (at b (suc i)).certificate_mask ≡ true
      certified i q =
          let inside : i < book_heights book = rw (last_decode book) at (notarized_in b i q) in
          implies_true _ _ (every_height_at _ (book_heights book) (suc i) (row _ certified_row e) (omega arith) inside) q

      settled : (eqb b.finalized 0 ≡ true) ⊎ (is_finalized digest (view b) b.finalized ≡ true) →
          (b.finalized ≡ 0) ⊎ (is_finalized digest (view b) b.finalized ≡ true)
      settled (inl z) = inl (eqb-true _ _ z)
      settled (inr z) = inr z
