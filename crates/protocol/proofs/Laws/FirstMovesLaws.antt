-- The first moves of a new book: it idles or proposes, and votes for the dummy block once its timer fired.
use Rattle.std.specs.Prelude.{ℕ, zero, suc, ◌*◌, ◌^◌, ◌≤◌, ◌<◌, ◌≡◌, ◌≢◌, false, ◌&&◌, not, length, replicate}
use Rattle.std.proofs.Common.{arith, ◌∙◌, pow_pos}
use Rattle.std.proofs.Math.Nat.{zero-div}
use Rattle.std.proofs.Math.Path.{refl, ap}
use Rattle.std.proofs.Math.Bool.{true}
use Rattle.std.proofs.lemmas.List.{length-replicate}
use Rattle.std.proofs.lemmas.Bool.{lt-leb}
use Rattle.protocol.specs.Bytes.{Bytes}
use Rattle.protocol.specs.Mask.{ones}
use Rattle.protocol.specs.State.{at, encode, flag}
use Rattle.protocol.specs.View.{is_dummy}
use Rattle.protocol.specs.Sound.{view}
use Rattle.protocol.specs.Answer.{Outcome, idle, accepted, Done}
use Rattle.protocol.specs.Open.{new_height}
use Rattle.protocol.specs.Deliver.{with_masks}
use Rattle.protocol.specs.Signal.{signal_call}
use Rattle.protocol.specs.Move.{move_call, moved, idle_step, dummy_vote_step, propose_step, dummy_vote_applies}
use Rattle.protocol.proofs.Laws.QuorumLaws.{quorum_even}
use Rattle.protocol.proofs.Laws.HeadLaws.{padded_front}
use Rattle.protocol.proofs.Laws.NewBookLaws.{Ranges, early, first_height}
use Rattle.protocol.proofs.Laws.NewBookCallsLaws.{early_move, voting, step_idle, step_vote, step_propose}
use Rattle.protocol.proofs.Laws.NewBookCallsLaws.{early_signal}

none_signed : (n : ℕ) → ones 0 n ≡ 0
unfolding ones
none_signed zero = refl
none_signed (suc n) = rw (none_signed n, zero-div)

module _ (digest : Bytes → Bytes) (edition n own leader : ℕ) (leaders : Bytes)
    (ranges : Ranges edition n own leader leaders) where
  not_dummy : (flags : ℕ) → is_dummy (view (early edition n own flags 0 0 leader leaders)) 1 ≡ false
  unfolding is_dummy view at first_height with_masks new_height
  not_dummy flags =
      quorum_even (view (early edition n own flags 0 0 leader leaders)) n 0
      (padded_front n (replicate n 1) (length-replicate n 1) ranges.few_replicas) ∙
      rw (none_signed n) (lt-leb (2 * n) (3 * 0) (omega (arith, ranges.some_replica)))

  zero_below : 0 < 2 ^ n
  zero_below = pow_pos n

  -- a book with no masks yet idles unless the replica leads
  idles : (flags : ℕ) → flags < 16 → dummy_vote_applies (early edition n own flags 0 0 leader leaders) ≡ false →
      leader ≢ own →
      (reply : Bytes) → 448 ≤ length reply →
      (move_call digest (encode (early edition n own flags 0 0 leader leaders)) reply
      ).answer ≡ accepted idle
  unfolding moved idle_step
  idles flags small quiet other reply room =
      rw (
        early_move edition n own flags 0 0 leader leaders ranges small zero_below zero_below digest reply room,
        step_idle edition n own flags 0 0 leader leaders ranges small zero_below zero_below digest quiet
            (not_dummy flags)
            other,
      )

  quiet : (flags : ℕ) → flags < 16 → (flag 1 (early edition n own flags 0 0 leader leaders) &&
      (not (flag 2 (early edition n own flags 0 0 leader leaders)) && true)) ≡ false →
      dummy_vote_applies (early edition n own flags 0 0 leader leaders) ≡ false
  quiet flags small e = voting edition n own flags 0 0 leader leaders ranges small zero_below zero_below digest false e

  pub new_idle : leader ≢ own → (reply : Bytes) → 448 ≤ length reply →
      (move_call digest (encode (early edition n own 0 0 0 leader leaders)) reply).answer ≡ accepted idle
  unfolding flag
  new_idle = idles 0 (omega arith) (quiet 0 (omega arith) refl)

  pub new_signal : (signal_call digest (encode (early edition n own 0 0 0 leader leaders)) 1).book ≡ encode
      (early edition n own 1 0 0 leader leaders)
  unfolding flag
  new_signal = ap (λ (o : Outcome Done). o.book)
      (early_signal edition n own 0 0 0 leader leaders ranges (omega arith) zero_below zero_below digest refl)

  -- the move after the signal
  pub new_vote : (reply : Bytes) → 448 ≤ length reply →
      move_call digest (encode (early edition n own 1 0 0 leader leaders)) reply ≡ moved reply
      (dummy_vote_step (early edition n own 1 0 0 leader leaders))
  unfolding flag
  new_vote reply room =
      rw (
        early_move edition n own 1 0 0 leader leaders ranges (omega arith) zero_below zero_below digest reply room,
        step_vote edition n own 1 0 0 leader leaders ranges (omega arith) zero_below zero_below digest
            (voting edition n own 1 0 0 leader leaders ranges (omega arith) zero_below zero_below digest true refl),
      )

  pub voted_idle : leader ≢ own → (reply : Bytes) → 448 ≤ length reply →
      (move_call digest (encode (early edition n own 3 0 0 leader leaders)) reply).answer ≡ accepted idle
  unfolding flag
  voted_idle = idles 3 (omega arith) (quiet 3 (omega arith) refl)

  -- a replica that leads height 1 proposes
  pub new_propose : leader ≡ own → (reply : Bytes) → 448 ≤ length reply →
      move_call digest (encode (early edition n own 0 0 0 leader leaders)) reply ≡ moved reply
      (propose_step digest (early edition n own 0 0 0 leader leaders))
  unfolding flag
  new_propose lead reply room =
      rw (
        early_move edition n own 0 0 0 leader leaders ranges (omega arith) zero_below zero_below digest reply room,
        step_propose edition n own 0 0 0 leader leaders ranges (omega arith) zero_below zero_below digest
            (quiet 0 (omega arith) refl) (not_dummy 0) lead refl,
      )
