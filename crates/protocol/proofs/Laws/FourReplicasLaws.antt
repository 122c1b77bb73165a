-- A new book of four replicas after three dummy votes, or after a certificate of finalizes.
use Rattle.std.specs.Prelude.{ℕ, ◌+◌, ◌^◌, ◌≤◌, ◌<◌, ◌≡◌, true, ◌&&◌, not, length}
use Rattle.std.proofs.Common.{arith, ◌∙◌}
use Rattle.std.proofs.Math.Path.{refl, sym, ap}
use Rattle.std.proofs.Math.Bool.{false}
use mathlib.Core.List.{List, [], ◌∷◌}
use Rattle.protocol.specs.Bytes.{Bytes, word16, le16}
use Rattle.protocol.specs.Mask.{in_mask, mask_of, union, below_bit, weigh, total}
use Rattle.protocol.specs.State.{State, at, last, encode, decode, flag, with_head, padded}
use Rattle.protocol.specs.State.{book_finalized}
use Rattle.protocol.proofs.Laws.HeadLaws.{head_finalized}
use Rattle.protocol.specs.View.{quorum, is_dummy}
use Rattle.protocol.specs.Sound.{view}
use Rattle.protocol.specs.Answer.{Outcome, Delivery, fresh, accepted}
use Rattle.protocol.specs.Open.{new_height}
use Rattle.protocol.specs.Deliver.{with_masks, deliver_call, deliver_all}
use Rattle.protocol.specs.Frame.{dummy_vote}
use Rattle.protocol.specs.Move.{step, moved, pass_step}
use Rattle.protocol.specs.Computing.{everything}
use Rattle.protocol.specs.Examples.{after_dummy_votes, after_finalizes, not_finalized}
use Rattle.protocol.proofs.Laws.PlaceLaws.{count_encode}
use Rattle.protocol.proofs.Laws.FieldLaws.{read_finalized, read_finalize_mask}
use Rattle.protocol.specs.SoundState.{Shaped}
use Rattle.protocol.proofs.Laws.StateLaws.{decode_encode}
use Rattle.protocol.proofs.Laws.NewBookLaws.{Ranges, early, first_height, early_shaped}
use Rattle.protocol.proofs.Laws.NewBookCallsLaws.{early_move, early_not_notarized, voting, step_pass, early_vote}
use Rattle.protocol.proofs.Laws.NewBookCallsLaws.{early_certificate, finalized_stays}
use Rattle.protocol.proofs.Laws.MoveLaws.{head_only}

-- one frame more is delivered
deliver_one : (digest : Bytes → Bytes) (book after frame : Bytes) (frames : List Bytes) →
    deliver_call digest book frame ≡ record { answer = accepted fresh; book = after } →
    deliver_all digest book (frame ∷ frames) ≡ deliver_all digest after frames
unfolding deliver_all
deliver_one digest book after frame frames q = ap (λ (o : Outcome Delivery). deliver_all digest o.book frames) q

-- four replicas
module _ (digest : Bytes → Bytes) (edition own leader : ℕ) (leaders : Bytes)
    (ranges : Ranges edition 4 own leader leaders) where
  abbrev pub B : ℕ → ℕ → ℕ → Bytes
  B flags dummy final = encode (early edition 4 own flags dummy final leader leaders)

  one_vote : (flags dummy s : ℕ) (frames : List Bytes) → flags < 16 → dummy < 16 → s < 4 → in_mask dummy s ≡ false →
      deliver_all digest (B flags dummy 0) (dummy_vote s 1 ∷ frames) ≡ deliver_all digest (B flags (dummy + 2 ^ s) 0)
      frames
  one_vote flags dummy s frames p q r out =
      deliver_one digest (B flags dummy 0) (B flags (dummy + 2 ^ s) 0) (dummy_vote s 1) frames
      (early_vote edition 4 own flags dummy 0 leader leaders ranges p q (omega arith) digest s r out)

  three_votes : (flags : ℕ) → flags < 16 →
      deliver_all digest (B flags 0 0) (dummy_vote 0 1 ∷ dummy_vote 1 1 ∷ dummy_vote 2 1 ∷ []) ≡ B flags 7 0
  unfolding deliver_all in_mask
  three_votes flags p =
      one_vote flags 0 0 (dummy_vote 1 1 ∷ dummy_vote 2 1 ∷ []) p (omega arith) (omega arith) refl ∙
      (one_vote flags 1 1 (dummy_vote 2 1 ∷ []) p (omega arith) (omega arith) refl ∙
      one_vote flags 3 2 [] p (omega arith) (omega arith) refl)

  dummy_now : (flags : ℕ) → is_dummy (view (early edition 4 own flags 7 0 leader leaders)) 1 ≡ true
  unfolding is_dummy quorum view at first_height with_masks new_height weigh total in_mask padded
  dummy_now flags = refl

  -- the move after the three votes
  pub passes : (flags : ℕ) → flags < 16 → (flag 1 (early edition 4 own flags 7 0 leader leaders) &&
      (not (flag 2 (early edition 4 own flags 7 0 leader leaders)) && true)) ≡ false →
      (reply : Bytes) → 448 ≤ length reply → after_dummy_votes digest (B flags 0 0) reply ≡ moved reply
      (pass_step digest (early edition 4 own flags 7 0 leader leaders))
  unfolding after_dummy_votes
  passes flags p silent reply room =
      rw (
        three_votes flags p,
        early_move edition 4 own flags 7 0 leader leaders ranges p (omega arith) (omega arith) digest reply room,
        step_pass edition 4 own flags 7 0 leader leaders ranges p (omega arith) (omega arith) digest
            (voting edition 4 own flags 7 0 leader leaders ranges p (omega arith) (omega arith) digest false silent)
            (dummy_now flags),
      )

  -- the move after the finalize certificate
  finalizes : (reply : Bytes) → 448 ≤ length reply →
      after_finalizes digest (B 0 0 0) reply ≡ moved reply (step digest (early edition 4 own 0 0 7 leader leaders))
  unfolding after_finalizes word16 le16 below_bit quorum union mask_of in_mask weigh total padded view
  finalizes reply room =
      rw (
        early_certificate edition 4 own 0 0 0 leader leaders ranges (omega arith) (omega arith)
            (omega arith) digest 7 refl refl
            refl,
        early_move edition 4 own 0 0 7 leader leaders ranges (omega arith) (omega arith)
            (omega arith) digest reply room,
      )

  abbrev K : ℕ → ℕ → ℕ → Bytes
  K flags current finalized = encode (with_head (early edition 4 own 0 0 7 leader leaders) flags current finalized)

  head_shaped : (flags current finalized : ℕ) →
      Shaped (with_head (early edition 4 own 0 0 7 leader leaders) flags current finalized)
  unfolding with_head
  head_shaped flags current finalized =
      let shaped = early_shaped edition 4 own 0 0 7 leader leaders ranges (omega arith) (omega arith) (omega arith) in
      record { weighed = shaped.weighed; pool_size_lem = shaped.pool_size_lem; heights = shaped.heights }

  mask_decoded : (flags current finalized : ℕ) → (at (decode (K flags current finalized)) 1).finalize_mask ≡ 7
  unfolding with_head at first_height with_masks new_height
  mask_decoded flags current finalized =
      rw (decode_encode (with_head (early edition 4 own 0 0 7 leader leaders) flags current finalized)
      (head_shaped flags current finalized))

  mask_kept : (flags current finalized : ℕ) → word16 (K flags current finalized) 582 ≡ 7
  unfolding last with_head
  mask_kept flags current finalized =
      let count = count_encode (with_head (early edition 4 own 0 0 7 leader leaders) flags current finalized) in
      read_finalize_mask (K flags current finalized) 0 (omega arith) ∙ mask_decoded flags current finalized

  finalized_number : (s : State) → book_finalized (encode s) ≡ s.finalized
  unfolding encode
  finalized_number s = head_finalized s _

  pub not_finalized_lem : (reply : Bytes) → 448 ≤ length reply → not_finalized (after_finalizes digest (B 0 0 0) reply).book
  unfolding moved
  not_finalized_lem reply room =
      let s : State = early edition 4 own 0 0 7 leader leaders in
      let stays = head_only digest s in
      let bare = early_not_notarized edition 4 own 0 0 7 leader leaders ranges (omega arith) (omega arith) (omega arith)
      digest in
      let zero = finalized_number (step digest s).after ∙ finalized_stays digest s bare in
      rw (finalizes reply room) (
        ap (λ (t : State). word16 (encode t) 582) stays.3 ∙ mask_kept stays.0 stays.1 stays.2,
        zero,
        ap (λ (t : State). (at (decode (encode t)) 1).finalize_mask) stays.3
            ∙ mask_decoded stays.0 stays.1 stays.2,
        sym (read_finalized (encode (step digest s).after)) ∙ zero,
      )
