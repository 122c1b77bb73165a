-- What a call that is not refused has tested: the rows of Open, Signal, Submit and Move by name. Those of Deliver are
-- `DeliverLaws.Accepts`, those of Fetch `FetchLaws.Fetches`.
use Rattle.std.specs.Prelude.{ℕ, ◌≤◌, ◌<◌, ◌≡◌, true, false, ◌||◌, not, length, eqb, ltb}
use Rattle.std.proofs.Math.Option.{none}
use borrow.Author.Tests.{eqb-true, leb-true, ltb-true, not-true}
use Rattle.protocol.specs.Bytes.{Bytes, all, holds}
use Rattle.protocol.specs.Tests.{first_refusal}
use Rattle.protocol.specs.Block.{maximum_heights, entry_size}
use Rattle.protocol.specs.State.{most_heights, State, last, decode, flag, pending, book_size, maximum_replicas}
use Rattle.protocol.specs.State.{maximum_pending}
use Rattle.protocol.specs.Sound.{sound, log}
use Rattle.protocol.specs.Open.{Opening, opened_edition, weights_in_range, open_in_range, open_rows}
use Rattle.protocol.specs.Signal.{signal_rows}
use Rattle.protocol.specs.Submit.{still_pending, submit_rows}
use Rattle.protocol.specs.Move.{move_rows}
use Rattle.std.proofs.Common.{arith}
use Rattle.protocol.proofs.Laws.SoundLaws.{most_heights_lem}
use Rattle.protocol.proofs.Laws.TestsLaws.{and_both}
use Rattle.protocol.proofs.Laws.RowLaws.{by_rows, by_tested, in_range_lem}

-- ---- Open
module _ (way : Opening) (n own heights : ℕ) (leaders : Bytes) where
  pub record OpenRanges : Type 0 where
    pub n_low : 1 ≤ n
    pub n_high : n ≤ maximum_replicas
    pub own_below : own < n
    pub heights_low : 1 ≤ heights
    pub heights_most : heights ≤ most_heights (opened_edition way)
    pub heights_high : heights ≤ maximum_heights
    pub listed : length leaders ≡ heights
    pub leaders_below : all (λ leader. ltb leader n) leaders ≡ true
    pub weights_fit_lem : weights_in_range n way ≡ true

  pub open_ranges : open_in_range way n own heights leaders ≡ true → OpenRanges
  unfolding open_in_range
  open_ranges e =
      by_rows _ e λ replicas own_below many listed leaders_below weights_fit_lem.
      let few = in_range_lem 1 maximum_replicas n replicas in
      let range = in_range_lem 1 (most_heights (opened_edition way)) heights many in
      record {
        n_low = few.0;
        n_high = few.1;
        own_below = ltb-true _ _ own_below;
        heights_low = range.0;
        heights_most = range.1;
        heights_high = omega (arith, range.1, most_heights_lem (opened_edition way));
        listed = eqb-true _ _ listed;
        leaders_below = leaders_below;
        weights_fit_lem = weights_fit_lem;
      }

  pub record OpenTested (book : Bytes) : Type 0 where
    pub in_ranges_lem : open_in_range way n own heights leaders ≡ true
    pub exact : length book ≡ book_size heights

  pub open_tested : (book : Bytes) → first_refusal (open_rows way book n own heights leaders) ≡ none → OpenTested book
  unfolding open_rows
  open_tested book e = by_tested _ e λ ranges exact. record { in_ranges_lem = ranges; exact = eqb-true _ _ exact }

module _ (digest : Bytes → Bytes) (book : Bytes) where
  abbrev s : State
  s = decode book

  -- ---- Signal
  pub record SignalTested (h : ℕ) : Type 0 where
    pub was_sound : sound digest book ≡ true
    pub low : 1 ≤ h
    pub high : h ≤ last s
    pub is_current : h ≡ s.current
    pub not_fired : flag 1 s ≡ false

  pub signal_tested : (h : ℕ) → first_refusal (signal_rows digest book h) ≡ none → SignalTested h
  unfolding signal_rows
  signal_tested h e =
      by_tested _ e λ is_sound_lem height timer.
      let range = in_range_lem 1 (last s) h height in
      let runs = and_both (eqb h s.current) (not (flag 1 s)) timer in
      record {
        was_sound = is_sound_lem;
        low = range.0;
        high = range.1;
        is_current = eqb-true _ _ runs.0;
        not_fired = not-true _ runs.1;
      }

  -- ---- Submit
  pub record SubmitTested (entry : Bytes) : Type 0 where
    pub was_sound : sound digest book ≡ true
    pub size : length entry ≡ entry_size
    pub new : (holds entry (pending s) || holds entry (log s)) ≡ false
    pub room : length (still_pending s) < maximum_pending

  pub submit_tested : (entry : Bytes) → first_refusal (submit_rows digest book entry) ≡ none → SubmitTested entry
  unfolding submit_rows
  submit_tested entry e =
      by_tested _ e λ is_sound_lem size new room. record {
        was_sound = is_sound_lem;
        size = eqb-true _ _ size;
        new = not-true _ new;
        room = ltb-true _ _ room;
      }

  -- ---- Move
  pub record MoveTested (reply : Bytes) : Type 0 where
    pub was_sound : sound digest book ≡ true
    pub room : 448 ≤ length reply

  pub move_tested : (reply : Bytes) → first_refusal (move_rows digest book reply) ≡ none → MoveTested reply
  unfolding move_rows
  move_tested reply e = by_tested _ e λ is_sound_lem room. record { was_sound = is_sound_lem; room = leb-true _ _ room }
