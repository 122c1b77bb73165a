-- What Open and Move of an observer answer, row by row: the first test that fails decides.
use Rattle.std.specs.Prelude.{ℕ, ◌+◌, ◌*◌, ◌≤◌, ◌<◌, ◌≡◌, Bool, true, false, ◌&&◌, [], ◌∷◌, length, eqb, leb, Err}
use Rattle.std.proofs.Common.{sym, ap, ◌∙◌, leb-true, eqb-true, eq-eqb, ne_eqb, lt-ltb, le-ltb}
use Rattle.sha256.specs.Digest.{sha256}
use Rattle.protocol.specs.Bytes.{Bytes}
use Rattle.protocol.specs.Tests.{all_of, in_range, first_refusal}
use Rattle.protocol.specs.Block.{maximum_heights}
use Rattle.protocol.specs.State.{maximum_replicas, most_heights, with_head}
use Rattle.protocol.specs.Open.{long, opened_edition, weights_in_range}
use Rattle.protocol.specs.Answer.{Outcome, Done, done, refused, accepted, unless_refused}
use Rattle.protocol.specs.Move.{new_finalized, output_applies, output_step, first_step, idle_step}
use Rattle.protocol.specs.Observer.{observer_book_size, observed, encode_observer, decode_observer, observer_state}
use Rattle.protocol.specs.ObserverSound.{observer_sound}
use Rattle.protocol.specs.ObserverCalls.{new_observer, observer_open_rows, observer_open_call, observer_step}
use Rattle.protocol.specs.ObserverCalls.{observer_moved}
use Rattle.protocol.specs.ObserverCalls.{observer_move_rows, observer_move_call}
use Rattle.protocol.proofs.Laws.TestsLaws.{and_both}
use Rattle.protocol.proofs.Laws.ObserverStateLaws.{observed_as}
use Rattle.answers.specs.Answers.{moved_answer, move_of}
use Rattle.answers.specs.declared.answer.Moved.{Moved}
use Rattle.answers.specs.declared.refusal.Refusal.{Refusal}

-- ---- Open
abbrev opened : Bytes → Outcome Done
opened book = record { answer = accepted done; book = book }

abbrev unopened : Bytes → ℕ → Outcome Done
unopened book number = record { answer = refused number; book = book }

module _ (n heights : ℕ) (weights : Bytes) where
  -- numbers and weights are in their ranges
  abbrev pub in_ranges : Bool
  in_ranges = all_of
      (in_range 1 maximum_replicas n ∷ in_range 1 maximum_heights heights ∷ weights_in_range n (long weights) ∷ [])

  pub record OpenRanges : Type 0 where
    pub n_high : n ≤ maximum_replicas
    pub heights_high : heights ≤ maximum_heights
    pub as_many : length weights ≡ 2 * n

  pub open_ranges : in_ranges ≡ true → OpenRanges
  unfolding all_of in_range weights_in_range
  open_ranges e =
      let (replicas, rest) = and_both (leb 1 n && leb n maximum_replicas) _ e in
      let (count, last) = and_both (leb 1 heights && leb heights maximum_heights) _ rest in
      let given = (and_both (weights_in_range n (long weights)) _ last).0 in
      record {
        n_high = leb-true _ _ (and_both (leb 1 n) _ replicas).1;
        heights_high = leb-true _ _ (and_both (leb 1 heights) _ count).1;
        as_many = eqb-true _ _ (and_both (eqb (length weights) (2 * n)) _ given).0;
      }

  module _ (book : Bytes) where
    pub open_unfit : in_ranges ≡ false → observer_open_call (long weights) book n heights ≡ unopened book 2
    unfolding observer_open_call observer_open_rows opened_edition most_heights first_refusal unless_refused
    open_unfit e = rw e

    pub open_short : in_ranges ≡ true → (length book ≡ 64 + 184 * heights → ⊥) →
        observer_open_call (long weights) book n heights ≡ unopened book 1
    unfolding observer_open_call observer_open_rows opened_edition most_heights first_refusal unless_refused
        observer_book_size
    open_short e f = rw (e, ne_eqb (length book) (64 + 184 * heights) f)

    pub open_done : in_ranges ≡ true → length book ≡ 64 + 184 * heights →
        observer_open_call (long weights) book n heights ≡
        opened (encode_observer (new_observer (long weights) n heights))
    unfolding observer_open_call observer_open_rows opened_edition most_heights first_refusal unless_refused
        observer_book_size
    open_done e f = rw (e, eq-eqb (length book) (64 + 184 * heights) f)

-- ---- Move
module _ (book : Bytes) where
  pub move_unsound : observer_sound sha256 book ≡ false →
      (moved_answer (Err Refusal.Unsound) ≡ (observer_move_call sha256 book).answer) ×
      (book ≡ (observer_move_call sha256 book).book)
  unfolding observer_move_call observer_move_rows first_refusal unless_refused
  move_unsound e = (rw e, rw e)

  pub move_sound : observer_sound sha256 book ≡ true →
      observer_move_call sha256 book ≡ observer_moved sha256 (observer_step sha256 (observer_state book))
  unfolding observer_move_call observer_move_rows first_refusal unless_refused
  move_sound e = rw e

  module _ (g : ℕ) (is : g ≡ new_finalized sha256 (observer_state book)) where
    pub outputs : (observer_state book).finalized < g → (after : Bytes) →
        after ≡ encode_observer (observed (with_head (observer_state book) (observer_state book).flags
        (observer_state book).current g)) →
        (accepted (move_of (Moved.Final g)) ≡
        (observer_moved sha256 (observer_step sha256 (observer_state book))).answer) ×
        (after ≡ (observer_moved sha256 (observer_step sha256 (observer_state book))).book)
    unfolding observer_moved observer_step output_applies output_step first_step
    outputs larger after written =
        let applies = lt-ltb (observer_state book).finalized g larger in
        (rw (← is, applies), rw (← is, applies) written)

    pub rests : encode_observer (decode_observer book) ≡ book → g ≤ (observer_state book).finalized →
        (accepted (move_of Moved.Idle) ≡ (observer_moved sha256 (observer_step sha256 (observer_state book))).answer) ×
        (book ≡ (observer_moved sha256 (observer_step sha256 (observer_state book))).book)
    unfolding observer_moved observer_step output_applies first_step idle_step
    rests whole small =
        let stays = le-ltb (observer_state book).finalized g small in
        (rw (← is, stays), rw (← is, stays) (sym (ap encode_observer (observed_as (decode_observer book)) ∙ whole)))
