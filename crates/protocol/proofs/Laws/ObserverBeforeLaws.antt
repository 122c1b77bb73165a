-- An observer's book was sound to an earlier program just where it is sound now and of an edition that there was then.
use Rattle.std.specs.Prelude.{ℕ, ◌≤◌, ◌≡◌, false, ◌&&◌, [], ◌∷◌, eqb}
use Rattle.std.proofs.Common.{arith, sym, ◌∙◌}
use Rattle.std.proofs.Math.Bool.{true}
use Rattle.protocol.specs.Bytes.{Bytes, byte_at, is_zero}
use Rattle.protocol.specs.Tests.{all_of, in_range}
use Rattle.protocol.specs.Every.{none, one}
use Rattle.protocol.specs.State.{book_heights, head_number, most_heights}
use Rattle.protocol.specs.Observer.{as_replica, decode_observer, observer_state}
use Rattle.protocol.specs.ObserverSound.{observer_sound, replica_head}
use Rattle.protocol.specs.ObserverBefore.{decode_observer_before, observer_rows_before, observer_sound_before}
use Rattle.protocol.proofs.Laws.TestsLaws.{and_both}
use Rattle.protocol.proofs.Laws.RowLaws.{by_rows, all_of_lem, row, true_and, in_range_lem, implies_true, true_implies}
use Rattle.protocol.proofs.Laws.RowLaws.{every_height_lem, every_height_at}
use Rattle.protocol.proofs.Laws.BeforeLaws.{same_test, block_now, block_then, not_three, wider, reads_heights}
use Rattle.protocol.proofs.Laws.BeforeLaws.{reads_unused}

module _ (digest : Bytes → Bytes) (latest : ℕ) (few : latest ≤ 2) (book : Bytes) where
  module _ (short : eqb (byte_at book 7) 3 ≡ false) where
    reads_observer : decode_observer_before book ≡ decode_observer book
    unfolding decode_observer_before decode_observer head_number
    reads_observer = rw short

    most_63 : most_heights (observer_state book).edition ≡ 63
    unfolding most_heights as_replica decode_observer
    most_63 = rw short

    head_then : is_zero (replica_head book) ≡ is_zero (byte_at book 1 ∷ byte_at book 3 ∷ byte_at book 4 ∷ byte_at book 6 ∷ [])
    unfolding replica_head head_number
    head_then = rw short

    rows_before_lem : observer_sound_before digest latest book ≡
        all_of (observer_rows_before digest latest book (observer_state book) (book_heights book))
    unfolding observer_sound_before
    rows_before_lem = rw (reads_observer, reads_heights book short)

    sound_now : observer_sound_before digest latest book ≡ true → observer_sound digest book ≡ true
    unfolding observer_rows_before observer_sound
    sound_now good =
        by_rows _ (sym rows_before_lem ∙ good)
        λ size n heights edition weights masks status blocks certified head unused zeros final. all_of_lem
        (one size (one n (one (rw most_63 heights) (one (wider latest _ few edition) (one weights (one masks (one status
        (one (every_height_lem _ _ (λ h low high. true_implies _ _
        (λ e. block_now h _ (implies_true _ _ (every_height_at _ _ h blocks low high) e))))
        (one certified (one (rw head_then head) (one (rw (reads_unused book short) at unused)
        (one zeros (one final none)))))))))))))

    sound_then : observer_sound digest book ≡ true → in_range 1 latest (observer_state book).edition ≡ true →
        observer_sound_before digest latest book ≡ true
    unfolding observer_rows_before observer_sound
    sound_then good known =
        by_rows _ good λ size n heights edition weights masks status blocks certified head unused zeros final.
        let low = in_range_lem 1 63 _ (rw most_63 at heights) in
        rows_before_lem ∙ all_of_lem
        (one size (one n (one (rw most_63 at heights) (one known (one weights (one masks (one status
        (one (every_height_lem _ _ (λ h least most. true_implies _ _
        (λ e. block_then h _ (implies_true _ _ (every_height_at _ _ h blocks least most) e) (omega arith))))
        (one certified (one (rw head_then at head) (one (rw (reads_unused book short) unused)
        (one zeros (one final none)))))))))))))

  pub observer_sound_before_lem :
      observer_sound_before digest latest book ≡ (observer_sound digest book && in_range 1 latest (byte_at book 7))
  unfolding observer_sound_before observer_rows_before as_replica decode_observer_before decode_observer
  observer_sound_before_lem = same_test _ _
      (λ good.
      let known : in_range 1 latest (byte_at book 7) ≡ true = row _ 3 good in
      true_and _ _ (sound_now (not_three latest _ few known) good) known)
      (λ both. let t = and_both _ _ both in sound_then (not_three latest _ few t.1) t.0 t.1)
