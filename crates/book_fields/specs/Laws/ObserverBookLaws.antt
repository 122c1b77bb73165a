-- Which books of observers stand on which rung: those of the right length, and the sound ones.
use Rattle.std.specs.Prelude.{ℕ, ◌+◌, ◌*◌, ◌≤◌, ◌≡◌, true, length}
use Rattle.std.proofs.Common.{arith}
use Rattle.protocol.specs.Bytes.{Bytes, is_zero, AreBytes}
use Rattle.protocol.specs.Block.{maximum_heights}
use Rattle.protocol.specs.State.{book_heights, head_unused, maximum_replicas, most_heights}
use Rattle.protocol.specs.View.{total_weight}
use Rattle.protocol.specs.Sound.{view}
use Rattle.protocol.proofs.Laws.HeadLaws.{head_weighs, head_weight_each, heights_sum, current_sum, finalized_sum}
use Rattle.protocol.specs.Observer.{Observer, as_replica, decode_observer, observer_state}
use Rattle.protocol.specs.ObserverSound.{observer_sound}
use Rattle.protocol.specs.SoundObserver.{SoundObserver}
use Rattle.protocol.proofs.Laws.ObserverCodecLaws.{count_observed, last_observed}
use Rattle.protocol.proofs.Laws.ObserverFieldLaws.{read_observer_n, read_observer_finalized}
use Rattle.protocol.proofs.Laws.ObserverSoundLaws.{exact_observer, sound_observer, sound_clean_observer}
use Rattle.protocol.proofs.Laws.ObserverSoundLaws.{encode_decode_observer, observer_finalized_in}
use Rattle.protocol.proofs.Laws.SoundLaws.{most_heights_lem}
use Rattle.book_fields.specs.Book.{ObserverReadable, SoundObserverBook}
use Rattle.book_fields.specs.Laws.WeightLaws.{some_weight, head_even}

pub observer_readable : (book : Bytes) → length book ≡ 64 + 184 * book_heights book →
    (observer_state book).n ≤ maximum_replicas → book_heights book ≤ maximum_heights →
    is_zero (head_unused book) ≡ true → 1 ≤ total_weight (view (observer_state book)) → ObserverReadable book
observer_readable book size replicas heights unused some = record {
  sized = record {
    size = size;
    count = last_observed book;
    n_byte = read_observer_n book;
    finalized_number = read_observer_finalized book;
  };
  replicas = rw (read_observer_n book) replicas;
  heights = heights;
  heights_sum = heights_sum book (omega arith) unused;
  current_sum = current_sum book (omega arith) unused;
  finalized_sum = finalized_sum book (omega arith) unused;
  weighs = unfold view as_replica decode_observer in
      head_weighs book (omega arith) unused (rw (read_observer_n book) replicas);
  weight_each = unfold view as_replica decode_observer in head_weight_each book (rw (read_observer_n book) replicas);
  even_weights = unfold view as_replica decode_observer in head_even book (rw (read_observer_n book) replicas);
  some_weight = some;
}

weighs_some : (digest : Bytes → Bytes) (o : Observer) → SoundObserver digest o → 1 ≤ total_weight (view (as_replica o))
unfolding view as_replica
weighs_some digest o is =
    some_weight o.n o.weights is.n_low (omega (arith, is.shaped.weighed.sixteen)) is.setting.weights_row_lem

few_heights : (edition count heights : ℕ) → count ≡ heights → count ≤ most_heights edition → heights ≤ maximum_heights
few_heights edition count heights e most = omega (arith, e, most, most_heights_lem edition)

-- a sound book, as every call is granted
pub sound_observer_book : (digest : Bytes → Bytes) (book : Bytes) → AreBytes book → observer_sound digest book ≡ true →
    SoundObserverBook digest book
unfolding as_replica
sound_observer_book digest book small e =
    let state : SoundObserver digest (decode_observer book) = sound_observer digest book e in
    let count = count_observed book in
    record {
      is_sound_lem = e;
      ready = record {
        readable = observer_readable book (exact_observer digest book e) state.n_high
            (few_heights (decode_observer book).edition (length (decode_observer book).heights) (book_heights book) count
            state.last_most) (sound_clean_observer digest book e).head_zeros
            (weighs_some digest (decode_observer book) state);
        whole = encode_decode_observer digest book e small;
      };
      state = state;
      heights_most = unfold decode_observer in rw count at state.last_most;
      finalized_high = observer_finalized_in digest book e;
    }
