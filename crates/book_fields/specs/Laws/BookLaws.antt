-- Which books stand on which rung: those of the right length, the sound ones, and those just written from a state.
use Rattle.std.specs.Prelude.{ℕ, ◌+◌, ◌-◌, ◌*◌, ◌≤◌, ◌≡◌, refl, true, List, length}
use Rattle.std.proofs.Common.{arith, ap, ◌∙◌, length-set}
use Rattle.protocol.specs.SoundState.{ShapedHeight, Shaped, SoundState}
use Rattle.protocol.specs.Every.{Every}
use Rattle.protocol.specs.Bytes.{Bytes, is_zero, AreBytes, Sized as SizedBytes}
use Rattle.protocol.specs.Block.{maximum_heights}
use Rattle.protocol.specs.State.{State, Height, last, decode, encode, with_height, with_pool, book_heights}
use Rattle.protocol.specs.State.{maximum_replicas, maximum_pending, head_unused}
use Rattle.protocol.specs.View.{total_weight}
use Rattle.protocol.specs.Sound.{sound, view}
use Rattle.protocol.proofs.Laws.HeadLaws.{head_weighs, head_weight_each, heights_sum, current_sum, finalized_sum}
use Rattle.protocol.proofs.Laws.StateLaws.{decode_encode}
use Rattle.protocol.proofs.Laws.EveryLaws.{every_set}
use Rattle.protocol.proofs.Laws.CodecLaws.{last_decode, decode_shaped}
use Rattle.protocol.proofs.Laws.PlaceLaws.{length_encode, count_encode, clean_encode}
use Rattle.protocol.proofs.Laws.PoolLaws.{moved, moved_last, moved_shaped}
use Rattle.protocol.proofs.Laws.SoundLaws.{last_high, finalized_in, exact, sound_decode, sound_clean, encode_decode}
use Rattle.protocol.proofs.Laws.FieldLaws.{read_n, read_own, read_flags, read_current, read_finalized}
use Rattle.protocol.proofs.Laws.FieldLaws.{read_pending_count}
use Rattle.book_fields.specs.Book.{Readable, Ready, SoundBook, book_view}
use Rattle.book_fields.specs.Laws.WeightLaws.{some_weight, head_even}

pub readable : (book : Bytes) → length book ≡ 576 + 880 * book_heights book → (decode book).n ≤ maximum_replicas →
    book_heights book ≤ maximum_heights → is_zero (head_unused book) ≡ true → 1 ≤ total_weight (book_view book) →
    Readable book
readable book size replicas heights unused some = record {
  sized = record {
    size = size;
    count = last_decode book;
    n_byte = read_n book;
    own_byte = read_own book;
    flags_byte = read_flags book;
    current_number = read_current book;
    finalized_number = read_finalized book;
    pending_byte = read_pending_count book;
  };
  replicas = rw (read_n book) replicas;
  heights = heights;
  heights_sum = heights_sum book (omega arith) unused;
  current_sum = current_sum book (omega arith) unused;
  finalized_sum = finalized_sum book (omega arith) unused;
  weighs = unfold view decode in head_weighs book (omega arith) unused (rw (read_n book) replicas);
  weight_each = unfold view decode in head_weight_each book (rw (read_n book) replicas);
  even_weights = unfold view decode in head_even book (rw (read_n book) replicas);
  some_weight = some;
}

-- the number of replicas, as the state has it
pub few_replicas : (book : Bytes) → Readable book → (decode book).n ≤ maximum_replicas
few_replicas book r = omega (arith, r.replicas, r.sized.n_byte)

weighs_some : (digest : Bytes → Bytes) (s : State) → SoundState digest s → 1 ≤ total_weight (view s)
unfolding view
weighs_some digest s is =
    some_weight s.n s.weights is.n_low (omega (arith, is.shaped.weighed.sixteen)) is.setting.weights_row_lem

-- a sound book, as every call is granted
pub sound_book : (digest : Bytes → Bytes) (book : Bytes) → AreBytes book → sound digest book ≡ true →
    SoundBook digest book
sound_book digest book small e =
    let state : SoundState digest (decode book) = sound_decode digest book e in
    let count = last_decode book in
    record {
      is_sound_lem = e;
      ready = record {
        readable = readable book (exact digest book e) state.n_high (rw count at (last_high state))
            (sound_clean digest book e).head_zeros (weighs_some digest (decode book) state);
        whole = encode_decode digest book e small;
      };
      state = state;
      heights_most = unfold decode in rw count at state.last_most;
      finalized_high = rw count at (finalized_in digest (decode book) state);
    }

-- the bytes of a state of the right shape, as after a write
pub ready_shaped : (s : State) → Shaped s → s.n ≤ maximum_replicas → last s ≤ maximum_heights →
    1 ≤ total_weight (view s) → Ready (encode s)
ready_shaped s shaped replicas few some =
    let back : decode (encode s) ≡ s = decode_encode s shaped in
    record {
      readable = readable (encode s) (rw (count_encode s) (length_encode s shaped)) (rw back replicas)
          (rw (count_encode s) few) (clean_encode s shaped).head_zeros (rw back some);
      whole = ap encode back;
    }

-- ---- a ready book after a change
pub ready_state : (book : Bytes) → Ready book → Shaped (decode book)
ready_state book r = decode_shaped book r.readable.sized.size

-- the book says as many heights as before
pub same_heights : (book : Bytes) (s : State) → last s ≡ last (decode book) → book_heights (encode s) ≡ book_heights book
same_heights book s e = count_encode s ∙ e ∙ last_decode book

ready_after : (book : Bytes) → Ready book → (s : State) → Shaped s → s.n ≡ (decode book).n →
    (view s).weights ≡ (book_view book).weights → last s ≡ last (decode book) → Ready (encode s)
ready_after book r s shaped same_n same_weights e =
    ready_shaped s shaped (rw same_n (few_replicas book r.readable)) (rw e (rw last_decode r.readable.heights))
    (rw same_weights r.readable.some_weight)

pub last_with_height : (s : State) (h : ℕ) (x : Height) → last (with_height s h x) ≡ last s
unfolding last with_height
last_with_height s h x = length-set s.heights (h - 1) x

pub ready_height : (book : Bytes) → Ready book → (h : ℕ) (x : Height) → ShapedHeight x →
    Ready (encode (with_height (decode book) h x))
unfolding with_height
ready_height book r h x fits =
    let shaped = ready_state book r in
    ready_after book r (with_height (decode book) h x)
    (record {
      weighed = shaped.weighed;
      pool_size_lem = shaped.pool_size_lem;
      heights = every_set (h - 1) x fits shaped.heights;
    })
    refl
    (unfold view in refl)
    (last_with_height (decode book) h x)

pub ready_moved : (book : Bytes) → Ready book → (es : List Bytes) → Every (SizedBytes 16) es →
    length es ≤ maximum_pending → Ready (encode (moved (decode book) es))
unfolding moved with_pool
ready_moved book r es sized few =
    let shaped = ready_state book r in
    ready_after book r (moved (decode book) es) (moved_shaped (decode book) shaped.pool_size_lem es sized few shaped)
    refl (unfold view in refl) (moved_last (decode book) es)
