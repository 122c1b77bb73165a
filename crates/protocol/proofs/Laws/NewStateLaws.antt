-- The bytes of a new state: zero bytes with five bytes of the head set, and then a leader for each height.
use Rattle.std.specs.Prelude.{ℕ, zero, suc, ◌+◌, ◌-◌, ◌*◌, ◌≤◌, ◌<◌, ◌≡◌, true, List, [], ◌∷◌, ◌++◌, map, length, get_or, set, take, drop, replicate, eqb}
use Rattle.std.proofs.Common.{arith, mul-zero, sym, ap, ◌∙◌, append_assoc, drop_at}
use Rattle.std.proofs.Math.Path.{refl}
use Rattle.std.proofs.lemmas.Bool.{false≢true}
use Rattle.std.proofs.lemmas.List.{length-map, length-replicate}
use Rattle.protocol.specs.SoundState.{ShapedHeight, Shaped, Weighed, SoundSetting}
use Rattle.protocol.specs.Tests.{in_range}
use Rattle.protocol.specs.Sound.{weights_fit}
use Rattle.protocol.proofs.Laws.TestsLaws.{and_both}
use Rattle.protocol.proofs.Laws.RowLaws.{zeros_is_zero}
use Rattle.protocol.proofs.Laws.HeadLaws.{padded_sixteen, padded_front, padded_back, words_count, opened_head}
use Rattle.protocol.specs.Every.{Every, none, one}
use Rattle.protocol.specs.Bytes.{Bytes, le16, zeros, all, join, put, AreBytes}
use Rattle.protocol.specs.State.{State, Height, at, last, no_height, with_height, encode, head_bytes, content_bytes}
use Rattle.protocol.specs.State.{body_bytes, padded, evenly, words, maximum_weight, short_number}
use Rattle.protocol.specs.Open.{Opening, unweighed, weighed, long, opened_edition, opened_weights, weights_in_range}
use Rattle.protocol.specs.Open.{new_height}
use Rattle.protocol.specs.Open.{new_state}
use Rattle.protocol.proofs.Laws.CodecLaws.{at_suc}
use Rattle.protocol.proofs.Laws.PlaceLaws.{with_at}
use Rattle.protocol.proofs.Laws.WriteLaws.{with_leader, write_leader}
use Rattle.protocol.proofs.Laws.BytesLaws.{length_zeros, zeros_add, put_at}

-- ---- the shape of a new state
pub new_height_shaped : (leader : ℕ) → ShapedHeight (new_height leader)
unfolding new_height
new_height_shaped leader = record {
  proposal_size = length_zeros 176;
  notarized_size = length_zeros 176;
  votes_size =
      length_zeros 512;
}

new_heights_shaped : (leaders : Bytes) → Every ShapedHeight (map new_height leaders)
new_heights_shaped [] = none
new_heights_shaped (leader ∷ leaders) = one (new_height_shaped leader) (new_heights_shaped leaders)

-- ---- the weights of a new state
-- every replica weighs 1
pub even_weighed : (edition n : ℕ) → Weighed edition n (padded (replicate n 1))
even_weighed edition n = record { sixteen = padded_sixteen (replicate n 1); even = λ e. unfold evenly in refl }

pub opened_weighed : (way : Opening) (n : ℕ) → Weighed (opened_edition way) n (padded (opened_weights n way))
unfolding opened_edition opened_weights
opened_weighed unweighed n = even_weighed 1 n
opened_weighed (weighed weights) n = record {
  sixteen = padded_sixteen (words n weights);
  even = λ e. absurd (false≢true e);
}
opened_weighed (long weights) n = record {
  sixteen = padded_sixteen (words n weights);
  even = λ e. absurd (false≢true e);
}

-- those that are there have the weights that were given
pub opened_counted : (way : Opening) (n : ℕ) → length (opened_weights n way) ≡ n
unfolding opened_weights
opened_counted unweighed n = length-replicate n 1
opened_counted (weighed weights) n = words_count n weights
opened_counted (long weights) n = words_count n weights

pub opened_front : (way : Opening) (n : ℕ) → n ≤ 16 → take n (padded (opened_weights n way)) ≡ opened_weights n way
opened_front way n high = padded_front n (opened_weights n way) (opened_counted way n) high

-- weights in range are those of a sound book
fits : (n : ℕ) (ws : List ℕ) → length ws ≡ n → n ≤ 16 → all (λ w. in_range 1 maximum_weight w) ws ≡ true →
    weights_fit n (padded ws) ≡ true
unfolding weights_fit
fits n ws e high range = rw (padded_front n ws e high, range, padded_back n ws e high) (zeros_is_zero (16 - n))

ones_range : (n : ℕ) → all (λ w. in_range 1 maximum_weight w) (replicate n 1) ≡ true
unfolding all in_range
ones_range zero = refl
ones_range (suc n) = ones_range n

pub opened_setting : (way : Opening) (n : ℕ) → n ≤ 16 → weights_in_range n way ≡ true →
    SoundSetting (opened_edition way) n (padded (opened_weights n way))
unfolding opened_edition opened_weights weights_in_range
opened_setting unweighed n high e = record {
  edition_row_lem = unfold in_range in refl;
  weights_row_lem = fits n (replicate n 1) (length-replicate n 1) high (ones_range n);
}
opened_setting (weighed weights) n high e = record {
  edition_row_lem = unfold in_range in refl;
  weights_row_lem = fits n (words n weights) (words_count n weights) high
      (and_both (eqb (length weights) (2 * n)) (all (λ w. in_range 1 maximum_weight w) (words n weights)) e).1;
}
opened_setting (long weights) n high e = record {
  edition_row_lem = unfold in_range in refl;
  weights_row_lem = fits n (words n weights) (words_count n weights) high
      (and_both (eqb (length weights) (2 * n)) (all (λ w. in_range 1 maximum_weight w) (words n weights)) e).1;
}

-- where all weigh 1, in each edition that is known
pub even_setting : (edition n : ℕ) → in_range 1 3 edition ≡ true → n ≤ 16 →
    SoundSetting edition n (padded (replicate n 1))
unfolding opened_weights weights_in_range
even_setting edition n known high = record {
  edition_row_lem = known;
  weights_row_lem = (opened_setting unweighed n high refl).weights_row_lem;
}

-- an opening makes an edition that is known
pub opened_known : (way : Opening) → in_range 1 3 (opened_edition way) ≡ true
unfolding opened_edition in_range
opened_known unweighed = refl
opened_known (weighed weights) = refl
opened_known (long weights) = refl

pub new_shaped : (way : Opening) (n own : ℕ) (leaders : Bytes) → Shaped (new_state way n own leaders)
unfolding new_state
new_shaped way n own leaders =
    record { weighed = opened_weighed way n; pool_size_lem = length_zeros 512; heights = new_heights_shaped leaders }

pub new_last : (way : Opening) (n own : ℕ) (leaders : Bytes) → last (new_state way n own leaders) ≡ length leaders
unfolding new_state last
new_last way n own leaders = length-map leaders new_height

-- ---- all leaders 0
zero_content : content_bytes (new_height 0) ≡ zeros 16
unfolding content_bytes new_height le16 zeros
zero_content = refl

zero_body : body_bytes (new_height 0) ≡ zeros 864
unfolding body_bytes new_height
zero_body = rw (zeros_add 176 512, zeros_add 176 688)

zero_join : (f : Height → Bytes) (k : ℕ) → f (new_height 0) ≡ zeros k → (count : ℕ) →
    join (map f (map new_height (zeros count))) ≡ zeros (k * count)
unfolding join zeros
zero_join f k e zero = rw (mul-zero k)
zero_join f k e (suc count) =
    let size : k + k * count ≡ k * suc count = omega arith in
    rw (e, zero_join f k e count) (zeros_add k (k * count) ∙ ap zeros size)

pub eight_zeros : (k : ℕ) → zeros (8 + k) ≡ 0 ∷ 0 ∷ 0 ∷ 0 ∷ 0 ∷ 0 ∷ 0 ∷ 0 ∷ zeros k
unfolding zeros
eight_zeros k = sym (zeros_add 8 k)

-- the book past its head
rest_zeros : (heights : ℕ) → zeros 512 ++ (zeros (16 * heights) ++ zeros (864 * heights)) ≡ zeros (512 + 880 * heights)
rest_zeros heights =
    let size : 512 + (16 * heights + 864 * heights) ≡ 512 + 880 * heights = omega arith in
    rw (zeros_add (16 * heights) (864 * heights), zeros_add 512 (16 * heights + 864 * heights), size)

-- the weights are written after the first eight bytes, then H and the current height
pub new_from_zeros : (n own heights : ℕ) (weights : Bytes) → AreBytes weights → length weights ≡ 2 * n → n ≤ 16 →
    put (put (put (set (set (set (zeros (576 + 880 * heights)) 0 n) 1 own) 7 3) 8 weights) 40 (le16 heights)) 42 (le16 1) ≡
    encode (new_state (long weights) n own (zeros heights))
unfolding encode head_bytes new_state opened_edition opened_weights short_number
new_from_zeros n own heights weights small given high =
    let size : 576 + 880 * heights ≡ 8 + (56 + (512 + 880 * heights)) = omega arith in
    rw (
      size,
      eight_zeros (56 + (512 + 880 * heights)),
      opened_head (n ∷ own ∷ 0 ∷ 0 ∷ 0 ∷ 0 ∷ 0 ∷ 3 ∷ []) refl n weights small given high heights 1 (512 + 880 * heights),
      length-map (zeros heights) new_height,
      length_zeros heights,
      zero_join content_bytes 16 zero_content heights,
      zero_join body_bytes 864 zero_body heights,
      rest_zeros heights,
    )

-- ---- one leader
map_set : {A B : Type 0} (f : A → B) (l : List A) (i : ℕ) (v : A) → set (map f l) i (f v) ≡ map f (set l i v)
map_set f [] i v = refl
map_set f (x ∷ xs) zero v = refl
map_set f (x ∷ xs) (suc i) v = ap (λ (l : List _). f x ∷ l) (map_set f xs i v)

new_at : (way : Opening) (n own : ℕ) (leaders : Bytes) (i v : ℕ) → i < length leaders →
    with_leader (at (new_state way n own leaders) (suc i)) v ≡ new_height v
unfolding new_state
new_at way n own leaders i v h = rw (at_suc (new_state way n own leaders) i) (led leaders i h)
  where
    led : (l : Bytes) (j : ℕ) → j < length l → with_leader (get_or (map new_height l) j no_height) v ≡ new_height v
    led [] j k = absurd (omega arith)
    led (x ∷ xs) zero k = unfold with_leader new_height in refl
    led (x ∷ xs) (suc j) k = led xs j (omega arith)

new_with : (way : Opening) (n own : ℕ) (leaders : Bytes) (i v : ℕ) →
    with_height (new_state way n own leaders) (suc i) (new_height v) ≡ new_state way n own (set leaders i v)
unfolding with_height new_state
new_with way n own leaders i v = let place : suc i - 1 ≡ i = omega arith in rw (place, map_set new_height leaders i v)

pub new_leader : (way : Opening) (n own : ℕ) (leaders : Bytes) (i v : ℕ) → i < length leaders →
    set (encode (new_state way n own leaders)) (576 + 16 * i) v ≡ encode (new_state way n own (set leaders i v))
new_leader way n own leaders i v h =
    let s : State = new_state way n own leaders in
    ap (λ (t : State). set (encode t) (576 + 16 * i) v) (sym (with_at s i)) ∙
    write_leader s (new_shaped way n own leaders) i (rw (new_last way n own leaders) h) (at s (suc i)) v ∙
    ap (λ (x : Height). encode (with_height s (suc i) x)) (new_at way n own leaders i v h) ∙
    ap encode (new_with way n own leaders i v)
