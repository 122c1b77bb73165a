-- Where one height stands in the bytes of a state: reading it there, and writing it there.
use Rattle.std.specs.Prelude.{ℕ, suc, ◌+◌, ◌-◌, ◌*◌, ◌≤◌, ◌<◌, ◌≡◌, refl, true, List, ◌++◌, map, length, take, drop, set}
use Rattle.std.proofs.Common.{arith, ◌∙◌, append_assoc, set-set, get_or-set_same, get_or-set_other}
use Rattle.std.proofs.Math.Path.{sym, ap}
use Rattle.std.proofs.Math.ListN.{length-append, length-set, length-drop}
use Rattle.std.proofs.lemmas.List.{length-map, set-get_or}
use Rattle.std.proofs.Math.Seq.{length-take-le}
use Rattle.protocol.specs.SoundState.{ShapedHeight, Shaped}
use Rattle.protocol.specs.Every.{Every}
use Rattle.protocol.specs.Bytes.{Bytes, byte_at, le16, part, zeros, is_zero, join, put}
use Rattle.protocol.specs.State.{State, Height, no_height, at, last, with_height, encode, head_bytes, content_bytes}
use Rattle.protocol.specs.State.{body_bytes, book_heights, head_unused, renewed}
use Rattle.protocol.proofs.Laws.EveryLaws.{every_set, every_at, every_take}
use Rattle.protocol.proofs.Laws.BytesLaws.{middle_part, middle_set, middle_put}
use Rattle.protocol.proofs.Laws.HeadLaws.{head_size, head_unused_lem, head_heights}
use Rattle.protocol.proofs.Laws.StateLaws.{content_size_lem, body_size_lem, contents_sized, bodies_sized}
use Rattle.protocol.proofs.Laws.PiecesLaws.{length_join, cut_set}
use Rattle.protocol.proofs.Laws.CodecLaws.{Clean, at_suc}

contents_length : (l : List Height) → length (join (map content_bytes l)) ≡ 16 * length l
contents_length l = length_join 16 (map content_bytes l) (contents_sized l) ∙ rw length-map

bodies_length : {l : List Height} → Every ShapedHeight l → length (join (map body_bytes l)) ≡ 864 * length l
bodies_length {l} hs = length_join 864 (map body_bytes l) (bodies_sized hs) ∙ rw length-map

pub length_encode : (s : State) → Shaped s → length (encode s) ≡ 576 + 880 * last s
unfolding encode last
length_encode s shaped =
    let contents = contents_length s.heights in
    let bodies = bodies_length shaped.heights in
    simp length-append (omega (arith, head_size s, shaped.pool_size_lem))

-- a height that is not 0 is the next after another
pub suc_pred : (h : ℕ) → 1 ≤ h → suc (h - 1) ≡ h
suc_pred h low = omega arith

-- ---- a height put into a state
module _ (s : State) (i : ℕ) where
  suc_minus : suc i - 1 ≡ i
  suc_minus = omega arith

  abbrev with_heights : List Height → State
  with_heights = renewed s s.flags s.current s.finalized s.pending_count s.pool

  -- the height that stands there anyway
  pub with_at : with_height s (suc i) (at s (suc i)) ≡ s
  unfolding with_height at
  with_at = ap with_heights (set-get_or s.heights (suc i - 1) no_height)

  pub with_with : (x y : Height) → with_height (with_height s (suc i) x) (suc i) y ≡ with_height s (suc i) y
  unfolding with_height
  with_with x y = ap with_heights (set-set s.heights (suc i - 1) x y)

  pub last_with : (x : Height) → last (with_height s (suc i) x) ≡ last s
  unfolding last with_height
  last_with x = length-set s.heights (suc i - 1) x

  pub at_with : (x : Height) → i < last s → at (with_height s (suc i) x) (suc i) ≡ x
  unfolding last with_height at
  at_with x h = rw suc_minus (get_or-set_same s.heights i x no_height h)

  pub at_with_other : (j : ℕ) (x : Height) → (j ≡ i → ⊥) → at (with_height s (suc i) x) (suc j) ≡ at s (suc j)
  unfolding with_height
  at_with_other j x h = at_suc (with_height s (suc i) x) j ∙ rw suc_minus (get_or-set_other s.heights i j x no_height h)
      ∙ sym (at_suc s j)

  pub shaped_at : Shaped s → i < last s → ShapedHeight (at s (suc i))
  unfolding last
  shaped_at shaped h = rw at_suc (every_at i no_height shaped.heights h)

  pub shaped_with : (x : Height) → Shaped s → ShapedHeight x → Shaped (with_height s (suc i) x)
  unfolding with_height
  shaped_with x shaped fits = record {
    weighed = shaped.weighed;
    pool_size_lem = shaped.pool_size_lem;
    heights =
        every_set (suc i - 1) x fits shaped.heights;
  }

-- ---- the bytes around height `suc i`
unfoldable front : State → ℕ → Bytes
front s i = head_bytes s ++ (s.pool ++ join (map content_bytes (take i s.heights)))

unfoldable between : State → ℕ → Bytes
between s i = join (map content_bytes (drop (suc i) s.heights)) ++ join (map body_bytes (take i s.heights))

unfoldable back : State → ℕ → Bytes
back s i = join (map body_bytes (drop (suc i) s.heights))

module _ (s : State) (shaped : Shaped s) (i : ℕ) (inside : i < last s) where
  heights_before : length (take i s.heights) ≡ i
  unfolding last
  heights_before = length-take-le i s.heights (omega arith)

  front_size : length (front s i) ≡ 576 + 16 * i
  unfolding front
  front_size =
      let contents = contents_length (take i s.heights) in
      simp length-append (omega (arith, head_size s, shaped.pool_size_lem, heights_before))

  between_size : length (between s i) + 16 * suc i ≡ 16 * last s + 864 * i
  unfolding between last
  between_size =
      let contents = contents_length (drop (suc i) s.heights) in
      let bodies = bodies_length (every_take i shaped.heights) in
      simp length-append (omega (arith, heights_before, length-drop (suc i) s.heights))

  body_front_size : (x : Height) → length (front s i ++ (content_bytes x ++ between s i)) ≡ 576 + 16 * last s + 864 * i
  body_front_size x = simp length-append (omega (arith, front_size, content_size_lem x, between_size))

  head_with_lem : (x : Height) → head_bytes (with_height s (suc i) x) ≡ head_bytes s
  unfolding head_bytes with_height
  head_with_lem x = rw length-set

  cut : (x : Height) → encode (with_height s (suc i) x) ≡ front s
      i ++ (content_bytes x ++ (between s i ++ (body_bytes x ++ back s i)))
  unfolding encode with_height front between back last
  cut x =
      rw (
        head_with_lem x,
        suc_minus s i,
        cut_set content_bytes s.heights i x inside,
        cut_set body_bytes s.heights i x inside,
      )
      (simp append_assoc)

  body_cut : (x : Height) → encode (with_height s (suc i) x) ≡ (front s i ++ (content_bytes x ++ between s i)) ++
      (body_bytes x ++ back s i)
  body_cut x = cut x ∙ simp append_assoc

  -- ---- reads
  pub content_part : (x : Height) (j k : ℕ) → j + k ≤ 16 →
      part (encode (with_height s (suc i) x)) (576 + 16 * i + j) k ≡ part (content_bytes x) j k
  content_part x j k h =
      rw (cut x) (middle_part (front s i) (content_bytes x) (between s i ++ (body_bytes x ++ back s i)) (576 + 16 * i)
      front_size j k (rw content_size_lem h))

  -- ---- writes: the height `x` becomes `y`
  pub content_put : (x y : Height) (j : ℕ) (new : Bytes) → j + length new ≤ 16 →
      content_bytes y ≡ put (content_bytes x) j new → body_bytes y ≡ body_bytes x →
      put (encode (with_height s (suc i) x)) (576 + 16 * i + j) new ≡ encode (with_height s (suc i) y)
  content_put x y j new h contents bodies =
      rw (cut x, cut y, contents, bodies)
      (middle_put (front s i) (content_bytes x) (between s i ++ (body_bytes x ++ back s i)) (576 + 16 * i) front_size j
      new (rw content_size_lem h))

  pub content_set : (x y : Height) (j v : ℕ) → j < 16 →
      content_bytes y ≡ set (content_bytes x) j v → body_bytes y ≡ body_bytes x →
      set (encode (with_height s (suc i) x)) (576 + 16 * i + j) v ≡ encode (with_height s (suc i) y)
  content_set x y j v h contents bodies =
      rw (cut x, cut y, contents, bodies)
      (middle_set (front s i) (content_bytes x) (between s i ++ (body_bytes x ++ back s i)) (576 + 16 * i) front_size j v
      (rw content_size_lem h))

  pub body_put : (x y : Height) → ShapedHeight x → (j : ℕ) (new : Bytes) → j + length new ≤ 864 →
      content_bytes y ≡ content_bytes x → body_bytes y ≡ put (body_bytes x) j new →
      put (encode (with_height s (suc i) x)) (576 + 16 * last s + 864 * i + j) new ≡ encode (with_height s (suc i) y)
  body_put x y fits j new h contents bodies =
      rw (body_cut x, body_cut y, contents, bodies)
      (middle_put (front s i ++ (content_bytes x ++ between s i)) (body_bytes x) (back s i) (576 + 16 * last s + 864 * i)
      (body_front_size x) j new (rw (body_size_lem x fits) h))

-- ---- the bytes of a state of the right shape are those of a clean book
content_zeros_lem : (x : Height) → part (content_bytes x) 10 6 ≡ zeros 6
unfolding content_bytes le16 part zeros
content_zeros_lem x = refl

pub count_encode : (s : State) → book_heights (encode s) ≡ last s
unfolding encode last
count_encode s = head_heights s _

head_zeros : (s : State) → is_zero (head_unused (encode s)) ≡ true
unfolding encode
head_zeros s = head_unused_lem s _

pub clean_encode : (s : State) → Shaped s → Clean (encode s)
clean_encode s shaped = record {
  size = rw count_encode (length_encode s shaped);
  head_zeros = head_zeros s;
  content_zeros_lem = λ i h.
      ap (λ (t : State). part (encode t) (576 + 16 * i + 10) 6) (sym (with_at s i)) ∙
      content_part s shaped i (rw count_encode at h) (at s (suc i)) 10 6 (omega arith) ∙ content_zeros_lem (at s (suc i));
}
