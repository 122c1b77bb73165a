-- Where one height stands in the bytes of an observer, and the writes that change it there; the finalized height; and
-- the bytes of a new observer.
use Rattle.std.specs.Prelude.{ℕ, zero, suc, ◌+◌, ◌-◌, ◌*◌, ◌≤◌, ◌<◌, ◌≡◌, List, [], ◌∷◌, ◌++◌, map, take, drop, set, replicate}
use Rattle.std.proofs.Common.{arith, mul-zero, sym, ◌∙◌, append_assoc, length-set, length-take-le}
use Rattle.std.proofs.Math.Nat.{add-zero}
use Rattle.std.proofs.Math.Path.{refl, ap}
use Rattle.std.proofs.Math.ListN.{length, length-append, length-map, length-drop}
use Rattle.std.proofs.lemmas.List.{length-replicate}
use Rattle.protocol.specs.Every.{Every, none, one}
use Rattle.protocol.specs.Bytes.{Bytes, le16, zeros, join, put, Sized, AreBytes}
use Rattle.protocol.specs.State.{State, Height, at, head_bytes, head_put, short_number, with_head, with_height}
use Rattle.protocol.specs.State.{book_heights}
use Rattle.protocol.specs.Deliver.{with_notarized, with_masks}
use Rattle.protocol.specs.Observer.{Observer, ObservedHeight, as_replica, as_replica_height, observed}
use Rattle.protocol.specs.Observer.{observed_height, observed_content_bytes, observed_body_bytes, encode_observer}
use Rattle.protocol.specs.Observer.{decode_observer, observer_state}
use Rattle.protocol.specs.ObserverCalls.{new_observer, new_observed_height}
use Rattle.protocol.proofs.Laws.BytesLaws.{middle_set, middle_put, put_all, put_at, zeros_add}
use Rattle.protocol.proofs.Laws.PiecesLaws.{length_join, cut_set}
use Rattle.protocol.proofs.Laws.PlaceLaws.{with_at, shaped_at}
use Rattle.protocol.proofs.Laws.NewStateLaws.{eight_zeros}
use Rattle.protocol.proofs.Laws.HeadLaws.{opened_head}
use Rattle.protocol.specs.Open.{long, opened_edition, opened_weights}
use Rattle.protocol.proofs.Laws.WriteLaws.{with_status}
use Rattle.protocol.proofs.Laws.WriteLaws.{with_notarized_bytes}
use Rattle.protocol.proofs.Laws.ObserverStateLaws.{ShapedObserver, with_observed_heights, map_set, observed_heights}
use Rattle.protocol.proofs.Laws.ObserverStateLaws.{observed_as, observed_contents_sized, observed_content_size_lem}
use Rattle.protocol.proofs.Laws.ObserverStateLaws.{head_size_as, shaped_as, last_as, output_set}
use Rattle.protocol.proofs.Laws.ObserverCodecLaws.{ExactObserver, count_observed, decode_observer_shaped}

-- ---- the bytes around height `suc i`
contents_length : (xs : List ObservedHeight) → length (join (map observed_content_bytes xs)) ≡ 8 * length xs
contents_length xs = length_join 8 (map observed_content_bytes xs) (observed_contents_sized xs) ∙ rw length-map

sized_before : (xs : List ObservedHeight) (i : ℕ) → Every (Sized 176) (map observed_body_bytes xs) →
    Every (Sized 176) (map observed_body_bytes (take i xs))
sized_before [] zero none = none
sized_before [] (suc i) none = none
sized_before (x ∷ xs) zero (one h hs) = none
sized_before (x ∷ xs) (suc i) (one h hs) = one h (sized_before xs i hs)

unfoldable front : Observer → ℕ → Bytes
front o i = head_bytes (as_replica o) ++ join (map observed_content_bytes (take i o.heights))

unfoldable between : Observer → ℕ → Bytes
between o i = join (map observed_content_bytes (drop (suc i) o.heights)) ++
    join (map observed_body_bytes (take i o.heights))

unfoldable back : Observer → ℕ → Bytes
back o i = join (map observed_body_bytes (drop (suc i) o.heights))

-- an observer with height `suc i` changed, and the contents of a height
abbrev changed_to : Observer → ℕ → Height → Bytes
changed_to o i x = encode_observer (observed (with_height (as_replica o) (suc i) x))

abbrev content : Height → Bytes
content x = observed_content_bytes (observed_height x)

with_observed : (o : Observer) (i : ℕ) (x : Height) →
    observed (with_height (as_replica o) (suc i) x) ≡ with_observed_heights o (set o.heights i (observed_height x))
unfolding observed with_height as_replica
with_observed o i x =
    let place : suc i - 1 ≡ i = omega arith in
    ap (with_observed_heights o)
    (map_set observed_height (map as_replica_height o.heights) (suc i - 1) x
    ∙ rw (place, observed_heights o.heights))

head_with_lem : (o : Observer) (i : ℕ) (y : ObservedHeight) →
    head_bytes (as_replica (with_observed_heights o (set o.heights i y))) ≡ head_bytes (as_replica o)
unfolding head_bytes as_replica
head_with_lem o i y =
    rw (length-map (set o.heights i y) as_replica_height, length-map o.heights as_replica_height, length-set)

module _ (o : Observer) (shaped : ShapedObserver o) (i : ℕ) (inside : i < length o.heights) where
  heights_before : length (take i o.heights) ≡ i
  heights_before = length-take-le i o.heights (omega arith)

  front_size : length (front o i) ≡ 64 + 8 * i
  unfolding front
  front_size =
      let contents = contents_length (take i o.heights) in
      simp length-append (omega (arith, head_size_as o, heights_before))

  between_size : length (between o i) + 8 * suc i ≡ 8 * length o.heights + 176 * i
  unfolding between
  between_size =
      let contents = contents_length (drop (suc i) o.heights) in
      let bodies : length (join (map observed_body_bytes (take i o.heights))) ≡ 176 * length (take i o.heights) =
      length_join 176 (map observed_body_bytes (take i o.heights)) (sized_before o.heights i shaped.blocks)
      ∙ rw length-map in
      simp length-append (omega (arith, heights_before, length-drop (suc i) o.heights))

  block_front_size : (x : Height) →
      length (front o i ++ (content x ++ between o i)) ≡ 64 + 8 * length o.heights + 176 * i
  block_front_size x =
      simp length-append (omega (arith, front_size, observed_content_size_lem (observed_height x), between_size))

  cut_observed : (y : ObservedHeight) → encode_observer (with_observed_heights o (set o.heights i y)) ≡
      front o i ++ (observed_content_bytes y ++ (between o i ++ (y.notarized ++ back o i)))
  unfolding encode_observer observed_body_bytes front between back
  cut_observed y =
      rw (
        head_with_lem o i y,
        cut_set observed_content_bytes o.heights i y inside,
        cut_set observed_body_bytes o.heights i y inside,
      )
      (simp append_assoc)

  cut : (x : Height) → changed_to o i x ≡ front o i ++ (content x ++ (between o i ++ (x.notarized ++ back o i)))
  unfolding observed_height
  cut x = ap encode_observer (with_observed o i x) ∙ cut_observed (observed_height x)

  block_cut : (x : Height) → changed_to o i x ≡
      (front o i ++ (content x ++ between o i)) ++ (x.notarized ++ back o i)
  block_cut x = cut x ∙ simp append_assoc

  -- ---- writes: the height `x` becomes `y`
  content_put : (x y : Height) (j : ℕ) (new : Bytes) → j + length new ≤ 8 → content y ≡ put (content x) j new →
      y.notarized ≡ x.notarized → put (changed_to o i x) (64 + 8 * i + j) new ≡ changed_to o i y
  content_put x y j new h contents blocks =
      rw (cut x, cut y, contents, blocks)
      (middle_put (front o i) (content x) (between o i ++ (x.notarized ++ back o i)) (64 + 8 * i) front_size j new
      (rw (observed_content_size_lem (observed_height x)) h))

  content_set : (x y : Height) (j v : ℕ) → j < 8 → content y ≡ set (content x) j v → y.notarized ≡ x.notarized →
      set (changed_to o i x) (64 + 8 * i + j) v ≡ changed_to o i y
  content_set x y j v h contents blocks =
      rw (cut x, cut y, contents, blocks)
      (middle_set (front o i) (content x) (between o i ++ (x.notarized ++ back o i)) (64 + 8 * i) front_size j v
      (rw (observed_content_size_lem (observed_height x)) h))

  block_put : (x y : Height) → length x.notarized ≡ 176 → length y.notarized ≡ 176 → content y ≡ content x →
      put (changed_to o i x) (64 + 8 * length o.heights + 176 * i) y.notarized ≡ changed_to o i y
  block_put x y old new contents =
      rw (block_cut x, block_cut y, contents)
      (rw (add-zero, put_all x.notarized y.notarized (old ∙ sym new)) at
      (middle_put (front o i ++ (content x ++ between o i)) x.notarized (back o i)
      (64 + 8 * length o.heights + 176 * i) (block_front_size x) 0 y.notarized (omega arith)))

  -- ---- changes of a height, as the writes that make them
  module _ (x : Height) where
    make_dummy_mask : (mask : ℕ) → put (changed_to o i x) (64 + 8 * i + 4) (le16 mask) ≡
        changed_to o i (with_masks x mask x.finalize_mask)
    unfolding with_masks observed_height observed_content_bytes le16 put
    make_dummy_mask mask =
        content_put x (with_masks x mask x.finalize_mask) 4 (le16 mask) (omega arith) refl refl

    make_finalize_mask : (mask : ℕ) → put (changed_to o i x) (64 + 8 * i + 6) (le16 mask) ≡
        changed_to o i (with_masks x x.dummy_mask mask)
    unfolding with_masks observed_height observed_content_bytes le16 put
    make_finalize_mask mask =
        content_put x (with_masks x x.dummy_mask mask) 6 (le16 mask) (omega arith) refl refl

    -- the block first, then status and mask
    make_notarized : (mask : ℕ) (block : Bytes) → length x.notarized ≡ 176 → length block ≡ 176 →
        put (set (put (changed_to o i x) (64 + 8 * length o.heights + 176 * i) block) (64 + 8 * i) (x.status + 2))
        (64 + 8 * i + 2) (le16 mask) ≡ changed_to o i (with_notarized x mask block)
    unfolding with_notarized with_notarized_bytes with_status observed_height observed_content_bytes le16 put
    make_notarized mask block old new =
        let copied : Height = with_notarized_bytes x block in
        let marked : Height = with_status copied (x.status + 2) in
        let mark = rw add-zero at (content_set copied marked 0 (x.status + 2) (omega arith) refl refl) in
        rw (block_put x copied old new refl, mark)
        (content_put marked (with_notarized x mask block) 2 (le16 mask) (omega arith) refl refl)

-- ---- the same of a book that is the bytes of what it says
module _ (book : Bytes) (exact : ExactObserver book) (whole : encode_observer (decode_observer book) ≡ book) where
  abbrev o : Observer
  o = decode_observer book

  named : (i : ℕ) → changed_to o i (at (observer_state book) (suc i)) ≡ book
  named i = ap (λ (s : State). encode_observer (observed s)) (with_at (as_replica o) i)
      ∙ ap encode_observer (observed_as o) ∙ whole

  module _ (i : ℕ) (inside : i < book_heights book) where
    shaped : ShapedObserver o
    shaped = decode_observer_shaped book exact

    within : i < length o.heights
    within = rw (count_observed book) inside

    pub book_observed_dummy : (mask : ℕ) → put book (64 + 8 * i + 4) (le16 mask) ≡
        changed_to o i (with_masks (at (observer_state book) (suc i)) mask (at (observer_state book) (suc i)).finalize_mask)
    book_observed_dummy mask =
        rw (named i) at (make_dummy_mask o shaped i within (at (observer_state book) (suc i)) mask)

    pub book_observed_finalize : (mask : ℕ) → put book (64 + 8 * i + 6) (le16 mask) ≡
        changed_to o i (with_masks (at (observer_state book) (suc i)) (at (observer_state book) (suc i)).dummy_mask mask)
    book_observed_finalize mask =
        rw (named i) at (make_finalize_mask o shaped i within (at (observer_state book) (suc i)) mask)

    pub book_observed_notarized : (mask : ℕ) (block : Bytes) → length block ≡ 176 →
        put (set (put book (64 + 8 * book_heights book + 176 * i) block) (64 + 8 * i)
        ((at (observer_state book) (suc i)).status + 2)) (64 + 8 * i + 2) (le16 mask) ≡
        changed_to o i (with_notarized (at (observer_state book) (suc i)) mask block)
    book_observed_notarized mask block size =
        let old = (shaped_at (as_replica o) i (shaped_as o shaped) (rw (last_as o) within)).notarized_size in
        rw (named i, count_observed book) at
        (make_notarized o shaped i within (at (observer_state book) (suc i)) mask block old size)

  -- ---- the finalized height
  pub book_observed_finalized : (g : ℕ) → head_put 5 44 g book ≡
      encode_observer (observed (with_head (observer_state book) (observer_state book).flags
      (observer_state book).current g))
  book_observed_finalized g = ap (λ (bytes : Bytes). head_put 5 44 g bytes) (sym whole) ∙ sym (output_set o g)

-- ---- a new observer
pub zero_content : observed_content_bytes new_observed_height ≡ zeros 8
unfolding observed_content_bytes new_observed_height le16 zeros
zero_content = refl

pub zero_body : observed_body_bytes new_observed_height ≡ zeros 176
unfolding observed_body_bytes new_observed_height
zero_body = refl

pub zero_join : (f : ObservedHeight → Bytes) (k : ℕ) → f new_observed_height ≡ zeros k → (count : ℕ) →
    join (map f (replicate count new_observed_height)) ≡ zeros (k * count)
unfolding join
zero_join f k e zero = unfold zeros in rw (mul-zero k)
zero_join f k e (suc count) =
    let size : k + k * count ≡ k * suc count = omega arith in
    rw (e, zero_join f k e count) (zeros_add k (k * count) ∙ ap zeros size)

pub new_observer_from_zeros : (n heights : ℕ) (weights : Bytes) → AreBytes weights → length weights ≡ 2 * n → n ≤ 16 →
    put (put (put (set (set (zeros (64 + 184 * heights)) 0 n) 7 3) 8 weights) 40 (le16 heights)) 42 (le16 0) ≡
    encode_observer (new_observer (long weights) n heights)
unfolding encode_observer head_bytes as_replica new_observer opened_edition opened_weights short_number
new_observer_from_zeros n heights weights small given high =
    let size : 64 + 184 * heights ≡ 8 + (56 + 184 * heights) = omega arith in
    let rest : 8 * heights + 176 * heights ≡ 184 * heights = omega arith in
    rw (
      size,
      eight_zeros (56 + 184 * heights),
      opened_head (n ∷ 0 ∷ 0 ∷ 0 ∷ 0 ∷ 0 ∷ 0 ∷ 3 ∷ []) refl n weights small given high heights 0 (184 * heights),
      length-map (replicate heights new_observed_height) as_replica_height,
      length-replicate heights new_observed_height,
      zero_join observed_content_bytes 8 zero_content heights,
      zero_join observed_body_bytes 176 zero_body heights,
      zeros_add (8 * heights) (176 * heights),
      rest,
    )
