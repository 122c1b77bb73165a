-- An observer's state as a replica's, and back; and read back from its bytes as it is.
use Rattle.std.specs.Prelude.{ℕ, zero, suc, ◌+◌, ◌-◌, ◌*◌, ◌<◌, ◌≡◌, refl, length, get_or, drop}
use Rattle.std.proofs.Common.{arith, sym, subst, ◌∙◌, drop-drop}
use Rattle.std.proofs.Math.Path.{ap, ap₂}
use mathlib.Core.List.{List, [], ◌∷◌, ◌++◌, map, append-nil}
use Rattle.std.proofs.Math.ListN.{set, length-append, length-map}
use Rattle.std.proofs.Math.Seq.{drop_at}
use Rattle.protocol.specs.SoundState.{ShapedHeight, Shaped, Weighed}
use Rattle.protocol.specs.Every.{Every, none, one}
use Rattle.protocol.specs.Bytes.{Bytes, word16, le16, zeros, join, pieces, Sized, byte_at}
use Rattle.protocol.specs.Deliver.{with_notarized, with_masks}
use Rattle.protocol.specs.State.{head_put, State, Height, head_bytes, book_weights, book_heights, book_finalized}
use Rattle.protocol.specs.State.{no_height, at, last, with_height, with_head}
use Rattle.protocol.specs.Observer.{Observer, ObservedHeight, as_replica, as_replica_height, observed}
use Rattle.protocol.specs.Observer.{observed_height, observed_content_bytes, observed_body_bytes, encode_observer}
use Rattle.protocol.specs.Observer.{decode_observer, decode_observed_height, decode_observed_heights, observer_state}
use Rattle.protocol.proofs.Laws.BytesLaws.{length_zeros, word16_le16}
use Rattle.protocol.proofs.Laws.PiecesLaws.{length_join, pieces_join}
use Rattle.protocol.proofs.Laws.HeadLaws.{head_size, head_weights, head_heights, head_finalized, put_finalized}

-- ---- as a replica's, and back
observed_height_lem : (x : ObservedHeight) → observed_height (as_replica_height x) ≡ x
unfolding observed_height as_replica_height
observed_height_lem x = refl

pub observed_heights : (xs : List ObservedHeight) → map observed_height (map as_replica_height xs) ≡ xs
observed_heights [] = refl
observed_heights (x ∷ xs) = ap₂ ◌∷◌ (observed_height_lem x) (observed_heights xs)

abbrev pub with_observed_heights : Observer → List ObservedHeight → Observer
with_observed_heights o heights =
    record { edition = o.edition; n = o.n; weights = o.weights; finalized = o.finalized; heights = heights }

pub observed_as : (o : Observer) → observed (as_replica o) ≡ o
unfolding observed as_replica
observed_as o = ap (with_observed_heights o) (observed_heights o.heights)

-- a height, or a state, that has nothing but what an observer keeps
abbrev pub ObservingHeight : Height → Type 0
ObservingHeight x = as_replica_height (observed_height x) ≡ x

abbrev pub Observing : State → Type 0
Observing s = as_replica (observed s) ≡ s

pub observing_as : (o : Observer) → Observing (as_replica o)
observing_as o = ap as_replica (observed_as o)

-- ---- changes that leave it so
module _ (x : Height) (e : ObservingHeight x) where
  pub observing_masks : (dummies finalizations : ℕ) → ObservingHeight (with_masks x dummies finalizations)
  observing_masks dummies finalizations =
      subst (λ (y : Height). ObservingHeight (with_masks y dummies finalizations)) e
      (unfold as_replica_height in unfold observed_height in unfold with_masks in refl)

  pub observing_notarized : (mask : ℕ) (block : Bytes) → ObservingHeight (with_notarized x mask block)
  observing_notarized mask block =
      subst (λ (y : Height). ObservingHeight (with_notarized y mask block)) e
      (unfold as_replica_height in unfold observed_height in unfold with_notarized in refl)

pub map_set : {A B : Type 0} (f : A → B) (xs : List A) (i : ℕ) (y : A) → map f (set xs i y) ≡ set (map f xs) i (f y)
map_set f [] i y = refl
map_set f (x ∷ xs) zero y = refl
map_set {B = B} f (x ∷ xs) (suc i) y = ap (λ (ys : List B). f x ∷ ys) (map_set f xs i y)

abbrev pub with_replica_heights : Observer → List Height → State
with_replica_heights o heights = record {
  edition = o.edition;
  n = o.n;
  weights = o.weights;
  own = 0;
  flags = 0;
  current = 0;
  finalized = o.finalized;
  pending_count = 0;
  pool = zeros 512;
  heights = heights;
}

module _ (o : Observer) where
  observing_with_as : (h : ℕ) (x : Height) → ObservingHeight x → Observing (with_height (as_replica o) h x)
  unfolding as_replica observed with_height
  observing_with_as h x f =
      ap (with_replica_heights o)
      (ap (map as_replica_height) (map_set observed_height (map as_replica_height o.heights) (h - 1) x)
      ∙ map_set as_replica_height (map observed_height (map as_replica_height o.heights)) (h - 1) (observed_height x)
      ∙ ap₂ (λ (xs : List Height) (y : Height). set xs (h - 1) y)
      (ap (map as_replica_height) (observed_heights o.heights)) f)

  observing_finalized_as : (g : ℕ) → Observing (with_head (as_replica o) 0 0 g)
  unfolding as_replica observed with_head
  observing_finalized_as g =
      ap (with_replica_heights
      (record { edition = o.edition; n = o.n; weights = o.weights; finalized = g; heights = o.heights }))
      (ap (map as_replica_height) (observed_heights o.heights))

pub observing_with : (s : State) → Observing s → (h : ℕ) (x : Height) → ObservingHeight x → Observing (with_height s h x)
observing_with s e h x f =
    subst (λ (t : State). Observing (with_height t h x)) e (observing_with_as (observed s) h x f)

pub observing_finalized : (s : State) → Observing s → (g : ℕ) → Observing (with_head s s.flags s.current g)
unfolding as_replica
observing_finalized s e g =
    subst (λ (t : State). Observing (with_head t t.flags t.current g)) e (observing_finalized_as (observed s) g)

-- ---- one height
pub last_as : (o : Observer) → last (as_replica o) ≡ length o.heights
unfolding last as_replica
last_as o = length-map o.heights as_replica_height

get_map : (xs : List ObservedHeight) (i : ℕ) (d : ObservedHeight) → i < length xs →
    get_or (map as_replica_height xs) i no_height ≡ as_replica_height (get_or xs i d)
get_map [] i d h = absurd (omega arith)
get_map (x ∷ xs) zero d h = refl
get_map (x ∷ xs) (suc i) d h = get_map xs i d (omega arith)

pub at_as : (o : Observer) (i : ℕ) (d : ObservedHeight) → i < length o.heights →
    at (as_replica o) (suc i) ≡ as_replica_height (get_or o.heights i d)
unfolding at as_replica
at_as o i d h = let e : suc i - 1 ≡ i = omega arith in rw e (get_map o.heights i d h)

-- ---- bytes and back
pub head_size_as : (o : Observer) → length (head_bytes (as_replica o)) ≡ 64
head_size_as o = head_size (as_replica o)

decode_observed_height_lem : (x : ObservedHeight) →
    decode_observed_height (observed_content_bytes x) (observed_body_bytes x) ≡ x
unfolding decode_observed_height observed_content_bytes observed_body_bytes word16 le16
decode_observed_height_lem x = λ i. record {
  status = x.status;
  certificate_mask = word16_le16 x.certificate_mask i;
  dummy_mask = word16_le16 x.dummy_mask i;
  finalize_mask = word16_le16 x.finalize_mask i;
  notarized = x.notarized;
}

pub observed_content_size_lem : (x : ObservedHeight) → Sized 8 (observed_content_bytes x)
unfolding observed_content_bytes le16
observed_content_size_lem x = refl

observed_zip : (xs : List ObservedHeight) →
    decode_observed_heights (map observed_content_bytes xs) (map observed_body_bytes xs) ≡ xs
unfolding decode_observed_heights
observed_zip [] = refl
observed_zip (x ∷ xs) = ap₂ ◌∷◌ (decode_observed_height_lem x) (observed_zip xs)

pub observed_contents_sized : (xs : List ObservedHeight) → Every (Sized 8) (map observed_content_bytes xs)
observed_contents_sized [] = none
observed_contents_sized (x ∷ xs) = one (observed_content_size_lem x) (observed_contents_sized xs)

-- its weights are those of 16 replicas, and every notarized block's place has its size
pub record ShapedObserver (o : Observer) : Type 0 where
  pub weighed : Weighed o.edition o.n o.weights
  pub blocks : Every (Sized 176) (map observed_body_bytes o.heights)

bodies_of_lem : (xs : List ObservedHeight) → Every ShapedHeight (map as_replica_height xs) →
    Every (Sized 176) (map observed_body_bytes xs)
unfolding observed_body_bytes as_replica_height
bodies_of_lem [] none = none
bodies_of_lem (x ∷ xs) (one h hs) = one h.notarized_size (bodies_of_lem xs hs)

of_bodies : (xs : List ObservedHeight) → Every (Sized 176) (map observed_body_bytes xs) →
    Every ShapedHeight (map as_replica_height xs)
unfolding observed_body_bytes as_replica_height
of_bodies [] none = none
of_bodies (x ∷ xs) (one h hs) = one
    (record { proposal_size = length_zeros 176; notarized_size = h; votes_size = length_zeros 512 })
    (of_bodies xs hs)

pub shaped_as : (o : Observer) → ShapedObserver o → Shaped (as_replica o)
unfolding as_replica
shaped_as o shaped = record {
  weighed = shaped.weighed;
  pool_size_lem = length_zeros 512;
  heights = of_bodies o.heights shaped.blocks;
}

pub as_shaped : (o : Observer) → Shaped (as_replica o) → ShapedObserver o
unfolding as_replica
as_shaped o shaped = record { weighed = shaped.weighed; blocks = bodies_of_lem o.heights shaped.heights }

module _ (o : Observer) (shaped : ShapedObserver o) where
  abbrev C : Bytes
  C = join (map observed_content_bytes o.heights)

  abbrev D : Bytes
  D = join (map observed_body_bytes o.heights)

  pub observed_contents_length : length C ≡ 8 * length o.heights
  observed_contents_length =
      length_join 8 (map observed_content_bytes o.heights) (observed_contents_sized o.heights) ∙ rw length-map

  pub observed_bodies_length : length D ≡ 176 * length o.heights
  observed_bodies_length = length_join 176 (map observed_body_bytes o.heights) shaped.blocks ∙ rw length-map

  pub length_encode_observer : length (encode_observer o) ≡ 64 + 184 * length o.heights
  unfolding encode_observer
  length_encode_observer =
      simp length-append (omega (arith, head_size_as o, observed_contents_length, observed_bodies_length))

  pub contents_from : drop 64 (encode_observer o) ≡ C ++ D
  unfolding encode_observer
  contents_from = drop_at (head_bytes (as_replica o)) (C ++ D) 64 (head_size_as o)

  bodies_from : drop (64 + 8 * length o.heights) (encode_observer o) ≡ D
  bodies_from =
      sym (drop-drop (8 * length o.heights) 64 (encode_observer o))
      ∙ rw contents_from (drop_at C D (8 * length o.heights) observed_contents_length)

  contents_back : pieces 8 (length o.heights) (C ++ D) ≡ map observed_content_bytes o.heights
  contents_back =
      subst (λ (k : ℕ). pieces 8 k (C ++ D) ≡ map observed_content_bytes o.heights)
      (length-map o.heights observed_content_bytes)
      (pieces_join 8 (map observed_content_bytes o.heights) D (observed_contents_sized o.heights))

  bodies_back : pieces 176 (length o.heights) D ≡ map observed_body_bytes o.heights
  bodies_back =
      subst (λ (k : ℕ). pieces 176 k D ≡ map observed_body_bytes o.heights)
      (length-map o.heights observed_body_bytes)
      (subst (λ (d : Bytes). pieces 176 (length (map observed_body_bytes o.heights)) d ≡
      map observed_body_bytes o.heights)
      (append-nil D) (pieces_join 176 (map observed_body_bytes o.heights) [] shaped.blocks))

  heights_back : (count : ℕ) → count ≡ length o.heights →
      decode_observed_heights (pieces 8 count (drop 64 (encode_observer o)))
      (pieces 176 count (drop (64 + 8 * count) (encode_observer o))) ≡ o.heights
  heights_back count e =
      rw (e, contents_from, bodies_from, contents_back, bodies_back) (observed_zip o.heights)

  pub count_encode_observer : book_heights (encode_observer o) ≡ length o.heights
  unfolding encode_observer as_replica
  count_encode_observer = head_heights (as_replica o) (C ++ D) ∙ length-map o.heights as_replica_height

  finalized_back : book_finalized (encode_observer o) ≡ o.finalized
  unfolding encode_observer as_replica
  finalized_back = head_finalized (as_replica o) (C ++ D)

  weights_back : book_weights (encode_observer o) ≡ o.weights
  unfolding encode_observer as_replica
  weights_back = head_weights (as_replica o) (C ++ D) shaped.weighed

  pub decode_encode_observer : decode_observer (encode_observer o) ≡ o
  unfolding decode_observer encode_observer head_bytes as_replica
  decode_encode_observer =
      let heights = heights_back _ count_encode_observer in
      λ i. record {
        edition = o.edition;
        n = o.n;
        weights = weights_back i;
        finalized = finalized_back i;
        heights = heights i;
      }

-- the state that is read back from the bytes of what an observer keeps of a state
pub state_encode_observer : (s : State) → Observing s → Shaped s → observer_state (encode_observer (observed s)) ≡ s
state_encode_observer s e shaped =
    ap as_replica (decode_encode_observer (observed s) (as_shaped (observed s) (rw e shaped))) ∙ e

-- ---- the store of a move: byte 5 is the finalized height
abbrev with_finalized : Observer → ℕ → Observer
with_finalized o g = record { edition = o.edition; n = o.n; weights = o.weights; finalized = g; heights = o.heights }

observed_output : (o : Observer) (g : ℕ) →
    observed (with_head (as_replica o) (as_replica o).flags (as_replica o).current g) ≡ with_finalized o g
unfolding as_replica observed with_head
observed_output o g = ap (with_observed_heights (with_finalized o g)) (observed_heights o.heights)

pub output_set : (o : Observer) (g : ℕ) →
    encode_observer (observed (with_head (as_replica o) (as_replica o).flags (as_replica o).current g)) ≡
    head_put 5 44 g (encode_observer o)
unfolding encode_observer as_replica with_head
output_set o g = rw (observed_output o g) (sym (put_finalized (as_replica o) _ 0 o.finalized g))
