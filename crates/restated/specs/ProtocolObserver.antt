-- Written by tests/restated --write: what docs/statements has of
-- crates/protocol/specs/Observer.antt.
use Rattle.std.specs.Prelude.{ℕ, ◌+◌, ◌*◌, List, [], ◌∷◌, ◌++◌, map, drop}
use package.Rattle.protocol.specs.Bytes.{Bytes, byte_at, word16, le16, zeros, join, pieces}
use package.Rattle.protocol.specs.Block.{block_size}
use package.Rattle.protocol.specs.State.{State, Height, head_bytes, book_heights, book_finalized, book_weights, pool_size}
use package.Rattle.protocol.specs.View.{View}
use package.Rattle.protocol.specs.Sound.{view}
use package.Rattle.protocol.specs.Observer.{ObservedHeight, Observer, as_replica_height, as_replica, observed_height, observed_content_size, observed_content_bytes, observed_body_bytes, decode_observed_height, decode_observed_heights, decode_observer}
use mathlib.Core.Path.{◌≡◌ as ◌is-kept◌, refl as by-text}
use package.Rattle.protocol.specs.Observer as page

ObservedHeight-kept : (status : ℕ) (certificate_mask : ℕ) (dummy_mask : ℕ) (finalize_mask : ℕ) (notarized : Bytes) →
    ObservedHeight
ObservedHeight-kept x0 x1 x2 x3 x4 = record { status = x0; certificate_mask = x1; dummy_mask = x2; finalize_mask = x3; notarized = x4 }

Observer-kept : (edition : ℕ) (n : ℕ) (weights : List ℕ) (finalized : ℕ) (heights : List ObservedHeight) →
    Observer
Observer-kept x0 x1 x2 x3 x4 = record { edition = x0; n = x1; weights = x2; finalized = x3; heights = x4 }

as_replica_height-kept : ObservedHeight → Height
as_replica_height-kept x = record {
  leader = 0;
  status = x.status;
  certificate_mask = x.certificate_mask;
  dummy_mask = x.dummy_mask;
  finalize_mask = x.finalize_mask;
  voter_mask = 0;
  proposal = zeros 176;
  notarized = x.notarized;
  vote_digests = zeros 512;
}

same-as_replica_height : as_replica_height-kept is-kept page.as_replica_height
unfolding as_replica_height-kept page.as_replica_height
same-as_replica_height = by-text

as_replica-kept : Observer → State
as_replica-kept o = record {
  edition = o.edition;
  n = o.n;
  weights = o.weights;
  own = 0;
  flags = 0;
  current = 0;
  finalized = o.finalized;
  pending_count = 0;
  pool = zeros pool_size;
  heights = map as_replica_height o.heights;
}

same-as_replica : as_replica-kept is-kept page.as_replica
unfolding as_replica-kept page.as_replica
same-as_replica = by-text

observed_height-kept : Height → ObservedHeight
observed_height-kept x = record {
  status = x.status;
  certificate_mask = x.certificate_mask;
  dummy_mask = x.dummy_mask;
  finalize_mask = x.finalize_mask;
  notarized = x.notarized;
}

same-observed_height : observed_height-kept is-kept page.observed_height
unfolding observed_height-kept page.observed_height
same-observed_height = by-text

observed-kept : State → Observer
observed-kept s = record {
  edition = s.edition;
  n = s.n;
  weights = s.weights;
  finalized = s.finalized;
  heights = map observed_height s.heights;
}

same-observed : observed-kept is-kept page.observed
unfolding observed-kept page.observed
same-observed = by-text

abbrev observer_view-kept : Observer → View
observer_view-kept o = view (as_replica o)

same-observer_view : observer_view-kept is-kept page.observer_view
same-observer_view = by-text

abbrev observed_content_size-kept : ℕ
observed_content_size-kept = 8

same-observed_content_size : observed_content_size-kept is-kept page.observed_content_size
same-observed_content_size = by-text

observer_book_size-kept : ℕ → ℕ
observer_book_size-kept heights = 64 + 184 * heights

same-observer_book_size : observer_book_size-kept is-kept page.observer_book_size
unfolding observer_book_size-kept page.observer_book_size
same-observer_book_size = by-text

observed_content_bytes-kept : ObservedHeight → Bytes
observed_content_bytes-kept x =
    (x.status ∷ 0 ∷ []) ++ (le16 x.certificate_mask ++ (le16 x.dummy_mask ++ le16 x.finalize_mask))

same-observed_content_bytes : observed_content_bytes-kept is-kept page.observed_content_bytes
unfolding observed_content_bytes-kept page.observed_content_bytes
same-observed_content_bytes = by-text

observed_body_bytes-kept : ObservedHeight → Bytes
observed_body_bytes-kept x = x.notarized

same-observed_body_bytes : observed_body_bytes-kept is-kept page.observed_body_bytes
unfolding observed_body_bytes-kept page.observed_body_bytes
same-observed_body_bytes = by-text

encode_observer-kept : Observer → Bytes
encode_observer-kept o =
    head_bytes (as_replica o) ++
    (join (map observed_content_bytes o.heights) ++ join (map observed_body_bytes o.heights))

same-encode_observer : encode_observer-kept is-kept page.encode_observer
unfolding encode_observer-kept page.encode_observer
same-encode_observer = by-text

decode_observed_height-kept : Bytes → Bytes → ObservedHeight
decode_observed_height-kept content body = record {
  status = byte_at content 0;
  certificate_mask = word16 content 2;
  dummy_mask = word16 content 4;
  finalize_mask = word16 content 6;
  notarized = body;
}

same-decode_observed_height : decode_observed_height-kept is-kept page.decode_observed_height
unfolding decode_observed_height-kept page.decode_observed_height
same-decode_observed_height = by-text

decode_observed_heights-kept : List Bytes → List Bytes → List ObservedHeight
decode_observed_heights-kept [] [] = []
decode_observed_heights-kept [] (body ∷ bodies) = []
decode_observed_heights-kept (content ∷ contents) [] = []
decode_observed_heights-kept (content ∷ contents) (body ∷ bodies) =
    decode_observed_height content body ∷ decode_observed_heights-kept contents bodies

same-decode_observed_heights : decode_observed_heights-kept is-kept page.decode_observed_heights
unfolding decode_observed_heights-kept page.decode_observed_heights
same-decode_observed_heights = by-text

decode_observer-kept : Bytes → Observer
decode_observer-kept book =
    let heights : ℕ = book_heights book in
    record {
      edition = byte_at book 7;
      n = byte_at book 0;
      weights = book_weights book;
      finalized = book_finalized book;
      heights = decode_observed_heights
          (pieces observed_content_size heights (drop 64 book))
          (pieces block_size heights (drop (64 + observed_content_size * heights) book));
    }

same-decode_observer : decode_observer-kept is-kept page.decode_observer
unfolding decode_observer-kept page.decode_observer
same-decode_observer = by-text

abbrev observer_state-kept : Bytes → State
observer_state-kept book = as_replica (decode_observer book)

same-observer_state : observer_state-kept is-kept page.observer_state
same-observer_state = by-text
