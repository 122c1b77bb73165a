-- The state of an observer, who follows the log and has no vote (document 02, 2.3), as a record and as bytes; and as
-- the state of a replica that heard certificates alone, over which document 01's rules serve an observer too.
use Rattle.std.specs.Prelude.{ℕ, ◌+◌, ◌*◌, List, [], ◌∷◌, ◌++◌, map, drop}
use Rattle.protocol.specs.Bytes.{Bytes, byte_at, word16, le16, zeros, join, pieces}
use Rattle.protocol.specs.Block.{block_size}
use Rattle.protocol.specs.State.{State, Height, head_bytes, book_heights, book_finalized, book_weights, pool_size}
use Rattle.protocol.specs.View.{View}
use Rattle.protocol.specs.Sound.{view}

-- what is kept of one height
pub record ObservedHeight : Type 0 where
  -- 2: a block is notarized, 0: none is
  pub status : ℕ
  pub certificate_mask : ℕ
  pub dummy_mask : ℕ
  pub finalize_mask : ℕ
  pub notarized : Bytes

pub record Observer : Type 0 where
  pub edition : ℕ
  pub n : ℕ
  -- of 16 replicas; those from n up weigh nothing
  pub weights : List ℕ
  -- the height that its log ends at (document 01: settled height, g)
  pub finalized : ℕ
  pub heights : List ObservedHeight

-- ---- a replica that heard these certificates alone
-- what only a replica keeps is as in a new book
unfoldable pub as_replica_height : ObservedHeight → Height
as_replica_height x = record {
  leader = 0;
  status = x.status;
  certificate_mask = x.certificate_mask;
  dummy_mask = x.dummy_mask;
  finalize_mask = x.finalize_mask;
  voter_mask = 0;
  proposal = zeros 176;
  notarized = x.notarized;
  vote_digests = zeros 512;
}

-- own number, flags, current height and pending count are zero
unfoldable pub as_replica : Observer → State
as_replica o = record {
  edition = o.edition;
  n = o.n;
  weights = o.weights;
  own = 0;
  flags = 0;
  current = 0;
  finalized = o.finalized;
  pending_count = 0;
  pool = zeros pool_size;
  heights = map as_replica_height o.heights;
}

-- ---- and what an observer keeps of a replica's state
unfoldable pub observed_height : Height → ObservedHeight
observed_height x = record {
  status = x.status;
  certificate_mask = x.certificate_mask;
  dummy_mask = x.dummy_mask;
  finalize_mask = x.finalize_mask;
  notarized = x.notarized;
}

unfoldable pub observed : State → Observer
observed s = record {
  edition = s.edition;
  n = s.n;
  weights = s.weights;
  finalized = s.finalized;
  heights = map observed_height s.heights;
}

-- the view by which heights are linked, finalized and read
abbrev pub observer_view : Observer → View
observer_view o = view (as_replica o)

-- ---- sizes
abbrev pub observed_content_size : ℕ
observed_content_size = 8

-- the length of an observer's book of `H` heights
unfoldable pub observer_book_size : ℕ → ℕ
observer_book_size heights = 64 + 184 * heights

-- ---- an observer's bytes: the head is a replica's
unfoldable pub observed_content_bytes : ObservedHeight → Bytes
observed_content_bytes x =
    (x.status ∷ 0 ∷ []) ++ (le16 x.certificate_mask ++ (le16 x.dummy_mask ++ le16 x.finalize_mask))

-- the bytes of a height's notarized block
unfoldable pub observed_body_bytes : ObservedHeight → Bytes
observed_body_bytes x = x.notarized

unfoldable pub encode_observer : Observer → Bytes
encode_observer o =
    head_bytes (as_replica o) ++
    (join (map observed_content_bytes o.heights) ++ join (map observed_body_bytes o.heights))

-- ---- and back
unfoldable pub decode_observed_height : Bytes → Bytes → ObservedHeight
decode_observed_height content body = record {
  status = byte_at content 0;
  certificate_mask = word16 content 2;
  dummy_mask = word16 content 4;
  finalize_mask = word16 content 6;
  notarized = body;
}

unfoldable pub decode_observed_heights : List Bytes → List Bytes → List ObservedHeight
decode_observed_heights [] [] = []
decode_observed_heights [] (body ∷ bodies) = []
decode_observed_heights (content ∷ contents) [] = []
decode_observed_heights (content ∷ contents) (body ∷ bodies) =
    decode_observed_height content body ∷ decode_observed_heights contents bodies

unfoldable pub decode_observer : Bytes → Observer
decode_observer book =
    let heights : ℕ = book_heights book in
    record {
      edition = byte_at book 7;
      n = byte_at book 0;
      weights = book_weights book;
      finalized = book_finalized book;
      heights = decode_observed_heights
          (pieces observed_content_size heights (drop 64 book))
          (pieces block_size heights (drop (64 + observed_content_size * heights) book));
    }

-- the state that an observer's book says, as a replica's
abbrev pub observer_state : Bytes → State
observer_state book = as_replica (decode_observer book)
