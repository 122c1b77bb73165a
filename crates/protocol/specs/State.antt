-- The state of a replica (document 01: the book), as a record and as bytes.
use Rattle.std.specs.Prelude.{ℕ, ◌+◌, ◌-◌, ◌*◌, ◌/◌, ◌%◌, Bool, cond, List, [], ◌∷◌, ◌++◌, map, length, get_or, set, drop, take, replicate, eqb, leb}
use Rattle.protocol.specs.Bytes.{Bytes, byte_at, word16, le16, part, zeros, join, pieces, put}
use Rattle.protocol.specs.Block.{entry_size, maximum_heights, block_entries}

-- what is kept of one height
pub record Height : Type 0 where
  pub leader : ℕ
  -- 1: a proposal is held, 2: a block is notarized, 3: both
  pub status : ℕ
  pub certificate_mask : ℕ
  pub dummy_mask : ℕ
  pub finalize_mask : ℕ
  pub voter_mask : ℕ
  pub proposal : Bytes
  pub notarized : Bytes
  pub vote_digests : Bytes

pub record State : Type 0 where
  -- the edition of its book's layout: what is encoded has it, and no rule goes by it
  pub edition : ℕ
  pub n : ℕ
  -- of 16 replicas; those from n up weigh nothing
  pub weights : List ℕ
  pub own : ℕ
  -- of the current height: 1 timer fired, 2 dummy vote cast, 4 block vote cast, 8 proposed
  pub flags : ℕ
  -- the height that the replica is at (document 01: c)
  pub current : ℕ
  -- the height that its log ends at (document 01: settled height, g)
  pub finalized : ℕ
  pub pending_count : ℕ
  pub pool : Bytes
  pub heights : List Height

-- ---- bounds of replicas, of pending entries and of the entries of a chain; that of heights is `maximum_heights`
abbrev pub maximum_replicas : ℕ
maximum_replicas = 16

abbrev pub maximum_pending : ℕ
maximum_pending = 32

abbrev pub maximum_weight : ℕ
maximum_weight = 1000

abbrev pub maximum_entries : ℕ
maximum_entries = maximum_heights * block_entries

-- ---- sizes
abbrev pub pool_size : ℕ
pool_size = 512

abbrev pub content_size : ℕ
content_size = 16

abbrev pub body_size : ℕ
body_size = 864

-- the length of the book of `H` heights
unfoldable pub book_size : ℕ → ℕ
book_size heights = 576 + 880 * heights

-- ---- numbers of the head that edition 3 has in two bytes, further back, where the others have zero
-- the largest H of an edition
unfoldable pub most_heights : ℕ → ℕ
most_heights edition = cond (eqb edition 3) 1000 63

-- a number of the head: in a byte, and in edition 3 in two bytes elsewhere
unfoldable pub head_number : (byte word : ℕ) → Bytes → ℕ
head_number byte word book = cond (eqb (byte_at book 7) 3) (word16 book word) (byte_at book byte)

-- the book with such a number changed
unfoldable pub head_put : (byte word : ℕ) → ℕ → Bytes → Bytes
head_put byte word x book = cond (eqb (byte_at book 7) 3) (put book word (le16 x)) (set book byte x)

-- H, as a book's bytes say it
abbrev pub book_heights : Bytes → ℕ
book_heights book = head_number 2 40 book

-- the current height
abbrev pub book_current : Bytes → ℕ
book_current book = head_number 4 42 book

-- the finalized height
abbrev pub book_finalized : Bytes → ℕ
book_finalized book = head_number 5 44 book

-- and their bytes
unfoldable pub short_number : ℕ → ℕ → ℕ
short_number edition x = cond (eqb edition 3) 0 x

-- the 24 bytes for H, the current and the finalized height, which editions 1 and 2 have zero
unfoldable pub number_bytes : (edition heights current finalized : ℕ) → Bytes
number_bytes edition heights current finalized =
    cond (eqb edition 3) (le16 heights ++ (le16 current ++ (le16 finalized ++ zeros 18))) (zeros 24)

-- ---- weights
-- these weights, of 16 replicas
unfoldable pub padded : List ℕ → List ℕ
padded weights = take maximum_replicas (weights ++ replicate maximum_replicas 0)

-- n replicas that weigh 1
unfoldable pub evenly : ℕ → List ℕ
evenly n = padded (replicate n 1)

-- numbers of two bytes, one after the other
unfoldable pub words : ℕ → Bytes → List ℕ
words count bytes = map (λ (w : Bytes). word16 w 0) (pieces 2 count bytes)

-- the 32 bytes of the weights, which edition 1 has not
unfoldable pub weight_bytes : ℕ → List ℕ → Bytes
weight_bytes edition weights = cond (eqb edition 1) (zeros 32) (take 32 (join (map le16 weights) ++ zeros 32))

-- and back: in edition 1 every replica weighs 1
unfoldable pub weights_in : ℕ → ℕ → Bytes → List ℕ
weights_in edition n area = cond (eqb edition 1) (evenly n) (words maximum_replicas area)

-- the weights that a book's head says
abbrev pub book_weights : Bytes → List ℕ
book_weights book = weights_in (byte_at book 7) (byte_at book 0) (part book 8 32)

-- the bytes of the head that its edition calls zero
unfoldable pub head_unused : Bytes → Bytes
head_unused book =
    cond (eqb (byte_at book 7) 1) (part book 8 56)
    (cond (eqb (byte_at book 7) 3) (byte_at book 2 ∷ byte_at book 4 ∷ byte_at book 5 ∷ part book 46 18) (part book 40 24))

-- ---- a state's bytes
unfoldable pub head_bytes : State → Bytes
head_bytes s =
    let e : ℕ = s.edition in
    s.n ∷ s.own ∷ short_number e (length s.heights) ∷ s.flags ∷ short_number e s.current ∷
    short_number e s.finalized ∷ s.pending_count ∷ e ∷
    (weight_bytes e s.weights ++ number_bytes e (length s.heights) s.current s.finalized)

unfoldable pub content_bytes : Height → Bytes
content_bytes x =
    (x.leader ∷ x.status ∷ []) ++
    (le16 x.certificate_mask ++ (le16 x.dummy_mask ++ (le16 x.finalize_mask ++ (le16 x.voter_mask ++ zeros 6))))

unfoldable pub body_bytes : Height → Bytes
body_bytes x = x.proposal ++ (x.notarized ++ x.vote_digests)

unfoldable pub encode : State → Bytes
encode s =
    head_bytes s ++ (s.pool ++ (join (map content_bytes s.heights) ++ join (map body_bytes s.heights)))

-- ---- and back
unfoldable pub decode_height : Bytes → Bytes → Height
decode_height content body = record {
  leader = byte_at content 0;
  status = byte_at content 1;
  certificate_mask = word16 content 2;
  dummy_mask = word16 content 4;
  finalize_mask = word16 content 6;
  voter_mask = word16 content 8;
  proposal = part body 0 176;
  notarized = part body 176 176;
  vote_digests = part body 352 512;
}

unfoldable pub decode_heights : List Bytes → List Bytes → List Height
decode_heights [] [] = []
decode_heights [] (body ∷ bodies) = []
decode_heights (content ∷ contents) [] = []
decode_heights (content ∷ contents) (body ∷ bodies) = decode_height content body ∷ decode_heights contents bodies

unfoldable pub decode : Bytes → State
decode book =
    let heights : ℕ = book_heights book in
    record {
      edition = byte_at book 7;
      n = byte_at book 0;
      weights = book_weights book;
      own = byte_at book 1;
      flags = byte_at book 3;
      current = book_current book;
      finalized = book_finalized book;
      pending_count = byte_at book 6;
      pool = part book 64 pool_size;
      heights = decode_heights
          (pieces content_size heights (drop 576 book))
          (pieces body_size heights (drop (576 + content_size * heights) book));
    }

-- ---- one height
-- H, the number of heights
unfoldable pub last : State → ℕ
last s = length s.heights

-- what stands at a height that a state does not have
unfoldable pub no_height : Height
no_height = record {
  leader = 0;
  status = 0;
  certificate_mask = 0;
  dummy_mask = 0;
  finalize_mask = 0;
  voter_mask = 0;
  proposal = [];
  notarized = [];
  vote_digests = [];
}

-- height `h`, counted from 1
unfoldable pub at : State → ℕ → Height
at s h = get_or s.heights (h - 1) no_height

unfoldable pub holds_proposal : Height → Bool
holds_proposal x = eqb (x.status % 2) 1

unfoldable pub is_notarized : Height → Bool
is_notarized x = leb 2 x.status

-- the digest that replica `s` voted for
unfoldable pub vote_of : Height → ℕ → Bytes
vote_of x s = part x.vote_digests (32 * s) 32

-- ---- changes
-- all that may change is given anew; the rest stays from the opening on
abbrev pub renewed_in : (edition : ℕ) → State → (flags current finalized pending_count : ℕ) → Bytes → List Height → State
renewed_in edition s flags current finalized pending_count pool heights = record {
  edition = edition;
  n = s.n;
  weights = s.weights;
  own = s.own;
  flags = flags;
  current = current;
  finalized = finalized;
  pending_count = pending_count;
  pool = pool;
  heights = heights;
}

-- all that a call may change is given anew
abbrev pub renewed : State → (flags current finalized pending_count : ℕ) → Bytes → List Height → State
renewed s flags current finalized pending_count pool heights =
    renewed_in s.edition s flags current finalized pending_count pool heights

-- the same state in a book of another edition
unfoldable pub with_edition : ℕ → State → State
with_edition edition s =
    renewed_in edition s s.flags s.current s.finalized s.pending_count s.pool s.heights

unfoldable pub with_height : State → ℕ → Height → State
with_height s h x =
    renewed s s.flags s.current s.finalized s.pending_count s.pool (set s.heights (h - 1) x)

unfoldable pub with_head : State → ℕ → ℕ → ℕ → State
with_head s flags current finalized = renewed s flags current finalized s.pending_count s.pool s.heights

unfoldable pub with_pool : State → ℕ → Bytes → State
with_pool s count pool = renewed s s.flags s.current s.finalized count pool s.heights

-- flag `k` (1, 2, 4 or 8) of the current height, which is not set, is set
abbrev pub with_flag : ℕ → State → State
with_flag k s = with_head s (s.flags + k) s.current s.finalized

-- the timer of the current height has fired
unfoldable pub with_timer_fired : State → State
with_timer_fired s = with_flag 1 s

-- whether flag `k` is set
unfoldable pub flag : ℕ → State → Bool
flag k s = eqb (s.flags / k % 2) 1

-- the pending entries, oldest first
unfoldable pub pending : State → List Bytes
pending s = pieces entry_size s.pending_count s.pool
