-- Written by tests/restated --write: what docs/statements has of
-- crates/protocol/specs/State.antt.
use Rattle.std.specs.Prelude.{ℕ, ◌+◌, ◌-◌, ◌*◌, ◌/◌, ◌%◌, Bool, cond, List, [], ◌∷◌, ◌++◌, map, length, get_or, set, drop, take, replicate, eqb, leb}
use package.Rattle.protocol.specs.Bytes.{Bytes, byte_at, word16, le16, part, zeros, join, pieces, put}
use package.Rattle.protocol.specs.Block.{entry_size}
use package.Rattle.protocol.specs.State.{Height, State, maximum_replicas, pool_size, content_size, body_size, head_number, book_heights, book_current, book_finalized, short_number, number_bytes, padded, evenly, words, weight_bytes, weights_in, book_weights, head_bytes, content_bytes, body_bytes, decode_height, decode_heights, no_height, renewed_in, renewed, with_head, with_flag}
use mathlib.Core.Path.{◌≡◌ as ◌is-kept◌, refl as by-text}
use package.Rattle.protocol.specs.State as page

Height-kept : (leader : ℕ) (status : ℕ) (certificate_mask : ℕ) (dummy_mask : ℕ) (finalize_mask : ℕ) (voter_mask : ℕ) (proposal : Bytes) (notarized : Bytes) (vote_digests : Bytes) →
    Height
Height-kept x0 x1 x2 x3 x4 x5 x6 x7 x8 = record { leader = x0; status = x1; certificate_mask = x2; dummy_mask = x3; finalize_mask = x4; voter_mask = x5; proposal = x6; notarized = x7; vote_digests = x8 }

State-kept : (edition : ℕ) (n : ℕ) (weights : List ℕ) (own : ℕ) (flags : ℕ) (current : ℕ) (finalized : ℕ) (pending_count : ℕ) (pool : Bytes) (heights : List Height) →
    State
State-kept x0 x1 x2 x3 x4 x5 x6 x7 x8 x9 = record { edition = x0; n = x1; weights = x2; own = x3; flags = x4; current = x5; finalized = x6; pending_count = x7; pool = x8; heights = x9 }

abbrev maximum_replicas-kept : ℕ
maximum_replicas-kept = 16

same-maximum_replicas : maximum_replicas-kept is-kept page.maximum_replicas
same-maximum_replicas = by-text

abbrev maximum_pending-kept : ℕ
maximum_pending-kept = 32

same-maximum_pending : maximum_pending-kept is-kept page.maximum_pending
same-maximum_pending = by-text

abbrev maximum_weight-kept : ℕ
maximum_weight-kept = 1000

same-maximum_weight : maximum_weight-kept is-kept page.maximum_weight
same-maximum_weight = by-text

abbrev pool_size-kept : ℕ
pool_size-kept = 512

same-pool_size : pool_size-kept is-kept page.pool_size
same-pool_size = by-text

abbrev content_size-kept : ℕ
content_size-kept = 16

same-content_size : content_size-kept is-kept page.content_size
same-content_size = by-text

abbrev body_size-kept : ℕ
body_size-kept = 864

same-body_size : body_size-kept is-kept page.body_size
same-body_size = by-text

book_size-kept : ℕ → ℕ
book_size-kept heights = 576 + 880 * heights

same-book_size : book_size-kept is-kept page.book_size
unfolding book_size-kept page.book_size
same-book_size = by-text

most_heights-kept : ℕ → ℕ
most_heights-kept edition = cond (eqb edition 3) 1000 63

same-most_heights : most_heights-kept is-kept page.most_heights
unfolding most_heights-kept page.most_heights
same-most_heights = by-text

head_number-kept : (byte word : ℕ) → Bytes → ℕ
head_number-kept byte word book = cond (eqb (byte_at book 7) 3) (word16 book word) (byte_at book byte)

same-head_number : head_number-kept is-kept page.head_number
unfolding head_number-kept page.head_number
same-head_number = by-text

head_put-kept : (byte word : ℕ) → ℕ → Bytes → Bytes
head_put-kept byte word x book = cond (eqb (byte_at book 7) 3) (put book word (le16 x)) (set book byte x)

same-head_put : head_put-kept is-kept page.head_put
unfolding head_put-kept page.head_put
same-head_put = by-text

abbrev book_heights-kept : Bytes → ℕ
book_heights-kept book = head_number 2 40 book

same-book_heights : book_heights-kept is-kept page.book_heights
same-book_heights = by-text

abbrev book_current-kept : Bytes → ℕ
book_current-kept book = head_number 4 42 book

same-book_current : book_current-kept is-kept page.book_current
same-book_current = by-text

abbrev book_finalized-kept : Bytes → ℕ
book_finalized-kept book = head_number 5 44 book

same-book_finalized : book_finalized-kept is-kept page.book_finalized
same-book_finalized = by-text

short_number-kept : ℕ → ℕ → ℕ
short_number-kept edition x = cond (eqb edition 3) 0 x

same-short_number : short_number-kept is-kept page.short_number
unfolding short_number-kept page.short_number
same-short_number = by-text

number_bytes-kept : (edition heights current finalized : ℕ) → Bytes
number_bytes-kept edition heights current finalized =
    cond (eqb edition 3) (le16 heights ++ (le16 current ++ (le16 finalized ++ zeros 18))) (zeros 24)

same-number_bytes : number_bytes-kept is-kept page.number_bytes
unfolding number_bytes-kept page.number_bytes
same-number_bytes = by-text

padded-kept : List ℕ → List ℕ
padded-kept weights = take maximum_replicas (weights ++ replicate maximum_replicas 0)

same-padded : padded-kept is-kept page.padded
unfolding padded-kept page.padded
same-padded = by-text

evenly-kept : ℕ → List ℕ
evenly-kept n = padded (replicate n 1)

same-evenly : evenly-kept is-kept page.evenly
unfolding evenly-kept page.evenly
same-evenly = by-text

words-kept : ℕ → Bytes → List ℕ
words-kept count bytes = map (λ (w : Bytes). word16 w 0) (pieces 2 count bytes)

same-words : words-kept is-kept page.words
unfolding words-kept page.words
same-words = by-text

weight_bytes-kept : ℕ → List ℕ → Bytes
weight_bytes-kept edition weights = cond (eqb edition 1) (zeros 32) (take 32 (join (map le16 weights) ++ zeros 32))

same-weight_bytes : weight_bytes-kept is-kept page.weight_bytes
unfolding weight_bytes-kept page.weight_bytes
same-weight_bytes = by-text

weights_in-kept : ℕ → ℕ → Bytes → List ℕ
weights_in-kept edition n area = cond (eqb edition 1) (evenly n) (words maximum_replicas area)

same-weights_in : weights_in-kept is-kept page.weights_in
unfolding weights_in-kept page.weights_in
same-weights_in = by-text

abbrev book_weights-kept : Bytes → List ℕ
book_weights-kept book = weights_in (byte_at book 7) (byte_at book 0) (part book 8 32)

same-book_weights : book_weights-kept is-kept page.book_weights
same-book_weights = by-text

head_unused-kept : Bytes → Bytes
head_unused-kept book =
    cond (eqb (byte_at book 7) 1) (part book 8 56)
    (cond (eqb (byte_at book 7) 3) (byte_at book 2 ∷ byte_at book 4 ∷ byte_at book 5 ∷ part book 46 18) (part book 40 24))

same-head_unused : head_unused-kept is-kept page.head_unused
unfolding head_unused-kept page.head_unused
same-head_unused = by-text

head_bytes-kept : State → Bytes
head_bytes-kept s =
    let e : ℕ = s.edition in
    s.n ∷ s.own ∷ short_number e (length s.heights) ∷ s.flags ∷ short_number e s.current ∷
    short_number e s.finalized ∷ s.pending_count ∷ e ∷
    (weight_bytes e s.weights ++ number_bytes e (length s.heights) s.current s.finalized)

same-head_bytes : head_bytes-kept is-kept page.head_bytes
unfolding head_bytes-kept page.head_bytes
same-head_bytes = by-text

content_bytes-kept : Height → Bytes
content_bytes-kept x =
    (x.leader ∷ x.status ∷ []) ++
    (le16 x.certificate_mask ++ (le16 x.dummy_mask ++ (le16 x.finalize_mask ++ (le16 x.voter_mask ++ zeros 6))))

same-content_bytes : content_bytes-kept is-kept page.content_bytes
unfolding content_bytes-kept page.content_bytes
same-content_bytes = by-text

body_bytes-kept : Height → Bytes
body_bytes-kept x = x.proposal ++ (x.notarized ++ x.vote_digests)

same-body_bytes : body_bytes-kept is-kept page.body_bytes
unfolding body_bytes-kept page.body_bytes
same-body_bytes = by-text

encode-kept : State → Bytes
encode-kept s =
    head_bytes s ++ (s.pool ++ (join (map content_bytes s.heights) ++ join (map body_bytes s.heights)))

same-encode : encode-kept is-kept page.encode
unfolding encode-kept page.encode
same-encode = by-text

decode_height-kept : Bytes → Bytes → Height
decode_height-kept content body = record {
  leader = byte_at content 0;
  status = byte_at content 1;
  certificate_mask = word16 content 2;
  dummy_mask = word16 content 4;
  finalize_mask = word16 content 6;
  voter_mask = word16 content 8;
  proposal = part body 0 176;
  notarized = part body 176 176;
  vote_digests = part body 352 512;
}

same-decode_height : decode_height-kept is-kept page.decode_height
unfolding decode_height-kept page.decode_height
same-decode_height = by-text

decode_heights-kept : List Bytes → List Bytes → List Height
decode_heights-kept [] [] = []
decode_heights-kept [] (body ∷ bodies) = []
decode_heights-kept (content ∷ contents) [] = []
decode_heights-kept (content ∷ contents) (body ∷ bodies) = decode_height content body ∷ decode_heights-kept contents bodies

same-decode_heights : decode_heights-kept is-kept page.decode_heights
unfolding decode_heights-kept page.decode_heights
same-decode_heights = by-text

decode-kept : Bytes → State
decode-kept book =
    let heights : ℕ = book_heights book in
    record {
      edition = byte_at book 7;
      n = byte_at book 0;
      weights = book_weights book;
      own = byte_at book 1;
      flags = byte_at book 3;
      current = book_current book;
      finalized = book_finalized book;
      pending_count = byte_at book 6;
      pool = part book 64 pool_size;
      heights = decode_heights
          (pieces content_size heights (drop 576 book))
          (pieces body_size heights (drop (576 + content_size * heights) book));
    }

same-decode : decode-kept is-kept page.decode
unfolding decode-kept page.decode
same-decode = by-text

last-kept : State → ℕ
last-kept s = length s.heights

same-last : last-kept is-kept page.last
unfolding last-kept page.last
same-last = by-text

no_height-kept : Height
no_height-kept = record {
  leader = 0;
  status = 0;
  certificate_mask = 0;
  dummy_mask = 0;
  finalize_mask = 0;
  voter_mask = 0;
  proposal = [];
  notarized = [];
  vote_digests = [];
}

same-no_height : no_height-kept is-kept page.no_height
unfolding no_height-kept page.no_height
same-no_height = by-text

at-kept : State → ℕ → Height
at-kept s h = get_or s.heights (h - 1) no_height

same-at : at-kept is-kept page.at
unfolding at-kept page.at
same-at = by-text

holds_proposal-kept : Height → Bool
holds_proposal-kept x = eqb (x.status % 2) 1

same-holds_proposal : holds_proposal-kept is-kept page.holds_proposal
unfolding holds_proposal-kept page.holds_proposal
same-holds_proposal = by-text

is_notarized-kept : Height → Bool
is_notarized-kept x = leb 2 x.status

same-is_notarized : is_notarized-kept is-kept page.is_notarized
unfolding is_notarized-kept page.is_notarized
same-is_notarized = by-text

vote_of-kept : Height → ℕ → Bytes
vote_of-kept x s = part x.vote_digests (32 * s) 32

same-vote_of : vote_of-kept is-kept page.vote_of
unfolding vote_of-kept page.vote_of
same-vote_of = by-text

abbrev renewed_in-kept : (edition : ℕ) → State → (flags current finalized pending_count : ℕ) → Bytes → List Height → State
renewed_in-kept edition s flags current finalized pending_count pool heights = record {
  edition = edition;
  n = s.n;
  weights = s.weights;
  own = s.own;
  flags = flags;
  current = current;
  finalized = finalized;
  pending_count = pending_count;
  pool = pool;
  heights = heights;
}

same-renewed_in : renewed_in-kept is-kept page.renewed_in
same-renewed_in = by-text

abbrev renewed-kept : State → (flags current finalized pending_count : ℕ) → Bytes → List Height → State
renewed-kept s flags current finalized pending_count pool heights =
    renewed_in s.edition s flags current finalized pending_count pool heights

same-renewed : renewed-kept is-kept page.renewed
same-renewed = by-text

with_edition-kept : ℕ → State → State
with_edition-kept edition s =
    renewed_in edition s s.flags s.current s.finalized s.pending_count s.pool s.heights

same-with_edition : with_edition-kept is-kept page.with_edition
unfolding with_edition-kept page.with_edition
same-with_edition = by-text

with_height-kept : State → ℕ → Height → State
with_height-kept s h x =
    renewed s s.flags s.current s.finalized s.pending_count s.pool (set s.heights (h - 1) x)

same-with_height : with_height-kept is-kept page.with_height
unfolding with_height-kept page.with_height
same-with_height = by-text

with_head-kept : State → ℕ → ℕ → ℕ → State
with_head-kept s flags current finalized = renewed s flags current finalized s.pending_count s.pool s.heights

same-with_head : with_head-kept is-kept page.with_head
unfolding with_head-kept page.with_head
same-with_head = by-text

with_pool-kept : State → ℕ → Bytes → State
with_pool-kept s count pool = renewed s s.flags s.current s.finalized count pool s.heights

same-with_pool : with_pool-kept is-kept page.with_pool
unfolding with_pool-kept page.with_pool
same-with_pool = by-text

abbrev with_flag-kept : ℕ → State → State
with_flag-kept k s = with_head s (s.flags + k) s.current s.finalized

same-with_flag : with_flag-kept is-kept page.with_flag
same-with_flag = by-text

with_timer_fired-kept : State → State
with_timer_fired-kept s = with_flag 1 s

same-with_timer_fired : with_timer_fired-kept is-kept page.with_timer_fired
unfolding with_timer_fired-kept page.with_timer_fired
same-with_timer_fired = by-text

flag-kept : ℕ → State → Bool
flag-kept k s = eqb (s.flags / k % 2) 1

same-flag : flag-kept is-kept page.flag
unfolding flag-kept page.flag
same-flag = by-text

pending-kept : State → List Bytes
pending-kept s = pieces entry_size s.pending_count s.pool

same-pending : pending-kept is-kept page.pending
unfolding pending-kept page.pending
same-pending = by-text
