-- States, heights and changed bytes as data: what the checks of single rules compute on.
use Rattle.std.specs.Prelude.{ℕ, zero, suc, ◌%◌, Bool, cond, List, [], ◌∷◌, ◌++◌, length, replicate, take, eqb}
use Rattle.protocol.specs.Bytes.{Bytes}
use Rattle.protocol.specs.State.{State, Height}
use Rattle.protocol.specs.View.{View}
use Rattle.protocol.specs.Sound.{view}
use Rattle.check_books.specs.CheckCalls.{tools}

-- ---- bytes
-- the entry of a number: 15 such bytes behind one of 0 to 3, which goes round
unfoldable pub entry : ℕ → Bytes
entry x = x % 4 ∷ replicate 15 x

-- so many numbers from a first one on
unfoldable pub counting : ℕ → ℕ → List ℕ
counting from zero = []
counting from (suc count) = from ∷ counting (suc from) count

-- the entries of a first number and of the next ones, one after the other
unfoldable pub entries_from : ℕ → ℕ → Bytes
entries_from from zero = []
entries_from from (suc count) = entry from ++ entries_from (suc from) count

-- the byte at a place is one larger
unfoldable pub raised : ℕ → Bytes → Bytes
raised zero [] = 1 ∷ []
raised zero (x ∷ xs) = suc x ∷ xs
raised (suc place) [] = 1 ∷ []
raised (suc place) (x ∷ xs) = x ∷ raised place xs

-- those of the places where a raised byte leaves a test passed: the bytes that a rule leaves free
unfoldable pub free_places : (Bytes → Bool) → Bytes → List ℕ → List ℕ
free_places test bytes [] = []
free_places test bytes (place ∷ places) =
    let rest : List ℕ = free_places test bytes places in
    cond (test (raised place bytes)) (place ∷ rest) rest

-- the numbers that pass a test, of a list
unfoldable pub passing : (ℕ → Bool) → List ℕ → List ℕ
passing test [] = []
passing test (x ∷ xs) =
    let rest : List ℕ = passing test xs in
    cond (test x) (x ∷ rest) rest

-- the bytes of a second string that differ from the first one's, from a place on: place, byte, place, byte ..
unfoldable pub differences : ℕ → Bytes → Bytes → List ℕ
differences place [] [] = []
differences place [] (y ∷ ys) = place ∷ y ∷ differences (suc place) [] ys
differences place (x ∷ xs) [] = place ∷ 256 ∷ []
differences place (x ∷ xs) (y ∷ ys) =
    let rest : List ℕ = differences (suc place) xs ys in
    cond (eqb x y) rest (place ∷ y ∷ rest)

-- ---- heights and states
-- a height with its leader, state, four masks, held proposal, notarized block and vote digests
unfoldable pub height :
    (leader status certificate_mask dummy_mask finalize_mask voter_mask : ℕ)
    (proposal notarized vote_digests : Bytes) → Height
height leader status certificate_mask dummy_mask finalize_mask voter_mask proposal notarized vote_digests = record {
  leader = leader;
  status = status;
  certificate_mask = certificate_mask;
  dummy_mask = dummy_mask;
  finalize_mask = finalize_mask;
  voter_mask = voter_mask;
  proposal = proposal;
  notarized = notarized;
  vote_digests = vote_digests;
}

-- a height with a leader and nothing else; one with dummy votes; one with a block notarized by replicas 0, 1 and 2
unfoldable pub vacant : ℕ → Height
vacant leader = height leader 0 0 0 0 0 [] [] []

unfoldable pub dummied : ℕ → Height
dummied mask = height 0 0 0 mask 0 0 [] [] []

unfoldable pub notarized_by7 : Bytes → Height
notarized_by7 block = height 0 2 7 0 0 0 [] block []

-- one with a block and a mask of finalizes; one where a proposal is held
unfoldable pub finalized_by : ℕ → Bytes → Height
finalized_by mask block = height 0 2 7 0 mask 0 [] block []

unfoldable pub holding : Bytes → Height
holding block = height 0 1 0 0 0 0 block [] []

-- a state with the replicas' weights, own number, flags, current and finalized height, pending entries and heights
unfoldable pub state_of : List ℕ → (own flags current finalized pending_count : ℕ) → Bytes → List Height → State
state_of weights own flags current finalized pending_count pool heights = record {
  edition = 2;
  n = length weights;
  weights = take 16 (weights ++ replicate 16 0);
  own = own;
  flags = flags;
  current = current;
  finalized = finalized;
  pending_count = pending_count;
  pool = pool;
  heights = heights;
}

-- n replicas that weigh 1
unfoldable pub state : (n own flags current finalized pending_count : ℕ) → Bytes → List Height → State
state n own flags current finalized pending_count pool heights =
    state_of (replicate n 1) own flags current finalized pending_count pool heights

-- four replicas and these heights: what links and what is finalized
unfoldable pub view_of : List Height → View
view_of heights = view (state 4 0 0 1 0 0 [] heights)

-- four and sixteen replicas with this at height 1, and height 2 the current one
unfoldable pub of_four : Height → State
of_four x = state 4 0 0 2 0 0 [] (x ∷ [])

unfoldable pub of_sixteen : Height → State
of_sixteen x = state 16 0 0 2 0 0 [] (x ∷ [])

unfoldable pub state_tools : Unit {0}
unfolding tools entry counting entries_from raised free_places passing differences height vacant dummied notarized_by7
    finalized_by holding state_of state view_of of_four of_sixteen
state_tools = tt
