-- Lists of calls on the books of replicas of any weights, and demand 3 as one claim about a whole list.
use Rattle.std.specs.Prelude.{ℕ, ◌*◌, ◌<◌, ◌≡◌, ◌⊎◌, Bool, true, false, cond, length, take, eqb}
use mathlib.Core.List.{List, [], ◌∷◌, ◌++◌, Memᴰ}
use Rattle.std.proofs.Math.Option.{Option, some, none}
use Rattle.protocol.specs.Bytes.{Bytes}
use Rattle.protocol.specs.Frame.{kind, signer, frame_height, signer_mask, frame_digest, frame_block, carries_block}
use Rattle.protocol.specs.Frame.{is_proposal, is_block_vote, is_dummy_vote, is_finalize, is_block_certificate}
use Rattle.protocol.specs.Frame.{is_dummy_certificate, is_finalize_certificate}
use Rattle.protocol.specs.Mask.{in_mask, weigh, total}
use Rattle.protocol.specs.Call.{Call, Effect, effect}

-- ---- members of a list
-- whose call it is, the book that it gets, and the call with its arguments; a refused call is a member too. Document
-- 01 has six calls in its lists: here Register size and Fetch may stand in them as well, and packets, which stand for
-- the deliveries of their frames (`Unpacked`).
pub record Member : Type 0 where
  pub replica : ℕ
  pub book : Bytes
  pub call : Call

-- ---- statements
-- what one replica states: a kind and a height, with the block or the digest that the kind uses
pub data Statement : Type 0 where
  proposes : ℕ → Bytes → Statement
  votes_block : ℕ → Bytes → Statement
  votes_dummy : ℕ → Statement
  finalizes : ℕ → Statement

unfoldable pub when : {A : Type 0} → Bool → A → Option A
when true a = some a
when false a = none

-- the block that a frame carries, if its kind carries one
unfoldable pub block_in : Bytes → Option Bytes
block_in frame = when (carries_block (kind frame)) (frame_block frame)

-- ---- beginnings, and who is honest
-- the first bytes of `other`, as many as `part` has, are those of `part`
unfoldable pub Begins : Bytes → Bytes → Type 0
Begins part other = part ≡ take (length part) other

-- there is a replica for each weight, the first one has number 0; those are honest that the mask of the dishonest ones
-- does not hold
unfoldable pub HonestIn : List ℕ → ℕ → ℕ → Type 0
HonestIn weights dishonest s = (s < length weights) × (in_mask dishonest s ≡ false)

-- the dishonest replicas weigh less than a third of the total weight, however many they are
abbrev pub FewDishonest : List ℕ → ℕ → Type 0
FewDishonest weights dishonest = 3 * weigh (λ s. in_mask dishonest s) weights < total weights

-- the first that there is
unfoldable pub or_else : {A : Type 0} → Option A → Option A → Option A
or_else (some a) other = some a
or_else none other = other

module _ (digest : Bytes → Bytes) where
  -- the statement that a frame makes in the name of replica `s`, if it makes one; a certificate makes one for each
  -- signer
  unfoldable pub statement_of : Bytes → ℕ → Option Statement
  statement_of frame s =
      let h : ℕ = frame_height frame in
      let k : ℕ = kind frame in
      let signed : Bool = eqb (signer frame) s in
      let certified : Bool = in_mask (signer_mask frame) s in
      cond (is_proposal k) (when signed (proposes h (frame_block frame)))
      (cond (is_block_vote k) (when signed (votes_block h (frame_digest frame)))
      (cond (is_dummy_vote k) (when signed (votes_dummy h))
      (cond (is_finalize k) (when signed (finalizes h))
      (cond (is_block_certificate k) (when certified (votes_block h (digest (frame_block frame))))
      (cond (is_dummy_certificate k) (when certified (votes_dummy h))
      (cond (is_finalize_certificate k) (when certified (finalizes h)) none))))))

  -- ---- what a member does
  abbrev pub does : Member → Effect
  does m = effect digest m.book m.call

  -- the frames that it delivers, and those that it writes
  abbrev pub delivers : Member → List Bytes
  delivers m = (does m).delivers

  abbrev pub writes : Member → List Bytes
  writes m = (does m).writes

  -- ---- what is granted of an honest replica's book
  -- the book that a member leaves, if it is a member of replica `s`
  unfoldable pub left_by : ℕ → Member → Option Bytes
  left_by s m = cond (eqb m.replica s) (some (does m).book) none

  -- the book as the last member of replica `s` left it, and none where `s` has no member yet
  unfoldable pub last_left : ℕ → List Member → Option Bytes
  last_left s [] = none
  last_left s (m ∷ ms) = or_else (last_left s ms) (left_by s m)

  -- an opening for replicas of these weights under the own number `s`, not refused; its book may hold any bytes. Books
  -- share the weights as they are read: document 01's opening, which makes edition 1, is one for weights that are all 1
  -- (`opened_weights`), so that books of editions 1 and 2 stand in one list where all weights are 1, and only there
  unfoldable pub Opens : List ℕ → ℕ → Member → Type 0
  Opens weights s m = (does m).opens ≡ some (record { weights = weights; own = s })

  -- a call that gets this book, and is no opening or a refused one
  unfoldable pub Continues : Bytes → Member → Type 0
  Continues book m = (m.book ≡ book) × ((does m).opens ≡ none)

  -- what a member of replica `s` must be, after a last one that left this book, or as the first one
  unfoldable pub Follows : List ℕ → ℕ → Member → Option Bytes → Type 0
  Follows weights s m none = Opens weights s m
  Follows weights s m (some book) = Continues book m

  -- replica `s` opens its book first and once, and only its own calls write to it
  unfoldable pub KeepsOneBook : List ℕ → List Member → ℕ → Type 0
  KeepsOneBook weights list s =
      (before : List Member) (m : Member) (after : List Member) →
      list ≡ before ++ (m ∷ after) → m.replica ≡ s → Follows weights s m (last_left s before)

  -- ---- what is granted of statements and digests
  -- a member of replica `s` among these wrote a frame that makes this statement in its name
  unfoldable pub Wrote : ℕ → Statement → List Member → Type 0
  Wrote s statement before = (m : Member) × (frame : Bytes) ×
      Memᴰ m before × (m.replica ≡ s) × Memᴰ frame (writes m) × (statement_of frame s ≡ some statement)

  -- a statement in one of these names is delivered only after that replica wrote it; asked of deliveries to these books
  unfoldable pub NotForged : (books names : ℕ → Type 0) → List Member → Type 0
  NotForged books names list =
      (before : List Member) (m : Member) (after : List Member) (frame : Bytes) (s : ℕ) (statement : Statement) →
      list ≡ before ++ (m ∷ after) → books m.replica → names s →
      Memᴰ frame (delivers m) → statement_of frame s ≡ some statement → Wrote s statement before

  -- a member delivers or writes this block
  unfoldable pub Shows : Member → Bytes → Type 0
  Shows m block = (frame : Bytes) × Memᴰ frame (delivers m ++ writes m) × (block_in frame ≡ some block)

  -- no two different blocks delivered or written share a digest; asked of the members of these books
  unfoldable pub NoCollision : (books : ℕ → Type 0) → List Member → Type 0
  NoCollision books list =
      (m m' : Member) (block block' : Bytes) → Memᴰ m list → Memᴰ m' list →
      books m.replica → books m'.replica →
      Shows m block → Shows m' block' → digest block ≡ digest block' → block ≡ block'

  -- ---- the claim
  -- a member is a reading that returns this part, an empty one too
  unfoldable pub Reads : Member → Bytes → Type 0
  Reads m part = (does m).reads ≡ some part

  -- demand 3: of two logs read in the list from honest replicas, or twice from one, one is a beginning of the other;
  -- only honest replicas' books and names are meant in what is granted
  unfoldable pub Agreement : Type 0
  Agreement =
      (weights : List ℕ) (dishonest : ℕ) (list : List Member) →
      FewDishonest weights dishonest →
      ((s : ℕ) → HonestIn weights dishonest s → KeepsOneBook weights list s) →
      NotForged (HonestIn weights dishonest) (HonestIn weights dishonest) list →
      NoCollision (HonestIn weights dishonest) list →
      (m m' : Member) (part part' : Bytes) → Memᴰ m list → Memᴰ m' list →
      HonestIn weights dishonest m.replica → HonestIn weights dishonest m'.replica →
      Reads m part → Reads m' part' → Begins part part' ⊎ Begins part' part
