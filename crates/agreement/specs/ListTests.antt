-- The premises of demand 3 as tests, so that they compute on a closed list.
use Rattle.std.specs.Prelude.{ℕ, zero, suc, Bool, true, false, ◌&&◌, ◌||◌, not, List, [], ◌∷◌, ◌++◌, length, eqb, ltb}
use Rattle.std.proofs.Math.Option.{Option, some, none}
use Rattle.protocol.specs.Bytes.{Bytes, same, holds}
use Rattle.protocol.specs.Tests.{implies}
use Rattle.protocol.specs.Mask.{in_mask}
use Rattle.protocol.specs.Move.{is_some}
use Rattle.protocol.specs.Call.{Opened}
use Rattle.agreement.specs.Lists.{Member, Statement, proposes, votes_block, votes_dummy, finalizes, statement_of}
use Rattle.agreement.specs.Lists.{block_in, does, delivers, writes}

-- ---- over lists and replicas
unfoldable pub every_in : {A : Type 0} → (A → Bool) → List A → Bool
every_in test [] = true
every_in test (x ∷ xs) = test x && every_in test xs

unfoldable pub some_in : {A : Type 0} → (A → Bool) → List A → Bool
some_in test [] = false
some_in test (x ∷ xs) = test x || some_in test xs

-- each replica below `n` that is not in the mask of the dishonest ones passes a test
unfoldable pub every_honest : ℕ → (ℕ → Bool) → ℕ → Bool
every_honest dishonest test zero = true
every_honest dishonest test (suc s) = every_honest dishonest test s && implies (not (in_mask dishonest s)) (test s)

-- there is a weight for replica `s`, and it is not in the mask of the dishonest ones
unfoldable pub is_honest : List ℕ → ℕ → ℕ → Bool
is_honest weights dishonest s = ltb s (length weights) && not (in_mask dishonest s)

-- ---- a statement as bytes, and back
unfoldable pub statement_bytes : Statement → Bytes
statement_bytes (proposes h block) = 1 ∷ h ∷ block
statement_bytes (votes_block h digest) = 2 ∷ h ∷ digest
statement_bytes (votes_dummy h) = 3 ∷ h ∷ []
statement_bytes (finalizes h) = 4 ∷ h ∷ []

-- ---- what a member opens and reads
unfoldable pub opens_for : List ℕ → ℕ → Option Opened → Bool
opens_for weights s none = false
opens_for weights s (some opened) = same opened.weights weights && eqb opened.own s

unfoldable pub reads_part : Bytes → Option Bytes → Bool
reads_part part none = false
reads_part part (some read) = same part read

-- a block, if there is one, is among these
unfoldable pub is_among : List Bytes → Option Bytes → Bool
is_among blocks none = true
is_among blocks (some block) = holds block blocks

module _ (digest : Bytes → Bytes) where
  -- ---- the book
  -- a member of replica `s` opens its book, or does not, as it has opened before
  unfoldable pub opens_in_turn : List ℕ → ℕ → Bool → Member → Bool
  opens_in_turn weights s true m = not (is_some (does digest m).opens)
  opens_in_turn weights s false m = opens_for weights s (does digest m).opens

  -- the members of replica `s` open its book first and once, where `opened` says whether one did before these
  unfoldable pub opens_once : List ℕ → ℕ → Bool → List Member → Bool
  opens_once weights s opened [] = true
  opens_once weights s opened (m ∷ ms) =
      implies (eqb m.replica s) (opens_in_turn weights s opened m) &&
      opens_once weights s (eqb m.replica s || opened) ms

  -- ---- statements
  -- the statement that a frame makes in the name of `s`, with `s` in front, as bytes
  unfoldable pub signed : ℕ → Option Statement → List Bytes
  signed s none = []
  signed s (some statement) = (s ∷ statement_bytes statement) ∷ []

  unfoldable pub signed_in : ℕ → List Bytes → List Bytes
  signed_in s [] = []
  signed_in s (frame ∷ frames) = signed s (statement_of digest frame s) ++ signed_in s frames

  -- every statement that a frame makes in an honest name is among those written
  unfoldable pub is_backed : List ℕ → ℕ → List Bytes → Bytes → Bool
  is_backed weights dishonest log frame =
      every_honest dishonest (λ s. every_in (λ statement. holds statement log) (signed s (statement_of digest frame s)))
      (length weights)

  -- a member, if it is honest, delivers only frames that are backed
  unfoldable pub delivers_backed : List ℕ → ℕ → List Bytes → Member → Bool
  delivers_backed weights dishonest log m =
      implies (is_honest weights dishonest m.replica) (every_in (is_backed weights dishonest log) (delivers digest m))

  -- nothing is forged, where `log` has the statements written before these members
  unfoldable pub not_forged : List ℕ → ℕ → List Bytes → List Member → Bool
  not_forged weights dishonest log [] = true
  not_forged weights dishonest log (m ∷ ms) =
      delivers_backed weights dishonest log m &&
      not_forged weights dishonest (signed_in m.replica (writes digest m) ++ log) ms

  -- ---- blocks
  -- a member shows these blocks and no others
  unfoldable pub shows : List Bytes → Member → Bool
  shows blocks m = every_in (λ frame. is_among blocks (block_in frame)) (delivers digest m ++ writes digest m)

  -- so does every honest member
  unfoldable pub shows_only : List ℕ → ℕ → List Bytes → List Member → Bool
  shows_only weights dishonest blocks ms =
      every_in (λ m. implies (is_honest weights dishonest m.replica) (shows blocks m)) ms

  unfoldable pub no_collision : List Bytes → Bool
  no_collision blocks =
      every_in (λ block. every_in (λ other. implies (same (digest block) (digest other)) (same block other)) blocks)
      blocks

  -- ---- members of replica `s`: one that passes a test and reads this part, or to which this frame is delivered; the
  -- same without a test; one that writes this frame
  unfoldable pub reads_where_at : (Member → Bool) → Bytes → ℕ → Member → Bool
  reads_where_at test part s m = eqb m.replica s && (test m && reads_part part (does digest m).reads)

  unfoldable pub reads_at : Bytes → ℕ → Member → Bool
  reads_at part s m = eqb m.replica s && reads_part part (does digest m).reads

  unfoldable pub hears_where_at : (Member → Bool) → Bytes → ℕ → Member → Bool
  hears_where_at test frame s m = eqb m.replica s && (test m && holds frame (delivers digest m))

  unfoldable pub hears_at : Bytes → ℕ → Member → Bool
  hears_at frame s m = eqb m.replica s && holds frame (delivers digest m)

  unfoldable pub writes_at : Bytes → ℕ → Member → Bool
  writes_at frame s m = eqb m.replica s && holds frame (writes digest m)
