-- Written by tests/restated --write: what docs/statements has of
-- crates/agreement/specs/Lists.antt.
use Rattle.std.specs.Prelude.{ℕ, ◌*◌, ◌<◌, ◌≡◌, ◌⊎◌, Bool, true, false, cond, length, take, eqb}
use mathlib.Core.List.{List, [], ◌∷◌, ◌++◌, Memᴰ}
use Rattle.std.proofs.Math.Option.{Option, some, none}
use package.Rattle.protocol.specs.Bytes.{Bytes}
use package.Rattle.protocol.specs.Frame.{kind, signer, frame_height, signer_mask, frame_digest, frame_block, carries_block}
use package.Rattle.protocol.specs.Frame.{is_proposal, is_block_vote, is_dummy_vote, is_finalize, is_block_certificate}
use package.Rattle.protocol.specs.Frame.{is_dummy_certificate, is_finalize_certificate}
use package.Rattle.protocol.specs.Mask.{in_mask, weigh, total}
use package.Rattle.protocol.specs.Call.{Call, Effect, effect}
use package.Rattle.agreement.specs.Lists.{Member, Statement, proposes, votes_block, votes_dummy, finalizes, when, block_in, Begins, HonestIn, FewDishonest, or_else}
use mathlib.Core.Path.{◌≡◌ as ◌is-kept◌, refl as by-text}
use package.Rattle.agreement.specs.Lists as page

Member-kept : (replica : ℕ) (book : Bytes) (call : Call) →
    Member
Member-kept x0 x1 x2 = record { replica = x0; book = x1; call = x2 }

Statement-proposes-kept : ℕ → Bytes → Statement
Statement-proposes-kept = page.Statement.proposes

Statement-votes_block-kept : ℕ → Bytes → Statement
Statement-votes_block-kept = page.Statement.votes_block

Statement-votes_dummy-kept : ℕ → Statement
Statement-votes_dummy-kept = page.Statement.votes_dummy

Statement-finalizes-kept : ℕ → Statement
Statement-finalizes-kept = page.Statement.finalizes

Statement-apart : Statement → Unit {0}
Statement-apart (page.Statement.proposes _ _) = tt
Statement-apart (page.Statement.votes_block _ _) = tt
Statement-apart (page.Statement.votes_dummy _) = tt
Statement-apart (page.Statement.finalizes _) = tt

when-kept : {A : Type 0} → Bool → A → Option A
when-kept true a = some a
when-kept false a = none

same-when : {A : Type 0} → when-kept {A = A} is-kept page.when {A = A}
unfolding when-kept page.when
same-when = by-text

block_in-kept : Bytes → Option Bytes
block_in-kept frame = when (carries_block (kind frame)) (frame_block frame)

same-block_in : block_in-kept is-kept page.block_in
unfolding block_in-kept page.block_in
same-block_in = by-text

Begins-kept : Bytes → Bytes → Type 0
Begins-kept part other = part ≡ take (length part) other

same-Begins : Begins-kept is-kept page.Begins
unfolding Begins-kept page.Begins
same-Begins = by-text

HonestIn-kept : List ℕ → ℕ → ℕ → Type 0
HonestIn-kept weights dishonest s = (s < length weights) × (in_mask dishonest s ≡ false)

same-HonestIn : HonestIn-kept is-kept page.HonestIn
unfolding HonestIn-kept page.HonestIn
same-HonestIn = by-text

abbrev FewDishonest-kept : List ℕ → ℕ → Type 0
FewDishonest-kept weights dishonest = 3 * weigh (λ s. in_mask dishonest s) weights < total weights

same-FewDishonest : FewDishonest-kept is-kept page.FewDishonest
same-FewDishonest = by-text

or_else-kept : {A : Type 0} → Option A → Option A → Option A
or_else-kept (some a) other = some a
or_else-kept none other = other

same-or_else : {A : Type 0} → or_else-kept {A = A} is-kept page.or_else {A = A}
unfolding or_else-kept page.or_else
same-or_else = by-text

module _ (digest : Bytes → Bytes) where
  abbrev statement_of : Bytes → ℕ → Option Statement
  statement_of = page.statement_of digest

  abbrev does : Member → Effect
  does = page.does digest

  abbrev delivers : Member → List Bytes
  delivers = page.delivers digest

  abbrev writes : Member → List Bytes
  writes = page.writes digest

  abbrev left_by : ℕ → Member → Option Bytes
  left_by = page.left_by digest

  abbrev last_left : ℕ → List Member → Option Bytes
  last_left = page.last_left digest

  abbrev Opens : List ℕ → ℕ → Member → Type 0
  Opens = page.Opens digest

  abbrev Continues : Bytes → Member → Type 0
  Continues = page.Continues digest

  abbrev Follows : List ℕ → ℕ → Member → Option Bytes → Type 0
  Follows = page.Follows digest

  abbrev KeepsOneBook : List ℕ → List Member → ℕ → Type 0
  KeepsOneBook = page.KeepsOneBook digest

  abbrev Wrote : ℕ → Statement → List Member → Type 0
  Wrote = page.Wrote digest

  abbrev NotForged : (books names : ℕ → Type 0) → List Member → Type 0
  NotForged = page.NotForged digest

  abbrev Shows : Member → Bytes → Type 0
  Shows = page.Shows digest

  abbrev NoCollision : (books : ℕ → Type 0) → List Member → Type 0
  NoCollision = page.NoCollision digest

  abbrev Reads : Member → Bytes → Type 0
  Reads = page.Reads digest

  statement_of-kept : Bytes → ℕ → Option Statement
  statement_of-kept frame s =
      let h : ℕ = frame_height frame in
      let k : ℕ = kind frame in
      let signed : Bool = eqb (signer frame) s in
      let certified : Bool = in_mask (signer_mask frame) s in
      cond (is_proposal k) (when signed (proposes h (frame_block frame)))
      (cond (is_block_vote k) (when signed (votes_block h (frame_digest frame)))
      (cond (is_dummy_vote k) (when signed (votes_dummy h))
      (cond (is_finalize k) (when signed (finalizes h))
      (cond (is_block_certificate k) (when certified (votes_block h (digest (frame_block frame))))
      (cond (is_dummy_certificate k) (when certified (votes_dummy h))
      (cond (is_finalize_certificate k) (when certified (finalizes h)) none))))))

  same-statement_of : statement_of-kept is-kept page.statement_of digest
  unfolding statement_of-kept page.statement_of
  same-statement_of = by-text

  abbrev does-kept : Member → Effect
  does-kept m = effect digest m.book m.call

  same-does : does-kept is-kept page.does digest
  same-does = by-text

  abbrev delivers-kept : Member → List Bytes
  delivers-kept m = (does m).delivers

  same-delivers : delivers-kept is-kept page.delivers digest
  same-delivers = by-text

  abbrev writes-kept : Member → List Bytes
  writes-kept m = (does m).writes

  same-writes : writes-kept is-kept page.writes digest
  same-writes = by-text

  left_by-kept : ℕ → Member → Option Bytes
  left_by-kept s m = cond (eqb m.replica s) (some (does m).book) none

  same-left_by : left_by-kept is-kept page.left_by digest
  unfolding left_by-kept page.left_by
  same-left_by = by-text

  last_left-kept : ℕ → List Member → Option Bytes
  last_left-kept s [] = none
  last_left-kept s (m ∷ ms) = or_else (last_left-kept s ms) (left_by s m)

  same-last_left : last_left-kept is-kept page.last_left digest
  unfolding last_left-kept page.last_left
  same-last_left = by-text

  Opens-kept : List ℕ → ℕ → Member → Type 0
  Opens-kept weights s m = (does m).opens ≡ some (record { weights = weights; own = s })

  same-Opens : Opens-kept is-kept page.Opens digest
  unfolding Opens-kept page.Opens
  same-Opens = by-text

  Continues-kept : Bytes → Member → Type 0
  Continues-kept book m = (m.book ≡ book) × ((does m).opens ≡ none)

  same-Continues : Continues-kept is-kept page.Continues digest
  unfolding Continues-kept page.Continues
  same-Continues = by-text

  Follows-kept : List ℕ → ℕ → Member → Option Bytes → Type 0
  Follows-kept weights s m none = Opens weights s m
  Follows-kept weights s m (some book) = Continues book m

  same-Follows : Follows-kept is-kept page.Follows digest
  unfolding Follows-kept page.Follows
  same-Follows = by-text

  KeepsOneBook-kept : List ℕ → List Member → ℕ → Type 0
  KeepsOneBook-kept weights list s =
      (before : List Member) (m : Member) (after : List Member) →
      list ≡ before ++ (m ∷ after) → m.replica ≡ s → Follows weights s m (last_left s before)

  same-KeepsOneBook : KeepsOneBook-kept is-kept page.KeepsOneBook digest
  unfolding KeepsOneBook-kept page.KeepsOneBook
  same-KeepsOneBook = by-text

  Wrote-kept : ℕ → Statement → List Member → Type 0
  Wrote-kept s statement before = (m : Member) × (frame : Bytes) ×
      Memᴰ m before × (m.replica ≡ s) × Memᴰ frame (writes m) × (statement_of frame s ≡ some statement)

  same-Wrote : Wrote-kept is-kept page.Wrote digest
  unfolding Wrote-kept page.Wrote
  same-Wrote = by-text

  NotForged-kept : (books names : ℕ → Type 0) → List Member → Type 0
  NotForged-kept books names list =
      (before : List Member) (m : Member) (after : List Member) (frame : Bytes) (s : ℕ) (statement : Statement) →
      list ≡ before ++ (m ∷ after) → books m.replica → names s →
      Memᴰ frame (delivers m) → statement_of frame s ≡ some statement → Wrote s statement before

  same-NotForged : NotForged-kept is-kept page.NotForged digest
  unfolding NotForged-kept page.NotForged
  same-NotForged = by-text

  Shows-kept : Member → Bytes → Type 0
  Shows-kept m block = (frame : Bytes) × Memᴰ frame (delivers m ++ writes m) × (block_in frame ≡ some block)

  same-Shows : Shows-kept is-kept page.Shows digest
  unfolding Shows-kept page.Shows
  same-Shows = by-text

  NoCollision-kept : (books : ℕ → Type 0) → List Member → Type 0
  NoCollision-kept books list =
      (m m' : Member) (block block' : Bytes) → Memᴰ m list → Memᴰ m' list →
      books m.replica → books m'.replica →
      Shows m block → Shows m' block' → digest block ≡ digest block' → block ≡ block'

  same-NoCollision : NoCollision-kept is-kept page.NoCollision digest
  unfolding NoCollision-kept page.NoCollision
  same-NoCollision = by-text

  Reads-kept : Member → Bytes → Type 0
  Reads-kept m part = (does m).reads ≡ some part

  same-Reads : Reads-kept is-kept page.Reads digest
  unfolding Reads-kept page.Reads
  same-Reads = by-text

  Agreement-kept : Type 0
  Agreement-kept =
      (weights : List ℕ) (dishonest : ℕ) (list : List Member) →
      FewDishonest weights dishonest →
      ((s : ℕ) → HonestIn weights dishonest s → KeepsOneBook weights list s) →
      NotForged (HonestIn weights dishonest) (HonestIn weights dishonest) list →
      NoCollision (HonestIn weights dishonest) list →
      (m m' : Member) (part part' : Bytes) → Memᴰ m list → Memᴰ m' list →
      HonestIn weights dishonest m.replica → HonestIn weights dishonest m'.replica →
      Reads m part → Reads m' part' → Begins part part' ⊎ Begins part' part

  same-Agreement : Agreement-kept is-kept page.Agreement digest
  unfolding Agreement-kept page.Agreement
  same-Agreement = by-text
