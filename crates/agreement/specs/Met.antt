-- What a list must show so that demand 3 is not vacuous: it meets every premise, two honest replicas read an entry or
-- more, and one of them a part that strictly begins it.
use Rattle.std.specs.Prelude.{ℕ, ◌≡◌, ◌≢◌, Bool, true, ◌&&◌, not, eqb}
use mathlib.Core.List.{List, [], Memᴰ}
use Rattle.std.proofs.Math.Option.{some}
use Rattle.protocol.specs.Bytes.{Bytes}
use Rattle.protocol.specs.State.{decode, flag}
use Rattle.protocol.specs.Move.{is_some}
use Rattle.agreement.specs.Lists.{Member, Statement, statement_of, delivers, Begins, HonestIn, FewDishonest}
use Rattle.agreement.specs.Lists.{KeepsOneBook, NotForged, NoCollision, Reads, does}
use Rattle.agreement.specs.Unpacked.{packet_in}

-- a member of the list, of this replica, with a property
abbrev pub MemberOf : List Member → ℕ → (Member → Type 0) → Type 0
MemberOf list s P = (m : Member) × Memᴰ m list × (m.replica ≡ s) × P m

-- a test of a member: it gets a book of this edition
unfoldable pub has_edition : ℕ → Member → Bool
has_edition edition m = eqb (decode m.book).edition edition

-- its call is a packet
unfoldable pub is_packet : Member → Bool
is_packet m = is_some (packet_in m.call)

module _ (digest : Bytes → Bytes) where
  -- a frame that makes this statement in the name of replica `s` is delivered to a member
  abbrev pub Hears : ℕ → Statement → Member → Type 0
  Hears s statement m =
      (frame : Bytes) × Memᴰ frame (delivers digest m) × (statement_of digest frame s ≡ some statement)

  -- .. and the member passes a test
  abbrev pub HearsWhere : (Member → Bool) → ℕ → Statement → Member → Type 0
  HearsWhere test s statement m = (test m ≡ true) × Hears s statement m

  -- it is a reading that returns this part, and passes a test
  abbrev pub ReadsWhere : (Member → Bool) → Bytes → Member → Type 0
  ReadsWhere test part m = (test m ≡ true) × Reads digest m part

  -- a test of a member: the timer of its book fires by its call
  unfoldable pub fires_timer : Member → Bool
  fires_timer m = not (flag 1 (decode m.book)) && flag 1 (decode (does digest m).book)

  -- demand 3 with any other conclusion about the two parts that are read; with its own it is `Agreement` (MetLaws)
  unfoldable pub Claim : (Bytes → Bytes → Type 0) → Type 0
  Claim Conclusion =
      (weights : List ℕ) (dishonest : ℕ) (list : List Member) →
      FewDishonest weights dishonest →
      ((s : ℕ) → HonestIn weights dishonest s → KeepsOneBook digest weights list s) →
      NotForged digest (HonestIn weights dishonest) (HonestIn weights dishonest) list →
      NoCollision digest (HonestIn weights dishonest) list →
      (m m' : Member) (part part' : Bytes) → Memᴰ m list → Memᴰ m' list →
      HonestIn weights dishonest m.replica → HonestIn weights dishonest m'.replica →
      Reads digest m part → Reads digest m' part' → Conclusion part part'

  pub record Met (weights : List ℕ) (dishonest : ℕ) (list : List Member) (shorter part : Bytes) : Type 0 where
    -- the premises
    pub few : FewDishonest weights dishonest
    pub keeps : (s : ℕ) → HonestIn weights dishonest s → KeepsOneBook digest weights list s
    pub unforged : NotForged digest (HonestIn weights dishonest) (HonestIn weights dishonest) list
    pub collisionless : NoCollision digest (HonestIn weights dishonest) list
    -- replicas 0 and 1 are honest, and read this part, which is not empty
    pub honest_0 : HonestIn weights dishonest 0
    pub honest_1 : HonestIn weights dishonest 1
    pub reads_0 : MemberOf list 0 (λ m. Reads digest m part)
    pub reads_1 : MemberOf list 1 (λ m. Reads digest m part)
    pub not_empty : part ≢ []
    -- replica 1 reads the shorter part as well, which begins this one, and not the other way round
    pub reads_shorter : MemberOf list 1 (λ m. Reads digest m shorter)
    pub begins : Begins shorter part
    pub begins_not : Begins part shorter → ⊥
