-- Written by tests/restated --write: what docs/statements has of
-- crates/agreement/specs/Met.antt.
use Rattle.std.specs.Prelude.{ℕ, ◌≡◌, ◌≢◌, Bool, true, ◌&&◌, not, eqb}
use mathlib.Core.List.{List, [], Memᴰ}
use Rattle.std.proofs.Math.Option.{some}
use package.Rattle.protocol.specs.Bytes.{Bytes}
use package.Rattle.protocol.specs.State.{decode, flag}
use package.Rattle.protocol.specs.Move.{is_some}
use package.Rattle.agreement.specs.Lists.{Member, Statement, statement_of, delivers, Begins, HonestIn, FewDishonest}
use package.Rattle.agreement.specs.Lists.{KeepsOneBook, NotForged, NoCollision, Reads, does}
use package.Rattle.agreement.specs.Unpacked.{packet_in}
use package.Rattle.agreement.specs.Met.{MemberOf}
use mathlib.Core.Path.{◌≡◌ as ◌is-kept◌, refl as by-text}
use package.Rattle.agreement.specs.Met as page

abbrev MemberOf-kept : List Member → ℕ → (Member → Type 0) → Type 0
MemberOf-kept list s P = (m : Member) × Memᴰ m list × (m.replica ≡ s) × P m

same-MemberOf : MemberOf-kept is-kept page.MemberOf
same-MemberOf = by-text

has_edition-kept : ℕ → Member → Bool
has_edition-kept edition m = eqb (decode m.book).edition edition

same-has_edition : has_edition-kept is-kept page.has_edition
unfolding has_edition-kept page.has_edition
same-has_edition = by-text

is_packet-kept : Member → Bool
is_packet-kept m = is_some (packet_in m.call)

same-is_packet : is_packet-kept is-kept page.is_packet
unfolding is_packet-kept page.is_packet
same-is_packet = by-text

module _ (digest : Bytes → Bytes) where
  abbrev Hears : ℕ → Statement → Member → Type 0
  Hears = page.Hears digest

  abbrev Met : (weights : List ℕ) (dishonest : ℕ) (list : List Member) (shorter part : Bytes) → Type 0
  Met = page.Met digest

  abbrev Hears-kept : ℕ → Statement → Member → Type 0
  Hears-kept s statement m =
      (frame : Bytes) × Memᴰ frame (delivers digest m) × (statement_of digest frame s ≡ some statement)

  same-Hears : Hears-kept is-kept page.Hears digest
  same-Hears = by-text

  abbrev HearsWhere-kept : (Member → Bool) → ℕ → Statement → Member → Type 0
  HearsWhere-kept test s statement m = (test m ≡ true) × Hears s statement m

  same-HearsWhere : HearsWhere-kept is-kept page.HearsWhere digest
  same-HearsWhere = by-text

  abbrev ReadsWhere-kept : (Member → Bool) → Bytes → Member → Type 0
  ReadsWhere-kept test part m = (test m ≡ true) × Reads digest m part

  same-ReadsWhere : ReadsWhere-kept is-kept page.ReadsWhere digest
  same-ReadsWhere = by-text

  fires_timer-kept : Member → Bool
  fires_timer-kept m = not (flag 1 (decode m.book)) && flag 1 (decode (does digest m).book)

  same-fires_timer : fires_timer-kept is-kept page.fires_timer digest
  unfolding fires_timer-kept page.fires_timer
  same-fires_timer = by-text

  Claim-kept : (Bytes → Bytes → Type 0) → Type 0
  Claim-kept Conclusion =
      (weights : List ℕ) (dishonest : ℕ) (list : List Member) →
      FewDishonest weights dishonest →
      ((s : ℕ) → HonestIn weights dishonest s → KeepsOneBook digest weights list s) →
      NotForged digest (HonestIn weights dishonest) (HonestIn weights dishonest) list →
      NoCollision digest (HonestIn weights dishonest) list →
      (m m' : Member) (part part' : Bytes) → Memᴰ m list → Memᴰ m' list →
      HonestIn weights dishonest m.replica → HonestIn weights dishonest m'.replica →
      Reads digest m part → Reads digest m' part' → Conclusion part part'

  same-Claim : Claim-kept is-kept page.Claim digest
  unfolding Claim-kept page.Claim
  same-Claim = by-text

  Met-kept : (weights : List ℕ) (dishonest : ℕ) (list : List Member) (shorter part : Bytes) (few : FewDishonest weights dishonest) (keeps : (s : ℕ) → HonestIn weights dishonest s → KeepsOneBook digest weights list s) (unforged : NotForged digest (HonestIn weights dishonest) (HonestIn weights dishonest) list) (collisionless : NoCollision digest (HonestIn weights dishonest) list) (honest_0 : HonestIn weights dishonest 0) (honest_1 : HonestIn weights dishonest 1) (reads_0 : MemberOf list 0 (λ m. Reads digest m part)) (reads_1 : MemberOf list 1 (λ m. Reads digest m part)) (not_empty : part ≢ []) (reads_shorter : MemberOf list 1 (λ m. Reads digest m shorter)) (begins : Begins shorter part) (begins_not : Begins part shorter → ⊥) →
      Met weights dishonest list shorter part
  Met-kept weights dishonest list shorter part x0 x1 x2 x3 x4 x5 x6 x7 x8 x9 x10 x11 = record { few = x0; keeps = x1; unforged = x2; collisionless = x3; honest_0 = x4; honest_1 = x5; reads_0 = x6; reads_1 = x7; not_empty = x8; reads_shorter = x9; begins = x10; begins_not = x11 }
