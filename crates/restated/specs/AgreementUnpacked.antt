-- Written by tests/restated --write: what docs/statements has of
-- crates/agreement/specs/Unpacked.antt.
use Rattle.std.specs.Prelude.{ℕ, ◌≡◌, ◌⊎◌, ◌↔◌, cond, eqb}
use mathlib.Core.List.{List, [], ◌∷◌, ◌++◌, Memᴰ}
use Rattle.std.proofs.Math.Option.{Option, some, none}
use package.Rattle.protocol.specs.Bytes.{Bytes}
use package.Rattle.protocol.specs.Answer.{is_accepted}
use package.Rattle.protocol.specs.Deliver.{deliver_call}
use package.Rattle.protocol.specs.Packet.{packet_frames, packet_call}
use package.Rattle.protocol.specs.Call.{Call, opening, delivery, packet_delivery, moving, signalling, submitting, sizing}
use package.Rattle.protocol.specs.Call.{reading, fetching}
use package.Rattle.agreement.specs.Lists.{Member, Begins, HonestIn, FewDishonest, KeepsOneBook, NotForged, NoCollision}
use package.Rattle.agreement.specs.Lists.{Reads, does, delivers, writes, last_left}
use package.Rattle.agreement.specs.Unpacked.{listed, packet_in}
use mathlib.Core.Path.{◌≡◌ as ◌is-kept◌, refl as by-text}
use package.Rattle.agreement.specs.Unpacked as page

listed-kept : {A : Type 0} → Option A → List A
listed-kept none = []
listed-kept (some a) = a ∷ []

same-listed : {A : Type 0} → listed-kept {A = A} is-kept page.listed {A = A}
unfolding listed-kept page.listed
same-listed = by-text

packet_in-kept : Call → Option Bytes
packet_in-kept (opening way n own heights leaders) = none
packet_in-kept (delivery frame) = none
packet_in-kept (packet_delivery packet) = some packet
packet_in-kept (moving reply) = none
packet_in-kept (signalling h) = none
packet_in-kept (submitting entry) = none
packet_in-kept sizing = none
packet_in-kept (reading buffer) = none
packet_in-kept (fetching k h reply) = none

same-packet_in : packet_in-kept is-kept page.packet_in
unfolding packet_in-kept page.packet_in
same-packet_in = by-text

module _ (digest : Bytes → Bytes) where
  abbrev deliveries_of : ℕ → Bytes → List Bytes → List Member
  deliveries_of = page.deliveries_of digest

  abbrev stands_for : Member → Option Bytes → List Member
  stands_for = page.stands_for digest

  abbrev unpacked : List Member → List Member
  unpacked = page.unpacked digest

  abbrev gathered : (Member → List Bytes) → ℕ → List Member → List Bytes
  gathered = page.gathered digest

  abbrev read_by : Member → List Bytes
  read_by = page.read_by digest

  abbrev Unpacks : (list : List Member) → Type 1
  Unpacks = page.Unpacks digest

  deliveries_of-kept : ℕ → Bytes → List Bytes → List Member
  deliveries_of-kept s book [] = []
  deliveries_of-kept s book (frame ∷ frames) =
      record { replica = s; book = book; call = delivery frame } ∷
      deliveries_of-kept s (deliver_call digest book frame).book frames

  same-deliveries_of : deliveries_of-kept is-kept page.deliveries_of digest
  unfolding deliveries_of-kept page.deliveries_of
  same-deliveries_of = by-text

  stands_for-kept : Member → Option Bytes → List Member
  stands_for-kept m none = m ∷ []
  stands_for-kept m (some packet) =
      cond (is_accepted (packet_call digest m.book packet).answer)
      (deliveries_of m.replica m.book (packet_frames packet)) []

  same-stands_for : stands_for-kept is-kept page.stands_for digest
  unfolding stands_for-kept page.stands_for
  same-stands_for = by-text

  unpacked-kept : List Member → List Member
  unpacked-kept [] = []
  unpacked-kept (m ∷ ms) = stands_for m (packet_in m.call) ++ unpacked-kept ms

  same-unpacked : unpacked-kept is-kept page.unpacked digest
  unfolding unpacked-kept page.unpacked
  same-unpacked = by-text

  gathered-kept : (Member → List Bytes) → ℕ → List Member → List Bytes
  gathered-kept part s [] = []
  gathered-kept part s (m ∷ ms) = cond (eqb m.replica s) (part m) [] ++ gathered-kept part s ms

  same-gathered : gathered-kept is-kept page.gathered digest
  unfolding gathered-kept page.gathered
  same-gathered = by-text

  read_by-kept : Member → List Bytes
  read_by-kept m = listed (does digest m).reads

  same-read_by : read_by-kept is-kept page.read_by digest
  unfolding read_by-kept page.read_by
  same-read_by = by-text

  Unpacks-kept : (list : List Member) (no_packet : (m : Member) → Memᴰ m (unpacked list) → packet_in m.call ≡ none) (same_delivered : (s : ℕ) → gathered (delivers digest) s (unpacked list) ≡ gathered (delivers digest) s list) (same_written : (s : ℕ) → gathered (writes digest) s (unpacked list) ≡ gathered (writes digest) s list) (same_read : (s : ℕ) → gathered read_by s (unpacked list) ≡ gathered read_by s list) (same_keeping : (weights : List ℕ) (s : ℕ) → KeepsOneBook digest weights list s → KeepsOneBook digest weights (unpacked list) s) (same_left : (weights : List ℕ) (s : ℕ) → KeepsOneBook digest weights list s → last_left digest s (unpacked list) ≡ last_left digest s list) (same_unforged : (books names : ℕ → Type 0) → NotForged digest books names list ↔ NotForged digest books names (unpacked list)) (same_collisions : (books : ℕ → Type 0) → NoCollision digest books list ↔ NoCollision digest books (unpacked list)) (same_readings : (m : Member) (part : Bytes) → Reads digest m part → Memᴰ m list ↔ Memᴰ m (unpacked list)) →
      Unpacks list
  Unpacks-kept list x0 x1 x2 x3 x4 x5 x6 x7 x8 = record { no_packet = x0; same_delivered = x1; same_written = x2; same_read = x3; same_keeping = x4; same_left = x5; same_unforged = x6; same_collisions = x7; same_readings = x8 }

  AgreementOn-kept : (granted list : List Member) → Type 0
  AgreementOn-kept granted list =
      (weights : List ℕ) (dishonest : ℕ) → FewDishonest weights dishonest →
      ((s : ℕ) → HonestIn weights dishonest s → KeepsOneBook digest weights granted s) →
      NotForged digest (HonestIn weights dishonest) (HonestIn weights dishonest) granted →
      NoCollision digest (HonestIn weights dishonest) granted →
      (m m' : Member) (part part' : Bytes) → Memᴰ m list → Memᴰ m' list →
      HonestIn weights dishonest m.replica → HonestIn weights dishonest m'.replica →
      Reads digest m part → Reads digest m' part' → Begins part part' ⊎ Begins part' part

  same-AgreementOn : AgreementOn-kept is-kept page.AgreementOn digest
  unfolding AgreementOn-kept page.AgreementOn
  same-AgreementOn = by-text
