-- A packet in a list stands for the deliveries of its frames, a refused packet for none: the list with them in its
-- place, and that it is the same for all that demand 3 speaks of.
use Rattle.std.specs.Prelude.{ℕ, ◌≡◌, ◌⊎◌, ◌↔◌, cond, eqb}
use mathlib.Core.List.{List, [], ◌∷◌, ◌++◌, Memᴰ}
use Rattle.std.proofs.Math.Option.{Option, some, none}
use Rattle.protocol.specs.Bytes.{Bytes}
use Rattle.protocol.specs.Answer.{is_accepted}
use Rattle.protocol.specs.Deliver.{deliver_call}
use Rattle.protocol.specs.Packet.{packet_frames, packet_call}
use Rattle.protocol.specs.Call.{Call, opening, delivery, packet_delivery, moving, signalling, submitting, sizing}
use Rattle.protocol.specs.Call.{reading, fetching}
use Rattle.agreement.specs.Lists.{Member, Begins, HonestIn, FewDishonest, KeepsOneBook, NotForged, NoCollision}
use Rattle.agreement.specs.Lists.{Reads, does, delivers, writes, last_left}

-- a list with the elements of an option
unfoldable pub listed : {A : Type 0} → Option A → List A
listed none = []
listed (some a) = a ∷ []

-- the packet of a call that has one
unfoldable pub packet_in : Call → Option Bytes
packet_in (opening way n own heights leaders) = none
packet_in (delivery frame) = none
packet_in (packet_delivery packet) = some packet
packet_in (moving reply) = none
packet_in (signalling h) = none
packet_in (submitting entry) = none
packet_in sizing = none
packet_in (reading buffer) = none
packet_in (fetching k h reply) = none

module _ (digest : Bytes → Bytes) where
  -- ---- the list
  -- the deliveries of these frames to a replica's book, each over the book that those before it left
  unfoldable pub deliveries_of : ℕ → Bytes → List Bytes → List Member
  deliveries_of s book [] = []
  deliveries_of s book (frame ∷ frames) =
      record { replica = s; book = book; call = delivery frame } ∷
      deliveries_of s (deliver_call digest book frame).book frames

  -- what a member stands for: a packet for its deliveries, any other call for itself
  unfoldable pub stands_for : Member → Option Bytes → List Member
  stands_for m none = m ∷ []
  stands_for m (some packet) =
      cond (is_accepted (packet_call digest m.book packet).answer)
      (deliveries_of m.replica m.book (packet_frames packet)) []

  unfoldable pub unpacked : List Member → List Member
  unpacked [] = []
  unpacked (m ∷ ms) = stands_for m (packet_in m.call) ++ unpacked ms

  -- ---- what is done on the books of replica `s` along a list, in order
  unfoldable pub gathered : (Member → List Bytes) → ℕ → List Member → List Bytes
  gathered part s [] = []
  gathered part s (m ∷ ms) = cond (eqb m.replica s) (part m) [] ++ gathered part s ms

  -- the part that a member reads, if it is a reading
  unfoldable pub read_by : Member → List Bytes
  read_by m = listed (does digest m).reads

  -- ---- the two lists are the same
  pub record Unpacks (list : List Member) : Type 1 where
    -- no packet is left
    pub no_packet : (m : Member) → Memᴰ m (unpacked list) → packet_in m.call ≡ none
    -- for each replica the same frames are delivered and written and the same parts read, in the same order
    pub same_delivered : (s : ℕ) → gathered (delivers digest) s (unpacked list) ≡ gathered (delivers digest) s list
    pub same_written : (s : ℕ) → gathered (writes digest) s (unpacked list) ≡ gathered (writes digest) s list
    pub same_read : (s : ℕ) → gathered read_by s (unpacked list) ≡ gathered read_by s list
    -- a replica that opens its book first and once, and whose calls alone write to it, does so in both, and both leave
    -- the same book; not the other way round, since a refused packet before the opening is in the list alone
    pub same_keeping : (weights : List ℕ) (s : ℕ) → KeepsOneBook digest weights list s →
        KeepsOneBook digest weights (unpacked list) s
    pub same_left : (weights : List ℕ) (s : ℕ) → KeepsOneBook digest weights list s →
        last_left digest s (unpacked list) ≡ last_left digest s list
    -- what is granted of statements and digests is granted of both or of neither
    pub same_unforged : (books names : ℕ → Type 0) →
        NotForged digest books names list ↔ NotForged digest books names (unpacked list)
    pub same_collisions : (books : ℕ → Type 0) →
        NoCollision digest books list ↔ NoCollision digest books (unpacked list)
    -- a member that reads a part is in both or in neither
    pub same_readings : (m : Member) (part : Bytes) → Reads digest m part →
        Memᴰ m list ↔ Memᴰ m (unpacked list)

  -- ---- the claim of demand 3 about the readings of one list, with all that is granted asked of another one
  unfoldable pub AgreementOn : (granted list : List Member) → Type 0
  AgreementOn granted list =
      (weights : List ℕ) (dishonest : ℕ) → FewDishonest weights dishonest →
      ((s : ℕ) → HonestIn weights dishonest s → KeepsOneBook digest weights granted s) →
      NotForged digest (HonestIn weights dishonest) (HonestIn weights dishonest) granted →
      NoCollision digest (HonestIn weights dishonest) granted →
      (m m' : Member) (part part' : Bytes) → Memᴰ m list → Memᴰ m' list →
      HonestIn weights dishonest m.replica → HonestIn weights dishonest m'.replica →
      Reads digest m part → Reads digest m' part' → Begins part part' ⊎ Begins part' part
