-- Packets in a list in which observers are members too: each stands for the deliveries of its frames, a refused one for
-- none (document 02, 2.1 and 2.3), and the list with them in its place is the same for all that demand 3 speaks of.
use Rattle.std.specs.Prelude.{ℕ, ◌≡◌, ◌⊎◌, ◌↔◌}
use mathlib.Core.List.{List, [], ◌∷◌, ◌++◌, map, Memᴰ}
use Rattle.std.proofs.Math.Option.{none}
use Rattle.protocol.specs.Bytes.{Bytes}
use Rattle.agreement.specs.Lists.{Begins, FewDishonest, HonestIn, KeepsOneBook, Member}
use Rattle.agreement.specs.Unpacked.{Unpacks, packet_in, stands_for, unpacked}
use Rattle.agreement.specs.ObserverLists.{AnyMember, of_replica, of_observer, replica_calls, observer_calls, Meant}
use Rattle.agreement.specs.ObserverLists.{AnyReads, ObserverKeepsOneBook, NoneForged, NoneCollide}

module _ (digest : Bytes → Bytes) where
  -- the list with the deliveries in the place of each packet
  unfoldable pub all_unpacked : List AnyMember → List AnyMember
  all_unpacked [] = []
  all_unpacked (of_replica m ∷ list) = map of_replica (stands_for digest m (packet_in m.call)) ++ all_unpacked list
  all_unpacked (of_observer m ∷ list) = of_observer m ∷ all_unpacked list

  -- ---- the two lists are the same
  pub record ObserverUnpacks (list : List AnyMember) : Type 1 where
    -- no packet is left
    pub no_packet : (m : Member) → Memᴰ (of_replica m) (all_unpacked list) → packet_in m.call ≡ none
    -- the calls of replicas are those of the list, unpacked, of which all of `Unpacks` holds: for each replica the same
    -- is delivered, written and read, and its book kept and left
    pub same_replicas : replica_calls (all_unpacked list) ≡ unpacked digest (replica_calls list)
    pub of_replicas : Unpacks digest (replica_calls list)
    -- the calls of observers are those of the list: they have no packets
    pub same_observers : observer_calls (all_unpacked list) ≡ observer_calls list
    -- what is granted of statements and digests is granted of both or of neither
    pub same_unforged : (books observers names : ℕ → Type 0) →
        NoneForged digest (Meant books observers) names list ↔
        NoneForged digest (Meant books observers) names (all_unpacked list)
    pub same_collisions : (books observers : ℕ → Type 0) →
        NoneCollide digest (Meant books observers) list ↔ NoneCollide digest (Meant books observers) (all_unpacked list)
    -- a member that reads a part is in both or in neither
    pub same_readings : (m : AnyMember) (part : Bytes) → AnyReads digest m part →
        Memᴰ m list ↔ Memᴰ m (all_unpacked list)

  -- ---- demand 3 about the readings of one list, with all that is granted asked of another one
  unfoldable pub ObservedAgreementOn : (granted list : List AnyMember) → Type 1
  ObservedAgreementOn granted list =
      (weights : List ℕ) (dishonest : ℕ) (observers : ℕ → Type 0) → FewDishonest weights dishonest →
      ((s : ℕ) → HonestIn weights dishonest s → KeepsOneBook digest weights (replica_calls granted) s) →
      ((s : ℕ) → observers s → ObserverKeepsOneBook digest weights (observer_calls granted) s) →
      NoneForged digest (Meant (HonestIn weights dishonest) observers) (HonestIn weights dishonest) granted →
      NoneCollide digest (Meant (HonestIn weights dishonest) observers) granted →
      (m m' : AnyMember) (part part' : Bytes) → Memᴰ m list → Memᴰ m' list →
      Meant (HonestIn weights dishonest) observers m → Meant (HonestIn weights dishonest) observers m' →
      AnyReads digest m part → AnyReads digest m' part' → Begins part part' ⊎ Begins part' part
