-- A list with observers and packets and the list with the deliveries of the packets are the same for demand 3, so its
-- claim for the one is its claim for the other.
use Rattle.std.specs.Prelude.{◌≡◌}
use Rattle.std.proofs.Common.{sym}
use Rattle.std.proofs.Math.Path.{subst}
use mathlib.Core.List.{List, Memᴰ}
use Rattle.std.proofs.Math.Option.{none}
use Rattle.protocol.specs.Bytes.{Bytes}
use Rattle.agreement.specs.Lists.{HonestIn, KeepsOneBook, Member}
use Rattle.agreement.specs.Unpacked.{packet_in}
use Rattle.agreement.specs.ObserverLists.{AnyMember, ObservedAgreement, ObserverKeepsOneBook, ObserverMember}
use Rattle.agreement.specs.ObserverLists.{of_replica}
use Rattle.agreement.specs.ObserverUnpacked.{ObservedAgreementOn, ObserverUnpacks, all_unpacked}
use Rattle.agreement.proofs.Laws.ObserverUnpackedLaws.{any_reading_stays, observed_readings_unpacked}
use Rattle.agreement.proofs.Laws.ObserverUnpackedLaws.{observers_unpacked, replica_unpacked, replicas_unpacked}
use Rattle.agreement.proofs.Laws.ObserverUnpackedGrantsLaws.{any_collisions_stay, any_unforged_stays}
use Rattle.agreement.proofs.Laws.UnpackedLaws.{none_packed}
use Rattle.agreement.proofs.Laws.UnpacksLaws.{unpacks}

module _ (digest : Bytes → Bytes) (list : List AnyMember) where
  pub observer_unpacks : ObserverUnpacks digest list
  observer_unpacks = record {
    no_packet = λ m i. none_packed digest _ m ((replica_unpacked digest list m).0 i);
    same_replicas = replicas_unpacked digest list;
    of_replicas = unpacks digest _;
    same_observers = observers_unpacked digest list;
    same_unforged = λ books observers names. any_unforged_stays digest books observers names list;
    same_collisions = λ books observers. any_collisions_stay digest books observers list;
    same_readings = any_reading_stays digest list;
  }

  -- what is granted of the list is granted of the unpacked one
  pub observed_granted_unpacked : ObservedAgreementOn digest (all_unpacked digest list) list →
      ObservedAgreementOn digest list list
  unfolding ObservedAgreementOn
  observed_granted_unpacked claim n dishonest observers few keeps observed unforged collisionless =
      let same = observer_unpacks in
      claim n dishonest observers few
      (λ s honest. subst (λ (calls : List Member). KeepsOneBook digest n calls s) (sym same.same_replicas)
      (same.of_replicas.same_keeping n s (keeps s honest)))
      (λ s meant. subst (λ (calls : List ObserverMember). ObserverKeepsOneBook digest n calls s)
      (sym same.same_observers) (observed s meant))
      ((same.same_unforged (HonestIn n dishonest) observers (HonestIn n dishonest)).0 unforged)
      ((same.same_collisions (HonestIn n dishonest) observers).0 collisionless)

-- demand 3 for lists without a packet is demand 3 for all lists, with observers too
pub observers_without_packets : (digest : Bytes → Bytes) →
    ((list : List AnyMember) → ((m : Member) → Memᴰ (of_replica m) list → packet_in m.call ≡ none) →
    ObservedAgreementOn digest list list) → ObservedAgreement digest
unfolding ObservedAgreement ObservedAgreementOn
observers_without_packets digest claim n dishonest observers list =
    observed_granted_unpacked digest list (observed_readings_unpacked digest list
    (claim (all_unpacked digest list) (observer_unpacks digest list).no_packet)) n dishonest observers
