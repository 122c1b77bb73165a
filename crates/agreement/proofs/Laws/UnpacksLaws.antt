-- A list with packets and the list with their deliveries are the same for demand 3, so its claim for the one is its
-- claim for the other.
use Rattle.std.specs.Prelude.{◌≡◌}
use mathlib.Core.List.{List, Memᴰ}
use Rattle.std.proofs.Math.Option.{none}
use Rattle.protocol.specs.Bytes.{Bytes}
use Rattle.agreement.specs.Lists.{Agreement, HonestIn, Member}
use Rattle.agreement.specs.Unpacked.{AgreementOn, Unpacks, packet_in, unpacked}
use Rattle.agreement.proofs.Laws.UnpackedLaws.{none_packed, reading_stays, same_delivered, same_read, same_written}
use Rattle.agreement.proofs.Laws.UnpackedBooksLaws.{keeping_stays}
use Rattle.agreement.proofs.Laws.UnpackedGrantsLaws.{collisions_stay, unforged_stays}

module _ (digest : Bytes → Bytes) (list : List Member) where
  pub unpacks : Unpacks digest list
  unpacks = record {
    no_packet = none_packed digest list;
    same_delivered = λ s. same_delivered digest s list;
    same_written = λ s. same_written digest s list;
    same_read = λ s. same_read digest s list;
    same_keeping = λ weights s keeps. (keeping_stays digest weights s list keeps).0;
    same_left = λ weights s keeps. (keeping_stays digest weights s list keeps).1;
    same_unforged = λ books names. unforged_stays digest books names list;
    same_collisions = λ books. collisions_stay digest books list;
    same_readings = reading_stays digest list;
  }

  -- the readings of the list are those of the unpacked one
  pub readings_unpacked : AgreementOn digest (unpacked digest list) (unpacked digest list) →
      AgreementOn digest (unpacked digest list) list
  unfolding AgreementOn
  readings_unpacked claim weights dishonest few keeps unforged collisionless m m' part part' i i' h h' r r' =
      claim weights dishonest few keeps unforged collisionless m m' part part'
      ((unpacks.same_readings m part r).0 i) ((unpacks.same_readings m' part' r').0 i') h h' r r'

  -- what is granted of the list is granted of the unpacked one
  pub granted_unpacked : AgreementOn digest (unpacked digest list) list → AgreementOn digest list list
  unfolding AgreementOn
  granted_unpacked claim weights dishonest few keeps unforged collisionless =
      claim weights dishonest few (λ s honest. unpacks.same_keeping weights s (keeps s honest))
      ((unpacks.same_unforged (HonestIn weights dishonest) (HonestIn weights dishonest)).0 unforged)
      ((unpacks.same_collisions (HonestIn weights dishonest)).0 collisionless)

  -- demand 3 is the claim on each list; it holds as well where all that is granted is asked of the deliveries alone: a
  -- refused packet then counts for nothing, even before the book is opened
  pub agreement_on : Agreement digest → AgreementOn digest list list
  unfolding Agreement AgreementOn
  agreement_on claim weights dishonest = claim weights dishonest list

  pub deliveries_alone : Agreement digest → AgreementOn digest (unpacked digest list) list
  unfolding Agreement AgreementOn
  deliveries_alone claim = readings_unpacked (λ weights dishonest. claim weights dishonest (unpacked digest list))

-- demand 3 for lists without a packet is demand 3 for all lists
pub without_packets : (digest : Bytes → Bytes) →
    ((list : List Member) → ((m : Member) → Memᴰ m list → packet_in m.call ≡ none) →
    AgreementOn digest list list) → Agreement digest
unfolding Agreement AgreementOn
without_packets digest claim weights dishonest list =
    granted_unpacked digest list (readings_unpacked digest list
    (claim (unpacked digest list) (unpacks digest list).no_packet)) weights dishonest
