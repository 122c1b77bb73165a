-- The header's functions give back what was packed, for every answer whose refusal is numbered and whose height fits.
use Rattle.std.specs.Prelude.{ℕ, ◌+◌, ◌*◌, ◌/◌, ◌%◌, ◌^◌, ◌≤◌, ◌<◌, ◌≡◌, refl, Bool, true, false}
use Rattle.std.proofs.Math.Nat.{div-eq_of_lt}
use native.Mathlib.Omega.{arith}
use Rattle.std.proofs.Common.{◌∙◌}
use Rattle.std.specs.Int.Bits.{bit_and}
use Rattle.std.proofs.lemmas.Nat.{and_mask}
use Rattle.protocol.specs.Answer.{Answer, refused, accepted, Done, Counts, refusal_number}
use Rattle.protocol.specs.Answer.{Delivery, known, fresh, Certificate, on_block, on_dummy, certificate_kind, finalize_kind}
use Rattle.protocol.specs.Answer.{Move, idle, vote_dummy, output, pass, propose, vote_block, move_number, move_height}
use Rattle.protocol.specs.Block.{maximum_heights}
use Rattle.answers.specs.MoveNumbers.{answer_numbers, move_certificate, move_finalize}
use Rattle.packing.specs.Packing.{packed_done, packed_delivery, packed_packet, packed_move, packed_size}
use Rattle.packing.specs.Packing.{pass_kinds, answered_height}
use Rattle.packing.specs.Unpacking.{unpacked_refusal, unpacked_fresh, unpacked_move, unpacked_height}
use Rattle.packing.specs.Unpacking.{unpacked_certificate, unpacked_finalize, unpacked_size}
use Rattle.packing.specs.Unpacking.{answered_fresh}
use Rattle.packing.specs.Unpacking.{last_refusal, Numbered, DoneRead, DeliveryRead, PacketRead, MoveRead, SizeRead}

-- ---- bytes of a number
byte : (n : ℕ) → bit_and n 255 ≡ n % 256
byte n = and_mask n 8

two_bytes_lem : (n : ℕ) → bit_and n 65535 ≡ n % 65536
two_bytes_lem n = and_mask n 16

-- a refusal's number is in the lowest byte, and the bytes above it are 0
module _ (number : ℕ) (low : number ≤ last_refusal) where
  refusal_low : bit_and number 255 ≡ number
  refusal_low = byte number ∙ omega arith

  refusal_above : (place : ℕ) → last_refusal < place → bit_and (number / place) 255 ≡ 0
  refusal_above place high =
      let none_left : number / place ≡ 0 = div-eq_of_lt (omega arith) in
      rw none_left (byte 0)

  refusal_height : bit_and (number / 2 ^ 16) 65535 ≡ 0
  refusal_height =
      let none_left : number / 2 ^ 16 ≡ 0 = div-eq_of_lt (omega arith) in
      rw none_left (two_bytes_lem 0)

-- ---- packed and read back
pub done_read_back : (a : Answer Done) → Numbered a → DoneRead (packed_done a) a
unfolding unpacked_refusal refusal_number
done_read_back (refused number) ok = record { numbered = ok; refusal = refusal_low number (ok number refl).1 }
done_read_back (accepted answer) ok = record { numbered = ok; refusal = byte 0 }

pub delivery_read_back : (a : Answer Delivery) → Numbered a → DeliveryRead (packed_delivery a) a
unfolding unpacked_refusal unpacked_fresh refusal_number answered_fresh
delivery_read_back (refused number) ok = record {
  numbered = ok;
  refusal = refusal_low number (ok number refl).1;
  freshness = refusal_above number (ok number refl).1 (2 ^ 8) (omega arith);
}
delivery_read_back (accepted known) ok = record { numbered = ok; refusal = byte 0; freshness = byte 0 }
delivery_read_back (accepted fresh) ok = record { numbered = ok; refusal = byte 256; freshness = byte 1 }

pub packet_read_back : (a : Answer Counts) → Numbered a → PacketRead (packed_packet a) a
unfolding unpacked_refusal refusal_number
packet_read_back (refused number) ok = record { numbered = ok; refusal = refusal_low number (ok number refl).1 }
packet_read_back (accepted counts) ok = record { numbered = ok; refusal = byte 0 }

pub size_read_back : (a : Answer ℕ) → Numbered a → SizeRead (packed_size a) a
unfolding unpacked_refusal unpacked_size refusal_number
size_read_back (refused number) ok = record {
  numbered = ok;
  refusal = refusal_low number (ok number refl).1;
  size = let low = (ok number refl).1 in omega arith;
}
size_read_back (accepted size) ok = record {
  numbered = ok;
  refusal = rw byte (omega arith);
  size = omega arith;
}

number_low : (m : Move) → move_number m < 256
unfolding move_number
number_low idle = omega arith
number_low (vote_dummy h) = omega arith
number_low (output g) = omega arith
number_low (pass h certificate finalized) = omega arith
number_low (propose h) = omega arith
number_low (vote_block h) = omega arith

certificate_kind_low : (x : Certificate) → certificate_kind x < 256
unfolding certificate_kind
certificate_kind_low on_block = omega arith
certificate_kind_low on_dummy = omega arith

finalize_kind_low : (x : Bool) → finalize_kind x < 256
unfolding finalize_kind
finalize_kind_low true = omega arith
finalize_kind_low false = omega arith

kinds : (m : Move) →
    (pass_kinds m ≡ move_certificate m + 256 * move_finalize m) × (move_certificate m < 256) × (move_finalize m < 256)
unfolding move_certificate move_finalize
kinds idle = (refl, omega arith, omega arith)
kinds (vote_dummy h) = (refl, omega arith, omega arith)
kinds (output g) = (refl, omega arith, omega arith)
kinds (pass h certificate finalized) = (refl, certificate_kind_low certificate, finalize_kind_low finalized)
kinds (propose h) = (refl, omega arith, omega arith)
kinds (vote_block h) = (refl, omega arith, omega arith)

pub move_read_back : (a : Answer Move) → Numbered a → answered_height a ≤ maximum_heights → MoveRead (packed_move a) a
unfolding answer_numbers
move_read_back (refused number) ok low =
    unfold unpacked_refusal unpacked_move unpacked_height unpacked_certificate unpacked_finalize in
    let fits : number ≤ last_refusal = (ok number refl).1 in
    record {
      numbered = ok;
      refusal = refusal_low number fits;
      move = refusal_above number fits (2 ^ 8) (omega arith);
      height = refusal_height number fits;
      certificate = refusal_above number fits (2 ^ 32) (omega arith);
      finalize = refusal_above number fits (2 ^ 40) (omega arith);
    }
move_read_back (accepted m) ok low =
    unfold unpacked_refusal unpacked_move unpacked_height unpacked_certificate unpacked_finalize in
    let k = kinds m in
    let n : move_number m < 256 = number_low m in
    let h : move_height m < 65536 = omega arith in
    rw k.0 (record {
      numbered = ok;
      refusal = rw byte (omega arith);
      move = rw byte (omega arith);
      height = rw two_bytes_lem (omega arith);
      certificate = rw byte (omega arith);
      finalize = rw byte (omega arith);
    })
