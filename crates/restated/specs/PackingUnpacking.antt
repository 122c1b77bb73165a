-- Written by tests/restated --write: what docs/statements has of
-- crates/packing/specs/Unpacking.antt.
use Rattle.std.specs.Prelude.{ℕ, ◌/◌, ◌^◌, ◌≤◌, ◌≡◌, ◌||◌, cond, eqb}
use Rattle.std.specs.Int.Bits.{bit_and}
use package.Rattle.protocol.specs.Answer.{Answer, refused, accepted, Done, Delivery, known, fresh, Counts, Move}
use package.Rattle.protocol.specs.Answer.{refusal_number}
use package.Rattle.answers.specs.MoveNumbers.{answer_numbers}
use package.Rattle.packing.specs.Packing.{answered_size}
use package.Rattle.packing.specs.Unpacking.{unpacked_refusal, unpacked_fresh, unpacked_move, unpacked_height, unpacked_certificate, unpacked_finalize, unpacked_size, answered_fresh, last_refusal, Numbered, DoneRead, DeliveryRead, PacketRead, MoveRead, SizeRead}
use mathlib.Core.Path.{◌≡◌ as ◌is-kept◌, refl as by-text}
use package.Rattle.packing.specs.Unpacking as page

unpacked_refusal-kept : ℕ → ℕ
unpacked_refusal-kept answer = bit_and answer 255

same-unpacked_refusal : unpacked_refusal-kept is-kept page.unpacked_refusal
unfolding unpacked_refusal-kept page.unpacked_refusal
same-unpacked_refusal = by-text

unpacked_fresh-kept : ℕ → ℕ
unpacked_fresh-kept answer = bit_and (answer / 2 ^ 8) 255

same-unpacked_fresh : unpacked_fresh-kept is-kept page.unpacked_fresh
unfolding unpacked_fresh-kept page.unpacked_fresh
same-unpacked_fresh = by-text

unpacked_move-kept : ℕ → ℕ
unpacked_move-kept answer = bit_and (answer / 2 ^ 8) 255

same-unpacked_move : unpacked_move-kept is-kept page.unpacked_move
unfolding unpacked_move-kept page.unpacked_move
same-unpacked_move = by-text

unpacked_height-kept : ℕ → ℕ
unpacked_height-kept answer = bit_and (answer / 2 ^ 16) 65535

same-unpacked_height : unpacked_height-kept is-kept page.unpacked_height
unfolding unpacked_height-kept page.unpacked_height
same-unpacked_height = by-text

unpacked_certificate-kept : ℕ → ℕ
unpacked_certificate-kept answer = bit_and (answer / 2 ^ 32) 255

same-unpacked_certificate : unpacked_certificate-kept is-kept page.unpacked_certificate
unfolding unpacked_certificate-kept page.unpacked_certificate
same-unpacked_certificate = by-text

unpacked_finalize-kept : ℕ → ℕ
unpacked_finalize-kept answer = bit_and (answer / 2 ^ 40) 255

same-unpacked_finalize : unpacked_finalize-kept is-kept page.unpacked_finalize
unfolding unpacked_finalize-kept page.unpacked_finalize
same-unpacked_finalize = by-text

unpacked_size-kept : ℕ → ℕ
unpacked_size-kept answer = answer / 2 ^ 8

same-unpacked_size : unpacked_size-kept is-kept page.unpacked_size
unfolding unpacked_size-kept page.unpacked_size
same-unpacked_size = by-text

unpacked_frames-kept : ℕ → ℕ
unpacked_frames-kept answer =
    cond (eqb (unpacked_move answer) 0 || eqb (unpacked_move answer) 2) 0
    (cond (eqb (unpacked_finalize answer) 0) 1 2)

same-unpacked_frames : unpacked_frames-kept is-kept page.unpacked_frames
unfolding unpacked_frames-kept page.unpacked_frames
same-unpacked_frames = by-text

answered_fresh-kept : Answer Delivery → ℕ
answered_fresh-kept (refused number) = 0
answered_fresh-kept (accepted known) = 0
answered_fresh-kept (accepted fresh) = 1

same-answered_fresh : answered_fresh-kept is-kept page.answered_fresh
unfolding answered_fresh-kept page.answered_fresh
same-answered_fresh = by-text

abbrev last_refusal-kept : ℕ
last_refusal-kept = 16

same-last_refusal : last_refusal-kept is-kept page.last_refusal
same-last_refusal = by-text

abbrev Numbered-kept : {A : Type 0} → Answer A → Type 0
Numbered-kept a = (number : ℕ) → a ≡ refused number → (1 ≤ number) × (number ≤ last_refusal)

same-Numbered : {A : Type 0} → Numbered-kept {A = A} is-kept page.Numbered {A = A}
same-Numbered = by-text

DoneRead-kept : (returned : ℕ) (a : Answer Done) (numbered : Numbered a) (refusal : unpacked_refusal returned ≡ refusal_number a) →
    DoneRead returned a
DoneRead-kept returned a x0 x1 = record { numbered = x0; refusal = x1 }

DeliveryRead-kept : (returned : ℕ) (a : Answer Delivery) (numbered : Numbered a) (refusal : unpacked_refusal returned ≡ refusal_number a) (freshness : unpacked_fresh returned ≡ answered_fresh a) →
    DeliveryRead returned a
DeliveryRead-kept returned a x0 x1 x2 = record { numbered = x0; refusal = x1; freshness = x2 }

PacketRead-kept : (returned : ℕ) (a : Answer Counts) (numbered : Numbered a) (refusal : unpacked_refusal returned ≡ refusal_number a) →
    PacketRead returned a
PacketRead-kept returned a x0 x1 = record { numbered = x0; refusal = x1 }

MoveRead-kept : (returned : ℕ) (a : Answer Move) (numbered : Numbered a) (refusal : unpacked_refusal returned ≡ (answer_numbers a).refusal) (move : unpacked_move returned ≡ (answer_numbers a).move) (height : unpacked_height returned ≡ (answer_numbers a).height) (certificate : unpacked_certificate returned ≡ (answer_numbers a).certificate) (finalize : unpacked_finalize returned ≡ (answer_numbers a).finalize) →
    MoveRead returned a
MoveRead-kept returned a x0 x1 x2 x3 x4 x5 = record { numbered = x0; refusal = x1; move = x2; height = x3; certificate = x4; finalize = x5 }

SizeRead-kept : (returned : ℕ) (a : Answer ℕ) (numbered : Numbered a) (refusal : unpacked_refusal returned ≡ refusal_number a) (size : unpacked_size returned ≡ answered_size a) →
    SizeRead returned a
SizeRead-kept returned a x0 x1 x2 = record { numbered = x0; refusal = x1; size = x2 }
