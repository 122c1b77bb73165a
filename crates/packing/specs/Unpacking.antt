-- What the functions of host/include/mavunilai.h read out of the number that a call returned, and what they are to
-- give.
-- UnpackingLaws proves it for each call. The number has 64 bits and no sign, so `answer.packed & 255u` is
-- `bit_and answer 255` here, `answer.packed >> 8` is `answer / 2 ^ 8`, and the cast of a number below 256 changes
-- nothing.
use Rattle.std.specs.Prelude.{ℕ, ◌/◌, ◌^◌, ◌≤◌, ◌≡◌, ◌||◌, cond, eqb}
use Rattle.std.specs.Int.Bits.{bit_and}
use Rattle.protocol.specs.Answer.{Answer, refused, accepted, Done, Delivery, known, fresh, Counts, Move}
use Rattle.protocol.specs.Answer.{refusal_number}
use Rattle.answers.specs.MoveNumbers.{answer_numbers}
use Rattle.packing.specs.Packing.{answered_size}

-- ---- the header's functions
-- mavunilai_refusal
unfoldable pub unpacked_refusal : ℕ → ℕ
unpacked_refusal answer = bit_and answer 255

-- mavunilai_fresh
unfoldable pub unpacked_fresh : ℕ → ℕ
unpacked_fresh answer = bit_and (answer / 2 ^ 8) 255

-- mavunilai_made
unfoldable pub unpacked_move : ℕ → ℕ
unpacked_move answer = bit_and (answer / 2 ^ 8) 255

-- mavunilai_height
unfoldable pub unpacked_height : ℕ → ℕ
unpacked_height answer = bit_and (answer / 2 ^ 16) 65535

-- mavunilai_certificate
unfoldable pub unpacked_certificate : ℕ → ℕ
unpacked_certificate answer = bit_and (answer / 2 ^ 32) 255

-- mavunilai_finalise
unfoldable pub unpacked_finalize : ℕ → ℕ
unpacked_finalize answer = bit_and (answer / 2 ^ 40) 255

-- mavunilai_bytes
unfoldable pub unpacked_size : ℕ → ℕ
unpacked_size answer = answer / 2 ^ 8

-- mavunilai_frames
unfoldable pub unpacked_frames : ℕ → ℕ
unpacked_frames answer =
    cond (eqb (unpacked_move answer) 0 || eqb (unpacked_move answer) 2) 0
    (cond (eqb (unpacked_finalize answer) 0) 1 2)

-- ---- the answer of Deliver as a number, and 0 for a refusal
unfoldable pub answered_fresh : Answer Delivery → ℕ
answered_fresh (refused number) = 0
answered_fresh (accepted known) = 0
answered_fresh (accepted fresh) = 1

-- ---- what they are to give of the number that a call returned, for what the call answers
-- the last number of a refusal: document 01 has 1 to 14, request 2.1 adds 15, and request 2.3 adds 16
abbrev pub last_refusal : ℕ
last_refusal = 16

-- a refusal has one of these numbers: it fits the lowest byte, and it is not 0
abbrev pub Numbered : {A : Type 0} → Answer A → Type 0
Numbered a = (number : ℕ) → a ≡ refused number → (1 ≤ number) × (number ≤ last_refusal)

-- Open, Signal, Submit, Fetch; Open of an observer
pub record DoneRead (returned : ℕ) (a : Answer Done) : Type 0 where
  pub numbered : Numbered a
  pub refusal : unpacked_refusal returned ≡ refusal_number a

-- Deliver, and that of an observer
pub record DeliveryRead (returned : ℕ) (a : Answer Delivery) : Type 0 where
  pub numbered : Numbered a
  pub refusal : unpacked_refusal returned ≡ refusal_number a
  pub freshness : unpacked_fresh returned ≡ answered_fresh a

-- Deliver of a packet
pub record PacketRead (returned : ℕ) (a : Answer Counts) : Type 0 where
  pub numbered : Numbered a
  pub refusal : unpacked_refusal returned ≡ refusal_number a

-- Move, and that of an observer: the numbers that its contract gives
pub record MoveRead (returned : ℕ) (a : Answer Move) : Type 0 where
  pub numbered : Numbered a
  pub refusal : unpacked_refusal returned ≡ (answer_numbers a).refusal
  pub move : unpacked_move returned ≡ (answer_numbers a).move
  pub height : unpacked_height returned ≡ (answer_numbers a).height
  pub certificate : unpacked_certificate returned ≡ (answer_numbers a).certificate
  pub finalize : unpacked_finalize returned ≡ (answer_numbers a).finalize

-- Register size, and that of an observer
pub record SizeRead (returned : ℕ) (a : Answer ℕ) : Type 0 where
  pub numbered : Numbered a
  pub refusal : unpacked_refusal returned ≡ refusal_number a
  pub size : unpacked_size returned ≡ answered_size a
