-- What a call answers and leaves: a refusal by number, or what the call did.
use Rattle.std.specs.Prelude.{ℕ, Bool, true, false}
use Rattle.std.proofs.Math.Option.{Option, some, none}
use Rattle.protocol.specs.Bytes.{Bytes}

pub data Answer (A : Type 0) : Type 0 where
  refused : ℕ → Answer A
  accepted : A → Answer A

unfoldable pub is_accepted : {A : Type 0} → Answer A → Bool
is_accepted (refused number) = false
is_accepted (accepted a) = true

-- the answer of a call that says no more than that it was done
pub data Done : Type 0 where
  done : Done

-- the answer of Deliver: whether the book changed
pub data Delivery : Type 0 where
  known : Delivery
  fresh : Delivery

-- the answer of a packet: how many of its frames were fresh, known and refused
pub record Counts : Type 0 where
  pub fresh_frames : ℕ
  pub known_frames : ℕ
  pub refused_frames : ℕ

-- which certificate a pass goes by
pub data Certificate : Type 0 where
  on_block : Certificate
  on_dummy : Certificate

-- the answer of Move, with the height (of an output: the new finalized height)
pub data Move : Type 0 where
  idle : Move
  vote_dummy : ℕ → Move
  output : ℕ → Move
  -- the height, the certificate, and whether the replica finalized
  pass : ℕ → Certificate → Bool → Move
  propose : ℕ → Move
  vote_block : ℕ → Move

-- a call's answer and the book's bytes afterwards
pub record Outcome (A : Type 0) : Type 0 where
  pub answer : Answer A
  pub book : Bytes

-- a call that refuses changes nothing
unfoldable pub unless_refused : {A : Type 0} → Option ℕ → Bytes → Outcome A → Outcome A
unless_refused none book outcome = outcome
unless_refused (some number) book outcome = record { answer = refused number; book = book }

-- ---- document 01's numbers
-- a refusal's number, and 0 where a call is not refused
unfoldable pub refusal_number : {A : Type 0} → Answer A → ℕ
refusal_number (refused number) = number
refusal_number (accepted a) = 0

-- the kind of a certificate's frame
unfoldable pub certificate_kind : Certificate → ℕ
certificate_kind on_block = 5
certificate_kind on_dummy = 6

-- the kind of a pass's second frame, and 0 where there is none
unfoldable pub finalize_kind : Bool → ℕ
finalize_kind true = 4
finalize_kind false = 0

-- the place of a move in document 01's list, and 0 for idle
unfoldable pub move_number : Move → ℕ
move_number idle = 0
move_number (vote_dummy h) = 1
move_number (output g) = 2
move_number (pass h certificate finalized) = 3
move_number (propose h) = 4
move_number (vote_block h) = 5

-- the height that a move names, and 0 for idle
unfoldable pub move_height : Move → ℕ
move_height idle = 0
move_height (vote_dummy h) = h
move_height (output g) = g
move_height (pass h certificate finalized) = h
move_height (propose h) = h
move_height (vote_block h) = h
