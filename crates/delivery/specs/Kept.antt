-- What a kept frame leaves: the height with signers that joined, what is left by it, and Deliver's outcome.
use Rattle.std.specs.Prelude.{ℕ, cond, eqb}
use Rattle.std.proofs.Math.Option.{Option, some, none}
use Rattle.std.specs.Int.Bits.{bit_or}
use Rattle.protocol.specs.Bytes.{Bytes}
use Rattle.protocol.specs.Tests.{first_refusal}
use Rattle.protocol.specs.State.{Height, with_height, encode, decode}
use Rattle.protocol.specs.Answer.{Outcome, Delivery, accepted, known, fresh, unless_refused}
use Rattle.protocol.specs.Deliver.{clash_rows, heard}
use Rattle.book_fields.specs.Numbered.{mask_at, with_mask_at}

-- signers join mask `k` of a height, 1 of the dummy votes or 2 of the finalize statements, unless it holds them all
unfoldable pub join_signers : ℕ → Height → ℕ → Option Height
join_signers k x signers =
    let mask : ℕ = bit_or (mask_at x k) signers in
    cond (eqb mask (mask_at x k)) none (some (with_mask_at x k mask))

-- what a frame of height `h` leaves, by what is kept of it
unfoldable pub kept_at : Bytes → ℕ → Option Height → Outcome Delivery
kept_at book h none = record { answer = accepted known; book = book }
kept_at book h (some x) = record { answer = accepted fresh; book = encode (with_height (decode book) h x) }

-- Deliver's outcome for a sound book and a frame that is read
unfoldable pub read_outcome : (Bytes → Bytes) → Bytes → Bytes → Outcome Delivery
read_outcome digest book frame =
    unless_refused (first_refusal (clash_rows (decode book) frame)) book (heard digest book frame)
