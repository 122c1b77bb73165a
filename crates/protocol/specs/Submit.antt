-- Submit: one more pending entry, after those that the log holds are dropped.
use Rattle.std.specs.Prelude.{◌-◌, ◌*◌, ◌||◌, not, List, [], ◌∷◌, ◌++◌, length, eqb, ltb}
use Rattle.protocol.specs.Bytes.{Bytes, zeros, join, holds, without}
use Rattle.protocol.specs.Tests.{Row, first_refusal}
use Rattle.protocol.specs.Block.{entry_size}
use Rattle.protocol.specs.State.{State, encode, decode, pending, pool_size, renewed, maximum_pending}
use Rattle.protocol.specs.Sound.{sound, log}
use Rattle.protocol.specs.Answer.{Outcome, Done, done, accepted, unless_refused}

-- the state with these pending entries, and zero bytes after them
unfoldable pub with_pending : State → List Bytes → State
with_pending s es =
    renewed s s.flags s.current s.finalized (length es) (join es ++ zeros (pool_size - entry_size * length es))
    s.heights

-- the pending entries that the log does not hold
unfoldable pub still_pending : State → List Bytes
still_pending s = without (log s) (pending s)

module _ (digest : Bytes → Bytes) where
  unfoldable pub submit_rows : Bytes → Bytes → List Row
  submit_rows book entry =
      let s : State = decode book in
      (1, sound digest book) ∷
      (4, eqb (length entry) entry_size) ∷
      (13, not (holds entry (pending s) || holds entry (log s))) ∷
      (12, ltb (length (still_pending s)) maximum_pending) ∷ []

  unfoldable pub submit_call : Bytes → Bytes → Outcome Done
  submit_call book entry =
      let s : State = decode book in
      unless_refused (first_refusal (submit_rows book entry)) book
      (record { answer = accepted done; book = encode (with_pending s (still_pending s ++ (entry ∷ []))) })
