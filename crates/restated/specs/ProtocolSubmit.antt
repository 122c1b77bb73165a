-- Written by tests/restated --write: what docs/statements has of
-- crates/protocol/specs/Submit.antt.
use Rattle.std.specs.Prelude.{◌-◌, ◌*◌, ◌||◌, not, List, [], ◌∷◌, ◌++◌, length, eqb, ltb}
use package.Rattle.protocol.specs.Bytes.{Bytes, zeros, join, holds, without}
use package.Rattle.protocol.specs.Tests.{Row, first_refusal}
use package.Rattle.protocol.specs.Block.{entry_size}
use package.Rattle.protocol.specs.State.{State, encode, decode, pending, pool_size, renewed, maximum_pending}
use package.Rattle.protocol.specs.Sound.{sound, log}
use package.Rattle.protocol.specs.Answer.{Outcome, Done, done, accepted, unless_refused}
use package.Rattle.protocol.specs.Submit.{with_pending, still_pending}
use mathlib.Core.Path.{◌≡◌ as ◌is-kept◌, refl as by-text}
use package.Rattle.protocol.specs.Submit as page

with_pending-kept : State → List Bytes → State
with_pending-kept s es =
    renewed s s.flags s.current s.finalized (length es) (join es ++ zeros (pool_size - entry_size * length es))
    s.heights

same-with_pending : with_pending-kept is-kept page.with_pending
unfolding with_pending-kept page.with_pending
same-with_pending = by-text

still_pending-kept : State → List Bytes
still_pending-kept s = without (log s) (pending s)

same-still_pending : still_pending-kept is-kept page.still_pending
unfolding still_pending-kept page.still_pending
same-still_pending = by-text

module _ (digest : Bytes → Bytes) where
  abbrev submit_rows : Bytes → Bytes → List Row
  submit_rows = page.submit_rows digest

  submit_rows-kept : Bytes → Bytes → List Row
  submit_rows-kept book entry =
      let s : State = decode book in
      (1, sound digest book) ∷
      (4, eqb (length entry) entry_size) ∷
      (13, not (holds entry (pending s) || holds entry (log s))) ∷
      (12, ltb (length (still_pending s)) maximum_pending) ∷ []

  same-submit_rows : submit_rows-kept is-kept page.submit_rows digest
  unfolding submit_rows-kept page.submit_rows
  same-submit_rows = by-text

  submit_call-kept : Bytes → Bytes → Outcome Done
  submit_call-kept book entry =
      let s : State = decode book in
      unless_refused (first_refusal (submit_rows book entry)) book
      (record { answer = accepted done; book = encode (with_pending s (still_pending s ++ (entry ∷ []))) })

  same-submit_call : submit_call-kept is-kept page.submit_call digest
  unfolding submit_call-kept page.submit_call
  same-submit_call = by-text
