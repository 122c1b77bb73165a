-- Written by tests/restated --write: what docs/statements has of
-- crates/protocol/specs/Signal.antt.
use Rattle.std.specs.Prelude.{ℕ, ◌&&◌, not, List, [], ◌∷◌, eqb}
use package.Rattle.protocol.specs.Bytes.{Bytes}
use package.Rattle.protocol.specs.Tests.{in_range, Row, first_refusal}
use package.Rattle.protocol.specs.State.{State, last, encode, decode, flag, with_timer_fired}
use package.Rattle.protocol.specs.Sound.{sound}
use package.Rattle.protocol.specs.Answer.{Outcome, Done, done, accepted, unless_refused}
use mathlib.Core.Path.{◌≡◌ as ◌is-kept◌, refl as by-text}
use package.Rattle.protocol.specs.Signal as page

module _ (digest : Bytes → Bytes) where
  abbrev signal_rows : Bytes → ℕ → List Row
  signal_rows = page.signal_rows digest

  signal_rows-kept : Bytes → ℕ → List Row
  signal_rows-kept book h =
      let s : State = decode book in
      (1, sound digest book) ∷
      (6, in_range 1 (last s) h) ∷
      (14, eqb h s.current && not (flag 1 s)) ∷ []

  same-signal_rows : signal_rows-kept is-kept page.signal_rows digest
  unfolding signal_rows-kept page.signal_rows
  same-signal_rows = by-text

  signal_call-kept : Bytes → ℕ → Outcome Done
  signal_call-kept book h =
      unless_refused (first_refusal (signal_rows book h)) book
      (record { answer = accepted done; book = encode (with_timer_fired (decode book)) })

  same-signal_call : signal_call-kept is-kept page.signal_call digest
  unfolding signal_call-kept page.signal_call
  same-signal_call = by-text
