-- Signal: the timer of the current height has fired.
use Rattle.std.specs.Prelude.{ℕ, ◌&&◌, not, List, [], ◌∷◌, eqb}
use Rattle.protocol.specs.Bytes.{Bytes}
use Rattle.protocol.specs.Tests.{in_range, Row, first_refusal}
use Rattle.protocol.specs.State.{State, last, encode, decode, flag, with_timer_fired}
use Rattle.protocol.specs.Sound.{sound}
use Rattle.protocol.specs.Answer.{Outcome, Done, done, accepted, unless_refused}

module _ (digest : Bytes → Bytes) where
  unfoldable pub signal_rows : Bytes → ℕ → List Row
  signal_rows book h =
      let s : State = decode book in
      (1, sound digest book) ∷
      (6, in_range 1 (last s) h) ∷
      (14, eqb h s.current && not (flag 1 s)) ∷ []

  unfoldable pub signal_call : Bytes → ℕ → Outcome Done
  signal_call book h =
      unless_refused (first_refusal (signal_rows book h)) book
      (record { answer = accepted done; book = encode (with_timer_fired (decode book)) })
