-- Written by tests/restated --write: what docs/statements has of
-- crates/protocol/proofs/Laws/ObserverDeliverLaws.antt.
use Rattle.std.specs.Prelude.{◌≤◌, ◌≡◌}
use Rattle.std.proofs.Math.Bool.{true}
use Rattle.std.proofs.Math.Option.{none}
use package.Rattle.protocol.specs.ReadFrame.{ReadFrame}
use package.Rattle.protocol.specs.Bytes.{Bytes}
use package.Rattle.protocol.specs.Tests.{first_refusal}
use package.Rattle.protocol.specs.Frame.{kind}
use package.Rattle.protocol.specs.Deliver.{read_rows}
use package.Rattle.protocol.specs.Observer.{observer_state}
use package.Rattle.protocol.specs.ObserverSound.{observer_sound}
use package.Rattle.protocol.proofs.Laws.DeliverLaws.{Agrees}
use Rattle.std.specs.Prelude.{ℕ}
use Rattle.std.proofs.Math.Option.{some}
use package.Rattle.protocol.specs.Frame.{frame_height}
use package.Rattle.protocol.specs.State.{Height, with_height}
use package.Rattle.protocol.specs.Answer.{Outcome, Delivery, refused, accepted, known, fresh}
use package.Rattle.protocol.specs.Deliver.{keep}
use package.Rattle.protocol.specs.Observer.{observed}
use package.Rattle.protocol.specs.Observer.{encode_observer}
use package.Rattle.protocol.specs.ObserverCalls.{observer_deliver_rows, observer_deliver_call}
use package.Rattle.protocol.proofs.Laws.ObserverDeliverLaws.{ObserverAccepts}
use mathlib.Core.Path.{◌≡◌ as ◌is-kept◌, refl as by-text}
use package.Rattle.protocol.proofs.Laws.ObserverDeliverLaws as page

ObserverAccepts-kept : (digest : Bytes → Bytes) (book frame : Bytes) (was_sound : observer_sound digest book ≡ true) (certificate : 5 ≤ kind frame) (passes : first_refusal (read_rows (observer_state book) frame) ≡ none) (read : ReadFrame (observer_state book) frame) (agrees : Agrees (observer_state book) frame) →
    ObserverAccepts digest book frame
ObserverAccepts-kept digest book frame x0 x1 x2 x3 x4 = record { was_sound = x0; certificate = x1; passes = x2; read = x3; agrees = x4 }

pub observer_accepts-kept : (digest : Bytes → Bytes) (book frame : Bytes) →
    first_refusal (observer_deliver_rows digest book frame) ≡ none → ObserverAccepts digest book frame
observer_accepts-kept = page.observer_accepts

module _ (digest : Bytes → Bytes) (book : Bytes) where
  pub observer_deliver_cases-kept : (frame : Bytes) (P : Outcome Delivery → Type 0) →
      ((number : ℕ) → first_refusal (observer_deliver_rows digest book frame) ≡ some number →
      P (record { answer = refused number; book = book })) →
      (ObserverAccepts digest book frame → keep digest (observer_state book) frame ≡ none →
      P (record { answer = accepted known; book = book })) →
      ((y : Height) → ObserverAccepts digest book frame → keep digest (observer_state book) frame ≡ some y →
      P (record {
        answer = accepted fresh;
        book = encode_observer (observed (with_height (observer_state book) (frame_height frame) y));
      })) →
      P (observer_deliver_call digest book frame)
  observer_deliver_cases-kept = page.observer_deliver_cases digest book
