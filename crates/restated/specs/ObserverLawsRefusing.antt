-- Written by tests/restated --write: what docs/statements has of
-- crates/observer_laws/specs/Refusing.antt.
use Rattle.std.specs.Prelude.{◌≡◌, true, ◌&&◌, List, [], ◌∷◌, ◌++◌}
use package.Rattle.protocol.specs.Bytes.{Bytes, same}
use package.Rattle.protocol.specs.Tests.{Row, implies, in_range}
use package.Rattle.protocol.specs.Mask.{below_bit}
use package.Rattle.protocol.specs.Frame.{kind, frame_height, signer_mask, frame_block, frame_well_formed, is_certificate, is_statement}
use package.Rattle.protocol.specs.Frame.{is_block_certificate}
use package.Rattle.protocol.specs.State.{State, Height, at, last, is_notarized}
use package.Rattle.protocol.specs.View.{quorum}
use package.Rattle.protocol.specs.Sound.{view}
use package.Rattle.protocol.specs.Answer.{refused}
use package.Rattle.protocol.specs.Observer.{observer_state}
use package.Rattle.protocol.specs.ObserverSound.{observer_sound}
use package.Rattle.protocol.specs.ObserverCalls.{observer_deliver_call}
use package.Rattle.observer_laws.specs.Refusing.{certificate_rows, notarized_row}
use mathlib.Core.Path.{◌≡◌ as ◌is-kept◌, refl as by-text}
use package.Rattle.observer_laws.specs.Refusing as page

certificate_rows-kept : State → Bytes → List Row
certificate_rows-kept s frame =
    (4, frame_well_formed frame) ∷
    (16, is_certificate (kind frame)) ∷
    (6, in_range 1 (last s) (frame_height frame)) ∷
    (5, below_bit s.n (signer_mask frame)) ∷
    (9, quorum (view s) (signer_mask frame)) ∷ []

same-certificate_rows : certificate_rows-kept is-kept page.certificate_rows
unfolding certificate_rows-kept page.certificate_rows
same-certificate_rows = by-text

notarized_row-kept : State → Bytes → Row
notarized_row-kept s frame =
    let x : Height = at s (frame_height frame) in
    (10, implies (is_block_certificate (kind frame) && is_notarized x) (same x.notarized (frame_block frame)))

same-notarized_row : notarized_row-kept is-kept page.notarized_row
unfolding notarized_row-kept page.notarized_row
same-notarized_row = by-text

module _ (digest : Bytes → Bytes) where
  refusal_rows-kept : Bytes → Bytes → List Row
  refusal_rows-kept book frame =
      let s : State = observer_state book in
      (1, observer_sound digest book) ∷ (certificate_rows s frame ++ (notarized_row s frame ∷ []))

  same-refusal_rows : refusal_rows-kept is-kept page.refusal_rows digest
  unfolding refusal_rows-kept page.refusal_rows
  same-refusal_rows = by-text

  RefusesStatements-kept : Type 0
  RefusesStatements-kept = (book frame : Bytes) → observer_sound digest book ≡ true → frame_well_formed frame ≡ true →
      is_statement (kind frame) ≡ true →
      observer_deliver_call digest book frame ≡ record { answer = refused 16; book = book }

  same-RefusesStatements : RefusesStatements-kept is-kept page.RefusesStatements digest
  unfolding RefusesStatements-kept page.RefusesStatements
  same-RefusesStatements = by-text
