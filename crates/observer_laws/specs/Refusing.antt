-- What an observer will not take: each call by its rows in order, of which the first that fails gives the number. For
-- Deliver the rows that can fail are 1, 4, 16, 6, 5, 9 and 10; those of document 01 with 7 and 8 ask nothing of a
-- certificate.
use Rattle.std.specs.Prelude.{◌≡◌, true, ◌&&◌, List, [], ◌∷◌, ◌++◌}
use Rattle.protocol.specs.Bytes.{Bytes, same}
use Rattle.protocol.specs.Tests.{Row, implies, in_range}
use Rattle.protocol.specs.Mask.{below_bit}
use Rattle.protocol.specs.Frame.{kind, frame_height, signer_mask, frame_block, frame_well_formed, is_certificate, is_statement}
use Rattle.protocol.specs.Frame.{is_block_certificate}
use Rattle.protocol.specs.State.{State, Height, at, last, is_notarized}
use Rattle.protocol.specs.View.{quorum}
use Rattle.protocol.specs.Sound.{view}
use Rattle.protocol.specs.Answer.{refused}
use Rattle.protocol.specs.Observer.{observer_state}
use Rattle.protocol.specs.ObserverSound.{observer_sound}
use Rattle.protocol.specs.ObserverCalls.{observer_deliver_call}

-- a frame is read over an observer's state: it passes refusals 4, 16, 6, 5 and 9
unfoldable pub certificate_rows : State → Bytes → List Row
certificate_rows s frame =
    (4, frame_well_formed frame) ∷
    (16, is_certificate (kind frame)) ∷
    (6, in_range 1 (last s) (frame_height frame)) ∷
    (5, below_bit s.n (signer_mask frame)) ∷
    (9, quorum (view s) (signer_mask frame)) ∷ []

-- and it certifies no other block than the notarized one
unfoldable pub notarized_row : State → Bytes → Row
notarized_row s frame =
    let x : Height = at s (frame_height frame) in
    (10, implies (is_block_certificate (kind frame) && is_notarized x) (same x.notarized (frame_block frame)))

module _ (digest : Bytes → Bytes) where
  -- all that Deliver asks, in order
  unfoldable pub refusal_rows : Bytes → Bytes → List Row
  refusal_rows book frame =
      let s : State = observer_state book in
      (1, observer_sound digest book) ∷ (certificate_rows s frame ++ (notarized_row s frame ∷ []))

  -- a well-formed frame of kinds 1 to 4 is refused with 16, whatever its height and signer, and the book stays
  unfoldable pub RefusesStatements : Type 0
  RefusesStatements = (book frame : Bytes) → observer_sound digest book ≡ true → frame_well_formed frame ≡ true →
      is_statement (kind frame) ≡ true →
      observer_deliver_call digest book frame ≡ record { answer = refused 16; book = book }
