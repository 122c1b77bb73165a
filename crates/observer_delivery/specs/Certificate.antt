-- A certificate that an observer is given: what is granted of one that passes the rows, and what it leaves.
use Rattle.std.specs.Prelude.{ℕ, ◌≤◌, ◌≡◌, false}
use Rattle.std.proofs.Math.Option.{Option, some, none}
use Rattle.protocol.specs.Bytes.{Bytes}
use Rattle.protocol.specs.Frame.{kind, frame_height}
use Rattle.protocol.specs.State.{Height, with_height, is_notarized}
use Rattle.protocol.specs.SoundState.{SoundHeight}
use Rattle.protocol.specs.ReadFrame.{ReadFrame}
use Rattle.protocol.specs.Sound.{view}
use Rattle.protocol.specs.Answer.{Outcome, Delivery, accepted, known, fresh}
use Rattle.protocol.specs.Observer.{observed, observer_state, encode_observer}
use Rattle.book_fields.specs.Book.{ObserverReady, Within, observed_in}

-- a certificate that passes all rows, and its height
pub record CertificateRead (book : Bytes) (h : ℕ) (frame : Bytes) : Type 0 where
  pub ready : ObserverReady book
  pub within : Within book h
  pub numbers : SoundHeight (view (observer_state book)) h (observed_in book h)
  pub empty : is_notarized (observed_in book h) ≡ false → (observed_in book h).status ≡ 0
  pub read : ReadFrame (observer_state book) frame
  pub certificate : 5 ≤ kind frame
  pub height : h ≡ frame_height frame

-- what a certificate of height `h` leaves, by what is kept of it
unfoldable pub kept_at : Bytes → ℕ → Option Height → Outcome Delivery
kept_at book h none = record { answer = accepted known; book = book }
kept_at book h (some x) =
    record { answer = accepted fresh; book = encode_observer (observed (with_height (observer_state book) h x)) }
