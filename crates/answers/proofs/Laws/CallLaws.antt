-- What each call answers, row by row: the first test that fails decides.
use Rattle.std.specs.Prelude.{ℕ, ◌≡◌, true, false, [], ◌∷◌, length, eqb, leb}
use Rattle.sha256.specs.Digest.{sha256}
use Rattle.protocol.specs.Bytes.{Bytes, over_front}
use Rattle.protocol.specs.Tests.{in_range, first_refusal}
use Rattle.protocol.specs.State.{State, decode, encode, last, book_size}
use Rattle.protocol.specs.Sound.{sound}
use Rattle.protocol.specs.Frame.{is_certificate}
use Rattle.protocol.specs.Answer.{Outcome, Done, done, refused, accepted, unless_refused}
use Rattle.protocol.specs.Open.{Opening, new_state, open_in_range, open_rows, open_call}
use Rattle.protocol.specs.Signal.{signal_rows, signal_call}
use Rattle.protocol.specs.Fetch.{FetchOutcome, has_certificate, unless_fetch_refused, fetch_rows, fetch_call}
use Rattle.protocol.specs.Certificates.{certificate_frame}

-- a call that refuses: its number, and the book as it was
abbrev pub refusal : Bytes → ℕ → Outcome Done
refusal book number = record { answer = refused number; book = book }

-- a call that was done, and the book that it leaves
abbrev pub doing : State → Outcome Done
doing s = record { answer = accepted done; book = encode s }

-- ---- Open
module _ (way : Opening) (book : Bytes) (n own heights : ℕ) (leaders : Bytes) where
  pub open_unfit : open_in_range way n own heights leaders ≡ false →
      open_call way book n own heights leaders ≡ refusal book 2
  unfolding open_call open_rows first_refusal unless_refused
  open_unfit e = rw e

  pub open_short : open_in_range way n own heights leaders ≡ true → eqb (length book) (book_size heights) ≡ false →
      open_call way book n own heights leaders ≡ refusal book 1
  unfolding open_call open_rows first_refusal unless_refused
  open_short e f = rw (e, f)

  pub open_done : open_in_range way n own heights leaders ≡ true → eqb (length book) (book_size heights) ≡ true →
      open_call way book n own heights leaders ≡ doing (new_state way n own leaders)
  unfolding open_call open_rows first_refusal unless_refused
  open_done e f = rw (e, f)

-- ---- Signal
module _ (book : Bytes) (h : ℕ) where
  pub signal_unsound : sound sha256 book ≡ false → signal_call sha256 book h ≡ refusal book 1
  unfolding signal_call signal_rows first_refusal unless_refused
  signal_unsound e = rw e

-- ---- Fetch
-- a fetch that refuses: its number, and the reply as it was
abbrev pub no_frame : Bytes → ℕ → FetchOutcome
no_frame reply number = record { answer = refused number; reply = reply; frames = [] }

module _ (book : Bytes) (k h : ℕ) (reply : Bytes) where
  pub fetch_unsound : sound sha256 book ≡ false → fetch_call sha256 book k h reply ≡ no_frame reply 1
  unfolding fetch_call fetch_rows first_refusal unless_fetch_refused
  fetch_unsound e = rw e

  module _ (e : sound sha256 book ≡ true) where
    pub fetch_unknown : is_certificate k ≡ false → fetch_call sha256 book k h reply ≡ no_frame reply 4
    unfolding fetch_call fetch_rows first_refusal unless_fetch_refused
    fetch_unknown f = rw (e, f)

    module _ (f : is_certificate k ≡ true) where
      pub fetch_outside : in_range 1 (last (decode book)) h ≡ false → fetch_call sha256 book k h reply ≡ no_frame reply 6
      unfolding fetch_call fetch_rows first_refusal unless_fetch_refused
      fetch_outside g = rw (e, f, g)

      module _ (g : in_range 1 (last (decode book)) h ≡ true) where
        pub fetch_short : leb 224 (length reply) ≡ false → fetch_call sha256 book k h reply ≡ no_frame reply 3
        unfolding fetch_call fetch_rows first_refusal unless_fetch_refused
        fetch_short l = rw (e, f, g, l)

        pub fetch_lacking : leb 224 (length reply) ≡ true → has_certificate (decode book) k h ≡ false →
            fetch_call sha256 book k h reply ≡ no_frame reply 11
        unfolding fetch_call fetch_rows first_refusal unless_fetch_refused
        fetch_lacking l m = rw (e, f, g, l, m)

        pub fetch_done : leb 224 (length reply) ≡ true → has_certificate (decode book) k h ≡ true →
            fetch_call sha256 book k h reply ≡ (record {
              answer = accepted done;
              reply =
                  over_front (certificate_frame (decode book) k h) reply;
              frames =
                  certificate_frame (decode book) k h ∷ [];
            })
        unfolding fetch_call fetch_rows first_refusal unless_fetch_refused
        fetch_done l m = rw (e, f, g, l, m)
