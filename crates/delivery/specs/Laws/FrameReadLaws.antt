-- What soundness and the rows of reading grant: a height to read and write, and a frame whose signers are replicas.
use Rattle.std.specs.Prelude.{ℕ, ◌<◌, ◌≡◌, refl, true, length}
use Rattle.std.proofs.Common.{sym, subst}
use Rattle.std.proofs.Math.Option.{none}
use Rattle.protocol.specs.ReadFrame.{ReadFrame}
use Rattle.protocol.specs.SoundState.{HeightRange}
use Rattle.protocol.specs.Bytes.{Bytes, AreBytes}
use Rattle.protocol.specs.Tests.{first_refusal}
use Rattle.protocol.specs.Frame.{frame_height}
use Rattle.protocol.specs.State.{decode, at}
use Rattle.protocol.specs.Sound.{sound}
use Rattle.protocol.proofs.Laws.CodecLaws.{last_decode}
use Rattle.protocol.proofs.Laws.DeliverLaws.{rows_read}
use Rattle.protocol.proofs.Laws.GrantedLaws.{height_range}
use Rattle.protocol.specs.Deliver.{read_rows}
use Rattle.book_fields.specs.Book.{Readable, SoundBook}
use Rattle.book_fields.specs.Laws.BookLaws.{sound_book}
use Rattle.frame_refusals.specs.Given.{Read}

-- a sound book is readable, and its flags are below 16
module _ (digest : Bytes → Bytes) (book : Bytes) (small : AreBytes book) (is : sound digest book ≡ true) where
  pub sound_readable : Readable book
  sound_readable = (sound_book digest book small is).ready.readable

  pub sound_flags : (decode book).flags < 16
  sound_flags = (sound_book digest book small is).state.flags_small

-- ---- a frame that is read
module _ (digest : Bytes → Bytes) (book frame : Bytes) (small : AreBytes book) (is : sound digest book ≡ true)
    (passes : first_refusal (read_rows (decode book) frame) ≡ none) where
  tested : ReadFrame (decode book) frame
  tested = rows_read (decode book) frame passes

  here : Read book (frame_height frame) frame
  here =
      let g : SoundBook digest book = sound_book digest book small is in
      let numbers : HeightRange (decode book).n (at (decode book) (frame_height frame)) =
      height_range digest (decode book) g.state (frame_height frame) tested.low tested.high in
      record {
        spot = record {
          ready = g.ready;
          within = record { low = tested.low; high = rw (last_decode book) at tested.high };
          status_small = numbers.status_small;
        };
        range = numbers;
        read = tested;
        height = refl;
      }

  -- at the height that code read
  pub frame_read : (h : ℕ) → h ≡ frame_height frame → Read book h frame
  frame_read h e = subst (λ (k : ℕ). Read book k frame) (sym e) here

  pub frame_size_lem : length frame ≡ 224
  frame_size_lem = tested.size
