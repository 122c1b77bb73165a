-- What is written is read by observers: each certificate that Move or Fetch writes is read over every observer's book
-- of the same n whose H is at least the certificate's height, with the same kind, height, signers, digest and block. A
-- sound one refuses it with 10 alone, where it has another block notarized there. Move's frames of kinds 1 to 4 are not
-- meant.
use Rattle.std.specs.Prelude.{ℕ, ◌≤◌, ◌≡◌, ◌≢◌, true, List, map}
use Rattle.std.proofs.Math.Option.{none}
use Rattle.protocol.specs.Bytes.{Bytes}
use Rattle.protocol.specs.Every.{Every}
use Rattle.protocol.specs.Tests.{first_refusal}
use Rattle.protocol.specs.Frame.{kind, frame_height, frame_block, is_certificate}
use Rattle.protocol.specs.State.{State, at, last, decode, is_notarized}
use Rattle.protocol.specs.Answer.{refused}
use Rattle.protocol.specs.Move.{move_call}
use Rattle.protocol.specs.Fetch.{fetch_call}
use Rattle.protocol.specs.Observer.{observer_state}
use Rattle.protocol.specs.ObserverSound.{observer_sound}
use Rattle.protocol.specs.ObserverCalls.{observer_deliver_call}
use Rattle.call_laws.specs.Fields.{fields}
use Rattle.call_laws.specs.Named.{move_answer_fields, fetch_answer_fields}
use Rattle.observer_laws.specs.Refusing.{certificate_rows}

-- a height has another block notarized than the one that a frame certifies
pub record OtherBlock (s : State) (frame : Bytes) : Type 0 where
  pub certifies : kind frame ≡ 5
  pub has_block_lem : is_notarized (at s (frame_height frame)) ≡ true
  pub unlike : (at s (frame_height frame)).notarized ≢ frame_block frame

module _ (digest : Bytes → Bytes) where
  -- a frame is read over an observer's book
  pub record ReadByObserver (book frame : Bytes) : Type 0 where
    -- it passes refusals 4, 16, 6, 5 and 9
    pub read : first_refusal (certificate_rows (observer_state book) frame) ≡ none
    -- and if the book is sound, no number but 10 is left, for another block
    pub refused_with : observer_sound digest book ≡ true → (number : ℕ) →
        (observer_deliver_call digest book frame).answer ≡ refused number →
        (number ≡ 10) × OtherBlock (observer_state book) frame

  -- the certificates among some frames, of heights that the observer has, are read over its book
  unfoldable pub CertificatesRead : List Bytes → Bytes → Type 0
  CertificatesRead frames other = Every (λ (frame : Bytes). is_certificate (kind frame) ≡ true →
      frame_height frame ≤ last (observer_state other) → ReadByObserver other frame) frames

  -- the frames that a move on a replica's `book` writes, and each observer's book
  pub record MoveReadByObserver (book reply other : Bytes) : Type 0 where
    -- they say what the answer names
    pub says : map fields (move_call digest book reply).frames ≡ move_answer_fields digest (decode book)
        (move_call digest book reply).answer
    pub read : CertificatesRead (move_call digest book reply).frames other

  -- the same of Fetch
  pub record FetchReadByObserver (book : Bytes) (k h : ℕ) (reply other : Bytes) : Type 0 where
    pub says : map fields (fetch_call digest book k h reply).frames ≡ fetch_answer_fields (decode book) k h
        (fetch_call digest book k h reply).answer
    pub read : CertificatesRead (fetch_call digest book k h reply).frames other
