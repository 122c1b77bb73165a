-- Where the fields of the frame's height stand in a book that meets `KeepsStatement`.
use Rattle.std.specs.Prelude.{suc, ℕ, ◌+◌, ◌-◌, ◌*◌, ◌≤◌, ◌<◌, ◌≡◌, refl}
use native.Mathlib.Omega.{arith}
use Rattle.std.proofs.Common.{sym, ap, ◌∙◌}
use Rattle.std.proofs.Math.ListN.{length-set}
use Rattle.protocol.specs.SoundState.{SoundHeight}
use Rattle.protocol.specs.Bytes.{Bytes, byte_at, word16, part}
use Rattle.protocol.specs.Frame.{frame_height}
use Rattle.protocol.specs.Answer.{Delivery}
use Rattle.protocol.specs.State.{State, Height, at, last, decode, with_height, vote_of, book_heights}
use Rattle.protocol.specs.Sound.{view}
use Rattle.protocol.proofs.Laws.CodecLaws.{last_decode}
use Rattle.protocol.proofs.Laws.PlaceLaws.{suc_pred}
use Rattle.protocol.proofs.Laws.DeliverLaws.{Accepts}
use Rattle.protocol.proofs.Laws.SoundLaws.{sound_decode}
use Rattle.protocol.proofs.Laws.FieldLaws.{read_status, read_certificate_mask, read_dummy_mask, read_finalize_mask}
use Rattle.protocol.proofs.Laws.FieldLaws.{read_voter_mask, read_proposal, read_notarized, read_vote}
use Rattle.call_laws.specs.KeptBytes.{content_at, body_at}
use Rattle.call_laws.specs.Keeping.{KeepsStatement}

-- what a book after a delivery has of the frame's height, and where
module _ (book frame after : Bytes) where
  abbrev h : ℕ
  h = frame_height frame

  abbrev c : ℕ
  c = content_at (book_heights book) h

  abbrev d : ℕ
  d = body_at (book_heights book) h

  abbrev y : Height
  y = at (decode after) h

  pub record KeptFields : Type 0 where
    pub same_n : (decode after).n ≡ (decode book).n
    pub sound : SoundHeight (view (decode after)) h y
    pub status : byte_at after (c + 1) ≡ y.status
    pub certificate : word16 after (c + 2) ≡ y.certificate_mask
    pub dummies : word16 after (c + 4) ≡ y.dummy_mask
    pub finalizes : word16 after (c + 6) ≡ y.finalize_mask
    pub voters : word16 after (c + 8) ≡ y.voter_mask
    pub proposal : part after d 176 ≡ y.proposal
    pub notarized : part after (d + 176) 176 ≡ y.notarized
    pub vote : (t : ℕ) → t < 16 → part after (d + (352 + 32 * t)) 32 ≡ vote_of y t

  pub kept_fields : {digest : Bytes → Bytes} {news : Delivery} → Accepts digest book frame →
      KeepsStatement digest book frame news after → KeptFields
  kept_fields {digest} accepts is = record {
    same_n = ap (λ (s : State). s.n) is.keeps.elsewhere ∙ unfold with_height in refl;
    sound = (sound_decode digest after is.stays_sound).each h low (rw same_last accepts.read.high);
    status = rw there at (read_status after (h - 1) inside);
    certificate = rw there at (read_certificate_mask after (h - 1) inside);
    dummies = rw there at (read_dummy_mask after (h - 1) inside);
    finalizes = rw there at (read_finalize_mask after (h - 1) inside);
    voters = rw there at (read_voter_mask after (h - 1) inside);
    proposal = rw (there, same_heights) at (read_proposal after (h - 1) inside);
    notarized = rw (there, same_heights) at (read_notarized after (h - 1) inside);
    vote = λ t few.
        let e : d + 352 + 32 * t ≡ d + (352 + 32 * t) = omega arith in
        rw (there, same_heights, e) at (read_vote after (h - 1) inside t few);
  }
    where
      low : 1 ≤ h
      low = accepts.read.low

      there : suc (h - 1) ≡ h
      there = suc_pred h low

      same_last : last (decode after) ≡ last (decode book)
      same_last = ap last is.keeps.elsewhere ∙ unfold last with_height in
          length-set (decode book).heights (h - 1) (at (decode after) h)

      same_heights : book_heights after ≡ book_heights book
      same_heights = sym (last_decode after) ∙ same_last ∙ last_decode book

      inside : h - 1 < book_heights after
      inside = let a = low in let b = accepts.read.high in omega (arith, last_decode book, same_heights)
