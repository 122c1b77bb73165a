-- Frames written to the front of a reply stand there one after the other.
use Rattle.std.specs.Prelude.{ℕ, zero, suc, ◌+◌, ◌*◌, ◌≤◌, ◌<◌, ◌≡◌, refl, get_or, drop}
use Rattle.std.proofs.Common.{arith, mul-suc, add_comm, subst, ◌∙◌, length-append, take_at, drop-drop}
use mathlib.Core.List.{List, [], ◌∷◌, ◌++◌, append_assoc, append-nil}
use Rattle.std.proofs.Math.ListN.{length, length-drop}
use Rattle.std.proofs.Math.Seq.{drop_at}
use Rattle.protocol.specs.Every.{Every, none, one}
use Rattle.protocol.specs.Bytes.{Bytes, part, zeros, join, over_front, Sized}
use Rattle.protocol.proofs.Laws.PiecesLaws.{length_join}
use Rattle.call_laws.specs.Reply.{Wrote}
use Rattle.protocol.proofs.Laws.BytesLaws.{length_zeros}

-- a piece of pieces that are joined
piece_at : (k : ℕ) (xs : List Bytes) (rest : Bytes) → Every (Sized k) xs → (i : ℕ) → i < length xs →
    part (join xs ++ rest) (k * i) k ≡ get_or xs i []
unfolding part join
piece_at k [] rest sized i l = absurd (omega arith)
piece_at k (x ∷ xs) rest (one e es) zero l =
    let none_before : k * 0 ≡ 0 = omega arith in
    rw (none_before, append_assoc x (join xs) rest) (take_at x (join xs ++ rest) k e)
piece_at k (x ∷ xs) rest (one e es) (suc i) l =
    let place : k * suc i ≡ k + k * i = mul-suc k i ∙ add_comm (k * i) k in
    rw (
      place,
      append_assoc x (join xs) rest,
      ← drop-drop (k * i) k (x ++ (join xs ++ rest)),
      drop_at x (join xs ++ rest) k e,
    )
    (piece_at k xs rest es i (omega arith))

module _ (frames : List Bytes) (sized : Every (Sized 224) frames) (blank : ℕ) (before : Bytes)
    (room : 224 * length frames + blank ≤ length before) where
  abbrev new : Bytes
  new = join frames ++ zeros blank

  abbrev rest : Bytes
  rest = drop (length new) before

  joined : length (join frames) ≡ 224 * length frames
  joined = length_join 224 frames sized

  new_size : length new ≡ 224 * length frames + blank
  new_size = simp (length-append, joined, length_zeros) refl

  pub front_wrote : Wrote frames blank before (over_front new before)
  unfolding over_front
  front_wrote = record {
    frame_at_lem = λ i l. rw (append_assoc (join frames) (zeros blank) rest)
        (piece_at 224 frames (zeros blank ++ rest) sized i l);
    blank_after_lem = blanks;
    rest_kept = drop_at new rest (224 * length frames + blank) new_size ∙ rw new_size refl;
    same_length = simp (length-append, length-drop, joined, length_zeros) (omega arith);
  }
    where
      blanks : part (new ++ rest) (224 * length frames) blank ≡ zeros blank
      blanks = unfold part in
          rw (
            append_assoc (join frames) (zeros blank) rest,
            drop_at (join frames) (zeros blank ++ rest) (224 * length frames) joined,
          )
          (take_at (zeros blank) rest blank (length_zeros blank))

single : (frame : Bytes) → join (frame ∷ []) ++ zeros 0 ≡ frame
unfolding join zeros
single frame = append-nil (frame ++ []) ∙ append-nil frame

-- a reply that one frame is written to
pub one_wrote : (frame before : Bytes) → length frame ≡ 224 → 224 ≤ length before →
    Wrote (frame ∷ []) 0 before (over_front frame before)
one_wrote frame before size room =
    subst (λ (new : Bytes). Wrote (frame ∷ []) 0 before (over_front new before)) (single frame)
    (front_wrote (frame ∷ []) (one size none) 0 before (omega arith))

-- a reply that nothing is written to
pub nothing_wrote : (before : Bytes) → Wrote [] 0 before before
unfolding part zeros
nothing_wrote before = record {
  frame_at_lem = λ i l. absurd (omega arith);
  blank_after_lem = refl;
  rest_kept =
      refl;
  same_length = refl;
}
