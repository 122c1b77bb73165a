-- What the writes of a pass leave: its two frames in the reply and the next height in the book.
use Rattle.std.specs.Prelude.{ℕ, ◌+◌, ◌≡◌, Bool, true, false, not, cond, length}
use Rattle.std.proofs.Common.{arith, ◌∙◌}
use Rattle.std.proofs.Math.Path.{ap}
use Rattle.std.proofs.Common.{[], ◌∷◌, ◌++◌, append-nil}
use Rattle.sha256.specs.Digest.{sha256}
use Rattle.protocol.specs.Bytes.{Bytes, zeros, join, over_front, put}
use Rattle.protocol.proofs.Laws.BytesLaws.{length_zeros}
use Rattle.protocol.proofs.Laws.BuildLaws.{frame_size_lem}
use Rattle.protocol.proofs.Laws.FrontLaws.{goes_on}
use Rattle.protocol.proofs.Laws.TestsLaws.{cond-elim}
use Rattle.protocol.specs.Frame.{finalize, block_certificate, dummy_certificate}
use Rattle.protocol.specs.State.{State, at, encode, flag, with_head}
use Rattle.protocol.specs.Sound.{view}
use Rattle.protocol.specs.View.{linked}
use Rattle.protocol.specs.Answer.{Certificate, pass, certificate_kind}
use Rattle.protocol.specs.Certificates.{certificate_frame}
use Rattle.protocol.specs.Move.{unused, written, passes_by, pass_step}
use Rattle.answers.specs.declared.answer.Moved.TheVariants as Moved
use Rattle.answers.specs.declared.answer.Certificate as code
use Rattle.answers.specs.Answers.{certificate_of}
use Rattle.applies.specs.Took.{Took}
use Rattle.passing.specs.Second.{finalize_on}

-- ---- sizes
pub finalize_size : (s h : ℕ) → length (finalize s h) ≡ 224
unfolding finalize
finalize_size s h = omega (arith, frame_size_lem 4 s h 0 (zeros 32) (zeros 176), length_zeros 32, length_zeros 176)

block_certificate_size : (h mask : ℕ) (block : Bytes) → length block ≡ 176 →
    length (block_certificate h mask block) ≡ 224
unfolding block_certificate
block_certificate_size h mask block size = omega (arith, frame_size_lem 5 0 h mask (zeros 32) block, length_zeros 32)

dummy_certificate_size : (h mask : ℕ) → length (dummy_certificate h mask) ≡ 224
unfolding dummy_certificate
dummy_certificate_size h mask = omega (
  arith,
  frame_size_lem 6 0 h mask (zeros 32) (zeros 176),
  length_zeros 32,
  length_zeros 176,
)

abbrev passed : State → Bytes
passed s = certificate_frame s (certificate_kind (passes_by sha256 s)) s.current

pass_certificate_size : (s : State) → length (at s s.current).notarized ≡ 176 → length (passed s) ≡ 224
unfolding certificate_frame certificate_kind
pass_certificate_size s size =
    cond-elim (λ (by : Certificate). length (certificate_frame s (certificate_kind by) s.current) ≡ 224)
    (linked sha256 (view s) s.current)
    (λ _. block_certificate_size s.current (at s s.current).certificate_mask (at s s.current).notarized
    size)
    (λ _. dummy_certificate_size s.current (at s s.current).dummy_mask)

-- ---- what is written
two_written : (kind : Certificate) (inTime : Bool) (first second : Bytes) (c : ℕ) →
    join (first ∷ cond inTime (second ∷ []) []) ++ zeros (unused (pass c kind inTime)) ≡ first ++ cond inTime second
    (zeros 224)
two_written kind true first second c = unfold join unused zeros in
    append-nil (first ++ (second ++ [])) ∙ ap (λ (x : Bytes). first ++ x) (append-nil second)
two_written kind false first second c = unfold join unused in ap (λ (x : Bytes). x ++ zeros 224) (append-nil first)

pass_written : (s : State) → written (pass_step sha256 s) ≡ passed s ++ cond (not (flag 1 s))
    (finalize s.own s.current) (zeros 224)
unfolding written pass_step
pass_written s = two_written _ (not (flag 1 s)) (passed s) (finalize s.own s.current) s.current

-- ---- the pass
module _ (s : State) (size : length (at s s.current).notarized ≡ 176) where
  pub took_pass : (reply book_after middle replyAfter : Bytes) (c kind : ℕ) (by : code.Certificate) (inTime : Bool) →
      c ≡ s.current → kind ≡ certificate_kind (certificate_of by) → certificate_of by ≡ passes_by sha256 s →
      inTime ≡ not (flag 1 s) →
      middle ≡ over_front (certificate_frame s kind c) reply →
      replyAfter ≡ put middle 224 (finalize_on inTime s) →
      book_after ≡ encode (with_head s 0 (c + 1) s.finalized) →
      Took (pass_step sha256 s) reply (Moved.Pass c by inTime) book_after replyAfter
  unfolding pass_step
  took_pass reply book_after middle replyAfter c kind by inTime c-is kind-is by-is in-time-is first second b = record {
    answer = rw (by-is, c-is, in-time-is);
    book = b ∙ rw c-is;
    reply_is =
        goes_on (passed s) reply middle (finalize_on inTime s) replyAfter 224
        (first ∙ rw (kind-is, by-is, c-is)) (pass_certificate_size s size) second
        ∙ rw (in-time-is, pass_written s);
  }
