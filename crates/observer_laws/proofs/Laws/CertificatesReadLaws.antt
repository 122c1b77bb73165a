-- Proofs of `CertificatesRead`: what is read over a replica's state is read over an observer's of the same n.
use Rattle.std.specs.Prelude.{ℕ, ◌≤◌, Bool, ◌&&◌, List, [], ◌∷◌}
use Rattle.std.proofs.Common.{arith, sym, ap, subst, ◌∙◌, true≢false, eqb-true}
use Rattle.std.proofs.Math.Path.{◌≡◌, refl}
use Rattle.std.proofs.Math.Bool.{true, false, cond}
use Rattle.std.proofs.Math.Option.{some, none}
use Rattle.protocol.specs.Bytes.{Bytes, same}
use Rattle.protocol.specs.Every.{Every, none, one}
use Rattle.protocol.specs.Tests.{first_refusal, implies}
use Rattle.protocol.specs.Mask.{below_bit}
use Rattle.protocol.specs.Frame.{kind, frame_height, signer_mask, frame_block, is_certificate, is_block_certificate}
use Rattle.protocol.specs.State.{State, at, last, decode, is_notarized}
use Rattle.protocol.specs.Sound.{view}
use Rattle.protocol.specs.Observer.{observer_state}
use Rattle.protocol.specs.ObserverSound.{observer_sound}
use Rattle.protocol.proofs.Laws.TestsLaws.{and_both}
use Rattle.protocol.proofs.Laws.RowLaws.{by_tested, pass_row, pass_rows, in_range_lem, range_in, eq_same}
use Rattle.call_laws.specs.Readable.{IsRead, DigestSized}
use Rattle.call_laws.proofs.Laws.GrowsLaws.{same_quorum, views_alike}
use Rattle.call_laws.proofs.Laws.CallWrittenLaws.{same_setting, move_written_read, fetch_written_read}
use Rattle.observer_laws.specs.Refusing.{certificate_rows, notarized_row, refusal_rows}
use Rattle.observer_laws.specs.CertificatesRead.{OtherBlock, ReadByObserver, CertificatesRead}
use Rattle.observer_laws.specs.CertificatesRead.{MoveReadByObserver, FetchReadByObserver}
use Rattle.observer_laws.proofs.Laws.CertificateLaws.{read_rows_of, read_rows_are}
use Rattle.observer_laws.proofs.Laws.RefusingLaws.{observer_deliver_refuses}

-- ---- the rows
read_there : (s t : State) → t.n ≡ s.n → t.weights ≡ s.weights → (frame : Bytes) →
    is_certificate (kind frame) ≡ true →
    frame_height frame ≤ last t → IsRead s frame → first_refusal (certificate_rows t frame) ≡ none
unfolding certificate_rows read_rows_of first_refusal
read_there s t e w frame is high read =
    by_tested (read_rows_of s.n (last s) (view s) frame) (ap first_refusal (sym (read_rows_are frame is s)) ∙ read)
    λ formed height members led enough.
    let (low, below) = in_range_lem 1 (last s) (frame_height frame) height in
    rw (
      formed,
      is,
      range_in 1 (last t) (frame_height frame) low high,
      subst (λ (n : ℕ). below_bit n (signer_mask frame) ≡ true) (sym e) members,
      same_quorum (view s) (view t) _ (views_alike s t e w) enough,
    )

-- ---- what is left
tested_false : (a b : Bool) → implies a b ≡ false → (a ≡ true) × (b ≡ false)
unfolding implies
tested_false true b e = (refl, e)
tested_false false b e = absurd (true≢false e)

-- the row of another block fails only for one
module _ (s : State) (frame : Bytes) where
  abbrev test : Bool
  test = implies (is_block_certificate (kind frame) && is_notarized (at s (frame_height frame)))
      (same (at s (frame_height frame)).notarized (frame_block frame))

  unlike_block : test ≡ false → OtherBlock s frame
  unlike_block e =
      let (both, unlike) = tested_false (is_block_certificate (kind frame) && is_notarized (at s (frame_height frame)))
      (same (at s (frame_height frame)).notarized (frame_block frame)) e in
      let (five, has) = and_both (is_block_certificate (kind frame)) (is_notarized (at s (frame_height frame))) both in
      record {
        certifies = eqb-true _ _ five;
        has_block_lem = has;
        unlike = λ alike. true≢false (sym (eq_same _ _ alike) ∙ unlike);
      }

  other_block_lem : (number : ℕ) → first_refusal (notarized_row s frame ∷ []) ≡ some number →
      (number ≡ 10) × OtherBlock s frame
  unfolding notarized_row first_refusal
  other_block_lem number e = go test refl e
    where
      go : (b : Bool) → test ≡ b → cond b none (some 10) ≡ some number → (number ≡ 10) × OtherBlock s frame
      go true q f = let never : ◌≡◌ {A = ℕ} 0 1 = cc in absurd (omega arith)
      go false q f = (cc, unlike_block q)

module _ (digest : Bytes → Bytes) where
  read_by_observer : (s : State) (other : Bytes) → (observer_state other).n ≡ s.n →
      (observer_state other).weights ≡ s.weights → (frame : Bytes) →
      is_certificate (kind frame) ≡ true → frame_height frame ≤ last (observer_state other) → IsRead s frame →
      ReadByObserver digest other frame
  read_by_observer s other e w frame is high read = record {
    read = passes;
    refused_with = λ is_sound_lem number answer. other_block_lem (observer_state other) frame number
        (sym (rest is_sound_lem) ∙ ((observer_deliver_refuses digest other frame).by_number number).0 answer);
  }
    where
      passes : first_refusal (certificate_rows (observer_state other) frame) ≡ none
      passes = read_there s (observer_state other) e w frame is high read

      rest : observer_sound digest other ≡ true →
          first_refusal (refusal_rows digest other frame) ≡ first_refusal (notarized_row (observer_state other) frame ∷ [])
      rest is_sound_lem = unfold refusal_rows in
          (pass_row _ _ is_sound_lem ∙ pass_rows (certificate_rows (observer_state other) frame) _ passes)

  all_read : (s : State) (other : Bytes) → (observer_state other).n ≡ s.n → (observer_state other).weights ≡ s.weights →
      {frames : List Bytes} →
      Every (IsRead s) frames → CertificatesRead digest frames other
  unfolding CertificatesRead
  all_read s other e w none = none
  all_read s other e w (one {x = frame} read reads) =
      one (λ is high. read_by_observer s other e w frame is high read) (all_read s other e w reads)

  pub move_read_by_observer : DigestSized digest → (book reply other : Bytes) →
      (observer_state other).n ≡ (decode book).n → (observer_state other).weights ≡ (decode book).weights →
      MoveReadByObserver digest book reply other
  move_read_by_observer sized book reply other e w =
      let written = move_written_read digest sized book reply book (same_setting (decode book)) in
      record { says = written.said.says; read = all_read (decode book) other e w written.said.read }

  pub fetch_read_by_observer : (book : Bytes) (k h : ℕ) (reply other : Bytes) →
      (observer_state other).n ≡ (decode book).n → (observer_state other).weights ≡ (decode book).weights →
      FetchReadByObserver digest book k h reply other
  fetch_read_by_observer book k h reply other e w =
      let written = fetch_written_read digest book k h reply book (same_setting (decode book)) in
      record { says = written.said.says; read = all_read (decode book) other e w written.said.read }
