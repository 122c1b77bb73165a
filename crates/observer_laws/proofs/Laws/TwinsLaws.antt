-- Proofs of `Twins`: opened with one n and H, both show the same; given the same certificates, they show the same; and
-- idle, each has finalized the largest height that its view finalizes.
use Prim.Native.Nat.{ℕ, zero, suc, ◌≤◌}
use native.Mathlib.Omega.{arith}
use Rattle.std.specs.Prelude.{◌≡◌, refl, ◌⊎◌, true, List, length}
use Rattle.std.proofs.Math.Path.{sym, ap, ap₂, subst}
use Rattle.std.proofs.Common.{◌∙◌, inl, inr, true≢false}
use Rattle.std.proofs.Math.Bool.{false}
use Rattle.std.proofs.Math.Option.{Option, some, none}
use Rattle.std.proofs.Math.ListN.{replicate}
use Rattle.std.proofs.Math.Dec.{ltb}
use borrow.Author.Tests.{ltb-true, ltb-false}
use Rattle.protocol.specs.Bytes.{Bytes}
use Rattle.protocol.specs.Tests.{first_refusal}
use Rattle.protocol.specs.State.{State, at, last, encode, decode, with_head, padded}
use Rattle.protocol.specs.View.{is_finalized, largest_finalized}
use Rattle.protocol.specs.Sound.{view, sound, log}
use Rattle.protocol.specs.Answer.{Outcome, Move, accepted, done, idle, move_number}
use Rattle.protocol.specs.Open.{Opening, opened_weights, new_state, open_rows, open_call}
use Rattle.protocol.specs.Move.{Step, step, moved, unless_move_refused, move_rows, move_call, new_finalized, output_applies}
use Rattle.protocol.specs.Move.{dummy_vote_step, output_step, pass_step, propose_step, block_vote_step}
use Rattle.protocol.specs.Read.{log_size, size_call, read_part, read_buffer}
use Rattle.protocol.specs.Observer.{Observer, as_replica, observed, observer_state}
use Rattle.protocol.specs.ObserverSound.{observer_sound}
use Rattle.protocol.specs.ObserverCalls.{new_observer, new_observed_height, observer_open_call}
use Rattle.protocol.specs.ObserverCalls.{observer_move_call, observer_log_size, observer_size_call, observer_read_part}
use Rattle.protocol.specs.ObserverCalls.{observer_read_buffer}
use Rattle.protocol.proofs.Laws.RowLaws.{not_passed}
use Rattle.protocol.proofs.Laws.StateLaws.{decode_encode}
use Rattle.protocol.proofs.Laws.SoundLaws.{sound_decode, zero_or_settled_in}
use Rattle.protocol.proofs.Laws.LinkedLaws.{finalized_sound}
use Rattle.protocol.proofs.Laws.ParentLaws.{largest_finalized-is}
use Rattle.protocol.proofs.Laws.MoveLaws.{step_cases}
use Rattle.protocol.proofs.Laws.NewStateLaws.{new_shaped}
use Rattle.protocol.proofs.Laws.TestedLaws.{open_tested, open_ranges}
use Rattle.protocol.proofs.Laws.ObserverStateLaws.{observed_as, decode_encode_observer}
use Rattle.protocol.proofs.Laws.ObserverSoundLaws.{sound_observer}
use Rattle.protocol.proofs.Laws.ObserverDeliverLaws.{observer_move_cases}
use Rattle.protocol.proofs.Laws.ObserverAfterLaws.{observer_output}
use Rattle.call_laws.proofs.Laws.SoundStays.{sound_stays_all, sound_opened}
use Rattle.call_laws.proofs.Laws.RefusalsLaws.{refused≢accepted}
use Rattle.observer_laws.specs.Twins.{Histories, opens, observer_opens, book_of, observer_book_of, SameCertificates}
use Rattle.observer_laws.specs.Twins.{SameAnswers, SameLogWhenIdle, Twins, ObserverIdles, all_given}
use Rattle.observer_laws.specs.Twins.{certificates_of}
use Rattle.observer_laws.proofs.Laws.AlikeLaws.{Alike, same_last, same_view, same_log}
use Rattle.observer_laws.proofs.Laws.HearLaws.{alike_over, alike_back, hear_all, hear_all_alike}
use Rattle.observer_laws.proofs.Laws.TwinDeliverLaws.{same_answer}
use Rattle.observer_laws.proofs.Laws.TwinCallLaws.{are_certificates, calls_show, observer_calls_show, state_back}
use Rattle.observer_laws.proofs.Laws.ObserverSoundStays.{observer_sound_stays_all, observer_sound_opened}
use Rattle.observer_laws.proofs.Laws.ObserverSoundStaysLaws.{observer_move_stays}
use Rattle.observer_laws.proofs.Laws.ObserverOpenLaws.{new_shown, opened_by, observer_opened, new_observer_shaped}

-- ---- new books
module _ (way observer_way : Opening) (n heights own : ℕ) (leaders : Bytes) where
  new_alike : opened_weights n observer_way ≡ opened_weights n way → length leaders ≡ heights →
      Alike (new_state way n own leaders) (as_replica (new_observer observer_way n heights))
  unfolding new_state new_observer observed as_replica
  new_alike equal listed = record {
    same_n = refl;
    same_weights = ap padded equal;
    same_heights =
        ap (λ (o : Observer). o.heights) (observed_as (new_observer observer_way n heights)) ∙
        ap (λ (k : ℕ). replicate k new_observed_height) (sym listed) ∙ sym (new_shown leaders);
  }

  -- an opening that is not refused: the leaders are as many as the heights, and the book is the new one
  opened_new : (old : Bytes) → (open_call way old n own heights leaders).answer ≡ accepted done →
      (length leaders ≡ heights) × ((open_call way old n own heights leaders).book ≡ encode (new_state way n own leaders))
  unfolding open_call
  opened_new old opened =
      let (passes, is) = opened_by (open_rows way old n own heights leaders) old
      (encode (new_state way n own leaders)) opened in
      ((open_ranges way n own heights leaders (open_tested way n own heights leaders old passes).in_ranges_lem).listed, is)

  opened_alike : opened_weights n observer_way ≡ opened_weights n way → (old observer_old : Bytes) →
      (open_call way old n own heights leaders).answer ≡ accepted done →
      (observer_open_call observer_way observer_old n heights).answer ≡ accepted done →
      Alike (decode (open_call way old n own heights leaders).book)
      (observer_state (observer_open_call observer_way observer_old n heights).book)
  opened_alike equal old observer_old opened observer-is =
      let (listed, made) = opened_new old opened in
      let (passes, observer_made) = observer_opened observer_way observer_old n heights observer-is in
      subst (λ (s : State). Alike s (observer_state (observer_open_call observer_way observer_old n heights).book))
      (sym (ap decode made ∙ decode_encode (new_state way n own leaders) (new_shaped way n own leaders)))
      (subst (λ (t : State). Alike (new_state way n own leaders) t)
      (sym (ap observer_state observer_made ∙ ap as_replica
      (decode_encode_observer (new_observer observer_way n heights) (new_observer_shaped observer_way n heights))))
      (new_alike equal listed))

-- ---- idle
module _ (digest : Bytes → Bytes) where
  -- where no output applies, the finalized height is the largest one
  largest_finalized_lem : (s : State) → (s.finalized ≡ 0) ⊎ (is_finalized digest (view s) s.finalized ≡ true) →
      output_applies digest s ≡ false → s.finalized ≡ new_finalized digest s
  unfolding output_applies new_finalized
  largest_finalized_lem s final none-applies =
      let high : largest_finalized digest (view s) (last s) ≤ s.finalized = ltb-false _ _ none-applies in
      let low : s.finalized ≤ largest_finalized digest (view s) (last s) =
      at_most s.finalized (zero_or_settled_in digest s final) final in
      omega arith
    where
      at_most : (g : ℕ) → g ≤ last s → (g ≡ 0) ⊎ (is_finalized digest (view s) g ≡ true) →
          g ≤ largest_finalized digest (view s) (last s)
      at_most zero inside e = omega arith
      at_most (suc g) inside (inl e) = absurd (omega arith)
      at_most (suc g) inside (inr e) = (largest_finalized-is digest (view s) (last s)).most (suc g) (omega arith) inside
          (finalized_sound digest (view s) (suc g) e)

  same_largest : {s t : State} → Alike s t → new_finalized digest t ≡ new_finalized digest s
  unfolding new_finalized
  same_largest alike = ap₂ (largest_finalized digest) (same_view alike) (same_last alike)

  -- an idle step
  idle_step_lem : (s : State) → (step digest s).move ≡ idle → output_applies digest s ≡ false
  unfolding dummy_vote_step output_step pass_step propose_step block_vote_step move_number
  idle_step_lem s = step_cases digest s (λ (st : Step). st.move ≡ idle → output_applies digest s ≡ false)
      (λ _ e. absurd (omega (arith, ap move_number e)))
      (λ _ _ e. absurd (omega (arith, ap move_number e)))
      (λ _ no_output _ _. no_output) (λ _ no_output _ _ _. no_output) (λ _ no_output _ _ _ _. no_output)
      (λ _ no_output _ _ _ _. no_output)

  same_move : {m k : Move} → accepted m ≡ accepted k → m ≡ k
  same_move e = cc

  idle_replica : (book reply : Bytes) → (move_call digest book reply).answer ≡ accepted idle →
      output_applies digest (decode book) ≡ false
  unfolding move_call
  idle_replica book reply is = go (first_refusal (move_rows digest book reply)) is
    where
      go : (refusal : Option ℕ) →
          (unless_move_refused refusal book reply (step digest (decode book))).answer ≡ accepted idle →
          output_applies digest (decode book) ≡ false
      go none e = unfold unless_move_refused moved in idle_step_lem (decode book) (same_move e)
      go (some number) e = unfold unless_move_refused in absurd (refused≢accepted number idle e)

  idle_observer : (book : Bytes) → (observer_move_call digest book).answer ≡ accepted idle →
      output_applies digest (observer_state book) ≡ false
  unfolding move_number
  idle_observer book = observer_move_cases digest book
      (λ (o : Outcome Move). o.answer ≡ accepted idle → output_applies digest (observer_state book) ≡ false)
      (λ _ e. absurd (refused≢accepted 1 idle e))
      (λ _ none-applies _. none-applies)
      (λ _ _ e. absurd (omega (arith, ap move_number (same_move e))))

  -- ---- the same log
  module _ (book observer_book : Bytes) (was : sound digest book ≡ true)
      (observer_was : observer_sound digest observer_book ≡ true)
      (alike : Alike (decode book) (observer_state observer_book)) where
    logs_same : output_applies digest (decode book) ≡ false → output_applies digest (observer_state observer_book) ≡ false →
        log (observer_state observer_book) ≡ log (decode book)
    logs_same rests observer_rests = same_log alike
        (largest_finalized_lem (observer_state observer_book) observer_final observer_rests ∙
        same_largest alike ∙
        sym (largest_finalized_lem (decode book) (sound_decode digest book was).final rests))
      where
        observer_final : ((observer_state observer_book).finalized ≡ 0) ⊎
            (is_finalized digest (view (observer_state observer_book)) (observer_state observer_book).finalized ≡ true)
        observer_final = unfold as_replica in (sound_observer digest observer_book observer_was).final

    pub idle_same : SameLogWhenIdle digest book observer_book
    unfolding SameLogWhenIdle observer_size_call size_call observer_log_size log_size observer_read_part read_part
        observer_read_buffer read_buffer
    idle_same reply rests observer_rests =
        let same : log (observer_state observer_book) ≡ log (decode book) =
        logs_same (idle_replica book reply rests) (idle_observer observer_book observer_rests) in
        record {
          same_size = rw (was, observer_was, same);
          same_part = λ buffer. rw (was, observer_was, same);
          same_buffer = λ buffer. rw (was, observer_was, same);
        }

  -- ---- the claim
  module _ (both : Histories) (is : SameCertificates digest both) where
    was : sound digest (opens both).book ≡ true
    was = sound_opened digest both.way both.old both.n both.own both.heights both.leaders is.opened

    observer_was : observer_sound digest (observer_opens both).book ≡ true
    observer_was = observer_sound_opened digest both.observer_way both.observer_old both.n both.heights
        is.observer_opened

    pub book_sound : sound digest (book_of digest both) ≡ true
    book_sound = sound_stays_all digest (opens both).book both.calls was

    pub observer_book_sound : observer_sound digest (observer_book_of digest both) ≡ true
    observer_book_sound = observer_sound_stays_all digest (observer_opens both).book both.observer_calls observer_was

    -- what the observer shows, by the replica's certificates
    observer_shows : Alike
        (hear_all digest (observer_state (observer_opens both).book) (certificates_of (all_given both.calls)))
        (observer_state (observer_book_of digest both))
    observer_shows =
        subst (λ (frames : List Bytes). Alike (hear_all digest (observer_state (observer_opens both).book) frames)
        (observer_state (observer_book_of digest both))) is.same
        (observer_calls_show digest (observer_opens both).book observer_was both.observer_calls
        is.observer_opened_once)

    pub alike : Alike (decode (book_of digest both)) (observer_state (observer_book_of digest both))
    alike =
        alike_over
        (alike_back (calls_show digest (opens both).book was both.calls is.opened_once is.certificates))
        (alike_over
        (hear_all_alike digest
        (opened_alike both.way both.observer_way both.n both.heights both.own both.leaders
        is.same_weights both.old both.observer_old is.opened is.observer_opened)
        (certificates_of (all_given both.calls)) (are_certificates (all_given both.calls)))
        observer_shows)

  pub twins : Twins digest
  unfolding Twins SameAnswers
  twins both is = (
    same_answer digest _ _ (book_sound both is) (observer_book_sound both is) (alike both is),
    idle_same _ _ (book_sound both is) (observer_book_sound both is) (alike both is),
  )

  -- ---- an observer's moves
  -- where no output applies, a move answers idle
  rests_idle : (book : Bytes) → observer_sound digest book ≡ true → output_applies digest (observer_state book) ≡ false →
      (observer_move_call digest book).answer ≡ accepted idle
  rests_idle book is rests = observer_move_cases digest book (λ (o : Outcome Move). o.answer ≡ accepted idle)
      (λ unsound. absurd (true≢false (sym is ∙ unsound))) (λ _ _. refl)
      (λ _ applies. absurd (true≢false (sym applies ∙ rests)))

  abbrev Rests : State → Type 0
  Rests t = output_applies digest t ≡ false

  -- after an output no other one applies
  output_rests : (t : State) → Rests (with_head t t.flags t.current (new_finalized digest t))
  unfolding output_applies new_finalized with_head view at last
  output_rests t = none_below_itself (largest_finalized digest (view t) (last t))
    where
      none_below_itself : (g : ℕ) → ltb g g ≡ false
      none_below_itself g = not_passed (ltb g g) (λ e. omega (arith, ltb-true g g e))

  moved_rests : (book : Bytes) (move : Move) → (observer_move_call digest book).answer ≡ accepted move →
      (observer_sound digest book ≡ true) ×
      (output_applies digest (observer_state (observer_move_call digest book).book) ≡ false)
  unfolding output_step
  moved_rests book move = observer_move_cases digest book
      (λ (o : Outcome Move). o.answer ≡ accepted move →
      (observer_sound digest book ≡ true) × (output_applies digest (observer_state o.book) ≡ false))
      (λ _ e. absurd (refused≢accepted 1 move e))
      (λ is rests _. (is, subst Rests (sym (state_back digest book is)) rests))
      (λ is _ _. (
        is,
        subst Rests (sym (observer_output digest book is (new_finalized digest (observer_state book))))
            (output_rests (observer_state book)),
      ))

  pub observer_idles : ObserverIdles digest
  unfolding ObserverIdles
  observer_idles book move e =
      let (is, rests) = moved_rests book move e in
      rests_idle (observer_move_call digest book).book (observer_move_stays digest book is) rests
