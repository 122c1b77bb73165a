-- Open, Signal, Submit and Move leave what `BookBytes` says.
use Rattle.std.specs.Prelude.{ℕ, ◌+◌, ◌-◌, ◌*◌, ◌≤◌, ◌<◌, ◌≡◌, Bool, true, false, cond, eqb, List, [], ◌∷◌, ◌++◌, map}
use Rattle.std.proofs.Common.{arith, ◌∙◌, append_assoc}
use Rattle.std.proofs.Math.Path.{refl, sym, ap}
use Rattle.std.proofs.Math.Option.{Option, some, none}
use Rattle.std.proofs.Math.ListN.{length, set, length-append}
use Rattle.std.proofs.lemmas.List.{length-map}
use borrow.Author.Tests.{le-leb}
use Rattle.protocol.specs.Every.{Every, none, one}
use Rattle.protocol.specs.Bytes.{Bytes, byte_at, le16, zeros, join, AreBytes, put, Sized}
use Rattle.protocol.specs.Tests.{first_refusal}
use Rattle.protocol.proofs.Laws.BytesLaws.{put_all, zeros_add}
use Rattle.protocol.specs.Answer.{done, accepted, unless_refused}
use Rattle.protocol.specs.State.{State, decode, encode, head_bytes, content_bytes, body_bytes, with_head, with_timer_fired}
use Rattle.protocol.specs.State.{pending, with_pool, weight_bytes, padded, short_number, number_bytes, head_put}
use Rattle.protocol.proofs.Laws.HeadLaws.{put_current, put_finalized}
use Rattle.protocol.specs.Sound.{sound, log}
use Rattle.protocol.specs.Open.{Opening, opened_edition, opened_weights, new_height, new_state, open_rows, open_call}
use Rattle.protocol.specs.Move.{step, moved, move_rows, move_call, unless_move_refused}
use Rattle.protocol.specs.Signal.{signal_rows, signal_call}
use Rattle.protocol.specs.Submit.{with_pending, still_pending, submit_rows, submit_call}
use Rattle.protocol.proofs.Laws.TestedLaws.{open_ranges, open_tested, signal_tested, submit_tested}
use Rattle.protocol.proofs.Laws.EveryLaws.{every_append}
use Rattle.protocol.proofs.Laws.PiecesLaws.{pieces_join}
use Rattle.protocol.proofs.Laws.PoolLaws.{every_without, pending_pool_size}
use Rattle.protocol.proofs.Laws.PendingLaws.{pending_sized}
use Rattle.protocol.proofs.Laws.StateLaws.{decode_encode}
use Rattle.protocol.proofs.Laws.WriteLaws.{write_pool, write_pending_count}
use Rattle.protocol.proofs.Laws.MoveLaws.{head_only}
use Rattle.protocol.proofs.Laws.SoundLaws.{sound_decode, encode_decode}
use Rattle.call_laws.proofs.Laws.RefusalsLaws.{refused≢accepted}
use Rattle.call_laws.proofs.Laws.SubmitSoundLaws.{submit_sound}
use Rattle.call_laws.specs.BookBytes.{opened_book, Signals, entries_after, Submits, head_of}

-- to prove something of a call that says no more than that it was done, prove it where no row refuses
done_call : (P : Bytes → Type 0) (r : Option ℕ) (book made : Bytes) → (r ≡ none → P made) →
    (unless_refused r book (record { answer = accepted done; book = made })).answer ≡ accepted done →
    P (unless_refused r book (record { answer = accepted done; book = made })).book
unfolding unless_refused
done_call P none book made f e = f refl
done_call P (some number) book made f e = absurd (refused≢accepted number done e)

-- ---- Open
one_content : (leader : ℕ) → content_bytes (new_height leader) ≡ leader ∷ zeros 15
unfolding content_bytes new_height le16 zeros
one_content leader = refl

new_content : (leaders : Bytes) →
    join (map content_bytes (map new_height leaders)) ≡ join (map (λ leader. leader ∷ zeros 15) leaders)
unfolding join
new_content [] = refl
new_content (leader ∷ leaders) = rw (one_content leader, new_content leaders)

new_bodies : (leaders : Bytes) → join (map body_bytes (map new_height leaders)) ≡ zeros (864 * length leaders)
unfolding join
new_bodies [] = unfold zeros in refl
new_bodies (leader ∷ leaders) =
    let more : 864 + 864 * length leaders ≡ 864 * length (leader ∷ leaders) = omega arith in
    let first : body_bytes (new_height leader) ≡ zeros 864 = unfold body_bytes new_height in
    rw (zeros_add 176 512, zeros_add 176 688) in
    rw (first, new_bodies leaders, ← more) (zeros_add 864 (864 * length leaders))

pub short_zero : (edition : ℕ) → short_number edition 0 ≡ 0
unfolding short_number
short_zero edition = go (eqb edition 3)
  where
    go : (b : Bool) → cond {A = ℕ} b 0 0 ≡ 0
    go true = refl
    go false = refl

new_book_lem : (way : Opening) (n own : ℕ) (leaders : Bytes) →
    encode (new_state way n own leaders) ≡ opened_book way n own (length leaders) leaders
unfolding encode head_bytes new_state opened_book
new_book_lem way n own leaders =
    let weights = weight_bytes (opened_edition way) (padded (opened_weights n way)) in
    let numbers = number_bytes (opened_edition way) (length leaders) 1 0 in
    let contents = join (map (λ (leader : ℕ). leader ∷ zeros 15) leaders) ++ zeros (864 * length leaders) in
    rw (
      new_content leaders,
      new_bodies leaders,
      length-map leaders new_height,
      append_assoc weights numbers (zeros 512 ++ contents),
      append_assoc weights (numbers ++ zeros 512) contents,
      append_assoc numbers (zeros 512) contents,
      short_zero (opened_edition way),
    )

pub open_bytes : (way : Opening) (book : Bytes) (n own heights : ℕ) (leaders : Bytes) →
    (open_call way book n own heights leaders).answer ≡ accepted done →
    (open_call way book n own heights leaders).book ≡ opened_book way n own heights leaders
unfolding open_call
open_bytes way book n own heights leaders =
    done_call (λ (b : Bytes). b ≡ opened_book way n own heights leaders)
    (first_refusal (open_rows way book n own heights leaders)) book (encode (new_state way n own leaders)) made
  where
    made : first_refusal (open_rows way book n own heights leaders) ≡ none →
        encode (new_state way n own leaders) ≡ opened_book way n own heights leaders
    made passes =
        let ranges = open_ranges way n own heights leaders
        (open_tested way n own heights leaders book passes).in_ranges_lem in
        new_book_lem way n own leaders ∙ ap (λ (k : ℕ). opened_book way n own k leaders) ranges.listed

-- ---- calls on a sound book, whose numbers are bytes
module _ (digest : Bytes → Bytes) (book : Bytes) (small : AreBytes book) where
  abbrev s : State
  s = decode book

  -- ---- Signal
  pub timer_bytes : sound digest book ≡ true → encode (with_timer_fired s) ≡ set book 3 (byte_at book 3 + 1)
  timer_bytes was_sound = fired ∙ rw (encode_decode digest book was_sound small) (unfold decode in refl)
    where
      fired : encode (with_timer_fired s) ≡ set (encode s) 3 (s.flags + 1)
      fired = unfold with_timer_fired with_head encode head_bytes in refl

  pub signal_bytes : (h : ℕ) → (signal_call digest book h).answer ≡ accepted done →
      Signals book h (signal_call digest book h).book
  unfolding signal_call
  signal_bytes h = done_call (Signals book h) (first_refusal (signal_rows digest book h)) book
      (encode (with_timer_fired s)) fired
    where
      fired : first_refusal (signal_rows digest book h) ≡ none → Signals book h (encode (with_timer_fired s))
      fired passes =
          let tested = signal_tested digest book h passes in
          record {
            current = tested.is_current ∙ unfold decode in refl;
            was_clear = tested.not_fired;
            bytes = timer_bytes tested.was_sound;
          }

  -- ---- Submit
  pool_bytes : (es : List Bytes) → length s.pool ≡ 512 → length (join es ++ zeros (512 - 16 * length es)) ≡ 512 →
      encode (with_pending s es) ≡ put (set (encode s) 6 (length es)) 64 (join es ++ zeros (512 - 16 * length es))
  unfolding with_pool with_pending
  pool_bytes es size new_size =
      let pool : Bytes = join es ++ zeros (512 - 16 * length es) in
      let counted : State = with_pool s (length es) s.pool in
      let wrote = write_pool counted size 0 pool (omega arith) in
      let whole : put s.pool 0 pool ≡ pool = put_all s.pool pool (size ∙ sym new_size) in
      sym (rw (write_pending_count s (length es))
      (wrote ∙ ap (λ (p : Bytes). encode (with_pool s (length es) p)) whole))

  pub submit_bytes : (entry : Bytes) → (submit_call digest book entry).answer ≡ accepted done →
      Submits book entry (submit_call digest book entry).book
  unfolding submit_call
  submit_bytes entry = done_call (Submits book entry) (first_refusal (submit_rows digest book entry)) book
      (encode (with_pending s (entries_after book entry))) kept
    where
      kept : first_refusal (submit_rows digest book entry) ≡ none →
          Submits book entry (encode (with_pending s (entries_after book entry)))
      kept passes =
          let tested = submit_tested digest book entry passes in
          let room : length (still_pending s) < 32 = tested.room in
          let size : length entry ≡ 16 = tested.size in
          let state = sound_decode digest book tested.was_sound in
          let few : length (entries_after book entry) ≤ 32 = simp length-append (omega arith) in
          let left : Every (Sized 16) (still_pending s) = unfold still_pending in
          every_without (log s) (pending_sized digest s state) in
          let sized : Every (Sized 16) (entries_after book entry) = every_append left (one size none) in
          record {
            room = few;
            bytes =
                pool_bytes (entries_after book entry) state.shaped.pool_size_lem
                (pending_pool_size (entries_after book entry) sized few) ∙
                rw (encode_decode digest book tested.was_sound small);
            now_pending =
                ap pending (decode_encode (with_pending s (entries_after book entry))
                (submit_sound digest s state entry size room).shaped) ∙
                unfold pending with_pending in pieces_join 16 (entries_after book entry) _ sized;
          }

  -- ---- Move
  flags_bytes : (flags : ℕ) → set (encode s) 3 flags ≡ encode (with_head s flags s.current s.finalized)
  unfolding with_head encode head_bytes
  flags_bytes flags = refl

  current_bytes : (flags current : ℕ) →
      head_put 4 42 current (encode (with_head s flags s.current s.finalized)) ≡
      encode (with_head s flags current s.finalized)
  unfolding encode with_head
  current_bytes flags current =
      put_current (with_head s flags s.current s.finalized) _ s.current s.finalized current

  finalized_bytes : (flags current finalized : ℕ) →
      head_put 5 44 finalized (encode (with_head s flags current s.finalized)) ≡
      encode (with_head s flags current finalized)
  unfolding encode with_head
  finalized_bytes flags current finalized =
      put_finalized (with_head s flags current s.finalized) _ current s.finalized finalized

  head_bytes_lem : (flags current finalized : ℕ) →
      encode (with_head s flags current finalized) ≡
      head_put 5 44 finalized (head_put 4 42 current (set (encode s) 3 flags))
  head_bytes_lem flags current finalized =
      sym (ap (λ (b : Bytes). head_put 5 44 finalized (head_put 4 42 current b)) (flags_bytes flags) ∙
      ap (head_put 5 44 finalized) (current_bytes flags current) ∙ finalized_bytes flags current finalized)

  pub move_bytes : (reply : Bytes) → sound digest book ≡ true → 448 ≤ length reply →
      (move_call digest book reply).book ≡ head_of book (step digest s).after
  unfolding move_call move_rows first_refusal unless_move_refused moved
  move_bytes reply ok room = rw (ok, le-leb 448 (length reply) room)
      (after (step digest s).after (head_only digest s))
    where
      after : (s' : State) → (flags current finalized : ℕ) × (s' ≡ with_head s flags current finalized) →
          encode s' ≡ head_of book s'
      after s' (flags, current, finalized, e) =
          rw e (head_bytes_lem flags current finalized ∙ rw (encode_decode digest book ok small) (unfold with_head in refl))
