-- Open makes a sound observer's book, whose state is that of a new replica with any own number and leaders.
use Rattle.std.specs.Prelude.{ℕ, zero, suc, ◌≤◌, ◌≡◌, refl, true, List, [], ◌∷◌, map, length, replicate, ltb}
use Rattle.std.proofs.Common.{arith, sym, ap, subst, inl, eq-eqb, lt-ltb}
use Rattle.std.proofs.Math.Option.{Option, some, none}
use Rattle.std.proofs.lemmas.List.{length-replicate}
use Rattle.protocol.specs.SoundState.{SoundState}
use Rattle.protocol.specs.SoundObserver.{SoundObserver}
use Rattle.protocol.specs.Bytes.{Bytes, Sized, all}
use Rattle.protocol.specs.Every.{Every, none, one}
use Rattle.protocol.specs.Tests.{Row, first_refusal, in_range}
use Rattle.protocol.specs.Block.{maximum_heights}
use Rattle.protocol.specs.State.{most_heights, Height, no_height, last, with_head, maximum_replicas}
use Rattle.protocol.specs.Answer.{done, accepted, unless_refused}
use Rattle.protocol.specs.Open.{Opening, opened_edition, opened_weights, weights_in_range, new_height, new_state, start_state}
use Rattle.protocol.specs.Open.{open_in_range}
use Rattle.protocol.specs.Observer.{ObservedHeight, as_replica, as_replica_height, observed_height, encode_observer}
use Rattle.protocol.specs.Observer.{observed_body_bytes}
use Rattle.protocol.specs.ObserverSound.{observer_sound}
use Rattle.protocol.specs.ObserverCalls.{new_observer, new_observed_height, observer_open_rows, observer_open_call}
use Rattle.protocol.proofs.Laws.EveryLaws.{every_at}
use Rattle.protocol.proofs.Laws.CodecLaws.{at_suc}
use Rattle.protocol.proofs.Laws.NewStateLaws.{opened_weighed}
use Rattle.protocol.proofs.Laws.RowLaws.{by_rows, by_tested, all_of_lem, in_range_lem}
use Rattle.protocol.proofs.Laws.ObserverStateLaws.{ShapedObserver}
use Rattle.protocol.proofs.Laws.BytesLaws.{length_zeros}
use Rattle.protocol.proofs.Laws.ObserverSoundLaws.{observer_sound_encode}
use Rattle.call_laws.proofs.Laws.OpenSoundLaws.{open_sound}
use Rattle.call_laws.proofs.Laws.SoundStaysLaws.{unless_refused_lem}
use Rattle.call_laws.proofs.Laws.RefusalsLaws.{refused≢accepted}
use Rattle.observer_laws.proofs.Laws.AwakeLaws.{awake, HoldsNone, awake_observer}

-- no leader is told
abbrev no_leaders : ℕ → Bytes
no_leaders heights = replicate heights 0

-- the heights of a new observer's state are those of a new replica's
new_heights : (heights : ℕ) → map as_replica_height (replicate heights new_observed_height) ≡ map new_height
    (no_leaders heights)
unfolding as_replica_height new_observed_height new_height
new_heights zero = refl
new_heights (suc heights) = ap (λ (l : List Height). new_height 0 ∷ l) (new_heights heights)

pub new_awake : (way : Opening) (n heights : ℕ) →
    awake (as_replica (new_observer way n heights)) ≡ new_state way n 0 (no_leaders heights)
unfolding awake with_head as_replica new_observer new_state
new_awake way n heights = ap (start_state (opened_edition way) n (opened_weights n way) 0 0) (new_heights heights)

-- and they show the same, whatever the leaders
pub new_shown : (leaders : Bytes) → map observed_height (map new_height leaders) ≡ replicate (length leaders)
    new_observed_height
unfolding observed_height new_height new_observed_height
new_shown [] = refl
new_shown (x ∷ xs) = ap (λ (l : List ObservedHeight). new_observed_height ∷ l) (new_shown xs)

all_status : (heights : ℕ) →
    Every (λ (x : Height). x.status ≡ 0) (map as_replica_height (replicate heights new_observed_height))
unfolding as_replica_height new_observed_height
all_status zero = none
all_status (suc heights) = one refl (all_status heights)

blocks_sized : (heights : ℕ) → Every (Sized 176) (map observed_body_bytes (replicate heights new_observed_height))
unfolding observed_body_bytes new_observed_height
blocks_sized zero = none
blocks_sized (suc heights) = one (length_zeros 176) (blocks_sized heights)

all_no_leader : (n heights : ℕ) → 1 ≤ n → all (λ leader. ltb leader n) (no_leaders heights) ≡ true
unfolding all
all_no_leader n zero low = refl
all_no_leader n (suc heights) low = rw (lt-ltb 0 n low) (all_no_leader n heights low)

pub new_observer_shaped : (way : Opening) (n heights : ℕ) → ShapedObserver (new_observer way n heights)
unfolding new_observer
new_observer_shaped way n heights = record { weighed = opened_weighed way n; blocks = blocks_sized heights }

pub record ObserverRanges (way : Opening) (n heights : ℕ) : Type 0 where
  pub replicas : in_range 1 maximum_replicas n ≡ true
  pub many : in_range 1 (most_heights (opened_edition way)) heights ≡ true
  pub weights_fit_lem : weights_in_range n way ≡ true

module _ (way : Opening) (n heights : ℕ) where
  pub observer_ranges : (book : Bytes) → first_refusal (observer_open_rows way book n heights) ≡ none →
      ObserverRanges way n heights
  unfolding observer_open_rows
  observer_ranges book e =
      by_tested _ e λ ranges exact. by_rows _ ranges λ replicas many weights.
      record { replicas = replicas; many = many; weights_fit_lem = weights }

  module _ (ranges : ObserverRanges way n heights) where
    in_ranges_lem : open_in_range way n 0 heights (no_leaders heights) ≡ true
    unfolding open_in_range
    in_ranges_lem =
        let low : 1 ≤ n = (in_range_lem 1 maximum_replicas n ranges.replicas).0 in
        all_of_lem
        (one ranges.replicas
        (one (lt-ltb 0 n low)
        (one ranges.many
        (one (eq-eqb _ _ (length-replicate heights 0)) (one (all_no_leader n heights low)
        (one ranges.weights_fit_lem none))))))

    module _ (digest : Bytes → Bytes) where
      new_status : Every (λ (x : Height). x.status ≡ 0) (as_replica (new_observer way n heights)).heights
      unfolding as_replica new_observer
      new_status = all_status heights

      holds_none : HoldsNone (as_replica (new_observer way n heights))
      holds_none zero low high = absurd (omega arith)
      holds_none (suc i) low high =
          inl (rw at_suc (every_at i no_height new_status (unfold last in high)))

      new_sound : SoundObserver digest (new_observer way n heights)
      new_sound =
          awake_observer digest (new_observer way n heights)
          (subst (SoundState digest) (sym (new_awake way n heights))
          (open_sound digest way n 0 heights (no_leaders heights) in_ranges_lem)) holds_none

      pub new_observer_sound : observer_sound digest (encode_observer (new_observer way n heights)) ≡ true
      new_observer_sound = observer_sound_encode digest (new_observer way n heights) new_sound

-- ---- the call, over any bytes
module _ (digest : Bytes → Bytes) (way : Opening) (book : Bytes) (n heights : ℕ) where
  abbrev Sound : Bytes → Type 0
  Sound bytes = observer_sound digest bytes ≡ true

  made : first_refusal (observer_open_rows way book n heights) ≡ none → Sound (encode_observer (new_observer way n heights))
  made passes = new_observer_sound way n heights (observer_ranges way n heights book passes) digest

  pub observer_open_stays : Sound book → Sound (observer_open_call way book n heights).book
  unfolding observer_open_call
  observer_open_stays was = unless_refused_lem Sound (observer_open_rows way book n heights) book
      (record { answer = accepted done; book = encode_observer (new_observer way n heights) }) was made

-- an opening that is not refused passed its rows, and made the new book
pub opened_by : (rows : List Row) (book new : Bytes) →
    (unless_refused (first_refusal rows) book (record { answer = accepted done; book = new })).answer ≡ accepted done →
    (first_refusal rows ≡ none) ×
    ((unless_refused (first_refusal rows) book (record { answer = accepted done; book = new })).book ≡ new)
opened_by rows book new = go (first_refusal rows)
  where
    go : (refusal : Option ℕ) →
        (unless_refused refusal book (record { answer = accepted done; book = new })).answer ≡ accepted done →
        (refusal ≡ none) ×
        ((unless_refused refusal book (record { answer = accepted done; book = new })).book ≡ new)
    go none e = unfold unless_refused in (refl, refl)
    go (some number) e = unfold unless_refused in absurd (refused≢accepted number done e)

module _ (way : Opening) (book : Bytes) (n heights : ℕ) where
  pub observer_opened : (observer_open_call way book n heights).answer ≡ accepted done →
      (first_refusal (observer_open_rows way book n heights) ≡ none) ×
      ((observer_open_call way book n heights).book ≡ encode_observer (new_observer way n heights))
  unfolding observer_open_call
  observer_opened = opened_by (observer_open_rows way book n heights) book (encode_observer (new_observer way n heights))

  pub observer_open_made : (digest : Bytes → Bytes) → (observer_open_call way book n heights).answer ≡ accepted done →
      observer_sound digest (observer_open_call way book n heights).book ≡ true
  observer_open_made digest opened =
      let (passes, is) = observer_opened opened in
      rw is (made digest way book n heights passes)
