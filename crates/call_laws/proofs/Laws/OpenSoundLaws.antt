-- Open makes a sound state.
use Rattle.std.specs.Prelude.{ℕ, zero, suc, ◌≤◌, ◌≡◌, refl, true}
use Rattle.std.proofs.Common.{arith}
use Rattle.std.proofs.Math.Logic.{inl}
use Rattle.std.proofs.lemmas.List.{length-map}
use Rattle.protocol.specs.SoundState.{SoundHeight, SoundState}
use Rattle.protocol.specs.Every.{Every}
use Rattle.protocol.specs.Bytes.{Bytes}
use Rattle.protocol.specs.State.{State, no_height, at, last, most_heights}
use Rattle.protocol.specs.Sound.{view}
use Rattle.protocol.specs.Open.{Opening, opened_edition, new_state, open_in_range}
use Rattle.protocol.proofs.Laws.EveryLaws.{every_at}
use Rattle.protocol.proofs.Laws.TestedLaws.{OpenRanges, open_ranges}
use Rattle.protocol.proofs.Laws.CodecLaws.{at_suc}
use Rattle.protocol.proofs.Laws.NewBookLaws.{Bare, all_bare, bare_sound}
use Rattle.protocol.proofs.Laws.NewStateLaws.{new_shaped, opened_setting}
use Rattle.protocol.specs.Block.{maximum_heights}

module _ (digest : Bytes → Bytes) (way : Opening) (n own heights : ℕ) (leaders : Bytes)
    (ranges : open_in_range way n own heights leaders ≡ true) where
  abbrev s : State
  s = new_state way n own leaders

  in_ranges_lem : OpenRanges way n own heights leaders
  in_ranges_lem = open_ranges way n own heights leaders ranges

  last_range : (1 ≤ last s) × (last s ≤ most_heights (opened_edition way))
  unfolding last new_state
  last_range = rw (length-map, in_ranges_lem.listed) (in_ranges_lem.heights_low, in_ranges_lem.heights_most)

  all_new : Every (Bare s.n) s.heights
  unfolding new_state
  all_new = all_bare n leaders in_ranges_lem.leaders_below

  each_sound : (h : ℕ) → 1 ≤ h → h ≤ last s → SoundHeight (view s) h (at s h)
  each_sound zero low high = absurd (omega arith)
  each_sound (suc i) low high = bare_sound (view s) (suc i) (at s (suc i))
      (unfold view in rw at_suc (every_at i no_height all_new (unfold last in high)))

  pub open_sound : SoundState digest s
  unfolding new_state
  open_sound = record {
    shaped = new_shaped way n own leaders;
    setting = opened_setting way n in_ranges_lem.n_high in_ranges_lem.weights_fit_lem;
    n_low = in_ranges_lem.n_low;
    n_high = in_ranges_lem.n_high;
    own_below = in_ranges_lem.own_below;
    last_low = last_range.0;
    last_most = last_range.1;
    current_low = omega arith;
    current_high = omega (arith, last_range.0);
    flags_small = omega arith;
    pending_few = omega arith;
    each = each_sound;
    final = inl refl;
  }
