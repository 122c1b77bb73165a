-- A book at its first height, with any flags and any dummy and finalize masks there, is sound.
use Rattle.std.specs.Prelude.{ℕ, zero, suc, ◌-◌, ◌^◌, ◌≤◌, ◌<◌, ◌≡◌, refl, true, List, [], ◌∷◌, map, length, get_or, replicate, ltb}
use Rattle.std.proofs.Common.{arith, pow_pos, ltb-true}
use Rattle.std.proofs.Math.Logic.{inl}
use Rattle.std.proofs.lemmas.Bool.{false≢true}
use Rattle.std.proofs.Math.ListN.{length-map}
use Rattle.protocol.specs.SoundState.{ShapedHeight, Shaped, SoundHeight}
use Rattle.protocol.specs.Every.{Every, none, one}
use Rattle.protocol.specs.Bytes.{Bytes, zeros, all}
use Rattle.protocol.specs.Tests.{in_range}
use Rattle.protocol.proofs.Laws.TestsLaws.{and_both}
use Rattle.protocol.specs.Block.{maximum_heights}
use Rattle.protocol.specs.State.{State, Height, at, last, encode, decode, no_height, holds_proposal, is_notarized}
use Rattle.protocol.specs.State.{maximum_replicas, most_heights}
use Rattle.protocol.proofs.Laws.StateLaws.{decode_encode}
use Rattle.protocol.specs.View.{View}
use Rattle.protocol.specs.Sound.{view, sound}
use Rattle.protocol.proofs.Laws.SoundLaws.{sound_encode}
use Rattle.protocol.proofs.Laws.NewStateLaws.{new_shaped, even_weighed, even_setting}
use Rattle.protocol.specs.Open.{unweighed, new_height, start_state, new_state}
use Rattle.protocol.specs.Deliver.{with_masks}

-- what holds of each element and of the default holds of any place
every-get_d : {A : Type 0} {P : A → Type 0} {l : List A} (i : ℕ) (d : A) → P d → Every P l → P (get_or l i d)
every-get_d i d q none = q
every-get_d zero d q (one p ps) = p
every-get_d (suc i) d q (one p ps) = every-get_d i d q ps

-- ---- heights
-- a height at which nothing is held or notarized, of `n` replicas
pub record Bare (n : ℕ) (x : Height) : Type 0 where
  pub nothing : x.status ≡ 0
  pub leader_below : x.leader < n
  pub certificate_below : x.certificate_mask < 2 ^ n
  pub dummy_below : x.dummy_mask < 2 ^ n
  pub finalize_below : x.finalize_mask < 2 ^ n
  pub voter_below : x.voter_mask < 2 ^ n

-- a new height, but with a dummy and a finalize mask
unfoldable pub first_height : ℕ → ℕ → ℕ → Height
first_height leader dummy final = with_masks (new_height leader) dummy final

first_bare : (n x dummy final : ℕ) → x < n → dummy < 2 ^ n → final < 2 ^ n → Bare n (first_height x dummy final)
unfolding first_height with_masks new_height
first_bare n x dummy final leads p q = record {
  nothing = refl;
  leader_below = leads;
  certificate_below = pow_pos n;
  dummy_below = p;
  finalize_below = q;
  voter_below = pow_pos n;
}

new_first : (x : ℕ) → first_height x 0 0 ≡ new_height x
unfolding first_height with_masks new_height
new_first x = refl

new_bare : (n x : ℕ) → x < n → Bare n (new_height x)
new_bare n x h = rw (new_first x) at (first_bare n x 0 0 h (pow_pos n) (pow_pos n))

none_bare : (n : ℕ) → 1 ≤ n → Bare n no_height
unfolding no_height
none_bare n h = record {
  nothing = refl;
  leader_below = h;
  certificate_below = pow_pos n;
  dummy_below = pow_pos n;
  finalize_below = pow_pos n;
  voter_below = pow_pos n;
}

pub all_bare : (n : ℕ) (leaders : Bytes) → all (λ x. ltb x n) leaders ≡ true → Every (Bare n) (map new_height leaders)
unfolding all
all_bare n [] h = none
all_bare n (x ∷ xs) h =
    let q = and_both (ltb x n) (all (λ x. ltb x n) xs) h in
    one (new_bare n x (ltb-true x n q.0)) (all_bare n xs q.1)

first_shaped : (x dummy final : ℕ) → ShapedHeight (first_height x dummy final)
unfolding first_height new_height with_masks zeros
first_shaped x dummy final = record { proposal_size = refl; notarized_size = refl; votes_size = refl }

pub bare_sound : (v : View) (h : ℕ) (x : Height) → Bare v.n x → SoundHeight v h x
unfolding holds_proposal is_notarized
bare_sound v h x b = record {
  leader_below = b.leader_below;
  status_small = rw b.nothing (omega arith);
  certificate_below = b.certificate_below;
  dummy_below = b.dummy_below;
  finalize_below = b.finalize_below;
  voter_below = b.voter_below;
  proposal_formed = λ e. absurd (false≢true (rw b.nothing at e));
  notarized_formed = λ e. absurd (false≢true (rw b.nothing at e));
  certified = λ e. absurd (false≢true (rw b.nothing at e));
}

-- ---- the state
-- the new state of these leaders where all replicas weigh 1, but with flags, and with a dummy and a finalize mask at
-- height 1
module _ (edition n own flags dummy final leader : ℕ) (leaders : Bytes) where
  abbrev pub early : State
  early = start_state edition n (replicate n 1) own flags (first_height leader dummy final ∷ map new_height leaders)

-- an edition that is known, and what Open asks of its arguments, for a list of leaders that is not empty
pub record Ranges (edition n own leader : ℕ) (leaders : Bytes) : Type 0 where
  pub known_edition : in_range 1 3 edition ≡ true
  pub some_replica : 1 ≤ n
  pub few_replicas : n ≤ maximum_replicas
  pub own_below : own < n
  pub leader_below : leader < n
  pub leaders_below : all (λ x. ltb x n) leaders ≡ true
  pub few_heights : length leaders < most_heights edition

module _ (edition n own flags dummy final leader : ℕ) (leaders : Bytes) (ranges : Ranges edition n own leader leaders)
    (flags-below : flags < 16) (dummy_below : dummy < 2 ^ n) (final-below : final < 2 ^ n) where
  abbrev E : State
  E = early edition n own flags dummy final leader leaders

  pub early_bare : (h : ℕ) → Bare n (at E h)
  unfolding at
  early_bare h =
      every-get_d (h - 1) no_height (none_bare n ranges.some_replica)
      (one (first_bare n leader dummy final ranges.leader_below dummy_below final-below)
      (all_bare n leaders ranges.leaders_below))

  pub early_shaped : Shaped E
  unfolding zeros new_state
  early_shaped = record {
    weighed = even_weighed edition n;
    pool_size_lem = refl;
    heights =
        one (first_shaped leader dummy final) (new_shaped unweighed n own leaders).heights;
  }

  pub early_back : decode (encode E) ≡ E
  early_back = decode_encode E early_shaped

  few_enough : last E ≤ most_heights edition
  unfolding last
  few_enough = let count = length-map leaders new_height in omega (arith, ranges.few_heights)

  pub early_sound : (digest : Bytes → Bytes) → sound digest (encode E) ≡ true
  unfolding last
  early_sound digest =
      let count = length-map leaders new_height in
      sound_encode digest E (record {
        shaped = early_shaped;
        setting = even_setting edition n ranges.known_edition ranges.few_replicas;
        n_low = ranges.some_replica;
        n_high = ranges.few_replicas;
        own_below = ranges.own_below;
        last_low = omega arith;
        last_most = few_enough;
        current_low = omega arith;
        current_high = omega arith;
        flags_small = flags-below;
        pending_few = omega arith;
        each = λ h p q. bare_sound (view E) h (at E h) (unfold view in early_bare h);
        final = inl refl;
      })
