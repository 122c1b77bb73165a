-- A sound observer's state is a sound replica's, put at height 1; so the laws of sound states serve observers.
use Rattle.std.specs.Prelude.{ℕ, ◌≤◌, ◌≡◌, ◌⊎◌}
use Rattle.std.proofs.Common.{arith, sym, subst}
use Rattle.protocol.specs.SoundState.{SoundState}
use Rattle.protocol.specs.SoundObserver.{SoundObserver}
use Rattle.protocol.specs.Bytes.{Bytes}
use Rattle.protocol.specs.State.{State, at, last, with_head}
use Rattle.protocol.specs.Sound.{view}
use Rattle.protocol.specs.Observer.{Observer, as_replica, observed}
use Rattle.protocol.proofs.Laws.ObserverStateLaws.{Observing, last_as}

-- at height 1, where no timer fired
unfoldable pub awake : State → State
awake s = with_head s 0 1 s.finalized

-- no height holds a proposal
abbrev pub HoldsNone : State → Type 0
HoldsNone s = (h : ℕ) → 1 ≤ h → h ≤ last s → ((at s h).status ≡ 0) ⊎ ((at s h).status ≡ 2)

module _ (digest : Bytes → Bytes) where
  pub awake_sound : (o : Observer) → SoundObserver digest o → SoundState digest (awake (as_replica o))
  unfolding awake with_head as_replica view at last
  awake_sound o is =
      let count = last_as o in
      record {
        shaped = record {
          weighed = is.shaped.weighed;
          pool_size_lem = is.shaped.pool_size_lem;
          heights = is.shaped.heights;
        };
        setting = is.setting;
        n_low = is.n_low;
        n_high = is.n_high;
        own_below = is.n_low;
        last_low = rw count is.last_low;
        last_most = rw count is.last_most;
        current_low = omega arith;
        current_high = rw count (omega (arith, is.last_low));
        flags_small = omega arith;
        pending_few = omega arith;
        each = λ h low high. is.each h low (rw count at high);
        final = is.final;
      }

  pub awake_observer : (o : Observer) → SoundState digest (awake (as_replica o)) → HoldsNone (as_replica o) →
      SoundObserver digest o
  unfolding awake with_head as_replica view at last
  awake_observer o is holds_none =
      let count = last_as o in
      record {
        shaped = record {
          weighed = is.shaped.weighed;
          pool_size_lem = is.shaped.pool_size_lem;
          heights = is.shaped.heights;
        };
        setting = is.setting;
        n_low = is.n_low;
        n_high = is.n_high;
        last_low = rw count at is.last_low;
        last_most = rw count at is.last_most;
        each = λ h low high. is.each h low (rw count high);
        holds_none = λ h low high. holds_none h low (rw count high);
        final = is.final;
      }

  -- a state that has nothing but what an observer keeps
  pub sound_observed : (s : State) → Observing s → SoundState digest (awake s) → HoldsNone s →
      SoundObserver digest (observed s)
  sound_observed s e is holds_none =
      awake_observer (observed s) (subst (λ (t : State). SoundState digest (awake t)) (sym e) is)
      (subst HoldsNone (sym e) holds_none)
