-- Submit leaves a sound state.
use Rattle.std.specs.Prelude.{◌-◌, ◌*◌, ◌≤◌, ◌<◌, ◌≡◌, List, [], ◌∷◌, ◌++◌}
use Rattle.std.proofs.Common.{arith, length-append}
use Rattle.std.proofs.Math.ListN.{length}
use Rattle.protocol.specs.SoundState.{SoundState}
use Rattle.protocol.specs.Every.{Every, none, one}
use Rattle.protocol.specs.Bytes.{Bytes, zeros, join, Sized}
use Rattle.protocol.specs.State.{State}
use Rattle.protocol.specs.Sound.{log}
use Rattle.protocol.specs.Submit.{with_pending, still_pending}
use Rattle.protocol.proofs.Laws.EveryLaws.{every_append}
use Rattle.protocol.proofs.Laws.PendingLaws.{pending_sized}
use Rattle.protocol.proofs.Laws.PoolLaws.{every_without, pending_pool_size}
use Rattle.call_laws.proofs.Laws.HeadSoundLaws.{head_sound}

module _ (digest : Bytes → Bytes) (s : State) (is : SoundState digest s) where
  with_pending_sound : (es : List Bytes) → Every (Sized 16) es → length es ≤ 32 → SoundState digest (with_pending s es)
  unfolding with_pending
  with_pending_sound es sized few =
      head_sound digest s is s.flags s.current s.finalized (length es)
      (join es ++ zeros (512 - 16 * length es))
      is.flags_small is.current_low is.current_high is.final few (pending_pool_size es sized few)

  pub submit_sound : (entry : Bytes) → length entry ≡ 16 → length (still_pending s) < 32 →
      SoundState digest (with_pending s (still_pending s ++ (entry ∷ [])))
  submit_sound entry sized room =
      with_pending_sound (still_pending s ++ (entry ∷ []))
      (every_append left (one sized none))
      (simp length-append (omega arith))
    where
      left : Every (Sized 16) (still_pending s)
      left = unfold still_pending in every_without (log s) (pending_sized digest s is)
