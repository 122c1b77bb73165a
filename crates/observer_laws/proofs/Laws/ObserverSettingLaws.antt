-- Call by call: only an opening that is not refused changes what the opening of an observer's book settles.
use Rattle.std.specs.Prelude.{◌≡◌, true}
use Rattle.std.proofs.Common.{sym}
use Rattle.std.proofs.Math.Path.{subst}
use Rattle.std.proofs.Math.Option.{none}
use Rattle.protocol.specs.Bytes.{Bytes}
use Rattle.protocol.specs.Frame.{frame_height}
use Rattle.protocol.specs.State.{State}
use Rattle.protocol.specs.Answer.{Outcome, Delivery, Move}
use Rattle.protocol.specs.Move.{new_finalized, output_step}
use Rattle.protocol.specs.Observer.{observer_state}
use Rattle.protocol.specs.ObserverSound.{observer_sound}
use Rattle.protocol.specs.ObserverCalls.{observer_deliver_call, observer_move_call}
use Rattle.protocol.specs.ObserverCall.{ObserverCall, observer_opening, observer_delivery, observer_moving, observer_sizing}
use Rattle.protocol.specs.ObserverCall.{observer_reading, observation}
use Rattle.protocol.proofs.Laws.ObserverOpensLaws.{observer_opens_nothing}
use Rattle.protocol.proofs.Laws.ObserverDeliverLaws.{observer_deliver_cases, observer_move_cases}
use Rattle.protocol.proofs.Laws.ObserverAfterLaws.{observer_delivered, observer_output}
use Rattle.call_laws.specs.SettingStays.{SettingStays}
use Rattle.call_laws.proofs.Laws.SettingStaysLaws.{stays, head_stays, height_stays}
use Rattle.observer_laws.proofs.Laws.TwinCallLaws.{state_back}

module _ (digest : Bytes → Bytes) (book : Bytes) (was : observer_sound digest book ≡ true) where
  abbrev s : State
  s = observer_state book

  abbrev Stays : Bytes → Type 0
  Stays after = SettingStays s (observer_state after)

  delivery_stays : (frame : Bytes) → Stays (observer_deliver_call digest book frame).book
  delivery_stays frame = observer_deliver_cases digest book frame (λ (o : Outcome Delivery). Stays o.book)
      (λ _ _. stays s) (λ _ _. stays s)
      (λ y accepts e.
      subst (SettingStays s) (sym (observer_delivered digest book frame y accepts e))
      (height_stays s (frame_height frame) y))

  move_stays : Stays (observer_move_call digest book).book
  move_stays = observer_move_cases digest book (λ (o : Outcome Move). Stays o.book)
      (λ _. stays s)
      (λ _ _. subst (SettingStays s) (sym (state_back digest book was)) (stays s))
      (λ _ _. unfold output_step in
      subst (SettingStays s) (sym (observer_output digest book was (new_finalized digest s)))
      (head_stays s s.flags s.current (new_finalized digest s)))

  pub observer_setting_stays : (call : ObserverCall) → (observation digest book call).opens ≡ none →
      Stays (observation digest book call).book
  unfolding observation
  observer_setting_stays (observer_opening way n heights) nothing =
      subst Stays (sym (observer_opens_nothing digest book way n heights nothing)) (stays s)
  observer_setting_stays (observer_delivery frame) nothing = delivery_stays frame
  observer_setting_stays observer_moving nothing = move_stays
  observer_setting_stays observer_sizing nothing = stays s
  observer_setting_stays (observer_reading buffer) nothing = stays s
