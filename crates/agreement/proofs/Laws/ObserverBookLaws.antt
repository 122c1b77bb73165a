-- A book of a meant observer shows after one call more only what is backed.
use Rattle.std.specs.Prelude.{ℕ, ◌≡◌}
use Rattle.std.proofs.Math.Path.{refl, subst}
use Rattle.std.proofs.Common.{sym}
use Rattle.std.proofs.Math.Bool.{cond}
use mathlib.Core.List.{List, [], ◌∷◌, ◌++◌, Memᴰ}
use Rattle.std.proofs.Math.Option.{Option, some, none}
use Rattle.protocol.specs.Answer.{Delivery, Outcome, is_accepted, unless_refused}
use Rattle.protocol.specs.Bytes.{Bytes}
use Rattle.protocol.proofs.Laws.ObserverDeliverLaws.{observer_deliver_cases}
use Rattle.protocol.proofs.Laws.ObserverOpensLaws.{observer_open_few, observer_opens_nothing, only_observer_opening}
use Rattle.protocol.specs.Observer.{observer_state}
use Rattle.protocol.specs.ObserverCall.{ObserverCall, observation, observer_delivery, observer_moving, observer_opening}
use Rattle.protocol.specs.ObserverCall.{observer_reading, observer_sizing}
use Rattle.protocol.specs.ObserverCalls.{observer_deliver_call, observer_move_call}
use Rattle.protocol.specs.ObserverCalls.{observer_move_rows, observer_moved}
use Rattle.protocol.specs.State.{State}
use Rattle.protocol.specs.Tests.{first_refusal}
use Rattle.agreement.proofs.Laws.ObserverRunLaws.{Followed, FollowedBytes, changed_followed}
use Rattle.agreement.proofs.Laws.ObserverRunLaws.{followed_more, move_followed, new_followed, observed_followed}
use Rattle.agreement.proofs.Laws.ObserverRunLaws.{states_more}
use Rattle.agreement.specs.ObserverLists.{AnyMember, Meant, NoneForged, ObserverFollows}
use Rattle.agreement.specs.ObserverLists.{ObserverMember, any_delivers}
use Rattle.agreement.specs.ObserverLists.{observes, of_observer}

-- a call that is refused by its rows leaves the book
refused_or : {A : Type 0} (Q : Bytes → Type 0) (refusal : Option ℕ) (book : Bytes) (outcome : Outcome A) → Q book →
    Q outcome.book → Q (unless_refused refusal book outcome).book
unfolding unless_refused
refused_or Q none book outcome stays changes = changes
refused_or Q (some number) book outcome stays changes = stays

-- ---- one call more in the list
module _ (digest : Bytes → Bytes) (weights : List ℕ) (books names observers : ℕ → Type 0) (l : List AnyMember)
    (unforged : NoneForged digest (Meant books observers) names l) where
  module _ (P after : List AnyMember) (m : ObserverMember) (here : l ≡ P ++ (of_observer m ∷ after))
      (ours : observers m.observer) where
    abbrev P' : List AnyMember
    P' = P ++ (of_observer m ∷ [])

    abbrev FollowedIn : List AnyMember → State → Type 0
    FollowedIn Q = Followed digest weights books names observers Q

    among : Memᴰ (of_observer m) P'
    among = mathlib.Core.List.Memᴰ.append_right P (mathlib.Core.List.Memᴰ.head refl)

    still : (book : Bytes) → FollowedIn P (observer_state book) → FollowedIn P' (observer_state book)
    still book f = followed_more digest weights books names observers P (of_observer m ∷ []) (observer_state book) f

    delivery_followed : (book frame : Bytes) → FollowedIn P (observer_state book) →
        (observes digest m).delivers ≡
        cond (is_accepted (observer_deliver_call digest book frame).answer) (frame ∷ []) [] →
        FollowedIn P' (observer_state (observer_deliver_call digest book frame).book)
    unfolding is_accepted NoneForged Meant any_delivers
    delivery_followed book frame f =
        observer_deliver_cases digest book frame (λ (o : Outcome Delivery).
        (observes digest m).delivers ≡ cond (is_accepted o.answer) (frame ∷ []) [] →
        FollowedIn P' (observer_state o.book))
        (λ _ _ _. still book f) (λ _ _ _. still book f)
        (λ new accepts k d.
        let delivered : Memᴰ frame (observes digest m).delivers = rw d (mathlib.Core.List.Memᴰ.head refl) in
        observed_followed digest weights books names observers P' _
        (changed_followed digest weights books names observers P' m among ours book frame (still book f) delivered
        (λ t st says. states_more digest weights books names observers P (of_observer m ∷ []) t st
        (λ named. unforged P (of_observer m) after frame t st here ours named delivered says))
        accepts.was_sound accepts.read new k))

    move_left : (book : Bytes) → FollowedIn P (observer_state book) →
        FollowedIn P' (observer_state (observer_move_call digest book).book)
    unfolding observer_move_call observer_moved
    move_left book f =
        refused_or (λ (z : Bytes). FollowedIn P' (observer_state z)) (first_refusal (observer_move_rows digest book)) book _
        (still book f)
        (observed_followed digest weights books names observers P' _
        (move_followed digest weights books names observers P' (observer_state book) (still book f)))

    call_followed : (book : Bytes) → m.book ≡ book → (observes digest m).opens ≡ none → (call : ObserverCall) →
        m.call ≡ call → FollowedIn P (observer_state book) →
        FollowedIn P' (observer_state (observation digest book call).book)
    unfolding observation
    call_followed book got fixed (observer_opening way n' heights) e f =
        rw (observer_opens_nothing digest book way n' heights (rw (e, got) at fixed)) (still book f)
    call_followed book got fixed (observer_delivery frame) e f = delivery_followed book frame f (rw (e, got))
    call_followed book got fixed observer_moving e f =
        move_left book f
    call_followed book got fixed observer_sizing e f = still book f
    call_followed book got fixed (observer_reading buffer) e f = still book f

    pub next_followed : (o : Option Bytes) → ObserverFollows digest weights m o →
        FollowedBytes digest weights books names observers P o → FollowedIn P' (observer_state (observes digest m).book)
    unfolding ObserverFollows
    next_followed none opens f =
        let (way, n, heights, e, same, passed, made) = only_observer_opening digest m.book m.call weights opens in
        let few = observer_open_few way m.book n heights passed in
        rw made (new_followed digest weights books names observers P' way n heights few same)
    next_followed (some book) (got, fixed) f =
        subst (λ (z : Bytes). FollowedIn P' (observer_state (observation digest z m.call).book)) (sym got)
        (call_followed book got fixed m.call refl f)
