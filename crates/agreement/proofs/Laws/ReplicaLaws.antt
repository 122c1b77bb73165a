-- A good book of an honest replica is good after one call more.
use Rattle.std.specs.Prelude.{ℕ, ◌≡◌}
use Rattle.std.proofs.Math.Path.{refl, subst}
use Rattle.std.proofs.Common.{sym}
use mathlib.Core.List.{List, [], ◌∷◌, ◌++◌}
use Rattle.std.proofs.Math.Option.{Option, some, none}
use Rattle.protocol.specs.Bytes.{Bytes}
use Rattle.protocol.specs.State.{decode}
use Rattle.protocol.specs.Call.{Call, opening, delivery, packet_delivery, moving, signalling, submitting, sizing}
use Rattle.protocol.specs.Call.{reading, fetching, effect}
use Rattle.protocol.proofs.Laws.CallLaws.{only_opening, opens_nothing}
use Rattle.agreement.specs.Lists.{Continues, Follows, Member, NotForged, Opens, does}
use Rattle.agreement.proofs.Laws.FetchingLaws.{fetch_good}
use Rattle.agreement.proofs.Laws.OpeningLaws.{opening_good, submit_good}
use Rattle.agreement.proofs.Laws.CallingLaws.{delivery_good, move_good, packet_good, reopening_good}
use Rattle.agreement.proofs.Laws.CallingLaws.{signal_good, unchanged}
use Rattle.agreement.proofs.Laws.RunLaws.{Good, GoodBytes}

module _ (digest : Bytes → Bytes) (weights : List ℕ) (books names : ℕ → Type 0) (l : List Member)
    (unforged : NotForged digest books names l) where
  module _ (P after : List Member) (m : Member) (here : l ≡ P ++ (m ∷ after)) (s : ℕ) (mine : books s) (hs : names s)
      (own : m.replica ≡ s) where
    abbrev P' : List Member
    P' = P ++ (m ∷ [])

    hm : books m.replica
    hm = rw own mine

    call_good : (book : Bytes) → Continues digest book m → (c : Call) → m.call ≡ c →
        Good digest weights books names P s (decode book) →
        Good digest weights books names P' s (decode (effect digest book c).book)
    unfolding effect Continues NotForged
    call_good book (got, fixed) (opening way n' o heights leaders) e g =
        reopening_good digest weights books names P m s way book n' o heights leaders g (rw e)
        (opens_nothing digest book way n' o heights leaders (rw (e, got) at fixed))
    call_good book (got, fixed) (delivery f) e g =
        delivery_good digest weights books names P m s book f g (rw e) hm (rw (e, got))
        (λ q t st r ht. unforged P m after f t st here hm ht q r)
    call_good book (got, fixed) (packet_delivery packet) e g =
        packet_good digest weights books names P m s book packet g (rw e) hm (rw (e, got))
        (λ f q t st r ht. unforged P m after f t st here hm ht q r)
    call_good book (got, fixed) (moving reply) e g =
        move_good digest weights books names P m s book reply hs g (rw (e, got))
    call_good book (got, fixed) (signalling h) e g = signal_good digest weights books names P m s book h g (rw e)
    call_good book (got, fixed) (submitting x) e g = submit_good digest weights books names P m s book x g (rw e)
    call_good book (got, fixed) sizing e g = unchanged digest weights books names P m s (decode book) g (λ z. rw e)
    call_good book (got, fixed) (reading buffer) e g =
        unchanged digest weights books names P m s (decode book) g (λ z. rw e)
    call_good book (got, fixed) (fetching k h reply) e g =
        fetch_good digest weights books names P m s book k h reply g (rw (e, got))

    pub next_good : (o : Option Bytes) → Follows digest weights s m o → GoodBytes digest weights books names P s o →
        Good digest weights books names P' s (decode (does digest m).book)
    unfolding Follows Opens Continues effect
    next_good none x g =
        let (way, n, heights, leaders, e, same, q) = only_opening digest m.book m.call
        (record { weights = weights; own = s }) x in
        subst (λ (c : Call). Good digest weights books names P' s (decode (effect digest m.book c).book)) (sym e)
        (opening_good digest weights books names P m s way n m.book heights leaders same hs g (rw e) q)
    next_good (some book) x g =
        subst (λ (z : Bytes). Good digest weights books names P' s (decode (effect digest z m.call).book))
        (sym x.0) (call_good book x m.call refl g)
