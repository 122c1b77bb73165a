-- Where observers hear only what honest replicas heard before, nothing more has to be granted of statements and digests
-- than of the replicas' calls.
use Rattle.std.specs.Prelude.{ℕ, ◌⊎◌, Bool, cond}
use Rattle.std.proofs.Common.{arith, ◌∙◌, inl, inr}
use Rattle.std.proofs.Math.Path.{◌≡◌, refl, ap, subst}
use Rattle.std.proofs.Math.Bool.{true, false}
use mathlib.Core.List.{List, [], ◌∷◌, ◌++◌, append_assoc, append-nil, Memᴰ}
use Rattle.std.proofs.Math.Seq.{append_snoc}
use Rattle.protocol.specs.Bytes.{Bytes, holds}
use Rattle.protocol.specs.Tests.{implies}
use Rattle.protocol.proofs.Laws.RowLaws.{implies_true}
use Rattle.protocol.proofs.Laws.TestsLaws.{and_both, member_split}
use Rattle.agreement.specs.ListTests.{every_in, is_honest}
use Rattle.agreement.proofs.Laws.ListTestsLaws.{every_in_lem, holds_member, honest_in}
use Rattle.agreement.proofs.Laws.ListsLaws.{split_head, split_never, wrote_more}
use Rattle.agreement.proofs.Laws.ObserverListsLaws.{replica_member, replicas_append}
use Rattle.agreement.specs.Lists.{HonestIn, Member, NoCollision, NotForged, Shows, delivers, writes}
use Rattle.agreement.specs.ObserverLists.{AnyMember, AnyShows, Meant, NoneCollide, NoneForged, ObserverMember}
use Rattle.agreement.specs.ObserverLists.{any_delivers, any_shows, observes, of_observer, of_replica, replica_calls}
use Rattle.agreement.specs.ObserverListTests.{echoes}

module _ (digest : Bytes → Bytes) where
  -- a frame was delivered to one of these books
  abbrev HeardBy : (books : ℕ → Type 0) → List Member → Bytes → Type 0
  HeardBy books calls frame =
      (m : Member) × Memᴰ m calls × books m.replica × Memᴰ frame (delivers digest m)

  module _ (books observers : ℕ → Type 0) where
    unfoldable pub Echoes : List AnyMember → Type 0
    Echoes list =
        (before : List AnyMember) (m : ObserverMember) (after : List AnyMember) (frame : Bytes) →
        list ≡ before ++ (of_observer m ∷ after) → observers m.observer →
        Memᴰ frame (observes digest m).delivers → HeardBy books (replica_calls before) frame

    module _ (list : List AnyMember) (echo : Echoes list) where
      pub echo_forged : (names : ℕ → Type 0) → NotForged digest books names (replica_calls list) →
          NoneForged digest (Meant books observers) names list
      unfolding NotForged NoneForged Meant any_delivers Echoes replica_calls
      echo_forged names unforged before (of_replica m) after frame s statement here ours named delivered says =
          unforged (replica_calls before) m (replica_calls after) frame s statement
          (ap replica_calls here ∙ replicas_append before (of_replica m ∷ after)) ours named delivered says
      echo_forged names unforged before (of_observer m) after frame s statement here ours named delivered says =
          let (x, among, theirs, heard) = echo before m after frame here ours delivered in
          let (front, back, split) = member_split (replica_calls before) among in
          let whole : replica_calls list ≡ front ++ (x ∷ (back ++ replica_calls after)) =
          ap replica_calls here ∙ replicas_append before (of_observer m ∷ after)
          ∙ ap (λ (z : List Member). z ++ replica_calls after) split ∙ append_assoc front (x ∷ back) (replica_calls after)
          in
          rw split (wrote_more digest s statement front (x ∷ back)
          (unforged front x (back ++ replica_calls after) frame s statement whole theirs named heard says))

      -- what a meant member shows, a meant replica's member shows
      shown_too : (m : AnyMember) (block : Bytes) → Memᴰ m list → Meant books observers m →
          AnyShows digest m block →
          (x : Member) × Memᴰ x (replica_calls list) × books x.replica × Shows digest x block
      unfolding Meant AnyShows any_shows Shows Echoes
      shown_too (of_replica m) block here ours shows = (m, replica_member list m here, ours, shows)
      shown_too (of_observer m) block here ours (frame, delivered, carries) =
          let (front, back, split) = member_split list here in
          let (x, among, theirs, heard) = echo front m back frame split ours delivered in
          let inside : Memᴰ x (replica_calls list) =
          rw (ap replica_calls split ∙ replicas_append front (of_observer m ∷ back))
          (mathlib.Core.List.Memᴰ.append_left (replica_calls (of_observer m ∷ back)) among) in
          (x, inside, theirs, (frame, mathlib.Core.List.Memᴰ.append_left (writes digest x) heard, carries))

      pub echo_collide : NoCollision digest books (replica_calls list) →
          NoneCollide digest (Meant books observers) list
      unfolding NoCollision NoneCollide
      echo_collide apart m m' block block' here here' ours ours' shows shows' =
          let (x, among, theirs, shown) = shown_too m block here ours shows in
          let (x', among', theirs', shown') = shown_too m' block' here' ours' shows' in
          apart x x' block block' among among' theirs theirs' shown shown'

  -- ---- from the test
  module _ (weights : List ℕ) (dishonest : ℕ) (observers : ℕ → Bool) where
    abbrev Heard : List AnyMember → List Bytes → Type 0
    Heard P heard =
        (frame : Bytes) → Memᴰ frame heard → HeardBy (HonestIn weights dishonest) (replica_calls P) frame

    heard_more : (P Q : List AnyMember) (heard : List Bytes) → Heard P heard → Heard (P ++ Q) heard
    heard_more P Q heard h frame i =
        let (m, among, ours, delivered) = h frame i in
        (m, rw (replicas_append P Q) (mathlib.Core.List.Memᴰ.append_left (replica_calls Q) among), ours, delivered)

    heard_last : (P : List AnyMember) (m : Member) (heard : List Bytes) → Heard P heard →
        Heard (P ++ (of_replica m ∷ [])) (cond (is_honest weights dishonest m.replica) (delivers digest m) [] ++ heard)
    unfolding replica_calls
    heard_last P m heard h frame i =
        go (is_honest weights dishonest m.replica) refl (mathlib.Core.List.Memᴰ.append_cases _ i)
      where
        go : (b : Bool) → is_honest weights dishonest m.replica ≡ b →
            Memᴰ frame (cond b (delivers digest m) []) ⊎ Memᴰ frame heard →
            HeardBy (HonestIn weights dishonest) (replica_calls (P ++ (of_replica m ∷ []))) frame
        go b e (inr j) = heard_more P (of_replica m ∷ []) heard h frame j
        go false e (inl j) = absurd (mathlib.Core.List.Memᴰ.not-nil j)
        go true e (inl j) = (
          m,
          rw (replicas_append P (of_replica m ∷ [])) (mathlib.Core.List.Memᴰ.append_right (replica_calls P) (mathlib.Core.List.Memᴰ.head refl)),
          honest_in weights dishonest m.replica e,
          j,
        )

    abbrev hears : List Bytes → ObserverMember → Bool
    hears heard m =
        implies (observers m.observer) (every_in (λ frame. holds frame heard) (observes digest m).delivers)

    echoes_from : (P : List AnyMember) (heard : List Bytes) (list : List AnyMember) → Heard P heard →
        echoes digest weights dishonest observers heard list ≡ true →
        (before : List AnyMember) (m : ObserverMember) (after : List AnyMember) (frame : Bytes) →
        list ≡ before ++ (of_observer m ∷ after) → observers m.observer ≡ true →
        Memᴰ frame (observes digest m).delivers →
        HeardBy (HonestIn weights dishonest) (replica_calls (P ++ before)) frame
    unfolding echoes
    echoes_from P heard [] h test before m after frame here ours delivered =
        absurd (split_never (of_observer m) before after here)
    echoes_from P heard (of_replica x ∷ xs) h test [] m after frame here ours delivered =
        let never = (split_head here).0 in let z : ◌≡◌ {A = ℕ} 0 1 = cc in absurd (omega arith)
    echoes_from P heard (of_replica x ∷ xs) h test (y ∷ before) m after frame here ours delivered =
        let rest = echoes_from (P ++ (of_replica x ∷ [])) _ xs (heard_last P x heard h) test before m after frame
        (split_head here).1 ours delivered in
        subst (λ (z : List AnyMember). HeardBy (HonestIn weights dishonest) (replica_calls z) frame)
        (append_snoc P (of_replica x) before ∙ ap (λ (z : AnyMember). P ++ (z ∷ before)) (split_head here).0) rest
    echoes_from P heard (of_observer x ∷ xs) h test [] m after frame here ours delivered =
        let is = (split_head here).0 in
        let same : x ≡ m = cc in
        let first = (and_both (hears heard x) (echoes digest weights dishonest observers heard xs) test).0 in
        let each = subst (λ (z : ObserverMember). hears heard z ≡ true) same first in
        rw append-nil (h frame (holds_member frame heard
        (every_in_lem (λ (f : Bytes). holds f heard) (observes digest m).delivers (implies_true _ _ each ours) frame
        delivered)))
    echoes_from P heard (of_observer x ∷ xs) h test (y ∷ before) m after frame here ours delivered =
        let rest = echoes_from (P ++ (of_observer x ∷ [])) heard xs (heard_more P (of_observer x ∷ []) heard h)
        (and_both (hears heard x) (echoes digest weights dishonest observers heard xs) test).1 before m after frame
        (split_head here).1 ours delivered in
        subst (λ (z : List AnyMember). HeardBy (HonestIn weights dishonest) (replica_calls z) frame)
        (append_snoc P (of_observer x) before ∙ ap (λ (z : AnyMember). P ++ (z ∷ before)) (split_head here).0) rest

    pub echoes_sound : (list : List AnyMember) → echoes digest weights dishonest observers [] list ≡ true →
        Echoes (HonestIn weights dishonest) (λ s. observers s ≡ true) list
    unfolding Echoes
    echoes_sound list test = echoes_from [] [] list (λ frame i. absurd (mathlib.Core.List.Memᴰ.not-nil i)) test
