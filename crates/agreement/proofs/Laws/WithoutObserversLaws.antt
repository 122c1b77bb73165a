-- Demand 3 over lists without observers follows from that over lists with them: none of them is an observer's. And what
-- is granted of a list with observers is granted of the replicas' calls.
use Rattle.std.specs.Prelude.{ℕ, ◌≡◌, refl}
use Rattle.std.proofs.Math.Path.{sym, ap}
use Rattle.std.proofs.Common.{subst, ◌∙◌}
use mathlib.Core.List.{List, [], ◌∷◌, map, Memᴰ}
use Rattle.protocol.specs.Bytes.{Bytes}
use Rattle.agreement.proofs.Laws.ObserverListsLaws.{member_replica, replica_member, replica_split, replicas_append}
use Rattle.agreement.specs.Lists.{Agreement, HonestIn, Member, NoCollision, NotForged, Shows, Wrote}
use Rattle.agreement.specs.ObserverLists.{AnyMember, AnyReads, AnyShows, Meant, NoneCollide, NoneForged}
use Rattle.agreement.specs.ObserverLists.{ObservedAgreement, any_delivers, any_shows, of_observer, of_replica}
use Rattle.agreement.specs.ObserverLists.{replica_calls}

pub only_replicas : (list : List Member) → replica_calls (map of_replica list) ≡ list
unfolding replica_calls
only_replicas [] = refl
only_replicas (m ∷ list) = ap (λ (rest : List Member). m ∷ rest) (only_replicas list)

-- what is granted of statements delivered to all is granted of those to replicas
pub forged_to_replicas : (digest : Bytes → Bytes) (books names observers : ℕ → Type 0) (l : List AnyMember) →
    NoneForged digest (Meant books observers) names l → NotForged digest books names (replica_calls l)
unfolding NoneForged NotForged Meant any_delivers
forged_to_replicas digest books names observers l unforged before m after frame s statement here ours named got says =
    let (front, back, is, same) = replica_split l before m after here in
    subst (λ (calls : List Member). Wrote digest s statement calls) same
    (unforged front (of_replica m) back frame s statement is ours named got says)

-- nobody is meant among observers
abbrev Nobody : ℕ → Type 0
Nobody s = ⊥

module _ (digest : Bytes → Bytes) (books : ℕ → Type 0) (list : List Member) where
  none_forged : (names : ℕ → Type 0) → NotForged digest books names list →
      NoneForged digest (Meant books Nobody) names (map of_replica list)
  unfolding NotForged NoneForged Meant any_delivers replica_calls
  none_forged names unforged before (of_replica m) after frame s statement here ours =
      let split = sym (only_replicas list) ∙ ap replica_calls here ∙ replicas_append before (of_replica m ∷ after) in
      unforged (replica_calls before) m (replica_calls after) frame s statement split ours
  none_forged names unforged before (of_observer m) after frame s statement here never = absurd never

  none_collide : NoCollision digest books list → NoneCollide digest (Meant books Nobody) (map of_replica list)
  unfolding NoCollision NoneCollide Meant Shows AnyShows any_shows
  none_collide apart (of_replica m) (of_replica m') block block' here here' ours ours' shows shows' e =
      apart m m' block block' (among m here) (among m' here') ours ours' shows shows' e
    where
      among : (x : Member) → Memᴰ (of_replica x) (map of_replica list) → Memᴰ x list
      among x i = rw only_replicas at (replica_member (map of_replica list) x i)
  none_collide apart (of_replica m) (of_observer m') block block' here here' ours never shows shows' e = absurd never
  none_collide apart (of_observer m) m' block block' here here' never ours' shows shows' e = absurd never

-- demand 3 of a list without observers follows
pub without_observers : (digest : Bytes → Bytes) → ObservedAgreement digest → Agreement digest
unfolding ObservedAgreement Agreement Meant AnyReads
without_observers digest observed weights dishonest list third keeps unforged apart m m' part part' i i' h h' x x' =
    observed weights dishonest Nobody (map of_replica list) third (λ s hs. rw (only_replicas list) (keeps s hs))
    (λ s never. absurd never)
    (none_forged digest (HonestIn weights dishonest) list (HonestIn weights dishonest) unforged)
    (none_collide digest (HonestIn weights dishonest) list apart)
    (of_replica m) (of_replica m') part part' (among m i) (among m' i') h h' x x'
  where
    among : (x : Member) → Memᴰ x list → Memᴰ (of_replica x) (map of_replica list)
    among x j = member_replica (map of_replica list) x (rw (only_replicas list) j)
