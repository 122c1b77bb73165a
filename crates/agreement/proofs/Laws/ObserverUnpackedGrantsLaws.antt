-- What is granted of statements and digests is granted of a list with observers and of the unpacked list, or of
-- neither: of replicas' members by the law for replicas alone, and of observers' by where they stand.
use Rattle.std.specs.Prelude.{ℕ, ◌≡◌, ◌↔◌}
use Rattle.std.proofs.Common.{sym, ap, subst, ◌∙◌}
use mathlib.Core.List.{List, ◌∷◌, ◌++◌, Memᴰ}
use Rattle.std.proofs.Math.Option.{some}
use Rattle.protocol.specs.Bytes.{Bytes}
use Rattle.agreement.specs.Lists.{Member, NotForged, Shows, Statement, Wrote, statement_of}
use Rattle.agreement.specs.ObserverLists.{AnyMember, AnyShows, Meant, NoneCollide, NoneForged, ObserverMember}
use Rattle.agreement.specs.ObserverLists.{any_delivers, any_shows, of_observer, of_replica, replica_calls}
use Rattle.agreement.specs.ObserverUnpacked.{all_unpacked}
use Rattle.agreement.proofs.Laws.ObserverListsLaws.{member_replica, replica_member, replicas_append}
use Rattle.agreement.proofs.Laws.ObserverUnpackedLaws.{observer_stays, replica_unpacked, replicas_unpacked}
use Rattle.agreement.proofs.Laws.ObserverUnpackedLaws.{unpacked_at, unpacked_split}
use Rattle.agreement.proofs.Laws.UnpackedGrantsLaws.{same_wrote, shown_packed, shown_unpacked, unforged_stays}
use Rattle.agreement.proofs.Laws.WithoutObserversLaws.{forged_to_replicas}

module _ (digest : Bytes → Bytes) (books observers : ℕ → Type 0) where
  -- ---- statements
  module _ (names : ℕ → Type 0) where
    abbrev Unforged : List AnyMember → Type 0
    Unforged list = NoneForged digest (Meant books observers) names list

    abbrev ToReplicas : List Member → Type 0
    ToReplicas list = NotForged digest books names list

    -- what the frames that this member delivers state was written by one of these
    abbrev Backed : AnyMember → List Member → Type 0
    Backed m before = (frame : Bytes) (s : ℕ) (st : Statement) → Meant books observers m → names s →
        Memᴰ frame (any_delivers digest m) → statement_of digest frame s ≡ some st → Wrote digest s st before

    abbrev ToObservers : List AnyMember → Type 0
    ToObservers list = (before : List AnyMember) (m : ObserverMember) (after : List AnyMember) →
        list ≡ before ++ (of_observer m ∷ after) → Backed (of_observer m) (replica_calls before)

    -- by replicas and by observers
    from_both : (list : List AnyMember) → ToReplicas (replica_calls list) → ToObservers list → Unforged list
    unfolding NoneForged NotForged Meant any_delivers replica_calls
    from_both list replicas others before (of_replica m) after frame s st here =
        replicas (replica_calls before) m (replica_calls after) frame s st
        (ap replica_calls here ∙ replicas_append before (of_replica m ∷ after))
    from_both list replicas others before (of_observer m) after frame s st here =
        others before m after here frame s st

    at_observer : (list : List AnyMember) → Unforged list → ToObservers list
    unfolding NoneForged
    at_observer list unforged before m after here frame s st =
        unforged before (of_observer m) after frame s st here

    pub any_unforged_stays : (list : List AnyMember) → Unforged list ↔ Unforged (all_unpacked digest list)
    any_unforged_stays list = (
      λ unforged. from_both (all_unpacked digest list)
          (subst ToReplicas (sym (replicas_unpacked digest list))
          ((unforged_stays digest books names (replica_calls list)).0
          (forged_to_replicas digest books names observers list unforged)))
          (λ before m after here frame s st meant named i e.
          let (front, back, is, same) = unpacked_split digest list before m after here in
          subst (Wrote digest s st) (sym (replicas_unpacked digest front) ∙ ap replica_calls same)
          ((same_wrote digest (replica_calls front) s st).0
          (at_observer list unforged front m back is frame s st meant named i e))),
      λ unforged. from_both list
          ((unforged_stays digest books names (replica_calls list)).1 (subst ToReplicas (replicas_unpacked digest list)
          (forged_to_replicas digest books names observers (all_unpacked digest list) unforged)))
          (λ before m after here frame s st meant named i e.
          (same_wrote digest (replica_calls before) s st).1
          (subst (Wrote digest s st) (replicas_unpacked digest before)
          (at_observer (all_unpacked digest list) unforged (all_unpacked digest before) m (all_unpacked digest after)
          (ap (all_unpacked digest) here ∙ unpacked_at digest before m after) frame s st meant named i e))),
    )

  -- ---- blocks
  -- a member of the list that is meant and shows this block
  abbrev ShownIn : List AnyMember → Bytes → Type 0
  ShownIn list block = (m : AnyMember) × Memᴰ m list × Meant books observers m × AnyShows digest m block

  shown_stays : (list : List AnyMember) (block : Bytes) →
      ShownIn list block ↔ ShownIn (all_unpacked digest list) block
  unfolding Meant Shows AnyShows any_shows
  shown_stays list block = (forth, back)
    where
      forth : ShownIn list block → ShownIn (all_unpacked digest list) block
      forth (of_replica m, i, ours, shows) =
          let (d, here, whose, shown) = shown_unpacked digest (replica_calls list) m block (replica_member list m i)
          shows in
          (of_replica d, (replica_unpacked digest list d).1 here, rw whose ours, shown)
      forth (of_observer m, i, ours, shows) = (of_observer m, (observer_stays digest list m).0 i, ours, shows)

      back : ShownIn (all_unpacked digest list) block → ShownIn list block
      back (of_replica d, i, ours, shows) =
          let (m, here, whose, shown) = shown_packed digest (replica_calls list) d block
          ((replica_unpacked digest list d).0 i) shows in
          (of_replica m, member_replica list m here, rw whose ours, shown)
      back (of_observer m, i, ours, shows) = (of_observer m, (observer_stays digest list m).1 i, ours, shows)

  pub any_collisions_stay : (list : List AnyMember) → NoneCollide digest (Meant books observers) list ↔
      NoneCollide digest (Meant books observers) (all_unpacked digest list)
  unfolding NoneCollide
  any_collisions_stay list = (
    λ none d d' block block' i i' ours ours' shows shows' same.
        let (m, here, meant, shown) = (shown_stays list block).1 (d, i, ours, shows) in
        let (m', here', meant', shown') = (shown_stays list block').1 (d', i', ours', shows') in
        none m m' block block' here here' meant meant' shown shown' same,
    λ none m m' block block' i i' ours ours' shows shows' same.
        let (d, here, meant, shown) = (shown_stays list block).0 (m, i, ours, shows) in
        let (d', here', meant', shown') = (shown_stays list block').0 (m', i', ours', shows') in
        none d d' block block' here here' meant meant' shown shown' same,
  )
