-- Lists with observers: the replicas' and the observers' calls of them, and what is granted of these.
use Rattle.std.specs.Prelude.{ℕ, ◌≡◌, refl, ◌⊎◌}
use Rattle.std.proofs.Common.{arith, ap, inl, inr}
use mathlib.Core.List.Memᴰ
use mathlib.Core.List.{List, [], ◌∷◌, ◌++◌, Memᴰ}
use Rattle.protocol.specs.Bytes.{Bytes}
use Rattle.agreement.proofs.Laws.ListsLaws.{or_else_assoc, or_else_none, split_head, split_never}
use Rattle.agreement.specs.Lists.{Member, or_else}
use Rattle.agreement.specs.ObserverLists.{AnyMember, ObserverMember, observer_calls, observer_last_left}
use Rattle.agreement.specs.ObserverLists.{observer_left_by, of_observer, of_replica, replica_calls}

-- ---- one list after another
pub replicas_append : (xs ys : List AnyMember) → replica_calls (xs ++ ys) ≡ replica_calls xs ++ replica_calls ys
unfolding replica_calls
replicas_append [] ys = refl
replicas_append (of_replica m ∷ xs) ys = ap (λ (l : List Member). m ∷ l) (replicas_append xs ys)
replicas_append (of_observer m ∷ xs) ys = replicas_append xs ys

pub observers_append : (xs ys : List AnyMember) → observer_calls (xs ++ ys) ≡ observer_calls xs ++ observer_calls ys
unfolding observer_calls
observers_append [] ys = refl
observers_append (of_replica m ∷ xs) ys = observers_append xs ys
observers_append (of_observer m ∷ xs) ys = ap (λ (l : List ObserverMember). m ∷ l) (observers_append xs ys)

-- ---- a replica's call stands in both lists
pub replica_member : (l : List AnyMember) (m : Member) → Memᴰ (of_replica m) l → Memᴰ m (replica_calls l)
unfolding replica_calls
replica_member [] m i = absurd (Memᴰ.not-nil i)
replica_member (of_replica x ∷ l) m i = go (Memᴰ.cases_cons i) (replica_member l m)
  where
    go : (of_replica m ≡ of_replica x) ⊎ Memᴰ (of_replica m) l →
        (Memᴰ (of_replica m) l → Memᴰ m (replica_calls l)) → Memᴰ m (x ∷ replica_calls l)
    go (inl e) below = let is : m ≡ x = cc in Memᴰ.head is
    go (inr j) below = Memᴰ.tail (below j)
replica_member (of_observer x ∷ l) m i = go (Memᴰ.cases_cons i) (replica_member l m)
  where
    go : (of_replica m ≡ of_observer x) ⊎ Memᴰ (of_replica m) l →
        (Memᴰ (of_replica m) l → Memᴰ m (replica_calls l)) → Memᴰ m (replica_calls l)
    go (inl e) below = let z : ◌≡◌ {A = ℕ} 0 1 = cc in absurd (omega arith)
    go (inr j) below = below j

pub member_replica : (l : List AnyMember) (m : Member) → Memᴰ m (replica_calls l) → Memᴰ (of_replica m) l
unfolding replica_calls
member_replica [] m i = absurd (Memᴰ.not-nil i)
member_replica (of_replica x ∷ l) m i = go (Memᴰ.cases_cons i) (member_replica l m)
  where
    go : (m ≡ x) ⊎ Memᴰ m (replica_calls l) → (Memᴰ m (replica_calls l) → Memᴰ (of_replica m) l) →
        Memᴰ (of_replica m) (of_replica x ∷ l)
    go (inl e) below = Memᴰ.head (ap of_replica e)
    go (inr j) below = Memᴰ.tail (below j)
member_replica (of_observer x ∷ l) m i = Memᴰ.tail (member_replica l m i)

-- where the calls of replicas are split, the list is
abbrev SplitAt : List AnyMember → List Member → Member → Type 0
SplitAt l before m = (front : List AnyMember) × (back : List AnyMember) × (l ≡ front ++ (of_replica m ∷ back)) ×
    (replica_calls front ≡ before)

pub replica_split : (l : List AnyMember) (before : List Member) (m : Member) (after : List Member) →
    replica_calls l ≡ before ++ (m ∷ after) → SplitAt l before m
unfolding replica_calls
replica_split [] before m after e = absurd (split_never m before after e)
replica_split (of_observer x ∷ l) before m after e =
    let (front, back, is, same) = replica_split l before m after e in
    (of_observer x ∷ front, back, ap (λ (z : List AnyMember). of_observer x ∷ z) is, same)
replica_split (of_replica x ∷ l) [] m after e =
    ([], l, ap (λ (z : Member). of_replica z ∷ l) (split_head e).0, refl)
replica_split (of_replica x ∷ l) (y ∷ before) m after e =
    let (front, back, is, same) = replica_split l before m after (split_head e).1 in
    let x≡y = (split_head e).0 in
    (of_replica x ∷ front, back, ap (λ (z : List AnyMember). of_replica x ∷ z) is, cc)

module _ (digest : Bytes → Bytes) where
  -- ---- the book that an observer left
  pub observer_left_snoc : (s : ℕ) (P : List ObserverMember) (m : ObserverMember) →
      observer_last_left digest s (P ++ (m ∷ [])) ≡ or_else (observer_left_by digest s m) (observer_last_left digest s P)
  unfolding observer_last_left or_else
  observer_left_snoc s [] m = or_else_none (observer_left_by digest s m)
  observer_left_snoc s (q ∷ P) m = rw (observer_left_snoc s P m)
      (or_else_assoc (observer_left_by digest s m) (observer_last_left digest s P) (observer_left_by digest s q))
