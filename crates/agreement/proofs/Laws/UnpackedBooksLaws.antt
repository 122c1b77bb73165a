-- A replica that keeps one book along a list keeps it along the unpacked list, and is left with the same one.
use Rattle.std.specs.Prelude.{ℕ, ◌≡◌, Bool}
use Rattle.std.proofs.Math.Path.{refl, sym, ap, subst}
use Rattle.std.proofs.Common.{◌∙◌}
use Rattle.std.proofs.Math.Bool.{true, false}
use mathlib.Core.List.{List, [], ◌∷◌, ◌++◌, append_assoc, append-nil, Memᴰ}
use Rattle.std.proofs.Math.Option.{Option, some, none}
use Rattle.std.proofs.Math.Seq.{append_snoc}
use Rattle.std.proofs.Math.Dec.{eqb}
use borrow.Author.Tests.{eqb-true, eqb-false, eq-eqb}
use Rattle.protocol.specs.Bytes.{Bytes}
use Rattle.protocol.specs.Deliver.{deliver_all, deliver_call}
use Rattle.protocol.specs.Packet.{packet_frames}
use Rattle.protocol.specs.Call.{packet_delivery, effect}
use Rattle.agreement.specs.Lists.{Continues, Follows, KeepsOneBook, Member, Opens, does, last_left, left_by, or_else}
use Rattle.agreement.specs.Unpacked.{deliveries_of, stands_for, unpacked}
use Rattle.agreement.proofs.Laws.AlongLaws.{Along, along, along_join, at_each}
use Rattle.agreement.proofs.Laws.ListsLaws.{last_left_snoc}
use Rattle.agreement.proofs.Laws.StandsForLaws.{delivery_to, is_delivery, never, packet_opens, stands_for_lem}
use Rattle.agreement.proofs.Laws.UnpackedLaws.{Standing, standing}

module _ (digest : Bytes → Bytes) (weights : List ℕ) (s : ℕ) where
  abbrev left : List Member → Option Bytes
  left P = last_left digest s P

  -- a member of replica `s` goes on with the book that was last left
  abbrev Keeping : List Member → Member → Type 0
  Keeping P m = m.replica ≡ s → Follows digest weights s m (left P)

  abbrev KeepsAlong : (P list : List Member) → Type 0
  KeepsAlong P list = Along Keeping P list

  -- ---- one member more
  left_own : (P : List Member) (m : Member) → m.replica ≡ s → left (P ++ (m ∷ [])) ≡ some (does digest m).book
  unfolding left_by or_else
  left_own P m own = last_left_snoc digest s P m ∙ rw (eq-eqb m.replica s own)

  left_other : (P : List Member) (m : Member) → eqb m.replica s ≡ false → left (P ++ (m ∷ [])) ≡ left P
  unfolding left_by or_else
  left_other P m other = last_left_snoc digest s P m ∙ rw other

  -- ---- members of other replicas
  others : (P xs : List Member) → ((x : Member) → Memᴰ x xs → eqb x.replica s ≡ false) →
      KeepsAlong P xs × (left (P ++ xs) ≡ left P)
  unfolding Along
  others P [] each = (tt, rw append-nil refl)
  others P (x ∷ xs) each =
      let other = each x (Memᴰ.head refl) in
      let (keeps, same) = others (P ++ (x ∷ [])) xs (λ y i. each y (Memᴰ.tail i)) in (
        (λ own. absurd (eqb-false x.replica s other own), keeps),
        ap left (sym (append_snoc P x xs)) ∙ same ∙ left_other P x other,
      )

  -- ---- the deliveries of frames to the book of `s`
  own_deliveries : (P : List Member) (t : ℕ) → t ≡ s → (book : Bytes) (frames : List Bytes) → left P ≡ some book →
      KeepsAlong P (deliveries_of digest t book frames) ×
      (left (P ++ deliveries_of digest t book frames) ≡ some (deliver_all digest book frames))
  unfolding Along deliveries_of deliver_all Follows Continues effect
  own_deliveries P t own book [] was = (tt, rw append-nil was)
  own_deliveries P t own book (f ∷ frames) was =
      let d : Member = delivery_to digest t book f in
      let next : Bytes = (deliver_call digest book f).book in
      let (keeps, same) = own_deliveries (P ++ (d ∷ [])) t own next frames (left_own P d own) in
      ((λ _. rw was (refl, refl), keeps), ap left (sym (append_snoc P d (deliveries_of digest t next frames))) ∙ same)

  -- ---- what a member stands for, in the place of the member
  abbrev Replaces : (P P' : List Member) → Member → List Member → Type 0
  Replaces P P' m ms = KeepsAlong P' ms × (left (P ++ (m ∷ [])) ≡ left (P' ++ ms))

  module _ (P P' : List Member) (same : left P ≡ left P') (m : Member) (follows : Keeping P m) where
    itself : Replaces P P' m (m ∷ [])
    unfolding Along
    itself = (
      (λ own. subst (λ (o : Option Bytes). Follows digest weights s m o) same (follows own), tt),
      last_left_snoc digest s P m ∙ ap (or_else (left_by digest s m)) same ∙ sym (last_left_snoc digest s P' m),
    )

    -- a packet follows a call that left its book
    goes_on : (packet : Bytes) → m.call ≡ packet_delivery packet → m.replica ≡ s → left P ≡ some m.book
    goes_on packet is own = go (left P) (follows own)
      where
        go : (o : Option Bytes) → Follows digest weights s m o → o ≡ some m.book
        go none opens = unfold Follows Opens in never (sym (packet_opens digest m packet is) ∙ opens)
        go (some book) continues = unfold Follows Continues in ap some (sym continues.0)

    packed : (packet : Bytes) → m.call ≡ packet_delivery packet → Replaces P P' m (stands_for digest m (some packet))
    unfolding Along
    packed packet is = go (eqb m.replica s) refl
      where
        go : (b : Bool) → eqb m.replica s ≡ b → Replaces P P' m (stands_for digest m (some packet))
        go true e =
            let own = eqb-true m.replica s e in
            let was = sym same ∙ goes_on packet is own in
            let (keeps, after) = stands_for_lem digest m packet is
            (λ (ms : List Member) (fs : List Bytes) (b : Bytes). KeepsAlong P' ms × (left (P' ++ ms) ≡ some b))
            (tt, rw append-nil was) (own_deliveries P' m.replica own m.book (packet_frames packet) was) in
            (keeps, left_own P m own ∙ sym after)
        go false e =
            let (keeps, after) = stands_for_lem digest m packet is
            (λ (ms : List Member) (fs : List Bytes) (b : Bytes). KeepsAlong P' ms × (left (P' ++ ms) ≡ left P'))
            (tt, rw append-nil refl) (others P' _ (λ d i.
            rw (is_delivery digest m.replica m.book (packet_frames packet) d i).whose e)) in
            (keeps, left_other P m e ∙ same ∙ sym after)

    replaces : Replaces P P' m (Standing digest m)
    replaces = standing digest m (λ (ms : List Member). Replaces P P' m ms) (λ _. itself) packed

  -- ---- the whole list
  unpacked_keeps : (P P' list : List Member) → left P ≡ left P' → KeepsAlong P list →
      KeepsAlong P' (unpacked digest list) × (left (P ++ list) ≡ left (P' ++ unpacked digest list))
  unfolding Along unpacked
  unpacked_keeps P P' [] same keeps = (tt, rw (append-nil P, append-nil P') same)
  unpacked_keeps P P' (m ∷ ms) same (follows, keeps) =
      let (front, after) = replaces P P' same m follows in
      let (rest, end) = unpacked_keeps (P ++ (m ∷ [])) (P' ++ Standing digest m) ms after keeps in (
        along_join Keeping P' (Standing digest m) (unpacked digest ms) front rest,
        ap left (sym (append_snoc P m ms)) ∙ end
            ∙ ap left (append_assoc P' (Standing digest m) (unpacked digest ms)),
      )

  pub keeping_stays : (list : List Member) → KeepsOneBook digest weights list s →
      KeepsOneBook digest weights (unpacked digest list) s × (left (unpacked digest list) ≡ left list)
  unfolding KeepsOneBook
  keeping_stays list keeps =
      let (unpacked-along, end) = unpacked_keeps [] [] list refl (along Keeping [] list keeps) in
      (at_each Keeping [] (unpacked digest list) unpacked-along, sym end)
