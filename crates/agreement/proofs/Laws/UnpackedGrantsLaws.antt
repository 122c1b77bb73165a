-- What is granted of statements and digests is granted of a list and of the unpacked list, or of neither.
use Rattle.std.specs.Prelude.{ℕ, ◌≡◌, refl, ◌⊎◌, ◌↔◌}
use Rattle.std.proofs.Common.{sym, inl, inr}
use Rattle.std.proofs.Math.Path.{subst}
use mathlib.Core.List.Memᴰ
use mathlib.Core.List.{List, [], ◌∷◌, ◌++◌, append_assoc, append-nil, Memᴰ}
use Rattle.std.proofs.Math.Option.{some}
use Rattle.std.proofs.Math.Seq.{append_snoc}
use Rattle.protocol.specs.Bytes.{Bytes}
use Rattle.protocol.specs.Deliver.{deliver_call}
use Rattle.protocol.specs.Packet.{accepted_of, packet_frames}
use Rattle.protocol.specs.Call.{effect}
use Rattle.agreement.specs.Lists.{Member, NoCollision, NotForged, Shows, Statement, Wrote, block_in, delivers}
use Rattle.agreement.specs.Lists.{statement_of, writes}
use Rattle.agreement.specs.Unpacked.{deliveries_of, unpacked}
use Rattle.agreement.proofs.Laws.AlongLaws.{Along, along, along_cut, along_join, at_each}
use Rattle.agreement.proofs.Laws.ListsLaws.{wrote_last, wrote_more}
use Rattle.agreement.proofs.Laws.StandsForLaws.{delivered_by, delivery_to, has_delivery, is_delivery, packet_writes}
use Rattle.agreement.proofs.Laws.StandsForLaws.{stands_for_lem}
use Rattle.agreement.proofs.Laws.UnpackedLaws.{Standing, from_unpacked, in_unpacked, standing}

module _ (digest : Bytes → Bytes) where
  -- ---- what was written
  abbrev SameWritten : (P P' : List Member) → Type 0
  SameWritten P P' = (s : ℕ) (st : Statement) → Wrote digest s st P ↔ Wrote digest s st P'

  -- members that write nothing
  silent : (s : ℕ) (st : Statement) (P xs : List Member) → ((x : Member) → Memᴰ x xs → writes digest x ≡ []) →
      Wrote digest s st (P ++ xs) → Wrote digest s st P
  unfolding Wrote
  silent s st P xs each w = go (Memᴰ.append_cases P w.2)
    where
      go : Memᴰ w.0 P ⊎ Memᴰ w.0 xs → Wrote digest s st P
      go (inl i) = unfold Wrote in (w.0, w.1, i, w.3, w.4, w.5)
      go (inr i) = absurd (Memᴰ.not-nil (rw (each w.0 i) at w.4))

  abbrev Silent : List Member → Type 0
  Silent xs = (x : Member) → Memᴰ x xs → writes digest x ≡ []

  both_silent : (P P' xs ys : List Member) → Silent xs → Silent ys → SameWritten P P' →
      SameWritten (P ++ xs) (P' ++ ys)
  both_silent P P' xs ys none none' same s st = (
    λ w. wrote_more digest s st P' ys ((same s st).0 (silent s st P xs none w)),
    λ w. wrote_more digest s st P xs ((same s st).1 (silent s st P' ys none' w)),
  )

  alone_silent : (m : Member) → writes digest m ≡ [] → Silent (m ∷ [])
  alone_silent m none x i = rw (Memᴰ.eq_of_singleton i) none

  -- one member more, behind both lists
  wrote_next : (s : ℕ) (st : Statement) (P P' : List Member) (m : Member) →
      (Wrote digest s st P → Wrote digest s st P') → Wrote digest s st (P ++ (m ∷ [])) →
      Wrote digest s st (P' ++ (m ∷ []))
  wrote_next s st P P' m before w = go (wrote_last digest s st P m w)
    where
      go : Wrote digest s st P ⊎ ((m.replica ≡ s) × (f : Bytes) × Memᴰ f
          (writes digest m) × (statement_of digest f s ≡ some st)) →
          Wrote digest s st (P' ++ (m ∷ []))
      go (inl v) = wrote_more digest s st P' (m ∷ []) (before v)
      go (inr v) = unfold Wrote in (m, v.1, Memᴰ.append_right P' (Memᴰ.head refl), v.0, v.2, v.3)

  written_more : (P P' : List Member) → SameWritten P P' → (m : Member) →
      SameWritten (P ++ (m ∷ [])) (P' ++ Standing digest m)
  written_more P P' same m =
      standing digest m (λ (ms : List Member). SameWritten (P ++ (m ∷ [])) (P' ++ ms))
      (λ _ s st. (wrote_next s st P P' m (same s st).0, wrote_next s st P' P m (same s st).1))
      (λ packet is. stands_for_lem digest m packet is
      (λ (ms : List Member) (fs : List Bytes) (b : Bytes). SameWritten (P ++ (m ∷ [])) (P' ++ ms))
      (both_silent P P' (m ∷ []) [] (alone_silent m (packet_writes digest m packet is))
      (λ x i. absurd (Memᴰ.not-nil i)) same)
      (both_silent P P' (m ∷ []) _ (alone_silent m (packet_writes digest m packet is))
      (λ d i. (is_delivery digest m.replica m.book (packet_frames packet) d i).writes_none) same))

  -- the whole list
  written_all : (P P' list : List Member) → SameWritten P P' → SameWritten (P ++ list) (P' ++ unpacked digest list)
  unfolding unpacked
  written_all P P' [] same = rw (append-nil P, append-nil P') same
  written_all P P' (m ∷ ms) same =
      subst (λ (front : List Member). SameWritten front (P' ++ (Standing digest m ++ unpacked digest ms)))
      (append_snoc P m ms)
      (subst (SameWritten ((P ++ (m ∷ [])) ++ ms)) (append_assoc P' (Standing digest m) (unpacked digest ms))
      (written_all (P ++ (m ∷ [])) (P' ++ Standing digest m) ms (written_more P P' same m)))

  pub same_wrote : (list : List Member) (s : ℕ) (st : Statement) →
      Wrote digest s st list ↔ Wrote digest s st (unpacked digest list)
  same_wrote list = written_all [] [] list (λ s st. (λ w. w, λ w. w))

  -- ---- statements: `books` and `names` as in what is granted
  module _ (books names : ℕ → Type 0) where
    -- what these frames, delivered to the book of `t`, state in one of the names was written
    abbrev Stated : List Member → ℕ → List Bytes → Type 0
    Stated P t frames = (frame : Bytes) (s : ℕ) (st : Statement) → books t → names s →
        Memᴰ frame frames → statement_of digest frame s ≡ some st → Wrote digest s st P

    abbrev Backed : List Member → Member → Type 0
    Backed P m = Stated P m.replica (delivers digest m)

    -- the deliveries of frames, and all that they deliver
    frames_backed : (P : List Member) (t : ℕ) (book : Bytes) (frames : List Bytes) →
        Stated P t (accepted_of digest book frames) → Along Backed P (deliveries_of digest t book frames)
    unfolding Along deliveries_of accepted_of effect
    frames_backed P t book [] stated = tt
    frames_backed P t book (f ∷ frames) stated =
        let next : Bytes = (deliver_call digest book f).book in (
          λ frame s st ours named i. stated frame s st ours named (Memᴰ.append_left (accepted_of digest next frames) i),
          frames_backed (P ++ (delivery_to digest t book f ∷ [])) t next frames (λ frame s st ours named i e.
              wrote_more digest s st P (delivery_to digest t book f ∷ [])
              (stated frame s st ours named (Memᴰ.append_right (delivered_by digest book f) i) e)),
        )

    backed_frames : (P : List Member) (t : ℕ) (book : Bytes) (frames : List Bytes) →
        Along Backed P (deliveries_of digest t book frames) → Stated P t (accepted_of digest book frames)
    unfolding Along deliveries_of accepted_of effect
    backed_frames P t book [] all frame s st ours named i e = absurd (Memᴰ.not-nil i)
    backed_frames P t book (f ∷ frames) (first, all) frame s st ours named i e =
        go (Memᴰ.append_cases (delivered_by digest book f) i)
        (λ j. backed_frames (P ++ (delivery_to digest t book f ∷ [])) t next frames all frame s st ours named j e)
      where
        next : Bytes
        next = (deliver_call digest book f).book

        Later : Type 0
        Later = Memᴰ frame (accepted_of digest next frames)

        go : Memᴰ frame (delivered_by digest book f) ⊎ Later →
            (Later → Wrote digest s st (P ++ (delivery_to digest t book f ∷ []))) → Wrote digest s st P
        go (inl j) later = first frame s st ours named j e
        go (inr j) later =
            silent s st P (delivery_to digest t book f ∷ []) (alone_silent (delivery_to digest t book f)
            (unfold effect in refl)) (later j)

    -- what a member stands for, in the place of the member
    module _ (P P' : List Member) (same : SameWritten P P') (m : Member) where
      standing_backed : Backed P m → Along Backed P' (Standing digest m)
      unfolding Along
      standing_backed backed =
          standing digest m (λ (ms : List Member). Along Backed P' ms) (λ _. (before, tt))
          (λ packet is. stands_for_lem digest m packet is
          (λ (ms : List Member) (fs : List Bytes) (b : Bytes). Stated P' m.replica fs → Along Backed P' ms)
          (λ _. tt) (frames_backed P' m.replica m.book (packet_frames packet)) before)
        where
          before : Stated P' m.replica (delivers digest m)
          before frame s st ours named i e = (same s st).0 (backed frame s st ours named i e)

      backed_standing : Along Backed P' (Standing digest m) → Backed P m
      backed_standing all frame s st ours named i e =
          (same s st).1 (standing digest m (λ (ms : List Member). Along Backed P' ms →
          Stated P' m.replica (delivers digest m))
          (λ _. unfold Along in λ q. q.0)
          (λ packet is. stands_for_lem digest m packet is
          (λ (ms : List Member) (fs : List Bytes) (b : Bytes). Along Backed P' ms → Stated P' m.replica fs)
          (λ _ f t u o a j q. absurd (Memᴰ.not-nil j))
          (backed_frames P' m.replica m.book (packet_frames packet))) all frame s st ours named i e)

    -- the whole list
    unpacked_backed : (P P' list : List Member) → SameWritten P P' → Along Backed P list →
        Along Backed P' (unpacked digest list)
    unfolding Along unpacked
    unpacked_backed P P' [] same all = tt
    unpacked_backed P P' (m ∷ ms) same (first, all) =
        along_join Backed P' (Standing digest m) (unpacked digest ms) (standing_backed P P' same m first)
        (unpacked_backed (P ++ (m ∷ [])) (P' ++ Standing digest m) ms (written_more P P' same m) all)

    backed_unpacked : (P P' list : List Member) → SameWritten P P' → Along Backed P' (unpacked digest list) →
        Along Backed P list
    unfolding Along unpacked
    backed_unpacked P P' [] same all = tt
    backed_unpacked P P' (m ∷ ms) same all =
        let (first, rest) = along_cut Backed P' (Standing digest m) (unpacked digest ms) all in (
          backed_standing P P' same m first,
          backed_unpacked (P ++ (m ∷ [])) (P' ++ Standing digest m) ms (written_more P P' same m) rest,
        )

    to_along : (list : List Member) → NotForged digest books names list → Along Backed [] list
    unfolding NotForged
    to_along list unforged = along Backed [] list (λ before m after here frame s st ours named i e.
        unforged before m after frame s st here ours named i e)

    from_along : (list : List Member) → Along Backed [] list → NotForged digest books names list
    unfolding NotForged
    from_along list all before m after frame s st here ours named i e =
        at_each Backed [] list all before m after here frame s st ours named i e

    pub unforged_stays : (list : List Member) →
        NotForged digest books names list ↔ NotForged digest books names (unpacked digest list)
    unforged_stays list = (
      λ unforged. from_along (unpacked digest list)
          (unpacked_backed [] [] list (λ s st. (λ w. w, λ w. w)) (to_along list unforged)),
      λ unforged. from_along list
          (backed_unpacked [] [] list (λ s st. (λ w. w, λ w. w)) (to_along (unpacked digest list) unforged)),
    )

  -- ---- blocks
  -- a member of the list, of the same replica, that shows this block
  abbrev ShownIn : List Member → ℕ → Bytes → Type 0
  ShownIn list t block = (m : Member) × Memᴰ m list × (m.replica ≡ t) × Shows digest m block

  -- one of these frames carries it
  abbrev Carried : List Bytes → Bytes → Type 0
  Carried frames block = (frame : Bytes) × Memᴰ frame frames × (block_in frame ≡ some block)

  delivers_shows : (m : Member) (block : Bytes) → Carried (delivers digest m) block → Shows digest m block
  unfolding Shows
  delivers_shows m block (frame, i, e) = (frame, Memᴰ.append_left (writes digest m) i, e)

  shows_delivers : (m : Member) (block : Bytes) → writes digest m ≡ [] → Shows digest m block →
      Carried (delivers digest m) block
  unfolding Shows
  shows_delivers m block none (frame, i, e) = (frame, rw (none, append-nil) at i, e)

  pub shown_packed : (list : List Member) (d : Member) (block : Bytes) → Memᴰ d (unpacked digest list) →
      Shows digest d block → ShownIn list d.replica block
  shown_packed list d block i shows =
      let (m, here, j) = from_unpacked digest list d i in
      let shown = standing digest m (λ (ms : List Member). Memᴰ d ms → ShownBy m)
      (λ _ k. subst ShownBy (Memᴰ.eq_of_singleton k) (refl, shows))
      (λ packet is k.
      let (whose, carried) = stands_for_lem digest m packet is
      (λ (ms : List Member) (fs : List Bytes) (b : Bytes). Memᴰ d ms →
      (m.replica ≡ d.replica) × Carried fs block)
      (λ l. absurd (Memᴰ.not-nil l))
      (λ l.
      let a = is_delivery digest m.replica m.book (packet_frames packet) d l in
      let (frame, f, e) = shows_delivers d block a.writes_none shows in
      (sym a.whose, (frame, a.among frame f, e))) k in
      (whose, delivers_shows m block carried)) j in
      (m, here, shown.0, shown.1)
    where
      ShownBy : Member → Type 0
      ShownBy m = (m.replica ≡ d.replica) × Shows digest m block

  pub shown_unpacked : (list : List Member) (m : Member) (block : Bytes) → Memᴰ m list → Shows digest m block →
      ShownIn (unpacked digest list) m.replica block
  shown_unpacked list m block i shows =
      let (d, here, whose, shown) = standing digest m (λ (ms : List Member). ShownIn ms m.replica block)
      (λ _. (m, Memᴰ.head refl, refl, shows))
      (λ packet is. stands_for_lem digest m packet is
      (λ (ms : List Member) (fs : List Bytes) (b : Bytes). Carried fs block → ShownIn ms m.replica block)
      (λ carried. absurd (Memᴰ.not-nil carried.1))
      (λ carried.
      let r = has_delivery digest m.replica m.book (packet_frames packet) carried.0 carried.1 in
      (r.0, r.1, r.2, delivers_shows r.0 block (carried.0, r.3, carried.2)))
      (shows_delivers m block (packet_writes digest m packet is) shows)) in
      (d, in_unpacked digest list m d i here, whose, shown)

  pub collisions_stay : (books : ℕ → Type 0) (list : List Member) →
      NoCollision digest books list ↔ NoCollision digest books (unpacked digest list)
  unfolding NoCollision
  collisions_stay books list = (
    λ none d d' block block' i i' ours ours' shows shows' same.
        let (m, here, whose, shown) = shown_packed list d block i shows in
        let (m', here', whose', shown') = shown_packed list d' block' i' shows' in
        none m m' block block' here here' (rw whose ours) (rw whose' ours') shown shown' same,
    λ none m m' block block' i i' ours ours' shows shows' same.
        let (d, here, whose, shown) = shown_unpacked list m block i shows in
        let (d', here', whose', shown') = shown_unpacked list m' block' i' shows' in
        none d d' block block' here here' (rw whose ours) (rw whose' ours') shown shown' same,
  )
