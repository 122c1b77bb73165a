-- The members of an unpacked list, and what is delivered, written and read along it.
use Rattle.std.specs.Prelude.{ℕ, ◌≡◌, Bool, true, false, ◌⊎◌, ◌↔◌, eqb}
use Rattle.std.proofs.Math.Path.{refl, sym}
use Rattle.std.proofs.Common.{subst, ◌∙◌, inl, inr}
use Rattle.std.proofs.Math.Bool.{cond}
use mathlib.Core.List.Memᴰ
use mathlib.Core.List.{List, [], ◌∷◌, ◌++◌, append_assoc, append-nil, Memᴰ}
use Rattle.std.proofs.Math.Option.{Option, some, none}
use Rattle.protocol.specs.Bytes.{Bytes}
use Rattle.protocol.specs.Deliver.{deliver_call}
use Rattle.protocol.specs.Packet.{accepted_of}
use Rattle.protocol.specs.Call.{packet_delivery, effect}
use Rattle.agreement.specs.Lists.{Member, Reads, delivers, writes}
use Rattle.agreement.specs.Unpacked.{deliveries_of, gathered, listed, packet_in, read_by, stands_for, unpacked}
use Rattle.agreement.proofs.Laws.StandsForLaws.{IsDelivery, delivered_by, is_delivery, packet_call_lem, packet_reads}
use Rattle.agreement.proofs.Laws.StandsForLaws.{never, packet_writes, stands_for_lem}

both_parts : {A : Type 0} (b : Bool) (xs ys : List A) → cond b xs [] ++ cond b ys [] ≡ cond b (xs ++ ys) []
both_parts true xs ys = refl
both_parts false xs ys = refl

no_part : {A : Type 0} (b : Bool) → ◌≡◌ {A = List A} (cond b [] []) []
no_part true = refl
no_part false = refl

module _ (digest : Bytes → Bytes) where
  -- what a member stands for
  abbrev pub Standing : Member → List Member
  Standing m = stands_for digest m (packet_in m.call)

  -- itself, or what a packet stands for
  pub standing : (m : Member) (T : List Member → Type 0) → (packet_in m.call ≡ none → T (m ∷ [])) →
      ((packet : Bytes) → m.call ≡ packet_delivery packet → T (stands_for digest m (some packet))) → T (Standing m)
  unfolding stands_for
  standing m T itself packed = go (packet_in m.call) refl
    where
      go : (o : Option Bytes) → packet_in m.call ≡ o → T (stands_for digest m o)
      go none e = unfold stands_for in itself e
      go (some packet) e = packed packet (packet_call_lem m.call packet e)

  -- ---- members
  pub from_unpacked : (list : List Member) (d : Member) → Memᴰ d (unpacked digest list) →
      (m : Member) × Memᴰ m list × Memᴰ d (Standing m)
  unfolding unpacked
  from_unpacked [] d i = absurd (Memᴰ.not-nil i)
  from_unpacked (m ∷ ms) d i = go (Memᴰ.append_cases (Standing m) i) (from_unpacked ms d)
    where
      go : Memᴰ d (Standing m) ⊎ Memᴰ d (unpacked digest ms) →
          (Memᴰ d (unpacked digest ms) → (x : Member) × Memᴰ x ms × Memᴰ d (Standing x)) →
          (x : Member) × Memᴰ x (m ∷ ms) × Memᴰ d (Standing x)
      go (inl j) rest = (m, Memᴰ.head refl, j)
      go (inr j) rest = let r = rest j in (r.0, Memᴰ.tail r.1, r.2)

  pub in_unpacked : (list : List Member) (m d : Member) → Memᴰ m list → Memᴰ d (Standing m) →
      Memᴰ d (unpacked digest list)
  unfolding unpacked
  in_unpacked [] m d i j = absurd (Memᴰ.not-nil i)
  in_unpacked (x ∷ xs) m d i j = go (Memᴰ.cases_cons i) (λ k. in_unpacked xs m d k j)
    where
      go : (m ≡ x) ⊎ Memᴰ m xs → (Memᴰ m xs → Memᴰ d (unpacked digest xs)) →
          Memᴰ d (Standing x ++ unpacked digest xs)
      go (inl e) rest = Memᴰ.append_left (unpacked digest xs) (subst (λ (y : Member). Memᴰ d (Standing y)) e j)
      go (inr k) rest = Memᴰ.append_right (Standing x) (rest k)

  pub none_packed : (list : List Member) (d : Member) → Memᴰ d (unpacked digest list) → packet_in d.call ≡ none
  none_packed list d i =
      let (m, here, j) = from_unpacked list d i in
      standing m (λ (ms : List Member). Memᴰ d ms → packet_in d.call ≡ none)
      (λ free k. rw (Memᴰ.eq_of_singleton k) free)
      (λ packet is. stands_for_lem digest m packet is
      (λ (ms : List Member) (fs : List Bytes) (b : Bytes). Memᴰ d ms → packet_in d.call ≡ none)
      (λ k. absurd (Memᴰ.not-nil k))
      (λ k. (is_delivery digest m.replica m.book _ d k).no_packet)) j

  -- ---- what is delivered, written and read
  module _ (part : Member → List Bytes) (s : ℕ) where
    gathered_both : (xs ys : List Member) →
        gathered digest part s (xs ++ ys) ≡ gathered digest part s xs ++ gathered digest part s ys
    unfolding gathered
    gathered_both [] ys = refl
    gathered_both (x ∷ xs) ys =
        rw (gathered_both xs ys) (sym (append_assoc (cond (eqb x.replica s) (part x) []) _ _))

    gathered_none : (xs : List Member) → ((x : Member) → Memᴰ x xs → part x ≡ []) → gathered digest part s xs ≡ []
    unfolding gathered
    gathered_none [] each = refl
    gathered_none (x ∷ xs) each =
        rw (each x (Memᴰ.head refl), no_part {A = Bytes} (eqb x.replica s))
        (gathered_none xs (λ y i. each y (Memᴰ.tail i)))

    same_gathered : ((m : Member) → gathered digest part s (Standing m) ≡ gathered digest part s (m ∷ [])) →
        (list : List Member) → gathered digest part s (unpacked digest list) ≡ gathered digest part s list
    unfolding unpacked gathered
    same_gathered each [] = refl
    same_gathered each (m ∷ ms) =
        gathered_both (Standing m) (unpacked digest ms) ∙
        rw (each m, same_gathered each ms, append-nil)

  gathered_frames : (s t : ℕ) (book : Bytes) (frames : List Bytes) →
      gathered digest (delivers digest) s (deliveries_of digest t book frames) ≡
      cond (eqb t s) (accepted_of digest book frames) []
  unfolding gathered deliveries_of accepted_of effect
  gathered_frames s t book [] = sym (no_part (eqb t s))
  gathered_frames s t book (f ∷ frames) =
      rw (gathered_frames s t (deliver_call digest book f).book frames)
      (both_parts (eqb t s) (delivered_by digest book f) (accepted_of digest (deliver_call digest book f).book frames))

  standing_delivers : (s : ℕ) (m : Member) →
      gathered digest (delivers digest) s (Standing m) ≡ gathered digest (delivers digest) s (m ∷ [])
  unfolding gathered
  standing_delivers s m =
      standing m (λ (ms : List Member). gathered digest (delivers digest) s ms ≡
      gathered digest (delivers digest) s (m ∷ []))
      (λ _. refl) (λ packet is. stands_for_lem digest m packet is
      (λ (ms : List Member) (fs : List Bytes) (b : Bytes). gathered digest (delivers digest) s ms ≡
      cond (eqb m.replica s) fs [] ++ [])
      (rw (append-nil, no_part {A = Bytes} (eqb m.replica s)))
      (gathered_frames s m.replica m.book _ ∙ sym (append-nil _)))

  pub same_delivered : (s : ℕ) (list : List Member) →
      gathered digest (delivers digest) s (unpacked digest list) ≡ gathered digest (delivers digest) s list
  same_delivered s = same_gathered (delivers digest) s (standing_delivers s)

  -- what neither a packet nor a delivery does
  module _ (part : Member → List Bytes)
      (packets : (m : Member) (packet : Bytes) → m.call ≡ packet_delivery packet → part m ≡ [])
      (deliveries : (t : ℕ) (frames : List Bytes) (d : Member) → IsDelivery digest t frames d → part d ≡ []) where
    standing_silent : (s : ℕ) (m : Member) →
        gathered digest part s (Standing m) ≡ gathered digest part s (m ∷ [])
    standing_silent s m =
        standing m (λ (ms : List Member). gathered digest part s ms ≡ gathered digest part s (m ∷ []))
        (λ _. refl) (λ packet is. stands_for_lem digest m packet is
        (λ (ms : List Member) (fs : List Bytes) (b : Bytes). gathered digest part s ms ≡ [])
        (unfold gathered in refl)
        (gathered_none part s _ (λ d i. deliveries m.replica _ d
        (is_delivery digest m.replica m.book _ d i))) ∙
        sym (gathered_none part s (m ∷ []) (λ x i. rw (Memᴰ.eq_of_singleton i) (packets m packet is))))

    same_silent : (s : ℕ) (list : List Member) →
        gathered digest part s (unpacked digest list) ≡ gathered digest part s list
    same_silent s = same_gathered part s (standing_silent s)

  pub same_written : (s : ℕ) (list : List Member) →
      gathered digest (writes digest) s (unpacked digest list) ≡ gathered digest (writes digest) s list
  same_written = same_silent (writes digest) (packet_writes digest) (λ t frames d is. is.writes_none)

  pub same_read : (s : ℕ) (list : List Member) →
      gathered digest (read_by digest) s (unpacked digest list) ≡ gathered digest (read_by digest) s list
  unfolding read_by listed
  same_read = same_silent (read_by digest) (λ m packet is. rw (packet_reads digest m packet is))
      (λ t frames d is. rw is.reads_none)

  -- ---- readings
  pub reading_stays : (list : List Member) (m : Member) (part : Bytes) → Reads digest m part →
      Memᴰ m list ↔ Memᴰ m (unpacked digest list)
  unfolding Reads
  reading_stays list m part reads = (
    λ i. in_unpacked list m m i (standing m (λ (ms : List Member). Memᴰ m ms) (λ _. Memᴰ.head refl)
        (λ packet is. never (sym (packet_reads digest m packet is) ∙ reads))),
    λ i.
        let (x, here, j) = from_unpacked list m i in
        standing x (λ (ms : List Member). Memᴰ m ms → Memᴰ m list)
        (λ _ k. rw (Memᴰ.eq_of_singleton k) here)
        (λ packet is. stands_for_lem digest x packet is
        (λ (ms : List Member) (fs : List Bytes) (b : Bytes). Memᴰ m ms → Memᴰ m list)
        (λ k. absurd (Memᴰ.not-nil k))
        (λ k. never (sym (is_delivery digest x.replica x.book _ m k).reads_none ∙ reads))) j,
  )
