-- What a packet and the deliveries that it stands for have in common.
use Rattle.std.specs.Prelude.{ℕ, ◌≡◌, refl, Bool, cond, ◌⊎◌}
use Rattle.std.proofs.Common.{arith, sym, subst, inl, inr}
use mathlib.Core.List.Memᴰ
use mathlib.Core.List.{List, [], ◌∷◌, ◌++◌, Memᴰ}
use Rattle.std.proofs.Math.Option.{some, none}
use Rattle.protocol.specs.Bytes.{Bytes}
use Rattle.protocol.specs.Answer.{is_accepted}
use Rattle.protocol.specs.Deliver.{deliver_all, deliver_call}
use Rattle.protocol.specs.Packet.{accepted_of, packet_frames}
use Rattle.protocol.proofs.Laws.PacketLaws.{packet_cases}
use Rattle.protocol.specs.Call.{Call, opening, delivery, packet_delivery, moving, signalling, submitting, sizing}
use Rattle.protocol.specs.Call.{reading, fetching, effect}
use Rattle.agreement.specs.Lists.{Member, delivers, does, writes}
use Rattle.agreement.specs.Unpacked.{deliveries_of, packet_in, stands_for}

pub never : {A B : Type 0} {x : A} → none ≡ some x → B
never e = let z : ◌≡◌ {A = ℕ} 0 1 = cc in absurd (omega arith)

-- the only call with a packet
pub packet_call_lem : (call : Call) (packet : Bytes) → packet_in call ≡ some packet → call ≡ packet_delivery packet
unfolding packet_in
packet_call_lem (opening way n own heights leaders) packet e = never e
packet_call_lem (delivery frame) packet e = never e
packet_call_lem (packet_delivery other) packet e = cc
packet_call_lem (moving reply) packet e = never e
packet_call_lem (signalling h) packet e = never e
packet_call_lem (submitting entry) packet e = never e
packet_call_lem sizing packet e = never e
packet_call_lem (reading buffer) packet e = never e
packet_call_lem (fetching k h reply) packet e = never e

module _ (digest : Bytes → Bytes) where
  -- the delivery of one frame
  abbrev pub delivery_to : ℕ → Bytes → Bytes → Member
  delivery_to t book frame = record { replica = t; book = book; call = delivery frame }

  -- the frames that it delivers: this one, unless it is refused
  abbrev pub delivered_by : Bytes → Bytes → List Bytes
  delivered_by book frame = cond (is_accepted (deliver_call digest book frame).answer) (frame ∷ []) []

  -- ---- one of the deliveries of these frames
  pub record IsDelivery (t : ℕ) (frames : List Bytes) (d : Member) : Type 0 where
    pub whose : d.replica ≡ t
    pub no_packet : packet_in d.call ≡ none
    pub writes_none : writes digest d ≡ []
    pub reads_none : (does digest d).reads ≡ none
    pub among : (frame : Bytes) → Memᴰ frame (delivers digest d) → Memᴰ frame frames

  first_delivery : (t : ℕ) (book frame : Bytes) (later : List Bytes) →
      IsDelivery t (delivered_by book frame ++ later) (delivery_to t book frame)
  unfolding effect packet_in
  first_delivery t book frame later = record {
    whose = refl;
    no_packet = refl;
    writes_none = refl;
    reads_none = refl;
    among = λ x i. Memᴰ.append_left later i;
  }

  later_delivery : (t : ℕ) (front later : List Bytes) (d : Member) → IsDelivery t later d →
      IsDelivery t (front ++ later) d
  later_delivery t front later d is = record {
    whose = is.whose;
    no_packet = is.no_packet;
    writes_none = is.writes_none;
    reads_none = is.reads_none;
    among = λ x i. Memᴰ.append_right front (is.among x i);
  }

  pub is_delivery : (t : ℕ) (book : Bytes) (frames : List Bytes) (d : Member) →
      Memᴰ d (deliveries_of digest t book frames) → IsDelivery t (accepted_of digest book frames) d
  unfolding deliveries_of accepted_of
  is_delivery t book [] d i = absurd (Memᴰ.not-nil i)
  is_delivery t book (f ∷ frames) d i =
      go (Memᴰ.cases_cons i) (is_delivery t (deliver_call digest book f).book frames d)
    where
      later : List Bytes
      later = accepted_of digest (deliver_call digest book f).book frames

      Later : Type 0
      Later = Memᴰ d (deliveries_of digest t (deliver_call digest book f).book frames)

      go : (d ≡ delivery_to t book f) ⊎ Later → (Later → IsDelivery t later d) →
          IsDelivery t (delivered_by book f ++ later) d
      go (inl e) rest =
          subst (λ (x : Member). IsDelivery t (delivered_by book f ++ later) x) (sym e) (first_delivery t book f later)
      go (inr j) rest = later_delivery t (delivered_by book f) later d (rest j)

  -- each frame that is not refused at its turn is delivered by one of them
  abbrev pub Delivering : ℕ → List Member → Bytes → Type 0
  Delivering t ds frame = (d : Member) × Memᴰ d ds × (d.replica ≡ t) × Memᴰ frame (delivers digest d)

  pub has_delivery : (t : ℕ) (book : Bytes) (frames : List Bytes) (frame : Bytes) →
      Memᴰ frame (accepted_of digest book frames) → Delivering t (deliveries_of digest t book frames) frame
  unfolding deliveries_of accepted_of effect
  has_delivery t book [] frame i = absurd (Memᴰ.not-nil i)
  has_delivery t book (f ∷ frames) frame i =
      go (Memᴰ.append_cases (delivered_by book f) i) (has_delivery t (deliver_call digest book f).book frames frame)
    where
      ds : List Member
      ds = deliveries_of digest t (deliver_call digest book f).book frames

      Later : Type 0
      Later = Memᴰ frame (accepted_of digest (deliver_call digest book f).book frames)

      go : Memᴰ frame (delivered_by book f) ⊎ Later → (Later → Delivering t ds frame) →
          Delivering t (delivery_to t book f ∷ ds) frame
      go (inl j) rest = (delivery_to t book f, Memᴰ.head refl, refl, unfold effect in j)
      go (inr j) rest = let r = rest j in (r.0, Memᴰ.tail r.1, r.2, r.3)

  -- ---- a member with a packet, by whether it is refused
  module _ (m : Member) (packet : Bytes) (is : m.call ≡ packet_delivery packet) where
    abbrev frames : List Bytes
    frames = packet_frames packet

    pub packet_writes : writes digest m ≡ []
    unfolding effect
    packet_writes = rw is

    pub packet_reads : (does digest m).reads ≡ none
    unfolding effect
    packet_reads = rw is

    pub packet_opens : (does digest m).opens ≡ none
    unfolding effect
    packet_opens = rw is

    -- what it stands for, the frames that it delivers and the book that it leaves
    pub stands_for_lem : (Q : List Member → List Bytes → Bytes → Type 0) → Q [] [] m.book →
        Q (deliveries_of digest m.replica m.book frames) (accepted_of digest m.book frames)
        (deliver_all digest m.book frames) →
        Q (stands_for digest m (some packet)) (delivers digest m) (does digest m).book
    unfolding stands_for effect
    stands_for_lem Q refuses delivered = rw is
        (packet_cases digest m.book packet (λ (unrefused : Bool) (after : Bytes). Q
        (cond unrefused (deliveries_of digest m.replica m.book frames) [])
        (cond unrefused (accepted_of digest m.book frames) []) after) refuses delivered)
