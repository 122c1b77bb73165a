-- Deliver leaves what `Keeping` says.
use Rattle.std.specs.Prelude.{ℕ, suc, ◌-◌, ◌<◌, ◌≡◌, refl, ◌≢◌, List, [], ◌∷◌, true, false, length}
use Rattle.std.proofs.Common.{arith, sym, subst, ◌∙◌, true≢false}
use Rattle.std.proofs.Math.Decide.{ℕ_discrete}
use Rattle.std.proofs.Math.Path.{ap}
use Rattle.std.proofs.Math.Option.{some, none}
use Rattle.std.proofs.Math.ListN.{length-set}
use Rattle.protocol.specs.SoundState.{SoundState}
use Rattle.protocol.specs.Bytes.{Bytes, byte_at, AreBytes}
use Rattle.protocol.specs.Answer.{Outcome, accepted, Delivery, known, fresh}
use Rattle.protocol.specs.Frame.{frame_height}
use Rattle.protocol.specs.State.{State, Height, at, last, with_height, encode, decode, flag, with_timer_fired}
use Rattle.protocol.specs.Deliver.{keep, deliver_call, leader_equivocates}
use Rattle.protocol.proofs.Laws.StateLaws.{decode_encode}
use Rattle.protocol.proofs.Laws.PlaceLaws.{length_encode}
use Rattle.protocol.proofs.Laws.CodecLaws.{last_decode}
use Rattle.protocol.proofs.Laws.DeliverLaws.{Accepts, deliver_cases}
use Rattle.protocol.proofs.Laws.SoundLaws.{exact, encode_decode, sound_encode}
use Rattle.call_laws.proofs.Laws.DeliverSoundLaws.{keep_sound}
use Rattle.call_laws.specs.KeptBytes.{Part, SameOutside, delivery_parts}
use Rattle.call_laws.proofs.Laws.KeptBytesLaws.{keep_only, keep_other}
use Rattle.call_laws.proofs.Laws.RefusalsLaws.{refused≢accepted}
use Rattle.call_laws.proofs.Laws.BookBytesLaws.{timer_bytes}
use Rattle.call_laws.proofs.Laws.KeepsStateLaws.{at_placed, placed_same, state, known_keeps, fresh_keeps}
use Rattle.call_laws.proofs.Laws.EquivocatingLaws.{equivocation, passes_test, fails_test}
use Rattle.call_laws.specs.Keeping.{Keeps, KeepsStatement, FiresTimer}

-- two byte strings of the same length that are not the same differ at a byte
pub differ : (a b : Bytes) → length a ≡ length b → a ≢ b → (i : ℕ) × (i < length b) × (byte_at a i ≢ byte_at b i)
differ [] [] size other = absurd (other refl)
differ [] (y ∷ ys) size other = absurd (omega arith)
differ (x ∷ xs) [] size other = absurd (omega arith)
differ (x ∷ xs) (y ∷ ys) size other = go (ℕ_discrete x y) (λ e. differ xs ys (omega arith) e)
  where
    go : Dec (x ≡ y) → (xs ≢ ys → (i : ℕ) × (i < length ys) × (byte_at xs i ≢ byte_at ys i)) →
        (i : ℕ) × (i < suc (length ys)) × (byte_at (x ∷ xs) i ≢ byte_at (y ∷ ys) i)
    go (no e) later = (0, omega arith, e)
    go (yes e) later = let (i, l, d) = later (λ same. other (rw (e, same))) in (suc i, omega arith, d)

from_same : {parts : List Part} {a b c : Bytes} → a ≡ b → SameOutside parts a c → SameOutside parts b c
from_same {parts} {c = c} e same = subst (λ (z : Bytes). SameOutside parts z c) e same

pub known≢fresh : known ≡ fresh → ⊥
known≢fresh e = true≢false (let impossible : true ≡ false = cc in impossible)

module _ (digest : Bytes → Bytes) (book frame : Bytes) (accepts : Accepts digest book frame) where
  abbrev s : State
  s = decode book

  abbrev h : ℕ
  h = frame_height frame

  abbrev is : SoundState digest s
  is = state digest book frame accepts

  -- the frame is news: its height becomes `y`
  module _ (y : Height) (single : leader_equivocates s frame ≡ false) (e : keep digest s frame ≡ some y) where
    abbrev s' : State
    s' = with_height s h y

    sound_after : SoundState digest s'
    sound_after = keep_sound digest s is frame accepts.read y e

    size_after : length (encode s') ≡ length book
    size_after = length_encode s' sound_after.shaped ∙
        rw (placed_last, last_decode book) (sym (exact digest book accepts.was_sound))
      where
        placed_last : last s' ≡ last s
        placed_last = unfold last with_height in length-set s.heights (h - 1) y

    here : at (decode (encode s')) h ≡ y
    here =
        ap (λ (z : State). at z h) (decode_encode s' sound_after.shaped) ∙
        at_placed s h y accepts.read.low accepts.read.high

    changed : encode s' ≢ book
    changed same = keep_other digest s is frame accepts.read y e
        (sym here ∙ ap (λ (b : Bytes). at (decode b) h) same)

    untouched : AreBytes book → SameOutside (delivery_parts book frame (encode s')) book (encode s')
    unfolding delivery_parts
    untouched small =
        let before : encode (with_height s h (at s h)) ≡ book =
        ap encode (placed_same s h accepts.read.low) ∙
        encode_decode digest book accepts.was_sound small in
        rw (here, ← last_decode book) (from_same before
        (keep_only digest s is frame accepts.read y e))

    all_fresh : KeepsStatement digest book frame fresh (encode s')
    all_fresh = record {
      known_same = λ same. absurd (known≢fresh (sym same));
      fresh_differs = λ _. differ (encode s') book size_after changed;
      other_bytes = untouched;
      same_length = size_after;
      keeps = fresh_keeps digest book frame accepts y single e;
      stays_sound = sound_encode digest s' sound_after;
    }

  all_known : leader_equivocates s frame ≡ false → keep digest s frame ≡ none →
      KeepsStatement digest book frame known book
  all_known single e = record {
    known_same = λ _. refl;
    fresh_differs = λ same. absurd (known≢fresh same);
    other_bytes = λ _. record { same_byte = λ _ _. refl };
    same_length = refl;
    keeps = known_keeps digest book frame accepts single e;
    stays_sound = accepts.was_sound;
  }

  -- the leader equivocates: the timer has fired, or fires
  fires_known : flag 1 s ≡ true → FiresTimer book known book
  fires_known e = record {
    fired_before = λ _. (refl, refl);
    fires_now = λ clear. absurd (true≢false (sym e ∙ clear));
  }

  fires_fresh : flag 1 s ≡ false → FiresTimer book fresh (encode (with_timer_fired s))
  fires_fresh e = record {
    fired_before = λ has. absurd (true≢false (sym has ∙ e));
    fires_now = λ _. (refl, λ small. timer_bytes digest book small accepts.was_sound);
  }

-- a delivery that is not refused keeps what its frame states, and changes nothing else; where the leader of the current
-- height equivocates, the timer fires instead
pub deliver_keeps : (digest : Bytes → Bytes) (book frame : Bytes) (news : Delivery) →
    (deliver_call digest book frame).answer ≡ accepted news →
    Keeps digest book frame news (deliver_call digest book frame).book
deliver_keeps digest book frame news =
    deliver_cases digest book frame (λ (o : Outcome Delivery). o.answer ≡ accepted news →
    Keeps digest book frame news o.book)
    (λ number _ e. absurd (refused≢accepted number news e))
    (λ accepts fired e said. named (same_news said) (record {
      statement = λ never. all_known digest book frame accepts (fails_test digest book frame accepts never) e;
      equivocation = λ is. fires_known digest book frame accepts (fired (passes_test digest book frame is));
    }))
    (λ y accepts single e said. named (same_news said) (record {
      statement = λ _. all_fresh digest book frame accepts y single e;
      equivocation = λ is. absurd (true≢false (sym (passes_test digest book frame is) ∙ single));
    }))
    (λ accepts is clear said. named (same_news said) (record {
      statement = λ never. absurd (never (equivocation digest book frame accepts is));
      equivocation = λ _. fires_fresh digest book frame accepts clear;
    }))
  where
    same_news : {a b : Delivery} → accepted a ≡ accepted b → a ≡ b
    same_news e = cc

    named : {answer : Delivery} {after : Bytes} → answer ≡ news → Keeps digest book frame answer after →
        Keeps digest book frame news after
    named {answer} {after} e is = subst (λ (z : Delivery). Keeps digest book frame z after) e is
