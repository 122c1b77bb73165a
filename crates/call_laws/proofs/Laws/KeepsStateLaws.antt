-- Deliver keeps of a state what `Keeping` says.
use Rattle.std.specs.Prelude.{ℕ, zero, suc, ◌≤◌, ◌≡◌, false}
use Rattle.std.proofs.Common.{arith, ap, ◌∙◌}
use Rattle.std.proofs.Math.Path.{refl, sym, subst}
use Rattle.std.proofs.Math.Option.{some, none}
use Rattle.protocol.specs.ReadFrame.{ReadFrame}
use Rattle.protocol.specs.SoundState.{SoundState}
use Rattle.protocol.specs.Bytes.{Bytes, same}
use Rattle.protocol.specs.Frame.{kind, frame_height}
use Rattle.protocol.specs.State.{State, Height, at, last, with_height, encode, decode}
use Rattle.protocol.specs.Deliver.{keep, leader_equivocates}
use Rattle.protocol.specs.Sound.{view}
use Rattle.protocol.proofs.Laws.StateLaws.{decode_encode}
use Rattle.protocol.proofs.Laws.PlaceLaws.{with_at, at_with}
use Rattle.protocol.proofs.Laws.SoundLaws.{sound_decode}
use Rattle.protocol.proofs.Laws.DeliverLaws.{Agrees, Accepts, digest_size_lem, signer_few, keep_cases}
use Rattle.call_laws.proofs.Laws.DeliverSoundLaws.{keep_sound, shaped}
use Rattle.call_laws.specs.Keeping.{KeepsState}
use Rattle.call_laws.proofs.Laws.KeepsKindLaws.{left, Kept, proposal_keeps, vote_keeps, dummy_keeps}
use Rattle.call_laws.proofs.Laws.KeepsKindLaws.{finalize_keeps, certificate_keeps, dummy_certificate_keeps}
use Rattle.call_laws.proofs.Laws.KeepsKindLaws.{finalize_certificate_keeps}

-- ---- a height that is put into a state
module _ (s : State) where
  pub at_placed : (h : ℕ) (y : Height) → 1 ≤ h → h ≤ last s → at (with_height s h y) h ≡ y
  at_placed zero y low high = absurd (omega arith)
  at_placed (suc i) y low high = at_with s i y high

  pub placed_same : (h : ℕ) → 1 ≤ h → with_height s h (at s h) ≡ s
  placed_same zero low = absurd (omega arith)
  placed_same (suc i) low = with_at s i

-- ---- the whole delivery
module _ (digest : Bytes → Bytes) (s : State) (is : SoundState digest s) (frame : Bytes) (read : ReadFrame s frame)
    (agrees : Agrees s frame) (single : leader_equivocates s frame ≡ false) where
  abbrev x : Height
  x = at s (frame_height frame)

  keep_keeps : Kept digest (view s) frame x (kind frame) (keep digest s frame)
  unfolding view
  keep_keeps = keep_cases digest s frame read (Kept digest (view s) frame x)
      (λ e. proposal_keeps digest (view s) frame x (λ held. agrees.proposal e held single))
      (λ e. vote_keeps digest (view s) frame x (shaped digest s is frame read) (signer_few read is.n_high e)
      (digest_size_lem read) (agrees.vote e))
      (λ e. dummy_keeps digest (view s) frame x)
      (λ e. finalize_keeps digest (view s) frame x)
      (λ e. certificate_keeps digest (view s) frame x (agrees.block e))
      (λ e. dummy_certificate_keeps digest (view s) frame x)
      (λ e. finalize_certificate_keeps digest (view s) frame x)

  abbrev after : State
  after = with_height s (frame_height frame) (left x (keep digest s frame))

  keeps : KeepsState digest s after frame
  keeps =
      let found = at_placed s (frame_height frame) (left x (keep digest s frame)) read.low read.high in
      record {
        elsewhere = ap (λ (y : Height). with_height s (frame_height frame) y) (sym found);
        here = rw found keep_keeps;
      }

module _ (digest : Bytes → Bytes) (book frame : Bytes) (accepts : Accepts digest book frame) where
  abbrev s : State
  s = decode book

  pub state : SoundState digest s
  state = sound_decode digest book accepts.was_sound

  -- a frame that is known keeps nothing, and a fresh one its height
  pub known_keeps : leader_equivocates s frame ≡ false → keep digest s frame ≡ none → KeepsState digest s s frame
  unfolding left
  known_keeps single e =
      let same : after digest s state frame accepts.read accepts.agrees single ≡ s =
      rw e (placed_same s (frame_height frame) accepts.read.low) in
      subst (λ (z : State). KeepsState digest s z frame) same
      (keeps digest s state frame accepts.read accepts.agrees single)

  pub fresh_keeps : (y : Height) → leader_equivocates s frame ≡ false → keep digest s frame ≡ some y →
      KeepsState digest s (decode (encode (with_height s (frame_height frame) y))) frame
  unfolding left
  fresh_keeps y single e =
      let kept : State = with_height s (frame_height frame) y in
      let same : after digest s state frame accepts.read accepts.agrees single ≡ kept = rw e refl in
      let back = decode_encode (with_height s (frame_height frame) y)
      (keep_sound digest s state frame accepts.read y e).shaped in
      subst (λ (z : State). KeepsState digest s z frame) (same ∙ sym back)
      (keeps digest s state frame accepts.read accepts.agrees single)
