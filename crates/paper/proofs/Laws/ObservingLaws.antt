-- An observer does what `Observing` says.
use Rattle.std.specs.Prelude.{ℕ, ◌≤◌, ◌≡◌, ◌⊎◌, true, false}
use Rattle.std.proofs.Common.{arith, sym, ◌∙◌, true≢false}
use Rattle.std.proofs.Math.Path.{refl, subst}
use Rattle.std.proofs.Math.Logic.{inl, inr}
use Rattle.protocol.specs.Bytes.{Bytes, AreBytes}
use Rattle.protocol.specs.SoundState.{CertifiedState}
use Rattle.protocol.specs.State.{State, last}
use Rattle.protocol.specs.Sound.{view}
use Rattle.protocol.specs.Answer.{Move, Outcome, accepted, idle, output}
use Rattle.protocol.specs.Move.{new_finalized, output_applies, output_step}
use Rattle.protocol.specs.Observer.{observed, observer_state, decode_observer, encode_observer}
use Rattle.protocol.specs.ObserverSound.{observer_sound}
use Rattle.protocol.specs.ObserverCalls.{observer_move_call}
use Rattle.protocol.proofs.Laws.ObserverStateLaws.{output_set}
use Rattle.protocol.proofs.Laws.ObserverSoundLaws.{sound_observer, certified_observer, encode_decode_observer}
use Rattle.protocol.proofs.Laws.ObserverDeliverLaws.{observer_move_cases}
use Rattle.paper.specs.Paper.{SeenWithBlock, Finalization}
use Rattle.paper.specs.Blockchains.{InThePapersTerms}
use Rattle.paper.proofs.Laws.BlockchainsLaws.{in_the_papers_terms}
use Rattle.paper.proofs.Laws.FinalizedOutputsLaws.{output_when, output_applies_lem, output_seen, not_above}
use Rattle.paper.specs.Observing.{ObserverStep}

module _ (digest : Bytes → Bytes) (book : Bytes) (ok : observer_sound digest book ≡ true) where
  abbrev s : State
  s = observer_state book

  certified : CertifiedState digest s
  certified = certified_observer (sound_observer digest book ok)

  terms : InThePapersTerms digest s
  terms = in_the_papers_terms digest s certified

  -- the two ways in which the move of a sound book ends
  Ended : Outcome Move → Type 0
  Ended o =
      ((output_applies digest s ≡ true) × (o.answer ≡ accepted (output (new_finalized digest s))) ×
      (o.book ≡ encode_observer (observed (output_step digest s).after))) ⊎
      ((output_applies digest s ≡ false) × (o.answer ≡ accepted idle) ×
      (o.book ≡ encode_observer (decode_observer book)))

  ended : Ended (observer_move_call digest book)
  unfolding Ended
  ended = observer_move_cases digest book Ended (λ e. absurd (true≢false (sym ok ∙ e)))
      (λ _ e. inr (e, refl, refl)) (λ _ e. inl (e, refl, refl))

  -- an output is not idle
  apart : {g : ℕ} {A : Type 0} → (observer_move_call digest book).answer ≡ accepted (output g) →
      (observer_move_call digest book).answer ≡ accepted idle → A
  apart {g} e f = let z : accepted (output g) ≡ accepted idle = sym e ∙ f in
      let never : ◌≡◌ {A = ℕ} 0 1 = cc in absurd (omega arith)

  back : AreBytes book → encode_observer (decode_observer book) ≡ book
  back small = encode_decode_observer digest book ok small

  same_output : (g : ℕ) → (observer_move_call digest book).answer ≡ accepted (output (new_finalized digest s)) →
      (observer_move_call digest book).answer ≡ accepted (output g) → new_finalized digest s ≡ g
  same_output g answer e =
      let z : accepted (output (new_finalized digest s)) ≡ accepted (output g) = sym answer ∙ e in
      cc

  moves_out : AreBytes book → output_applies digest s ≡ true →
      (observer_move_call digest book).answer ≡ accepted (output (new_finalized digest s)) →
      (observer_move_call digest book).book ≡ encode_observer (observed (output_step digest s).after) →
      ObserverStep digest book
  unfolding output_step
  moves_out small applies answer after = record {
    outputs_when = (λ _. output_when digest s terms applies, λ _. (new_finalized digest s, answer));
    idles_when = (λ e. apart answer e, λ none_seen. absurd (none_seen (output_when digest s terms applies)));
    highest = λ g e.
        let (above, seen, final) = output_seen digest s terms applies in
        subst (λ (g : ℕ). SeenWithBlock digest (view s) g × Finalization (view s) g ×
        ((h : ℕ) → 1 ≤ h → h ≤ last s → SeenWithBlock digest (view s) h → Finalization (view s) h → h ≤ g))
        (same_output g answer e) (seen, final, not_above digest s terms);
    output_writes = λ g e.
        after ∙ output_set (decode_observer book) (new_finalized digest s) ∙ rw (back small, same_output g answer e);
    idle_writes = λ e. apart answer e;
  }

  moves_none : AreBytes book → output_applies digest s ≡ false →
      (observer_move_call digest book).answer ≡ accepted idle →
      (observer_move_call digest book).book ≡ encode_observer (decode_observer book) → ObserverStep digest book
  moves_none small applies answer after = record {
    outputs_when = (
      λ (g, e). apart e answer,
      λ may. absurd (true≢false (sym (output_applies_lem digest s terms may) ∙ applies)),
    );
    idles_when = (λ _ may. absurd (true≢false (sym (output_applies_lem digest s terms may) ∙ applies)), λ _. answer);
    highest = λ g e. apart e answer;
    output_writes = λ g e. apart e answer;
    idle_writes = λ _. after ∙ back small;
  }

  pub observer_moves : AreBytes book → ObserverStep digest book
  unfolding Ended
  observer_moves small = go ended
    where
      go : Ended (observer_move_call digest book) → ObserverStep digest book
      go (inl (applies, answer, after)) = moves_out small applies answer after
      go (inr (applies, answer, after)) = moves_none small applies answer after
