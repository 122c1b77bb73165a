-- The calls of `TwinsMet` do what it says, by computation.
use Rattle.std.specs.Prelude.{◌≡◌, [], ◌∷◌}
use Rattle.std.proofs.Math.Path.{refl}
use Rattle.protocol.specs.Bytes.{Bytes, zeros}
use Rattle.protocol.specs.Every.{none, one}
use Rattle.protocol.specs.Computing.{everything}
use Rattle.protocol.specs.Answer.{accepted, idle}
use Rattle.protocol.specs.Move.{move_call}
use Rattle.protocol.specs.Read.{read_part}
use Rattle.protocol.specs.Deliver.{deliver_call}
use Rattle.protocol.specs.ObserverCalls.{observer_deliver_call, observer_move_call, observer_read_part}
use Rattle.observer_laws.specs.Twins.{SameCertificates, Twins, SameLogWhenIdle, given, all_given, given_to_observer}
use Rattle.observer_laws.specs.Twins.{all_given_to_observer, certificates_of, effects, observations, opens}
use Rattle.observer_laws.specs.Twins.{observer_opens, book_of, observer_book_of}
use Rattle.observer_laws.specs.TwinsMet.{TwinsMet, entry, block, other_block, old, observer_old, strangers_vote}
use Rattle.observer_laws.specs.TwinsMet.{vote, calls, observer_calls, histories, numbers}
use Rattle.observer_laws.proofs.Laws.TwinsLaws.{twins}

module _ (digest : Bytes → Bytes) where
  premises : SameCertificates digest histories
  unfolding everything histories old observer_old calls observer_calls given all_given given_to_observer all_given_to_observer
      certificates_of effects observations block other_block entry strangers_vote vote
  premises = record {
    same_weights = refl;
    opened = refl;
    observer_opened = refl;
    opened_once = one refl (one refl (one refl (one refl (one refl (one refl (one refl (one refl (one refl (one refl
        (one refl (one refl (one refl (one refl none)))))))))))));
    observer_opened_once = one refl (one refl (one refl (one refl (one refl (one refl (one refl (one refl (one refl
        (one refl none)))))))));
    certificates = one none (one none (one none (one none (one none (one none (one (one refl none) (one none (one none
        (one none (one (one refl none) (one (one refl none) (one none (one none none)))))))))))));
    same = refl;
  }

  refusals : numbers (deliver_call digest) (opens histories).book (all_given calls) ≡
      4 ∷ 9 ∷ 0 ∷ 5 ∷ 0 ∷ 5 ∷ 10 ∷ 0 ∷ []
  unfolding everything numbers histories old calls given all_given block other_block entry strangers_vote
  refusals = refl

  observer_refusals : numbers (observer_deliver_call digest) (observer_opens histories).book
      (all_given_to_observer observer_calls) ≡ 4 ∷ 16 ∷ 9 ∷ 0 ∷ 0 ∷ 10 ∷ 0 ∷ []
  unfolding everything numbers histories observer_old observer_calls given_to_observer all_given_to_observer block other_block
      entry vote
  observer_refusals = refl

  rests : (move_call digest (book_of digest histories) (zeros 448)).answer ≡ accepted idle
  unfolding everything histories old calls block other_block entry strangers_vote
  rests = refl

  observer_rests : (observer_move_call digest (observer_book_of digest histories)).answer ≡ accepted idle
  unfolding everything histories observer_old observer_calls block other_block entry vote
  observer_rests = refl

  reads : read_part digest (book_of digest histories) (zeros 16) ≡ entry
  unfolding everything histories old calls block other_block entry strangers_vote
  reads = refl

  observer_reads : observer_read_part digest (observer_book_of digest histories) (zeros 16) ≡ entry
  unfolding everything histories observer_old observer_calls block other_block entry vote
  observer_reads = refl

  pub twins_met : TwinsMet digest
  unfolding Twins SameLogWhenIdle
  twins_met = record {
    premises = premises;
    refusals = refusals;
    observer_refusals = observer_refusals;
    rests = rests;
    observer_rests = observer_rests;
    reads = reads;
    observer_reads = observer_reads;
    applied = (twins digest histories premises).1 (zeros 448) rests observer_rests;
  }
