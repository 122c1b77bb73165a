-- No book is sound as a replica's and as an observer's: each kind's calls refuse the other's books with 1.
use Rattle.std.proofs.Common.{arith}
use Rattle.std.specs.Prelude.{◌≡◌, true, false}
use Rattle.protocol.specs.Bytes.{Bytes}
use Rattle.protocol.specs.Sound.{sound}
use Rattle.protocol.specs.ObserverSound.{observer_sound}
use Rattle.protocol.proofs.Laws.RowLaws.{not_passed}
use Rattle.protocol.proofs.Laws.SoundLaws.{exact}
use Rattle.protocol.proofs.Laws.ObserverSoundLaws.{exact_observer}

module _ (digest : Bytes → Bytes) (book : Bytes) where
  never_both : sound digest book ≡ true → observer_sound digest book ≡ true → ⊥
  never_both is observer-is = omega (arith, exact digest book is, exact_observer digest book observer-is)

  pub replica_no_observer : sound digest book ≡ true → observer_sound digest book ≡ false
  replica_no_observer is = not_passed _ (λ observer-is. never_both is observer-is)

  pub observer_no_replica : observer_sound digest book ≡ true → sound digest book ≡ false
  observer_no_replica observer-is = not_passed _ (λ is. never_both is observer-is)
