-- The claim with observers is applied to the lists that meet its premises, so that a premise more would have to be met
-- by them.
use Rattle.std.specs.Prelude.{ℕ, ◌≡◌, List}
use Rattle.std.proofs.Math.Path.{refl}
use Rattle.protocol.specs.Bytes.{Bytes}
use Rattle.agreement.proofs.Laws.AgreementLaws.{observed_agreement}
use Rattle.agreement.proofs.Laws.MetLaws.{OneBegins}
use Rattle.agreement.proofs.Laws.ObserverListsLaws.{member_replica}
use Rattle.agreement.specs.ObserverLists.{AnyMember, AnyReads, Meant, ObservedAgreement, of_observer, of_replica}
use Rattle.agreement.specs.ObserverMet.{ObservedClaim, ObservedMet}

module _ (digest : Bytes → Bytes) where
  -- demand 3 with observers is the claim with its own conclusion: it has no other premise
  pub claim_is_observed : ◌≡◌ {A = Type 1} (ObservedClaim digest OneBegins) (ObservedAgreement digest)
  unfolding ObservedClaim ObservedAgreement
  claim_is_observed = refl

  module _ (weights : List ℕ) (dishonest : ℕ) (observers : ℕ → Type 0) (list : List AnyMember) (shorter part : Bytes)
      (met : ObservedMet digest weights dishonest observers list shorter part) where
    -- whatever the claim concluded, it would say it of the part that both observers read, of that which a replica and
    -- an observer read, and of the shorter one that an observer read before
    pub observed_applies : (Conclusion : Bytes → Bytes → Type 0) → ObservedClaim digest Conclusion →
        Conclusion part part × Conclusion part part × Conclusion shorter part
    unfolding ObservedClaim Meant AnyReads
    observed_applies Conclusion claim =
        let (m, here, own, reads) = met.reads_0 in
        let (m', here', own', reads') = met.reads_1 in
        let (x, among, own'', reads'') = met.reads_replica in
        let (y, before, own-y, reads_y) = met.reads_shorter in
        let granted = claim weights dishonest observers list met.few met.keeps met.observers_keep
        met.unforged met.collisionless in (
          granted (of_observer m) (of_observer m') part part here here' (rw own met.meant_0) (rw own' met.meant_1)
              reads reads',
          granted (of_replica x) (of_observer m') part part (member_replica list x among) here'
              (rw own'' met.honest_0) (rw own' met.meant_1) reads'' reads',
          granted (of_observer y) (of_observer m) shorter part before here (rw own-y met.meant_1)
              (rw own met.meant_0) reads_y reads,
        )

    -- what agreement says of it
    pub observed_applied : OneBegins part part × OneBegins part part × OneBegins shorter part
    observed_applied = observed_applies OneBegins (rw claim_is_observed (observed_agreement digest))
