-- The claim is applied to the lists that meet its premises, so that a premise more would have to be met by them.
use Rattle.std.specs.Prelude.{ℕ, ◌≡◌, ◌⊎◌, List}
use Rattle.std.proofs.Math.Path.{refl}
use Rattle.protocol.specs.Bytes.{Bytes}
use Rattle.agreement.proofs.Laws.AgreementLaws.{agreement}
use Rattle.agreement.specs.Lists.{Agreement, Begins, Member}
use Rattle.agreement.specs.Met.{Claim, Met}

-- the conclusion of demand 3
abbrev pub OneBegins : Bytes → Bytes → Type 0
OneBegins part part' = Begins part part' ⊎ Begins part' part

module _ (digest : Bytes → Bytes) where
  -- demand 3 is the claim with its own conclusion: it has no other premise
  pub claim_is_agreement : ◌≡◌ {A = Type 0} (Claim digest OneBegins) (Agreement digest)
  unfolding Claim Agreement
  claim_is_agreement = refl

  module _ (weights : List ℕ) (dishonest : ℕ) (list : List Member) (shorter part : Bytes)
      (met : Met digest weights dishonest list shorter part) where
    -- whatever the claim concluded, it would say it of the part that both replicas read, and of the shorter one beside
    -- it
    pub applies : (Conclusion : Bytes → Bytes → Type 0) → Claim digest Conclusion →
        Conclusion part part × Conclusion shorter part
    unfolding Claim
    applies Conclusion claim =
        let (m, here, own, reads) = met.reads_0 in
        let (m', here', own', reads') = met.reads_1 in
        let (x, among, own'', reads'') = met.reads_shorter in
        let granted = claim weights dishonest list met.few met.keeps met.unforged met.collisionless in (
          granted m m' part part here here' (rw own met.honest_0) (rw own' met.honest_1) reads reads',
          granted x m shorter part among here (rw own'' met.honest_1) (rw own met.honest_0) reads'' reads,
        )

    -- what agreement says of it
    pub applied : OneBegins part part × OneBegins shorter part
    applied = applies OneBegins (rw claim_is_agreement (agreement digest))
