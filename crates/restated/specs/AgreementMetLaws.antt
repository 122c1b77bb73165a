-- Written by tests/restated --write: what docs/statements has of
-- crates/agreement/proofs/Laws/MetLaws.antt.
use Rattle.std.specs.Prelude.{◌⊎◌}
use package.Rattle.protocol.specs.Bytes.{Bytes}
use package.Rattle.agreement.specs.Lists.{Begins}
use Rattle.std.specs.Prelude.{ℕ, ◌≡◌, List}
use package.Rattle.agreement.specs.Lists.{Agreement, Member}
use package.Rattle.agreement.specs.Met.{Claim, Met}
use package.Rattle.agreement.proofs.Laws.MetLaws.{OneBegins}
use mathlib.Core.Path.{◌≡◌ as ◌is-kept◌, refl as by-text}
use package.Rattle.agreement.proofs.Laws.MetLaws as page

abbrev OneBegins-kept : Bytes → Bytes → Type 0
OneBegins-kept part part' = Begins part part' ⊎ Begins part' part

same-OneBegins : OneBegins-kept is-kept page.OneBegins
same-OneBegins = by-text

module _ (digest : Bytes → Bytes) where
  pub claim_is_agreement-kept : ◌≡◌ {A = Type 0} (Claim digest OneBegins) (Agreement digest)
  claim_is_agreement-kept = page.claim_is_agreement digest

module _ (digest : Bytes → Bytes) where
  module _ (weights : List ℕ) (dishonest : ℕ) (list : List Member) (shorter part : Bytes)
      (met : Met digest weights dishonest list shorter part) where
    pub applies-kept : (Conclusion : Bytes → Bytes → Type 0) → Claim digest Conclusion →
        Conclusion part part × Conclusion shorter part
    applies-kept = page.applies digest weights dishonest list shorter part met
