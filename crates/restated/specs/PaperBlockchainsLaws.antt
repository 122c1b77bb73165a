-- Written by tests/restated --write: what docs/statements has of
-- crates/paper/proofs/Laws/BlockchainsLaws.antt.
use package.Rattle.protocol.specs.SoundState.{CertifiedState}
use package.Rattle.protocol.specs.Bytes.{Bytes}
use package.Rattle.protocol.specs.State.{State}
use package.Rattle.paper.specs.Blockchains.{InThePapersTerms}
use mathlib.Core.Path.{◌≡◌ as ◌is-kept◌, refl as by-text}
use package.Rattle.paper.proofs.Laws.BlockchainsLaws as page

module _ (digest : Bytes → Bytes) (s : State) (facts : CertifiedState digest s) where
  pub in_the_papers_terms-kept : InThePapersTerms digest s
  in_the_papers_terms-kept = page.in_the_papers_terms digest s facts
