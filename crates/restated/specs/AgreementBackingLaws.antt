-- Written by tests/restated --write: what docs/statements has of
-- crates/agreement/proofs/Laws/BackingLaws.antt.
use Rattle.std.specs.Prelude.{ℕ, ◌≡◌, Bool}
use Rattle.std.proofs.Math.Bool.{true}
use package.Rattle.protocol.specs.Bytes.{Bytes}
use package.Rattle.protocol.specs.Mask.{in_mask}
use package.Rattle.protocol.specs.State.{Height, holds_proposal, is_notarized, vote_of}
use package.Rattle.agreement.specs.Lists.{Statement, finalizes, votes_block, votes_dummy}
use mathlib.Core.Path.{◌≡◌ as ◌is-kept◌, refl as by-text}
use package.Rattle.agreement.proofs.Laws.BackingLaws as page

module _ (digest : Bytes → Bytes) where
  module _ (W : ℕ → Statement → Type 0) (S : Bytes → Type 0) where
    abbrev Shown : (h dummy_mask finalize_mask certificate_mask : ℕ) (has_block : Bool) (block : Bytes) → Type 0
    Shown = page.Shown digest W S

    abbrev Held : (h : ℕ) (x : Height) → Type 0
    Held = page.Held digest W S

    abbrev ShownOf : ℕ → Height → Type 0
    ShownOf = page.ShownOf digest W S

    abbrev Backed : (h : ℕ) (x : Height) → Type 0
    Backed = page.Backed digest W S

    Shown-kept : (h dummy_mask finalize_mask certificate_mask : ℕ) (has_block : Bool) (block : Bytes) (dummies : (t : ℕ) → in_mask dummy_mask t ≡ true → W t (votes_dummy h)) (finalizations : (t : ℕ) → in_mask finalize_mask t ≡ true → W t (finalizes h)) (certifiers : (t : ℕ) → in_mask certificate_mask t ≡ true → W t (votes_block h (digest block))) (notarized_seen : has_block ≡ true → S block) →
        Shown h dummy_mask finalize_mask certificate_mask has_block block
    Shown-kept h dummy_mask finalize_mask certificate_mask has_block block x0 x1 x2 x3 = record { dummies = x0; finalizations = x1; certifiers = x2; notarized_seen = x3 }

    Held-kept : (h : ℕ) (x : Height) (ballots : (t : ℕ) → in_mask x.voter_mask t ≡ true → W t (votes_block h (vote_of x t))) (proposal_seen : holds_proposal x ≡ true → S x.proposal) →
        Held h x
    Held-kept h x x0 x1 = record { ballots = x0; proposal_seen = x1 }

    abbrev ShownOf-kept : ℕ → Height → Type 0
    ShownOf-kept h x = Shown h x.dummy_mask x.finalize_mask x.certificate_mask (is_notarized x) x.notarized

    same-ShownOf : ShownOf-kept is-kept page.ShownOf digest W S
    same-ShownOf = by-text

    Backed-kept : (h : ℕ) (x : Height) (shown : ShownOf h x) (held : Held h x) →
        Backed h x
    Backed-kept h x x0 x1 = record { shown = x0; held = x1 }
