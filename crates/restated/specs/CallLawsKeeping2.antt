-- Written by tests/restated --write: what docs/statements has of
-- crates/call_laws/specs/Keeping.antt.
use Rattle.std.specs.Prelude.{ℕ, ◌≡◌, ◌⊎◌, true, false}
use package.Rattle.protocol.specs.Bytes.{Bytes}
use package.Rattle.protocol.specs.Frame.{signer_mask, frame_block}
use package.Rattle.protocol.specs.State.{Height, holds_proposal, is_notarized}
use package.Rattle.protocol.specs.View.{View, quorum}
use package.Rattle.protocol.specs.Deliver.{voters_for}
use package.Rattle.call_laws.specs.Keeping.{NewlyKept, KeepsMasks, KeepsVotes, KeepsProposal}
use mathlib.Core.Path.{◌≡◌ as ◌is-kept◌, refl as by-text}
use package.Rattle.call_laws.specs.Keeping as page

module _ (digest : Bytes → Bytes) (v : View) where
  abbrev held_voters : Height → ℕ
  held_voters = page.held_voters digest v

  abbrev Voted : Height → Type 0
  Voted = page.Voted digest v

  abbrev Tallied : Height → Type 0
  Tallied = page.Tallied digest v

  abbrev ByVotes : Height → Type 0
  ByVotes = page.ByVotes digest v

  abbrev KeepsBlock : (k : ℕ) (frame : Bytes) (x y : Height) → Type 0
  KeepsBlock = page.KeepsBlock digest v

  abbrev KeepsAt : (k : ℕ) (frame : Bytes) (x y : Height) → Type 0
  KeepsAt = page.KeepsAt digest v

  abbrev held_voters-kept : Height → ℕ
  held_voters-kept x = voters_for x (digest x.proposal) v.n

  same-held_voters : held_voters-kept is-kept page.held_voters digest v
  same-held_voters = by-text

  Voted-kept : Height → Type 0
  Voted-kept x = (holds_proposal x ≡ true) × (quorum v (held_voters x) ≡ true)

  same-Voted : Voted-kept is-kept page.Voted digest v
  unfolding Voted-kept page.Voted
  same-Voted = by-text

  Tallied-kept : Height → Type 0
  Tallied-kept x = Voted x → is_notarized x ≡ true

  same-Tallied : Tallied-kept is-kept page.Tallied digest v
  unfolding Tallied-kept page.Tallied
  same-Tallied = by-text

  ByVotes-kept : Height → Type 0
  ByVotes-kept y = Voted y × (y.notarized ≡ y.proposal) × (y.certificate_mask ≡ held_voters y)

  same-ByVotes : ByVotes-kept is-kept page.ByVotes digest v
  unfolding ByVotes-kept page.ByVotes
  same-ByVotes = by-text

  KeepsBlock-kept : (k : ℕ) (frame : Bytes) (x y : Height) (first_block_lem : is_notarized x ≡ true → (is_notarized y ≡ true) × (y.notarized ≡ x.notarized) × (y.certificate_mask ≡ x.certificate_mask)) (this_block : k ≡ 5 → (is_notarized y ≡ true) × (y.notarized ≡ frame_block frame)) (this_certificate : k ≡ 5 → is_notarized x ≡ false → y.certificate_mask ≡ signer_mask frame) (counted : NewlyKept k frame x → Tallied y) (tallied : Tallied x → Tallied y) (only_so : is_notarized y ≡ true → (is_notarized x ≡ true) ⊎ ((k ≡ 5) ⊎ (NewlyKept k frame x × ByVotes y))) →
      KeepsBlock k frame x y
  KeepsBlock-kept k frame x y x0 x1 x2 x3 x4 x5 = record { first_block_lem = x0; this_block = x1; this_certificate = x2; counted = x3; tallied = x4; only_so = x5 }

  KeepsAt-kept : (k : ℕ) (frame : Bytes) (x y : Height) (leader : y.leader ≡ x.leader) (masks : KeepsMasks v.n k frame x y) (votes : KeepsVotes v.n k frame x y) (proposal : KeepsProposal v.n k frame x y) (block : KeepsBlock k frame x y) →
      KeepsAt k frame x y
  KeepsAt-kept k frame x y x0 x1 x2 x3 x4 = record { leader = x0; masks = x1; votes = x2; proposal = x3; block = x4 }
