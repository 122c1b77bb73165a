-- Written by tests/restated --write: what docs/statements has of
-- crates/paper/specs/Blockchains.antt.
use Rattle.std.specs.Prelude.{ℕ, suc, ◌≤◌, ◌≡◌, ◌↔◌, true}
use Rattle.std.proofs.Math.Option.{some}
use package.Rattle.protocol.specs.Bytes.{Bytes}
use package.Rattle.protocol.specs.Distinct.{distinct}
use package.Rattle.protocol.specs.Block.{block_height}
use package.Rattle.protocol.specs.State.{State}
use package.Rattle.protocol.specs.View.{View, linked, extends, is_finalized, parent_of, digest_at, log_at}
use package.Rattle.protocol.specs.Sound.{view, log}
use package.Rattle.protocol.specs.Move.{is_some}
use package.Rattle.paper.specs.Paper.{Sequence, height, linearize, last_block, last_digest, Follows, NotarizedBlockchain}
use package.Rattle.paper.specs.Paper.{FinalizedBlockchain, Finalization, SeenOfHeight, SeenWithBlock}
use package.Rattle.paper.specs.Blockchains.{LinkedIsSeen, ParentIsSeen, ParentIsLargest, ExtendsIsFollowing, FinalizedIsSeen, LogIsLinearized, InThePapersTerms}
use mathlib.Core.Path.{◌≡◌ as ◌is-kept◌, refl as by-text}
use package.Rattle.paper.specs.Blockchains as page

module _ (digest : Bytes → Bytes) (v : View) where
  abbrev ChainEndingAt : (h j : ℕ) → Type 0
  ChainEndingAt = page.ChainEndingAt digest v

  abbrev ParentOf : (h : ℕ) (b : Bytes) → Type 0
  ParentOf = page.ParentOf digest v

  ChainEndingAt-kept : (h j : ℕ) (sequence : Sequence) (notarized : NotarizedBlockchain digest v sequence) (its_height : height sequence ≡ h) (its_last : last_block sequence ≡ j) (its_digest : last_digest digest sequence ≡ digest_at digest v j) (its_entries : linearize sequence ≡ log_at v j) →
      ChainEndingAt h j
  ChainEndingAt-kept h j x0 x1 x2 x3 x4 x5 = record { sequence = x0; notarized = x1; its_height = x2; its_last = x3; its_digest = x4; its_entries = x5 }

  ParentOf-kept : (h : ℕ) (b : Bytes) (parent : Sequence) (notarized : NotarizedBlockchain digest v parent) (its_height : height parent ≡ h) (follows : Follows digest parent b) →
      ParentOf h b
  ParentOf-kept h b x0 x1 x2 x3 = record { parent = x0; notarized = x1; its_height = x2; follows = x3 }

  LinkedIsSeen-kept : ℕ → Type 0
  LinkedIsSeen-kept h = 1 ≤ h → (linked digest v h ≡ true) ↔ SeenWithBlock digest v h

  same-LinkedIsSeen : LinkedIsSeen-kept is-kept page.LinkedIsSeen digest v
  unfolding LinkedIsSeen-kept page.LinkedIsSeen
  same-LinkedIsSeen = by-text

  ParentIsSeen-kept : ℕ → Type 0
  ParentIsSeen-kept h = (is_some (parent_of digest v h) ≡ true) ↔ SeenOfHeight digest v h

  same-ParentIsSeen : ParentIsSeen-kept is-kept page.ParentIsSeen digest v
  unfolding ParentIsSeen-kept page.ParentIsSeen
  same-ParentIsSeen = by-text

  ParentIsLargest-kept : ℕ → Type 0
  ParentIsLargest-kept h =
      (j : ℕ) → parent_of digest v h ≡ some j →
      ChainEndingAt h j × ((c : Sequence) → NotarizedBlockchain digest v c → height c ≡ h → last_block c ≤ j)

  same-ParentIsLargest : ParentIsLargest-kept is-kept page.ParentIsLargest digest v
  unfolding ParentIsLargest-kept page.ParentIsLargest
  same-ParentIsLargest = by-text

  ExtendsIsFollowing-kept : ℕ → Bytes → Type 0
  ExtendsIsFollowing-kept h b = block_height b ≡ suc h → (extends digest v (suc h) b ≡ true) ↔ ParentOf h b

  same-ExtendsIsFollowing : ExtendsIsFollowing-kept is-kept page.ExtendsIsFollowing digest v
  unfolding ExtendsIsFollowing-kept page.ExtendsIsFollowing
  same-ExtendsIsFollowing = by-text

  FinalizedIsSeen-kept : ℕ → Type 0
  FinalizedIsSeen-kept h = 1 ≤ h → (is_finalized digest v h ≡ true) ↔ (SeenWithBlock digest v h × Finalization v h)

  same-FinalizedIsSeen : FinalizedIsSeen-kept is-kept page.FinalizedIsSeen digest v
  unfolding FinalizedIsSeen-kept page.FinalizedIsSeen
  same-FinalizedIsSeen = by-text

LogIsLinearized-kept : (digest : Bytes → Bytes) (s : State) (sequence : Sequence) (finalized : FinalizedBlockchain digest (view s) sequence) (its_height : height sequence ≡ s.finalized) (its_last : last_block sequence ≡ s.finalized) (its_log : distinct (linearize sequence) ≡ log s) →
    LogIsLinearized digest s
LogIsLinearized-kept digest s x0 x1 x2 x3 x4 = record { sequence = x0; finalized = x1; its_height = x2; its_last = x3; its_log = x4 }

InThePapersTerms-kept : (digest : Bytes → Bytes) (s : State) (linked_is : (h : ℕ) → LinkedIsSeen digest (view s) h) (parent_is : (h : ℕ) → ParentIsSeen digest (view s) h) (parent_largest : (h : ℕ) → ParentIsLargest digest (view s) h) (extends_is : (h : ℕ) (b : Bytes) → ExtendsIsFollowing digest (view s) h b) (finalized_is : (h : ℕ) → FinalizedIsSeen digest (view s) h) (log_is : LogIsLinearized digest s) →
    InThePapersTerms digest s
InThePapersTerms-kept digest s x0 x1 x2 x3 x4 x5 = record { linked_is = x0; parent_is = x1; parent_largest = x2; extends_is = x3; finalized_is = x4; log_is = x5 }
