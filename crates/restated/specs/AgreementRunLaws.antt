-- Written by tests/restated --write: what docs/statements has of
-- crates/agreement/proofs/Laws/RunLaws.antt.
use Rattle.std.specs.Prelude.{ℕ, suc, ◌≡◌, get_or}
use mathlib.Core.List.{List, Memᴰ}
use Rattle.std.proofs.Math.Option.{Option, some, none}
use package.Rattle.protocol.specs.SoundState.{Shaped}
use package.Rattle.protocol.specs.Bytes.{Bytes}
use package.Rattle.protocol.specs.State.{Height, State, decode, flag, no_height}
use package.Rattle.protocol.specs.Sound.{view}
use package.Rattle.agreement.proofs.Laws.BackingLaws.{Backed}
use package.Rattle.agreement.specs.Lists.{Member, Shows, Statement, Wrote}
use package.Rattle.agreement.proofs.Laws.StatementsLaws.{Consistent}
use mathlib.Core.Path.{◌≡◌ as ◌is-kept◌, refl as by-text}
use package.Rattle.agreement.proofs.Laws.RunLaws as page

module _ (digest : Bytes → Bytes) where
  module _ (weights : List ℕ) (books names : ℕ → Type 0) where
    abbrev States : List Member → ℕ → Statement → Type 0
    States = page.States digest weights books names

    abbrev Seen : List Member → Bytes → Type 0
    Seen = page.Seen digest weights books names

    abbrev BackedBy : List Member → ℕ → Height → Type 0
    BackedBy = page.BackedBy digest weights books names

    abbrev Kept : (P : List Member) (b : State) → Type 0
    Kept = page.Kept digest weights books names

    abbrev Good : (P : List Member) (s : ℕ) (b : State) → Type 0
    Good = page.Good digest weights books names

    abbrev States-kept : List Member → ℕ → Statement → Type 0
    States-kept P t st = names t → Wrote digest t st P

    same-States : States-kept is-kept page.States digest weights books names
    same-States = by-text

    abbrev Seen-kept : List Member → Bytes → Type 0
    Seen-kept P p = (m : Member) × Memᴰ m P × books m.replica × Shows digest m p

    same-Seen : Seen-kept is-kept page.Seen digest weights books names
    same-Seen = by-text

    abbrev BackedBy-kept : List Member → ℕ → Height → Type 0
    BackedBy-kept P h x = Backed digest (States P) (Seen P) h x

    same-BackedBy : BackedBy-kept is-kept page.BackedBy digest weights books names
    same-BackedBy = by-text

    Kept-kept : (P : List Member) (b : State) (shaped : Shaped b) (backed : (i : ℕ) → BackedBy P (suc i) (get_or b.heights i no_height)) →
        Kept P b
    Kept-kept P b x0 x1 = record { shaped = x0; backed = x1 }

    Good-kept : (P : List Member) (s : ℕ) (b : State) (same_weights : (view b).weights ≡ weights) (kept : Kept P b) (consistent : Consistent (States P s) b.current (flag 1 b) (flag 4 b)) →
        Good P s b
    Good-kept P s b x0 x1 x2 = record { same_weights = x0; kept = x1; consistent = x2 }

    abbrev GoodBytes-kept : List Member → ℕ → Option Bytes → Type 0
    GoodBytes-kept P s none = (st : Statement) → Wrote digest s st P → ⊥
    GoodBytes-kept P s (some bs) = Good P s (decode bs)

    same-GoodBytes : GoodBytes-kept is-kept page.GoodBytes digest weights books names
    same-GoodBytes = by-text
