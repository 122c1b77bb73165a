-- Written by tests/restated --write: what docs/statements has of
-- crates/agreement/proofs/Laws/ReplicaLaws.antt.
use Rattle.std.specs.Prelude.{ℕ, ◌≡◌}
use mathlib.Core.List.{List, [], ◌∷◌, ◌++◌}
use package.Rattle.protocol.specs.Bytes.{Bytes}
use package.Rattle.agreement.specs.Lists.{Member, NotForged}
use Rattle.std.proofs.Math.Option.{Option}
use package.Rattle.protocol.specs.State.{decode}
use package.Rattle.agreement.specs.Lists.{Follows, does}
use package.Rattle.agreement.proofs.Laws.RunLaws.{Good, GoodBytes}
use mathlib.Core.Path.{◌≡◌ as ◌is-kept◌, refl as by-text}
use package.Rattle.agreement.proofs.Laws.ReplicaLaws as page

module _ (digest : Bytes → Bytes) (weights : List ℕ) (books names : ℕ → Type 0) (l : List Member)
    (unforged : NotForged digest books names l) where
  module _ (P after : List Member) (m : Member) (here : l ≡ P ++ (m ∷ after)) (s : ℕ) (mine : books s) (hs : names s)
      (own : m.replica ≡ s) where
    abbrev P' : List Member
    P' = P ++ (m ∷ [])

    pub next_good-kept : (o : Option Bytes) → Follows digest weights s m o → GoodBytes digest weights books names P s o →
        Good digest weights books names P' s (decode (does digest m).book)
    next_good-kept = page.next_good digest weights books names l unforged P after m here s mine hs own
