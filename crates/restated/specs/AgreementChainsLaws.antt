-- Written by tests/restated --write: what docs/statements has of
-- crates/agreement/proofs/Laws/ChainsLaws.antt.
use Rattle.std.specs.Prelude.{◌≡◌, List, ◌++◌}
use package.Rattle.protocol.specs.Block.{all_entries}
use package.Rattle.protocol.specs.Bytes.{Bytes, join}
use package.Rattle.protocol.specs.Distinct.{distinct}
use package.Rattle.agreement.specs.Lists.{Begins}
use package.Rattle.agreement.proofs.Laws.ChainsLaws.{Prefix}
use mathlib.Core.Path.{◌≡◌ as ◌is-kept◌, refl as by-text}
use package.Rattle.agreement.proofs.Laws.ChainsLaws as page

Prefix-kept : {A : Type 0} → List A → List A → Type 0
Prefix-kept {A} xs ys = (zs : List A) × (ys ≡ xs ++ zs)

same-Prefix : {A : Type 0} → Prefix-kept {A = A} is-kept page.Prefix {A = A}
unfolding Prefix-kept page.Prefix
same-Prefix = by-text

pub prefix_bytes-kept : (xs ys : List Bytes) → Prefix xs ys →
    Begins (join (distinct (all_entries xs))) (join (distinct (all_entries ys)))
prefix_bytes-kept = page.prefix_bytes
