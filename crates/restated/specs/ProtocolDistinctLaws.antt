-- Written by tests/restated --write: what docs/statements has of
-- crates/protocol/proofs/Laws/DistinctLaws.antt.
use Rattle.std.specs.Prelude.{◌≡◌, true, cond, List, [], ◌∷◌, ◌++◌}
use package.Rattle.protocol.specs.Bytes.{Bytes, holds}
use package.Rattle.protocol.specs.Distinct.{distinct_after, distinct, none_twice}
use mathlib.Core.Path.{◌≡◌ as ◌is-kept◌, refl as by-text}
use package.Rattle.protocol.proofs.Laws.DistinctLaws as page

pub distinct_append-kept : (xs ys : List Bytes) → distinct (xs ++ ys) ≡ distinct xs ++ distinct_after xs ys
distinct_append-kept = page.distinct_append

pub distinct_more-kept : (es : List Bytes) (x : Bytes) →
    distinct (es ++ (x ∷ [])) ≡ distinct es ++ cond (holds x es) [] (x ∷ [])
distinct_more-kept = page.distinct_more

pub holds_distinct-kept : (x : Bytes) (es : List Bytes) → holds x (distinct es) ≡ holds x es
holds_distinct-kept = page.holds_distinct

pub distinct_once-kept : (es : List Bytes) → none_twice (distinct es) ≡ true
distinct_once-kept = page.distinct_once

pub distinct_same-kept : (es : List Bytes) → none_twice es ≡ true → distinct es ≡ es
distinct_same-kept = page.distinct_same
