-- The rows that the heads of all kinds share, by name.
use Rattle.std.specs.Prelude.{◌≤◌, ◌≡◌, true, take}
use Rattle.std.proofs.Common.{arith}
use Rattle.protocol.specs.Every.{none, one}
use Rattle.protocol.specs.Bytes.{Bytes, byte_at, part, is_zero}
use Rattle.protocol.specs.Tests.{all_of, in_range}
use Rattle.protocol.specs.Mask.{total}
use Rattle.protocol.specs.State.{book_weights, book_heights, most_heights, head_unused, maximum_replicas}
use Rattle.protocol.specs.Sound.{weights_fit}
use Rattle.protocol.proofs.Laws.RowLaws.{by_rows, all_of_lem, in_range_lem}
use Rattle.protocol.proofs.Laws.HeadLaws.{weights_weighed}
use Rattle.book_fields.specs.Setting.{later_unused, weight_rows, setting_rows}
use Rattle.book_fields.specs.Laws.WeightLaws.{some_weight}

pub record SettingPasses (book : Bytes) : Type 0 where
  pub replicas : in_range 1 maximum_replicas (byte_at book 0) ≡ true
  pub heights : in_range 1 (most_heights (byte_at book 7)) (book_heights book) ≡ true
  pub edition : in_range 1 3 (byte_at book 7) ≡ true
  pub weights : weights_fit (byte_at book 0) (book_weights book) ≡ true
  pub unused : is_zero (head_unused book) ≡ true

pub setting_passes : (book : Bytes) → all_of (setting_rows book) ≡ true → SettingPasses book
unfolding setting_rows weight_rows later_unused head_unused
setting_passes book e =
    by_rows _ e λ replicas heights edition both.
    by_rows _ both λ weights unused. record {
      replicas = replicas;
      heights = heights;
      edition = edition;
      weights = weights;
      unused = unused;
    }

pub setting_pass : (book : Bytes) → SettingPasses book → all_of (setting_rows book) ≡ true
unfolding setting_rows weight_rows later_unused head_unused
setting_pass book is = all_of_lem
    (one is.replicas
    (one is.heights
    (one is.edition (one (all_of_lem (one is.weights (one is.unused none))) none))))

-- the replicas have some weight
pub setting_weighs : (book : Bytes) → SettingPasses book → 1 ≤ total (take (byte_at book 0) (book_weights book))
setting_weighs book is =
    let sixteen = (weights_weighed (byte_at book 7) (byte_at book 0) (part book 8 32)).sixteen in
    some_weight (byte_at book 0) (book_weights book) (in_range_lem 1 maximum_replicas (byte_at book 0) is.replicas).0
    (omega (arith, sixteen)) is.weights
