-- `byte_of` meets its contract: what is left by a division is below the divisor.
use Rattle.std.specs.Prelude.{ℕ, ◌+◌, ◌-◌, ◌/◌, ◌%◌, ◌<◌, ◌≡◌, refl}
use Rattle.std.proofs.Common.{arith, mod-lt}
use Rattle.filter.specs.Filter.{byte_of}
use Rattle.filter.proofs.byte_of.Goals as goal

-- of a size that is known
small : (size place : ℕ) → size ≡ 4128 → (32 + place / 8 % 4096 ≡ byte_of size place) × (32 + place / 8 % 4096 < size)
unfolding byte_of
small size place is =
    rw is (refl, let low : place / 8 % 4096 < 4096 = mod-lt (place / 8) (omega arith) in omega arith)

any : (size place : ℕ) → 32 < size →
    (32 + place / 8 % (size - 32) ≡ byte_of size place) × (32 + place / 8 % (size - 32) < size)
unfolding byte_of
any size place some =
    (refl, let low : place / 8 % (size - 32) < size - 32 = mod-lt (place / 8) (omega arith) in omega arith)

pub overflow_add-result-2 : goal.overflow_add-result-2
overflow_add-result-2 c = let low = (any c.args.size c.args.place c.requires).1 in
    omega (arith, low)

pub returns-then-size-eq-SMALL : goal.returns-then-size-eq-SMALL
returns-then-size-eq-SMALL c = small c.args.size c.args.place c.if-size-eq-SMALL.true

pub returns : goal.returns
returns c = any c.args.size c.args.place c.requires
