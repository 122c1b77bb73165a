-- `rotate_right` meets its contract: from 1 to 31, the library's rotation is ROTR as the standard writes it. Assumes
-- nothing.
use Rattle.std.proofs.Common.{◌≡◌, ◌-◌, ◌%◌, refl, ◌∙◌, arith, mod-eq_of_lt}
use Rattle.sha256_functions.specs.Words.{rotr, shl, shr}
use Rattle.sha256_functions.proofs.rotate_right.Goals as goal

pub returns : goal.returns
unfolding rotr shl shr
returns c = let turned : c.args.n % 32 ≡ c.args.n = mod-eq_of_lt (omega arith) in
    let rest : (32 - c.args.n) % 32 ≡ 32 - c.args.n = mod-eq_of_lt (omega arith) in
    c.rotate_right.ensures ∙ rw (turned, rest) refl
