-- `frame_signers` meets its contract: the bit of a statement's signer is below the limit of masks.
use Rattle.std.proofs.Common.{arith, ℕ, ◌^◌, ◌<◌, sym, ap, ◌∙◌}
use Rattle.std.proofs.Math.Pow.{pow-lt}
use Rattle.frames.specs.Laws.PartLaws.{statement_high, one_signed}
use Rattle.frames.proofs.parts.frame_signers.Goals as goal

pub returns-then-is_statement : goal.returns-then-is_statement
returns-then-is_statement c = let frame = c.args.frame.now in
    let is = sym c.is_statement.ensures ∙ c.if-is_statement.true in
    let signed = c.frame_signer.ensures.0 in
    let small : c.frame_signer.result < 16 = omega (arith, signed, c.requires.frame_bound (statement_high frame is)) in
    let high : 2 ^ c.frame_signer.result < 65536 = pow-lt {j = 16} small in
    (c.bit.ensures.0 ∙ ap (λ (s : ℕ). 2 ^ s) signed ∙ sym (one_signed frame is), omega (arith, c.bit.ensures.0))
