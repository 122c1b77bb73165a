-- `read_refusal` meets its contract: inside the book's heights, the signers decide.
use Rattle.std.proofs.Common.{arith, sym, ◌∙◌, ◌≤◌}
use Rattle.std.proofs.lemmas.Grind.{common_steps}
use Rattle.protocol.specs.State.{decode, last}
use Rattle.frame_refusals.specs.Laws.RefusalLaws.{read_within}
use Rattle.frame_refusals.proofs.read.read_refusal.Goals as goal

pub returns : goal.returns
returns c = let s = decode c.args.book.now in
    let h = c.frame_height-h.result in
    let low : 1 ≤ h = grind (arith, common_steps) in
    let high : h ≤ last s = grind (arith, common_steps) in
    let formed = sym c.frame_well_formed.ensures ∙ c.if-not-frame_well_formed.false in
    c.member_refusal.ensures ∙ sym (read_within s c.args.frame.now formed h c.frame_height-h.ensures.0 low high)
