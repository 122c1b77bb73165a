-- `frame_refusal` meets its contract: inside the book's heights, the rows of a certificate decide.
use Rattle.std.proofs.Common.{arith, sym, ◌∙◌, ◌≤◌}
use Rattle.std.proofs.lemmas.Grind.{common_steps}
use Rattle.protocol.specs.State.{last}
use Rattle.protocol.specs.Observer.{observer_state}
use Rattle.observer_refusals.specs.Laws.RowsLaws.{frame_within}
use Rattle.observer_refusals.proofs.frame_refusal.Goals as goal

pub returns : goal.returns
returns c = let s = observer_state c.args.book.now in
    let h = c.frame_height-h.result in
    let formed = sym c.frame_well_formed.ensures ∙ c.if-not-frame_well_formed.false in
    let is = sym c.is_certificate.ensures ∙ c.if-not-is_certificate.false in
    let low : 1 ≤ h = grind (arith, common_steps) in
    let high : h ≤ last s = grind (arith, common_steps) in
    c.certificate_refusal.ensures ∙ sym (frame_within s c.args.frame.now formed is h c.frame_height-h.ensures.0 low high)
