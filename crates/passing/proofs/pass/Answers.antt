-- `pass` meets its contract: the second frame follows the first, and the head is that of the next height.
use Rattle.std.proofs.Common.{arith, ◌≡◌, ◌-◌, ◌∙◌, length, refl}
use Rattle.protocol.specs.Bytes.{Bytes, put}
use Rattle.protocol.specs.State.{decode}
use Rattle.protocol.specs.Frame.{finalize}
use Rattle.protocol.proofs.Laws.FrontLaws.{front_in_part}
use Rattle.book_fields.specs.Laws.HeadLaws.{within_current}
use Rattle.book_fields.proofs.Places.{notarized_size}
use Rattle.passing.specs.Second.{finalize_on}
use Rattle.passing.specs.Laws.PassLaws.{took_pass, finalize_size}
use Rattle.passing.proofs.pass.Goals.{then-finalizes, else-finalizes}
use Rattle.passing.proofs.pass.Goals as goal

pub returns : goal.returns
returns c =
    let book = c.args.book.now in
    let s = decode book in
    let middle : Bytes = c.write_certificate.new.reply in
    let room = c.requires.in_bounds in
    let kept = c.write_certificate.auto.reply in
    let second : c.if-finalizes.reply ≡ put middle 224 (finalize_on c.in_time-finalizes.result s) =
    elim c.if-finalizes.branch [
      | then-finalizes w ↦ w.reply-is ∙ rw
          (w.if-finalizes.true, w.write_finalize.ensures, w.own.ensures.0, c.current-c.ensures.0)
          (front_in_part middle (finalize s.own s.current) 224 (length middle - 224) (omega arith)
          (omega (arith, finalize_size s.own s.current)))
      | else-finalizes w ↦ w.reply-is ∙ w.clear.ensures ∙ rw w.if-finalizes.false
    ] in
    took_pass s
    (notarized_size book s.current c.requires.sound_book.ready.readable.sized.size
    (within_current book c.requires.sound_book c.requires.book_bound s.current refl))
    c.args.reply.now _ middle _ c.current-c.result _ c.args.by
    c.in_time-finalizes.result c.current-c.ensures.0 c.from.ensures c.requires.by_value
    c.in_time-finalizes.ensures c.write_certificate.ensures second c.enter.ensures
