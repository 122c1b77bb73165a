-- `make_move` meets its contract: a book whose rows do not pass is refused, and each memory has room where it is taken.
use Rattle.std.proofs.Common.{rules, ◌≡◌, sym, ◌∙◌, false}
use Rattle.sha256.specs.Digest.{sha256}
use Rattle.soundness.proofs.SoundTests.{not_sound_rows}
use Rattle.moves.specs.Laws.OrderLaws.{called_unsound}
use Rattle.moves.proofs.make_move.make_move.Goals as goal

pub returns-then-not-rows_sound : goal.returns-then-not-rows_sound
returns-then-not-rows_sound c =
    let no : c.rows_sound.result ≡ false = search rules in
    let all = called_unsound c.args.book.now c.args.reply.now
    (sym (not_sound_rows sha256 c.args.book.now (sym c.rows_sound.ensures.answer ∙ no))) in
    record { answer = all.0; book = all.1.0; reply = all.1.1 }
