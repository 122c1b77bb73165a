-- `move_in` meets its contract: a memory of zeros knows nothing, the two refusals come in their order, and else the first
-- move that applies is made.
use Rattle.std.proofs.Common.{arith, rules, ◌≡◌, sym, ◌∙◌, ℕ, length, replicate, true, false, le-leb}
use Rattle.std.proofs.lemmas.Bool.{lt-leb}
use Rattle.std.proofs.lemmas.List.{length-replicate}
use Rattle.sha256.specs.Digest.{sha256}
use Rattle.protocol.specs.Bytes.{zeros}
use Rattle.book_fields.specs.Laws.BookLaws.{sound_book}
use Rattle.soundness.proofs.SoundTests.{sound_final}
use Rattle.memory.specs.Laws.FreshLaws.{zero_known}
use Rattle.moves.specs.Laws.OrderLaws.{called, called_short, called_unsound}
use Rattle.moves.proofs.make_move.move_in.Goals as goal

pub finalized_sound-requires-clause-memo_as : goal.finalized_sound-requires-clause-memo_as
unfolding zeros
finalized_sound-requires-clause-memo_as g c =
    let size : length (replicate {A = ℕ} g.row.N 0) ≡ g.row.N = length-replicate {A = ℕ} g.row.N 0 in
    zero_known _ _ _ (rw size c.requires.room.0) (rw size)

pub returns-then-not-finalized_sound : goal.returns-then-not-finalized_sound
returns-then-not-finalized_sound g c =
    let book = c.args.book.now in
    let no : c.finalized_sound.result ≡ false = search rules in
    let all = called_unsound book c.args.reply.now
    (sym (c.finalized_sound.ensures.answer ∙ sound_final sha256 book c.requires.book_value) ∙ no) in
    record { answer = all.0; book = all.1.0; reply = all.1.1 }

pub returns-then-reply-lt448 : goal.returns-then-reply-lt448
returns-then-reply-lt448 g c =
    let book = c.args.book.now in
    let reply = c.args.reply.now in
    let yes : c.finalized_sound.result ≡ true = search rules in
    let all = called_short book reply
    (sym (c.finalized_sound.ensures.answer ∙ sound_final sha256 book c.requires.book_value) ∙ yes)
    (lt-leb 448 (length reply) c.if-reply-lt448.true) in
    record { answer = all.0; book = all.1.0; reply = all.1.1 }

pub step-requires-clause-sound_book : goal.step-requires-clause-sound_book
step-requires-clause-sound_book g c =
    let book = c.args.book.now in
    let yes : c.finalized_sound.result ≡ true = search rules in
    sound_book sha256 book (λ i. omega (arith, c.slice_known-1.given i))
    (sym (c.finalized_sound.ensures.answer ∙ sound_final sha256 book c.requires.book_value) ∙ yes)

pub returns : goal.returns
returns g c =
    let book = c.args.book.now in
    let reply = c.args.reply.now in
    let yes : c.finalized_sound.result ≡ true = search rules in
    let all = called book reply
    (sym (c.finalized_sound.ensures.answer ∙ sound_final sha256 book c.requires.book_value) ∙ yes)
    (le-leb 448 (length reply) c.if-reply-lt448.false)
    c.step.result c.step.new.book c.step.new.reply c.step.ensures in
    record { answer = all.0; book = all.1.0; reply = all.1.1 }
