-- `submit_sound` meets its contract: the length's row, then that of entries that are known, then that of full places.
use Rattle.std.proofs.Common.{◌<◌, ◌∙◌, refl, sym, length, eq-eqb, ne_eqb, ltb-true}
use Rattle.protocol.specs.State.{decode}
use Rattle.protocol.specs.Submit.{still_pending}
use Rattle.answers.specs.declared.refusal.Refusal.{Refusal}
use Rattle.answers.proofs.Laws.AnswerLaws.{outcome_done, outcome_refused}
use Rattle.log_calls.specs.Laws.SubmitLaws.{submit_unfit, submit_known, submit_full, submit_done}
use Rattle.log_calls.specs.Laws.ReadLaws.{walkable}
use Rattle.log_calls.proofs.submit.submit_sound.Goals as goal

pub returns-then-entry-ne16 : goal.returns-then-entry-ne16
returns-then-entry-ne16 c =
    let all = outcome_refused Refusal.Malformed (submit_unfit c.args.book.now c.args.entry.now
    c.requires.is_sound_lem (ne_eqb (length c.args.entry.now) 16 c.if-entry-ne16.true)) in
    record { answer = all.0; book = all.1 }

pub returns-then-is_known : goal.returns-then-is_known
returns-then-is_known c =
    let fits = eq-eqb (length c.args.entry.now) 16 c.if-entry-ne16.false in
    let all = outcome_refused Refusal.EntryKnown (submit_known c.args.book.now c.args.entry.now
    c.requires.is_sound_lem fits (sym c.is_known.ensures ∙ c.if-is_known.true)) in
    record { answer = all.0; book = all.1 }

pub returns-then-not-leaves_room : goal.returns-then-not-leaves_room
returns-then-not-leaves_room c =
    let fits = eq-eqb (length c.args.entry.now) 16 c.if-entry-ne16.false in
    let all = outcome_refused Refusal.PendingFull (submit_full c.args.book.now c.args.entry.now
    c.requires.is_sound_lem fits (sym c.is_known.ensures ∙ c.if-is_known.false)
    (sym c.leaves_room.ensures ∙ c.if-not-leaves_room.true)) in
    record { answer = all.0; book = all.1 }

pub add_pending-requires : goal.add_pending-requires
add_pending-requires c =
    let s = decode c.args.book.now in
    let few : length (still_pending s) < 32 = ltb-true (length (still_pending s)) 32
    (sym c.leaves_room.ensures ∙ c.if-not-leaves_room.false) in record {
      ready = c.requires.ready;
      walkable = walkable c.args.book.now s.finalized c.requires refl;
      book_bound = (c.requires.state.pending_few, few);
      len = c.if-entry-ne16.false;
    }

pub returns : goal.returns
returns c =
    let fits = eq-eqb (length c.args.entry.now) 16 c.if-entry-ne16.false in
    let all = outcome_done (submit_done c.args.book.now c.args.entry.now c.requires.is_sound_lem fits
    (sym c.is_known.ensures ∙ c.if-is_known.false) (sym c.leaves_room.ensures ∙ c.if-not-leaves_room.false))
    c.add_pending.ensures in
    record { answer = all.0; book = all.1 }
