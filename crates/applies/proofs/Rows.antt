-- What the proofs of the tests go by: where the current height lies, and the rows of each test.
use Rattle.book_fields.specs.Laws.HeadLaws.{running_high, within_current, current_high, current_within}
use Rattle.book_fields.proofs.Places.{height_shaped}
use Rattle.applies.specs.Laws.AppliesLaws.{dummy_stopped, dummy_in_time, dummy_cast, dummy_now}
use Rattle.applies.specs.Laws.AppliesLaws.{pass_stopped, pass_page, pass_neither}
use Rattle.applies.specs.Laws.AppliesLaws.{leads, leads_not, propose_stopped, propose_follows, propose_done, propose_chain}
use Rattle.applies.specs.Laws.AppliesLaws.{vote_stopped, vote_cast, vote_held, held_extends_lem, held_none}

pub ruleset dummy_rows = (dummy_stopped, dummy_in_time, dummy_cast, dummy_now)

pub ruleset pass_rows = (current_high, current_within, pass_stopped, pass_page, pass_neither)

pub ruleset propose_rows =
    (current_within, leads, leads_not, propose_stopped, propose_follows, propose_done, propose_chain)

pub ruleset vote_rows = (running_high, vote_stopped, vote_cast, vote_held)

pub ruleset held_rows = (within_current, height_shaped, held_extends_lem, held_none)
