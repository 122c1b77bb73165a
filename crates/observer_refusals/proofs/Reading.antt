-- What the search needs where an observer reads a frame: its size, and what each row refuses.
use Rattle.protocol.proofs.Laws.DeliverLaws.{formed_size}
use Rattle.observer_refusals.specs.Laws.RowsLaws.{frame_malformed, frame_statement, frame_outside, frame_within}

pub ruleset reading = (formed_size, frame_malformed, frame_statement, frame_outside, frame_within)
