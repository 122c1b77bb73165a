-- What the search needs where a frame is read: its size, and what each row refuses.
use Rattle.protocol.proofs.Laws.DeliverLaws.{formed_size}
use Rattle.frame_refusals.specs.Laws.RefusalLaws.{read_malformed, read_outside, read_within}

pub ruleset reading = (formed_size, read_malformed, read_outside, read_within)
