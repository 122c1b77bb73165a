-- `step` meets its contract, by those of the round and of the next word. Assumes nothing.
use Rattle.std.proofs.Common.{◌+◌, set, ap}
use Rattle.sha256.proofs.compression.step.Goals as goal

pub returns : goal.returns
returns c = record {
  value = c.one_round-turned.ensures;
  w_after = ap (set c.args.w.now (16 + c.args.t)) c.next_word.ensures;
}
