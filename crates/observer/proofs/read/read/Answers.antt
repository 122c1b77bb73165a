-- `read` meets its contract: the part that was written is the front of the buffer, and begins where the buffer does.
use Rattle.std.proofs.Common.{refl}
use Rattle.observer.specs.Laws.LogLaws.{observer_read_front, observer_read_length}
use Rattle.observer.proofs.read.read.Goals as goal

pub slice_bounds-result-end : goal.slice_bounds-result-end
slice_bounds-result-end c =
    observer_read_length _ _ _ _ c.read_into-count.ensures.length c.read_into-count.ensures.buffer

pub returns : goal.returns
returns c = record {
  result_value = observer_read_front _ _ _ _ c.read_into-count.ensures.length c.read_into-count.ensures.buffer;
  front = refl;
}
