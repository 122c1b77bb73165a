-- `read_sound` meets its contract: what is read is the log, since that ends at the finalized height.
use Rattle.observer.specs.Laws.LogLaws.{observer_walkable, observer_read_done}
use Rattle.observer.proofs.log.read_sound.Goals as goal

pub read_distinct-requires : goal.read_distinct-requires
read_distinct-requires c = observer_walkable c.args.book.now _ c.requires c.finalized-g.ensures.0

pub returns : goal.returns
returns c =
    let all = observer_read_done c.args.book.now c.args.buffer.now c.requires.is_sound_lem _
    c.finalized-g.ensures.0 _ _ c.read_distinct.ensures.length c.read_distinct.ensures.buffer in
    record { length = all.0; buffer = all.1 }
