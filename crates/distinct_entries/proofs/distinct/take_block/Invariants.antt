-- `take_block` meets its contract: each entry is a repeat of one that stands before it, or is put behind the others.
use Rattle.std.proofs.Common.{◌≡◌, length}
use Rattle.book_fields.specs.Book.{view_of}
use Rattle.distinct_entries.specs.Taking.{up_to}
use Rattle.distinct_entries.proofs.Takes.{Going}
use Rattle.distinct_entries.proofs.distinct.take_block.Given as goal

abbrev pub invariant-loop-k : goal.invariant-loop-k
invariant-loop-k g l =
    Going (up_to (view_of g.K.Kind.kind l.book) l.h 0) (up_to (view_of g.K.Kind.kind l.book) l.h l.k)
    l.initial.filter l.initial.buffer l.count l.filter l.buffer l.taken × (length l.filter ≡ length l.initial.filter)
