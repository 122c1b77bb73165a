-- The best chain up to the height reached is the best up to the top, since each height passed is a dummy and not linked.
use Rattle.std.proofs.Common.{◌≡◌}
use Rattle.sha256.specs.Digest.{sha256}
use Rattle.book_fields.specs.Book.{view_of}
use Rattle.protocol.specs.View.{parent_of}
use Rattle.memory.specs.Memo.{MemoAs}
use Rattle.linking.proofs.linking.parent_of.Given as goal

abbrev pub invariant-loop-h : goal.invariant-loop-h
invariant-loop-h g l = record {
  same_parent : parent_of sha256 (view_of g.K.Kind.kind l.book) l.h ≡ parent_of sha256 (view_of g.K.Kind.kind l.book) l.top;
  memo : MemoAs g.K.Kind.kind l.book l.known;
}
