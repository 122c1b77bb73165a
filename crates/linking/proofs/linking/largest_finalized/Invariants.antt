-- What is largest up to the height reached is largest up to the top, since each height passed is not finalized.
use Rattle.std.proofs.Common.{◌≡◌}
use Rattle.sha256.specs.Digest.{sha256}
use Rattle.book_fields.specs.Book.{view_of}
use Rattle.protocol.specs.View.{largest_finalized}
use Rattle.memory.specs.Memo.{MemoAs}
use Rattle.linking.proofs.linking.largest_finalized.Given as goal

abbrev pub invariant-loop-h : goal.invariant-loop-h
invariant-loop-h g l = record {
  same_height : largest_finalized sha256 (view_of g.K.Kind.kind l.book) l.h ≡
      largest_finalized sha256 (view_of g.K.Kind.kind l.book) l.top;
  memo : MemoAs g.K.Kind.kind l.book l.known;
}
