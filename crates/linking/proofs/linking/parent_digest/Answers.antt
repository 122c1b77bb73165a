-- `parent_digest` meets its contract: zeros for height 0, and else the digest that is kept.
use Prim.Native.Nat.{◌+◌, ◌-◌, ◌*◌}
use native.Mathlib.Omega.{arith}
use mathlib.Core.Path.{◌∙◌}
use Rattle.protocol.specs.Bytes.{zeros}
use Rattle.protocol.proofs.Laws.BytesLaws.{length_zeros}
use Rattle.book_fields.specs.Book.{view_of}
use Rattle.linking.proofs.Walk.{digest_start, digest_copied}
use Rattle.linking.proofs.linking.parent_digest.Goals as goal

pub returns-then-j-eq0 : goal.returns-then-j-eq0
unfolding zeros
returns-then-j-eq0 g c = record {
  answer = digest_start (view_of g.K.Kind.kind c.args.book.now) c.args.j c.if-j-eq0.true;
  memo = c.requires.memo_as;
}

pub remember_digest-requires : goal.remember_digest-requires
remember_digest-requires g c = record {
  shown = c.requires.shown;
  memo_as = c.requires.memo_as;
  within = record { low = omega arith; high = c.requires.j_bound };
}

pub returns : goal.returns
unfolding zeros
returns g c = let j = c.args.j in
    let kept = c.remember_digest in record {
      answer = c.copy_to.ensures ∙ digest_copied (view_of g.K.Kind.kind c.args.book.now)
          kept.new.known (zeros 32) j (36 * j + 4 + 32 - (36 * j + 4)) c.if-j-eq0.false (omega arith)
          (length_zeros 32) (omega arith) kept.ensures.digest;
      memo = kept.ensures.memo;
    }
