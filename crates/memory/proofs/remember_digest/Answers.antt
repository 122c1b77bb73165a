-- `remember_digest` meets its contract: a digest that is known is the right one, and else it is stored before it is
-- said to be known.
use native.Mathlib.Omega.{arith}
use mathlib.Core.Path.{◌≡◌, ap, ◌∙◌}
use lib.ListN.{length}
use Rattle.sha256.specs.Digest.{sha256}
use Rattle.book_fields.specs.Book.{view_of}
use Rattle.memory.proofs.Stores.{stored}
use Rattle.memory.proofs.remember_digest.Goals as goal

pub returns-then-seen-eq1 : goal.returns-then-seen-eq1
returns-then-seen-eq1 g c = record {
  digest = (c.requires.memo_as.each c.args.j (omega arith)).digest c.if-seen-eq1.true;
  memo = c.requires.memo_as;
}

pub returns : goal.returns
returns g c =
    let copied = c.copy_to in
    let hashed = c.sha256-digest in
    let whole : length hashed.result ≡ 32 = omega arith in let all = stored (view_of g.K.Kind.kind c.args.book.now) c.args.known.now c.requires.memo_as c.args.j (omega arith)
    hashed.result whole c.if-seen-eq1.false
    (hashed.ensures ∙ ap sha256 c.block.ensures.block) copied.new.target copied.ensures in
    record { digest = all.0; memo = all.1 }
