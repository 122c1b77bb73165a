-- `extends`, `linked` and `links_back` call each other and meet their contracts: `extends` by its tests in the order of
-- the code, `linked` and `links_back` by what is known already, and else by what the block of the height says.
use Rattle.std.proofs.Common.{arith, sym, ap, ◌∙◌}
use borrow.Author.Tests.{lt-ltb, le-ltb}
use Rattle.sha256.specs.Digest.{sha256}
use Rattle.protocol.specs.Bytes.{Bytes}
use Rattle.protocol.specs.View.{extends as extends-test}
use Rattle.book_fields.specs.Book.{view_of}
use Rattle.linking.proofs.Walk.{extends_by_digest, extends_not_run, extends_not_linked, extends_not_below}
use Rattle.linking.proofs.Walk.{linked_start, linked_by_block, not_linked_without}
use Rattle.memory.proofs.Stores.{remember_linked, remember_unlinked}
use Rattle.linking.proofs.linking.+extends_linked_links_back.Goals as goal

-- ---- `extends`
pub extends-returns-then-dummies_after-clause-answer : goal.extends-returns-then-dummies_after-clause-answer
extends-returns-then-dummies_after-clause-answer g t c =
    let v = view_of g.K.Kind.kind c.args.book.now in
    let j = c.parent_height-j.result in
    c.names_parent.ensures.answer ∙ sym (extends_by_digest v c.args.h j c.args.block.now
    (sym c.parent_height-j.ensures.0) (lt-ltb j c.args.h (omega arith))
    (sym c.linked.ensures.answer ∙ c.if-not-linked.false)
    (sym c.dummies_after.ensures.answer ∙ c.if-dummies_after.true))

pub extends-returns-else-dummies_after-clause-answer : goal.extends-returns-else-dummies_after-clause-answer
extends-returns-else-dummies_after-clause-answer g t c =
    c.if-dummies_after.false
    ∙ sym (extends_not_run (view_of g.K.Kind.kind c.args.book.now) c.args.h c.parent_height-j.result c.args.block.now
    (sym c.parent_height-j.ensures.0) (sym c.dummies_after.ensures.answer ∙ c.if-dummies_after.false))

pub extends-returns-then-not-linked-clause-answer : goal.extends-returns-then-not-linked-clause-answer
extends-returns-then-not-linked-clause-answer g t c =
    sym (extends_not_linked (view_of g.K.Kind.kind c.args.book.now) c.args.h c.parent_height-j.result c.args.block.now
    (sym c.parent_height-j.ensures.0) (sym c.linked.ensures.answer ∙ c.if-not-linked.true))

pub extends-returns-then-j-h-clause-answer : goal.extends-returns-then-j-h-clause-answer
extends-returns-then-j-h-clause-answer g t c =
    let j = c.parent_height-j.result in
    sym (extends_not_below (view_of g.K.Kind.kind c.args.book.now) c.args.h j c.args.block.now
    (sym c.parent_height-j.ensures.0) (le-ltb j c.args.h (omega arith)))

-- ---- `linked`
pub linked-returns-then-h-eq0-clause-answer : goal.linked-returns-then-h-eq0-clause-answer
linked-returns-then-h-eq0-clause-answer g t c =
    sym (linked_start (view_of g.K.Kind.kind c.args.book.now) c.args.h c.if-h-eq0.true)

pub linked-returns-then-seen-eq1-clause-answer : goal.linked-returns-then-seen-eq1-clause-answer
linked-returns-then-seen-eq1-clause-answer g t c =
    sym ((c.requires.memo_as.each c.args.h (omega arith)).is_linked_lem c.if-seen-eq1.true)

pub linked-returns-then-seen-eq2-clause-answer : goal.linked-returns-then-seen-eq2-clause-answer
linked-returns-then-seen-eq2-clause-answer g t c =
    sym ((c.requires.memo_as.each c.args.h (omega arith)).not_linked c.if-seen-eq2.true)

pub linked-returns-then-found-clause-memo : goal.linked-returns-then-found-clause-memo
linked-returns-then-found-clause-memo g t c =
    let back = c.links_back-found in
    remember_linked (view_of g.K.Kind.kind c.args.book.now) back.new.known back.ensures.memo c.args.h (omega arith)
    (sym back.ensures.answer ∙ c.if-found.true)

pub linked-returns-else-found-clause-memo : goal.linked-returns-else-found-clause-memo
linked-returns-else-found-clause-memo g t c =
    let back = c.links_back-found in
    remember_unlinked (view_of g.K.Kind.kind c.args.book.now) back.new.known back.ensures.memo c.args.h (omega arith)
    (sym back.ensures.answer ∙ c.if-found.false)

-- ---- `links_back`
pub links_back-returns-then-has_block-clause-answer :
    goal.links_back-returns-then-has_block-clause-answer
links_back-returns-then-has_block-clause-answer g t c =
    let v = view_of g.K.Kind.kind c.args.book.now in
    let h = c.args.h in
    c.extends.ensures.answer
    ∙ ap (λ (b : Bytes). extends-test sha256 v h b) c.block.ensures.block
    ∙ sym (linked_by_block v h c.requires.within.low (sym c.has_block.ensures ∙ c.if-has_block.true))

pub links_back-returns-else-has_block-clause-answer :
    goal.links_back-returns-else-has_block-clause-answer
links_back-returns-else-has_block-clause-answer g t c =
    c.if-has_block.false ∙ sym (not_linked_without (view_of g.K.Kind.kind c.args.book.now) c.args.h c.requires.within.low
    (sym c.has_block.ensures ∙ c.if-has_block.false))
