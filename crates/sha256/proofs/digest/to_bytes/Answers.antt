-- `to_bytes` meets its contract. The invariant: the words passed stand as bytes at the front; what a turn writes is the
-- next word. Assumes nothing.
use Rattle.std.specs.Int.{to_be_bytes}
use Rattle.std.proofs.Common.{rules, ◌≡◌, ◌+◌, ◌-◌, ◌*◌, length, refl, sym, ap, ◌∙◌, arith, take_all, w32}
use Rattle.std.proofs.lemmas.Slice.{overwrites}
use Rattle.sha256.specs.Digest.{words_bytes}
use Rattle.sha256.proofs.WordStores.{worded}
use Rattle.sha256.proofs.digest.to_bytes.Goals as goal

pub loop-i-init : goal.loop-i-init
unfolding words_bytes
loop-i-init c = (refl, refl)

pub loop-i-preserved : goal.loop-i-preserved
loop-i-preserved c = let whole : length c.args.hash ≡ 8 = search rules in
    let i = c.loop-i.i in (
      search (rules, overwrites),
      worded c.args.hash c.loop-i.bytes _ i (4 * i + 4 - 4 * i) (omega arith) whole c.loop-i.invariant.0 (omega arith)
          (c.copy_from_slice.ensures.after ∙ c.to_be_bytes.ensures ∙ ap (to_be_bytes w32) (omega arith))
          c.loop-i.invariant.1,
    )

pub returns : goal.returns
returns c = let whole : length c.args.hash ≡ 8 = search rules in
    let done : c.loop-i.i ≡ 8 = omega arith in
    sym (take_all 32 c.loop-i.bytes (omega arith)) ∙ rw done at c.loop-i.invariant.1
    ∙ ap words_bytes (take_all 8 c.args.hash (omega arith))
