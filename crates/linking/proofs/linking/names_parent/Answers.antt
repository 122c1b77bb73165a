-- `names_parent` meets its contract: the block's parent digest is its bytes from 16 on.
use mathlib.Core.Path.{ap, ◌∙◌}
use Rattle.protocol.specs.Bytes.{Bytes, same}
use Rattle.protocol.specs.Block.{parent_digest}
use Rattle.linking.proofs.Walk.{names_digest}
use Rattle.linking.proofs.linking.names_parent.Goals as goal

pub parent_digest-digest-requires : goal.parent_digest-digest-requires
parent_digest-digest-requires g c = record {
  shown = c.requires.shown;
  memo_as = c.requires.memo_as;
  j_bound = c.requires.j_bound;
}

pub returns : goal.returns
returns g c = let named = c.parent_digest-digest in
    let block = c.args.block.now in record {
      answer = c.same_bytes.ensures ∙ names_digest block named.result
          ∙ ap (λ (d : Bytes). same (parent_digest block) d) named.ensures.answer;
      memo = named.ensures.memo;
    }
