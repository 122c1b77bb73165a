-- A notarized blockchain gives a linked height: its last block, with that block's digest and log.
use Rattle.std.specs.Prelude.{ℕ, suc, ◌≡◌, refl, true}
use Rattle.std.proofs.Common.{arith, ◌∙◌}
use Rattle.std.proofs.Math.Path.{sym, ap, ap₂}
use mathlib.Core.List.{List, ◌++◌}
use Rattle.protocol.specs.Bytes.{Bytes}
use Rattle.protocol.specs.Block.{parent_height, parent_digest, entries}
use Rattle.protocol.specs.View.{View, is_dummy, digest_at, log_at}
use Rattle.protocol.specs.Linked.{Linked, start, link, OnParent, ChainOf}
use Rattle.protocol.proofs.Laws.LinkedLaws.{linked_complete}
use Rattle.protocol.proofs.Laws.ChainLaws.{log_suc}
use Rattle.protocol.proofs.Laws.ViewLaws.{log_zero}
use Rattle.protocol.proofs.Laws.ParentLaws.{chain_here, chain_dummy}
use Rattle.paper.specs.Paper as Paper
use Rattle.paper.specs.Paper.{Sequence, add_dummy, add_block, height, linearize, last_block, last_digest, Follows}
use Rattle.paper.specs.Paper.{NotarizedBlock, NotarizedBlockchain}

module _ (digest : Bytes → Bytes) (v : View) where
  pub record Traced (c : Sequence) : Type 0 where
    pub chain : ChainOf digest v (height c) (last_block c)
    pub its_digest : last_digest digest c ≡ digest_at digest v (last_block c)
    pub its_entries : linearize c ≡ log_at v (last_block c)

  trace_dummy : (c : Sequence) → Traced c → is_dummy v (suc (height c)) ≡ true → Traced (add_dummy c)
  unfolding height last_block last_digest linearize
  trace_dummy c t e = record {
    chain = chain_dummy digest v e t.chain;
    its_digest = t.its_digest;
    its_entries =
        t.its_entries;
  }

  trace_block : (c : Sequence) (b : Bytes) → Traced c → Follows digest c b → NotarizedBlock v (suc (height c)) b →
      Traced (add_block c b)
  unfolding height last_block last_digest linearize digest_at
  trace_block c b t f q =
      let low = t.chain.within in
      let on : OnParent digest v (suc (height c)) (last_block c) (v.block (suc (height c))) = record {
        height = ap parent_height q.same ∙ f.its_parent;
        below = omega arith;
        names = ap parent_digest q.same ∙ f.its_digest ∙ t.its_digest;
        dummies = λ k a e. t.chain.dummies k a (omega arith);
      } in
      let l : Linked digest v (suc (height c)) = link q.seen t.chain.is_linked on in
      record {
        chain = chain_here digest v l;
        its_digest = ap digest (sym q.same);
        its_entries = ap₂ (λ (x : List Bytes) (y : Bytes). x ++ entries y)
            (t.its_entries ∙ ap (λ (k : ℕ). log_at v k) (sym on.height)) (sym q.same)
            ∙ sym (log_suc digest v (height c) (linked_complete digest v l));
      }

  pub traced : {c : Sequence} → NotarizedBlockchain digest v c → Traced c
  unfolding height last_block last_digest linearize digest_at is_dummy
  traced Paper.NotarizedBlockchain.start =
      record { chain = chain_here digest v start; its_digest = refl; its_entries = sym (log_zero v) }
  traced (Paper.NotarizedBlockchain.dummy_next {c = c} n e) = trace_dummy c (traced n) e
  traced (Paper.NotarizedBlockchain.block_next {c = c} {b = b} n f q) = trace_block c b (traced n) f q
