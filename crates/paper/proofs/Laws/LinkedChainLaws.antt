-- A linked height gives a notarized blockchain.
use Prim.Native.Nat.{ℕ, zero, suc, ◌+◌, ◌-◌, ◌≤◌, ◌<◌}
use native.Mathlib.Omega.{arith}
use Rattle.std.proofs.Common.{add-suc, subst, ◌∙◌}
use Rattle.std.specs.Prelude.{◌≡◌, refl}
use Rattle.std.proofs.Math.Path.{sym, ap}
use Rattle.std.proofs.Math.Bool.{true}
use mathlib.Core.List.{List, ◌++◌}
use Rattle.protocol.specs.Bytes.{Bytes}
use Rattle.protocol.specs.Block.{entries}
use Rattle.protocol.specs.View.{View, linked, is_dummy, digest_at, log_at}
use Rattle.protocol.specs.Linked.{Linked, start, link, OnParent, ChainOf}
use Rattle.protocol.proofs.Laws.LinkedLaws.{linked_complete}
use Rattle.protocol.proofs.Laws.ChainLaws.{log_suc}
use Rattle.protocol.proofs.Laws.ViewLaws.{log_zero}
use Rattle.paper.specs.Paper as Paper
use Rattle.paper.specs.Paper.{genesis, add_dummy, add_block, height, linearize, last_block, last_digest}
use Rattle.paper.specs.Paper.{SeenWithBlock}
use Rattle.paper.specs.Blockchains.{Proper, ChainEndingAt}

module _ (digest : Bytes → Bytes) (v : View) where
  -- one more dummy
  pad : {h j : ℕ} → ChainEndingAt digest v h j → is_dummy v (suc h) ≡ true → ChainEndingAt digest v (suc h) j
  unfolding is_dummy height last_block last_digest linearize
  pad {h} c e = record {
    sequence = add_dummy c.sequence;
    notarized = Paper.NotarizedBlockchain.dummy_next c.notarized (rw c.its_height e);
    its_height = ap suc c.its_height;
    its_last = c.its_last;
    its_digest = c.its_digest;
    its_entries = c.its_entries;
  }

  pads : (h j count : ℕ) → ChainEndingAt digest v h j → ((k : ℕ) → h < k → k ≤ h + count → is_dummy v k ≡ true) →
      ChainEndingAt digest v (h + count) j
  pads h j zero c e = subst (λ (k : ℕ). ChainEndingAt digest v k j) (let q : h ≡ h + 0 = omega arith in q) c
  pads h j (suc count) c e =
      rw (add-suc h count) (pad (pads h j count c (λ k a b. e k a (omega arith)))
      (e (suc (h + count)) (omega arith) (omega arith)))

  module _ (proper : Proper v) where
    -- the block of a linked height on a chain of the heights below
    onto : (i j : ℕ) → v.has_block (suc i) ≡ true → linked digest v (suc i) ≡ true →
        OnParent digest v (suc i) j (v.block (suc i)) → ChainEndingAt digest v i j →
        ChainEndingAt digest v (suc i) (suc i)
    unfolding height last_block last_digest linearize digest_at
    onto i j has l on c = record {
      sequence = add_block c.sequence (v.block (suc i));
      notarized = Paper.NotarizedBlockchain.block_next c.notarized
          (record {
            its_height = proper.its_height (suc i) (omega arith) has ∙ ap suc (sym c.its_height);
            its_parent = on.height ∙ sym c.its_last;
            its_digest = on.names ∙ sym c.its_digest;
          })
          (record {
            seen = rw c.its_height has;
            same = ap (λ (k : ℕ). v.block (suc k)) c.its_height;
            votes =
                rw c.its_height (proper.certified (suc i) (omega arith) has);
          });
      its_height = ap suc c.its_height;
      its_last = ap suc c.its_height;
      its_digest = refl;
      its_entries = ap (λ (l : List Bytes). l ++ entries (v.block (suc i)))
          (c.its_entries ∙ ap (λ (k : ℕ). log_at v k) (sym on.height)) ∙ sym (log_suc digest v i l);
    }

    pub chain_linked : {h : ℕ} → Linked digest v h → ChainEndingAt digest v h h
    unfolding height last_block last_digest linearize digest_at
    chain_linked start = record {
      sequence = genesis;
      notarized = Paper.NotarizedBlockchain.start;
      its_height = refl;
      its_last = refl;
      its_digest = refl;
      its_entries = sym (log_zero v);
    }
    chain_linked (link {h = h} {j = j} has l on) =
        up h has on (linked_complete digest v (link has l on)) (chain_linked l)
      where
        up : (h : ℕ) → v.has_block h ≡ true → OnParent digest v h j (v.block h) → linked digest v h ≡ true →
            ChainEndingAt digest v j j → ChainEndingAt digest v h h
        up zero has on e c = let z = on.below in absurd (omega arith)
        up (suc i) has on e c =
            let low = on.below in
            let between : j + (i - j) ≡ i = omega arith in
            onto i j has e on (subst (λ (k : ℕ). ChainEndingAt digest v k j) between
            (pads j j (i - j) c (λ k a b. on.dummies k a (omega arith))))

    pub chain_of : {h j : ℕ} → ChainOf digest v h j → ChainEndingAt digest v h j
    chain_of {h} {j} c =
        let low = c.within in
        let between : j + (h - j) ≡ h = omega arith in
        subst (λ (k : ℕ). ChainEndingAt digest v k j) between
        (pads j j (h - j) (chain_linked c.is_linked) (λ k a b. c.dummies k a (omega arith)))

    -- the blockchain of a linked height ends in a block
    pub ending : (h : ℕ) → Linked digest v h → 1 ≤ h → SeenWithBlock digest v h
    unfolding height onto
    ending h start low = absurd (omega arith)
    ending h (link {j = j} has l on) low = up h has on (linked_complete digest v (link has l on)) low
      where
        up : (h : ℕ) → v.has_block h ≡ true → OnParent digest v h j (v.block h) → linked digest v h ≡ true → 1 ≤ h →
            SeenWithBlock digest v h
        up zero has on e low = absurd (omega arith)
        up (suc i) has on e low =
            let below = on.below in
            let c = chain_of {h = i} {j = j}
            (record { within = omega arith; is_linked = l; dummies = λ k a b. on.dummies k a (omega arith) }) in
            let whole = onto i j has e on c in
            record {
              parent = c.sequence;
              block = v.block (suc i);
              notarized = whole.notarized;
              its_height =
                  ap suc c.its_height;
            }
