-- Proofs of `Blockchains`: linked, extends, finalized, the parent and the log of every sound state in the paper's
-- terms.
use Prim.Native.Nat.{ℕ, suc, ◌-◌, ◌≤◌, ◌<◌}
use Rattle.std.proofs.Common.{arith, ◌∙◌, inl, inr}
use Rattle.std.specs.Prelude.{◌≡◌, ◌⊎◌, ◌↔◌}
use Rattle.std.proofs.Math.Path.{refl, sym, ap, subst}
use Rattle.std.proofs.Math.Bool.{true}
use Rattle.std.proofs.lemmas.Bool.{false≢true}
use Rattle.std.proofs.Math.ListN.{length, get_or-eq_default}
use Rattle.protocol.specs.SoundState.{CertifiedState}
use Rattle.protocol.specs.Bytes.{Bytes}
use Rattle.protocol.specs.Distinct.{distinct}
use Rattle.protocol.proofs.Laws.FormedLaws.{formed}
use Rattle.protocol.specs.State.{State, last, at, is_notarized, no_height}
use Rattle.protocol.specs.View.{View, linked, extends, is_finalized, parent_of, log_at}
use Rattle.protocol.specs.Sound.{view, log}
use Rattle.protocol.specs.Move.{is_some}
use Rattle.protocol.proofs.Laws.TestsLaws.{le_or_lt}
use Rattle.protocol.specs.Linked.{ChainOf}
use Rattle.protocol.proofs.Laws.LinkedLaws.{linked_sound, linked_complete, extends_sound, extends_complete}
use Rattle.protocol.proofs.Laws.LinkedLaws.{finalized_sound, finalized_complete}
use Rattle.protocol.proofs.Laws.ViewLaws.{log_zero}
use Rattle.protocol.proofs.Laws.ParentLaws.{parent_some, parent-is_some, is_some-parent}
use Rattle.paper.specs.Paper as Paper
use Rattle.paper.specs.Paper.{genesis, height, linearize, last_block, Finalization, SeenOfHeight, SeenWithBlock}
use Rattle.paper.specs.Blockchains.{Proper, ParentOf, LinkedIsSeen, ParentIsSeen, ParentIsLargest}
use Rattle.paper.specs.Blockchains.{ExtendsIsFollowing, FinalizedIsSeen, LogIsLinearized, InThePapersTerms}
use Rattle.paper.proofs.Laws.LinkedChainLaws.{chain_linked, chain_of, ending}
use Rattle.paper.proofs.Laws.TracedLaws.{traced}

module _ (digest : Bytes → Bytes) (v : View) (proper : Proper v) where
  pub linked_is : (h : ℕ) → LinkedIsSeen digest v h
  unfolding LinkedIsSeen height last_block
  linked_is h low = ((λ e. ending digest v proper h (linked_sound digest v h e) low), back)
    where
      back : SeenWithBlock digest v h → linked digest v h ≡ true
      back q = subst (λ (k : ℕ). linked digest v k ≡ true) q.its_height
          (linked_complete digest v (traced digest v q.notarized).chain.is_linked)

  pub parent_is : (h : ℕ) → ParentIsSeen digest v h
  unfolding ParentIsSeen
  parent_is h = (forth, back)
    where
      forth : is_some (parent_of digest v h) ≡ true → SeenOfHeight digest v h
      forth e =
          let c = chain_of digest v proper (is_some-parent digest v h e).2 in
          record { sequence = c.sequence; notarized = c.notarized; its_height = c.its_height }

      back : SeenOfHeight digest v h → is_some (parent_of digest v h) ≡ true
      back q = parent-is_some digest v h (last_block q.sequence)
          (subst (λ (k : ℕ). ChainOf digest v k (last_block q.sequence)) q.its_height
          (traced digest v q.notarized).chain)

  pub parent_largest : (h : ℕ) → ParentIsLargest digest v h
  unfolding ParentIsLargest
  parent_largest h j e =
      let q = parent_some digest v h j e in (
        chain_of digest v proper q.0,
        λ c n k. q.1 (last_block c)
            (subst (λ (m : ℕ). ChainOf digest v m (last_block c)) k (traced digest v n).chain),
      )

  pub extends_is : (h : ℕ) (b : Bytes) → ExtendsIsFollowing digest v h b
  unfolding ExtendsIsFollowing
  extends_is h b e = (forth, back)
    where
      forth : extends digest v (suc h) b ≡ true → ParentOf digest v h b
      forth q =
          let x = extends_sound digest v (suc h) b q in
          let on = x.on_parent in
          let below = on.below in
          let c = chain_of digest v proper {h = h} {j = x.parent}
          (record {
            within = omega arith;
            is_linked = x.parent_linked;
            dummies =
                λ k a l. on.dummies k a (omega arith);
          }) in
          record {
            parent = c.sequence;
            notarized = c.notarized;
            its_height = c.its_height;
            follows = record {
              its_height = e ∙ ap suc (sym c.its_height);
              its_parent = on.height
                  ∙ sym c.its_last;
              its_digest = on.names ∙ sym c.its_digest;
            };
          }

      back : ParentOf digest v h b → extends digest v (suc h) b ≡ true
      back q =
          let t = traced digest v q.notarized in
          let within = t.chain.within in
          let its = q.its_height in
          extends_complete digest v (suc h) b
          (record {
            parent = last_block q.parent;
            parent_linked = t.chain.is_linked;
            on_parent = record {
              height = q.follows.its_parent;
              below = omega arith;
              names = q.follows.its_digest ∙ t.its_digest;
              dummies = λ k a l. t.chain.dummies k a (omega arith);
            };
          })

  pub finalized_is : (h : ℕ) → FinalizedIsSeen digest v h
  unfolding FinalizedIsSeen
  finalized_is h low = (
    (λ e. let f = finalized_sound digest v h e in (ending digest v proper h f.is_linked low, f.has_quorum)),
    λ q. finalized_complete digest v h (record {
      is_linked = linked_sound digest v h (link_back q);
      has_quorum =
          q.1;
    }),
  )
    where
      link_back : SeenWithBlock digest v h × Finalization v h → linked digest v h ≡ true
      link_back q = let both : (linked digest v h ≡ true) ↔ SeenWithBlock digest v h = unfold LinkedIsSeen in
          linked_is h low in both.1 q.0

-- ---- every state of a sound book, a replica's or an observer's
module _ (digest : Bytes → Bytes) (s : State) (facts : CertifiedState digest s) where
  -- a height that has a block is one of the state's
  here : (h : ℕ) → (view s).has_block h ≡ true → h ≤ last s
  unfolding view at is_notarized no_height last
  here h e = inside (le_or_lt h (length s.heights))
    where
      inside : (h ≤ length s.heights) ⊎ (length s.heights < h) → h ≤ length s.heights
      inside (inl q) = q
      inside (inr q) = absurd (false≢true (rw (get_or-eq_default s.heights no_height {n = h - 1} (omega arith))
          at e))

  proper : Proper (view s)
  unfolding view
  proper = record {
    its_height = λ h low e. (formed h _ (facts.formed h low (here h e) e)).height_is;
    certified = λ h low e. facts.certified h low (here h e) e;
  }

  log_linearized : LogIsLinearized digest s
  unfolding log height last_block linearize
  log_linearized = go s.finalized refl facts.final
    where
      go : (g : ℕ) → s.finalized ≡ g → (s.finalized ≡ 0) ⊎ (is_finalized digest (view s) s.finalized ≡ true) →
          LogIsLinearized digest s
      go g e (inl z) = record {
        sequence = genesis;
        finalized = Paper.FinalizedBlockchain.start;
        its_height = sym z;
        its_last = sym z;
        its_log = ap distinct (sym (ap (λ (k : ℕ). log_at (view s) k) z ∙ log_zero (view s)));
      }
      go g e (inr z) =
          let f = finalized_sound digest (view s) s.finalized z in
          let c = chain_linked digest (view s) proper f.is_linked in
          record {
            sequence = c.sequence;
            finalized = Paper.FinalizedBlockchain.ended c.notarized (rw c.its_height f.has_quorum);
            its_height = c.its_height;
            its_last = c.its_last;
            its_log = ap distinct c.its_entries;
          }

  pub in_the_papers_terms : InThePapersTerms digest s
  in_the_papers_terms = record {
    linked_is = linked_is digest (view s) proper;
    parent_is = parent_is digest (view s) proper;
    parent_largest = parent_largest digest (view s) proper;
    extends_is = extends_is digest (view s) proper;
    finalized_is = finalized_is digest (view s) proper;
    log_is = log_linearized;
  }
