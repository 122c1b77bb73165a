-- Two views that show only what was stated and seen in one list: of their logs one is a beginning of the other.
use Rattle.std.specs.Prelude.{ℕ, suc, ◌*◌, ◌≤◌, ◌<◌, ◌≡◌, ◌⊎◌, true, List, [], ◌++◌}
use native.Mathlib.Omega.{arith}
use Rattle.std.proofs.Math.Path.{sym, ap}
use Rattle.std.proofs.Common.{◌∙◌, append-nil}
use mathlib.Core.List.Memᴰ
use Rattle.std.proofs.Math.Option.{Option, some, none}
use Rattle.std.proofs.Math.ListN.{length}
use Rattle.protocol.specs.Bytes.{Bytes, join}
use Rattle.protocol.proofs.Laws.CodecLaws.{at_suc}
use Rattle.protocol.proofs.Laws.QuorumLaws.{quorums_meet}
use Rattle.protocol.specs.Mask.{in_mask}
use Rattle.protocol.specs.Sound.{view}
use Rattle.protocol.specs.State.{State}
use Rattle.protocol.specs.View.{View, chain, is_dummy, is_finalized, log_at, log_of, mask_weight, quorum, total_weight}
use Rattle.agreement.proofs.Laws.BackingLaws.{Shown, shown_later}
use Rattle.agreement.proofs.Laws.ChainsLaws.{Prefix, prefix_bytes, settled_chains}
use Rattle.agreement.proofs.Laws.ListsLaws.{wrote_more}
use Rattle.agreement.proofs.Laws.ObserverListsLaws.{member_replica}
use Rattle.agreement.proofs.Laws.ObserverRunLaws.{AnySeen, AnyStates}
use Rattle.agreement.proofs.Laws.GoodAfterLaws.{good_after}
use Rattle.agreement.proofs.Laws.RunLaws.{GoodBytes, Kept}
use Rattle.agreement.proofs.Laws.WithoutObserversLaws.{forged_to_replicas}
use Rattle.agreement.specs.Lists.{Begins, FewDishonest, HonestIn, KeepsOneBook, Member, Shows, Wrote}
use Rattle.agreement.specs.Lists.{finalizes, last_left, votes_block, votes_dummy}
use Rattle.agreement.specs.ObserverLists.{AnyMember, AnyShows, Meant, NoneCollide, NoneForged, any_shows}
use Rattle.agreement.specs.ObserverLists.{of_replica, replica_calls}

-- ---- `books` and `observers` are those whose members are meant, `names` those whose statements are
module _ (digest : Bytes → Bytes) (weights : List ℕ) (books names observers : ℕ → Type 0) (l : List AnyMember) where
  -- all that a view shows was stated and seen in the list
  abbrev pub ShownIn : View → Type 0
  ShownIn v = (i : ℕ) →
      Shown digest (AnyStates digest weights books names observers l) (AnySeen digest weights books names observers l)
      (suc i) (v.dummy_mask (suc i)) (v.finalize_mask (suc i)) (v.certificate_mask (suc i)) (v.has_block (suc i))
      (v.block (suc i))

  -- so does the view of a state that is backed by some first of the replicas' calls
  pub kept_shown : (before after : List Member) → replica_calls l ≡ before ++ after → (b : State) →
      Kept digest weights books names before b → ShownIn (view b)
  unfolding view AnyShows any_shows Shows Meant
  kept_shown before after whole b kept i =
      rw (at_suc b i)
      (shown_later digest (λ t st w named. rw whole (wrote_more digest t st before after (w named)))
      (λ block w. (of_replica w.0, member_replica l w.0 (rw whole (Memᴰ.append_left after w.1)), w.2, w.3))
      (kept.backed i).shown)

-- ---- however many are dishonest
module _ (digest : Bytes → Bytes) (weights : List ℕ) (books names observers : ℕ → Type 0) (l : List AnyMember)
    (unforged : NoneForged digest (Meant books observers) names l)
    (t : ℕ) (keeps : KeepsOneBook digest weights (replica_calls l) t) (mine : books t) (named : names t) where
  abbrev calls : List Member
  calls = replica_calls l

  -- ---- what one replica states in the whole list
  whole_list : GoodBytes digest weights books names calls t (last_left digest t calls)
  whole_list =
      good_after digest weights books names calls (forged_to_replicas digest books names observers l unforged) calls []
      (sym (append-nil calls)) t keeps mine named

  -- it votes for one block at a height
  pub one_vote : (h : ℕ) (d d' : Bytes) → Wrote digest t (votes_block h d) calls →
      Wrote digest t (votes_block h d') calls → d ≡ d'
  one_vote h d d' w w' = go (last_left digest t calls) whole_list
    where
      go : (o : Option Bytes) → GoodBytes digest weights books names calls t o → d ≡ d'
      go none g = absurd (g _ w)
      go (some book) g = g.consistent.block_one h d d' (λ q. w) (λ q. w')

  -- and does not both vote for the dummy block and finalize
  pub never_both : (h : ℕ) → Wrote digest t (votes_dummy h) calls → Wrote digest t (finalizes h) calls → ⊥
  never_both h w w' = go (last_left digest t calls) whole_list
    where
      go : (o : Option Bytes) → GoodBytes digest weights books names calls t o → ⊥
      go none g = g _ w
      go (some book) g = g.consistent.not_both h (λ q. w) (λ q. w')

  -- ---- what two views show of it
  module _ (v v' : View) (x : ShownIn digest weights books names observers l v)
      (x' : ShownIn digest weights books names observers l v') (i : ℕ) where
    pub one_digest_lem : in_mask (v.certificate_mask (suc i)) t ≡ true → in_mask (v'.certificate_mask (suc i)) t ≡ true →
        digest (v.block (suc i)) ≡ digest (v'.block (suc i))
    one_digest_lem e e' = one_vote (suc i) _ _ ((x i).certifiers t e named) ((x' i).certifiers t e' named)

    pub not_finalize_and_dummy : in_mask (v.finalize_mask (suc i)) t ≡ true →
        in_mask (v'.dummy_mask (suc i)) t ≡ true → ⊥
    not_finalize_and_dummy e e' =
        never_both (suc i) ((x' i).dummies t e' named) ((x i).finalizations t e named)

-- ---- where the dishonest replicas weigh less than a third, and no two blocks collide
module _ (digest : Bytes → Bytes) (weights : List ℕ) (dishonest : ℕ) (observers : ℕ → Type 0) (l : List AnyMember)
    (third : FewDishonest weights dishonest)
    (keeps : (s : ℕ) → HonestIn weights dishonest s → KeepsOneBook digest weights (replica_calls l) s)
    (unforged : NoneForged digest (Meant (HonestIn weights dishonest) observers) (HonestIn weights dishonest) l)
    (collisionless : NoneCollide digest (Meant (HonestIn weights dishonest) observers) l) where
  abbrev Honest : ℕ → Type 0
  Honest s = HonestIn weights dishonest s

  -- the view of a sound book of replicas of these weights, a replica's or an observer's, and its finalized height
  pub record HadView (v : View) (g : ℕ) : Type 0 where
    pub shown : ShownIn digest weights Honest Honest observers l v
    pub same_weights : v.weights ≡ weights
    pub certificates : (i : ℕ) → v.has_block (suc i) ≡ true → quorum v (v.certificate_mask (suc i)) ≡ true
    pub finalizes : (g ≡ 0) ⊎ (is_finalized digest v g ≡ true)

  module _ (v v' : View) (g g' : ℕ) (x : HadView v g) (x' : HadView v' g') where
    abbrev Shared : ℕ → ℕ → Type 0
    Shared m m' = (t : ℕ) × Honest t × (in_mask m t ≡ true) × (in_mask m' t ≡ true)

    -- two quorums share an honest replica
    pub shared : (m m' : ℕ) → quorum v m ≡ true → quorum v' m' ≡ true → Shared m m'
    unfolding HonestIn
    shared m m' e e' =
        let (t, low, in_a, in_b, notD) = quorums_meet v v' m m' dishonest (x'.same_weights ∙ sym x.same_weights) e e'
        few in
        let all : length v.weights ≡ length weights = ap length x.same_weights in
        (t, (omega arith, notD), in_a, in_b)
      where
        few : 3 * mask_weight v dishonest < total_weight v
        few = rw x.same_weights third

    pub equal_blocks : (i : ℕ) → v.has_block (suc i) ≡ true → v'.has_block (suc i) ≡ true →
        v.block (suc i) ≡ v'.block (suc i)
    unfolding NoneCollide
    equal_blocks i e e' =
        let (t, ht, in_a, in_b) = shared (v.certificate_mask (suc i)) (v'.certificate_mask (suc i))
        (x.certificates i e) (x'.certificates i e') in
        let (m, here, meant, shows) = (x.shown i).notarized_seen e in
        let (m', here', meant', shows') = (x'.shown i).notarized_seen e' in
        collisionless m m' (v.block (suc i)) (v'.block (suc i)) here here' meant meant' shows shows'
        (one_digest_lem digest weights Honest Honest observers l unforged t (keeps t ht) ht ht v v' x.shown x'.shown i
        in_a in_b)

    pub final_not_dummy : (i : ℕ) → quorum v (v.finalize_mask (suc i)) ≡ true →
        quorum v' (v'.dummy_mask (suc i)) ≡ true → ⊥
    final_not_dummy i e e' =
        let (t, ht, in_a, in_b) = shared (v.finalize_mask (suc i)) (v'.dummy_mask (suc i)) e e' in
        not_finalize_and_dummy digest weights Honest Honest observers l unforged t (keeps t ht) ht ht v v' x.shown
        x'.shown i in_a in_b

    -- ---- chains of finalized heights
    chains : g ≤ g' → Prefix (chain v g) (chain v' g')
    unfolding is_dummy
    chains = settled_chains digest v v' equal_blocks final_not_dummy g g' x.finalizes x'.finalizes

    pub logs : g ≤ g' → Begins (join (log_of v g)) (join (log_of v' g'))
    unfolding log_at
    logs le = prefix_bytes _ _ (chains le)
