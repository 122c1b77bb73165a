-- What is linked or finalized stays so as a view grows.
use Prim.Native.Nat.{ℕ, zero, suc, ◌≤◌}
use Rattle.std.proofs.Common.{arith, sym, ◌∙◌, length-take-le}
use Rattle.std.specs.Prelude.{◌≡◌, true, length}
use Rattle.std.proofs.Math.Path.{refl, ap}
use Rattle.protocol.specs.SoundState.{Shaped}
use Rattle.protocol.specs.Mask.{Within}
use Rattle.protocol.specs.Bytes.{Bytes}
use Rattle.protocol.specs.State.{State, at, maximum_replicas}
use Rattle.protocol.specs.Sound.{view}
use Rattle.protocol.specs.Block.{parent_height, parent_digest}
use Rattle.protocol.specs.View.{View, quorum, is_dummy, digest_at, is_finalized}
use Rattle.protocol.specs.Linked.{OnParent, Linked, start, link}
use Rattle.protocol.proofs.Laws.LinkedLaws.{finalized_sound, finalized_complete}
use Rattle.protocol.proofs.Laws.OnesLaws.{quorum_mono}
use Rattle.call_laws.specs.Grows.{Grows, SameReplicas}

-- states of the same n and weights have views of the same replicas, each of which has a weight
pub views_alike : (s s' : State) → s'.n ≡ s.n → s'.weights ≡ s.weights → SameReplicas (view s) (view s')
unfolding view
views_alike s s' e w = record { same_n = e; same_weights = rw (e, w) }

pub weights_many : (s : State) → Shaped s → s.n ≤ maximum_replicas → length (view s).weights ≡ (view s).n
unfolding view
weights_many s shaped few = length-take-le s.n s.weights (rw shaped.weighed.sixteen few)

-- quorums are the same in views of the same replicas
pub same_quorum : (v v' : View) (mask : ℕ) → SameReplicas v v' → quorum v mask ≡ true → quorum v' mask ≡ true
unfolding quorum
same_quorum v v' mask same q = rw same.same_weights q

-- a state with the same heights and the same n shows the same
pub same_grows : (s s' : State) → Shaped s → s.n ≤ maximum_replicas → s'.n ≡ s.n → s'.weights ≡ s.weights →
    s'.heights ≡ s.heights → Grows (view s) (view s')
unfolding view at
same_grows s s' shaped few e w e' = record {
  same_replicas = views_alike s s' e w;
  weight_each = weights_many s shaped few;
  keeps_block = λ h low has. rw e' (has, refl);
  more_dummies = λ h low t l m. rw e' m;
  more_finalizes = λ h low t l m. rw e' m;
}

module _ (v v' : View) (grows : Grows v v') where
  quorum_kept : (mask other : ℕ) → Within v.n mask other → quorum v mask ≡ true → quorum v' other ≡ true
  quorum_kept mask other within e =
      let each = grows.weight_each in
      same_quorum v v' other grows.same_replicas (quorum_mono v mask other (λ t l. within t (omega arith)) e)

  dummy_kept : (h : ℕ) → 1 ≤ h → is_dummy v h ≡ true → is_dummy v' h ≡ true
  unfolding is_dummy
  dummy_kept h low e = quorum_kept (v.dummy_mask h) (v'.dummy_mask h) (grows.more_dummies h low) e

  module _ (digest : Bytes → Bytes) where
    -- the digest of a linked height's block stays
    digest_kept : {j : ℕ} → Linked digest v j → digest_at digest v' j ≡ digest_at digest v j
    unfolding digest_at
    digest_kept start = refl
    digest_kept (link {h = zero} has parent on) = refl
    digest_kept (link {h = suc j} has parent on) = ap digest (grows.keeps_block (suc j) (omega arith) has).1

    parent_kept : {h j : ℕ} → 1 ≤ h → v.has_block h ≡ true → Linked digest v j → OnParent digest v h j (v.block h) →
        OnParent digest v' h j (v'.block h)
    parent_kept {h} {j} positive has parent on =
        let same_block : v'.block h ≡ v.block h = (grows.keeps_block h positive has).1 in
        record {
          height = ap parent_height same_block ∙ on.height;
          below = on.below;
          names = ap parent_digest same_block ∙ on.names ∙ sym (digest_kept parent);
          dummies = λ k low high. dummy_kept k (omega arith) (on.dummies k low high);
        }

    stays_linked : {h : ℕ} → Linked digest v h → Linked digest v' h
    stays_linked start = start
    stays_linked (link {h = h} has parent on) =
        let positive : 1 ≤ h = omega (arith, on.below) in
        link (grows.keeps_block h positive has).0 (stays_linked parent) (parent_kept positive has parent on)

    pub finalized_grows : (h : ℕ) → 1 ≤ h → is_finalized digest v h ≡ true → is_finalized digest v' h ≡ true
    finalized_grows h low e =
        let was = finalized_sound digest v h e in
        finalized_complete digest v' h (record {
          is_linked = stays_linked was.is_linked;
          has_quorum = quorum_kept (v.finalize_mask h) (v'.finalize_mask h) (grows.more_finalizes h low)
              was.has_quorum;
        })
