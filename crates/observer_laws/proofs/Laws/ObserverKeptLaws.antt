-- What a certificate keeps of an observer's height, kind by kind, be the height new or kept as it is.
use Rattle.std.specs.Prelude.{ℕ, ◌<◌, ◌≡◌, ◌⊎◌, ◌≢◌, Bool, true, false, ◌&&◌, ◌||◌, eqb}
use Rattle.std.proofs.Common.{arith, sym, ◌∙◌, inl, inr, true≢false, eqb-true, le-leb}
use Rattle.std.proofs.Math.Path.{refl}
use Rattle.std.proofs.Math.Option.{Option}
use Rattle.protocol.specs.Bytes.{Bytes}
use Rattle.protocol.specs.Mask.{in_mask, union}
use Rattle.protocol.specs.Frame.{kind, signer_mask, frame_block, is_dummy_certificate, is_finalize_certificate}
use Rattle.protocol.specs.State.{Height, is_notarized}
use Rattle.protocol.specs.Deliver.{with_notarized, with_masks, keep_block_certificate, keep_dummy_certificate}
use Rattle.protocol.specs.Deliver.{keep_finalize_certificate}
use Rattle.protocol.proofs.Laws.TestsLaws.{cond-elim}
use Rattle.protocol.proofs.Laws.RowLaws.{not_passed}
use Rattle.protocol.proofs.Laws.UnionLaws.{union_bit}
use Rattle.call_laws.proofs.Laws.KeepsKindLaws.{left}
use Rattle.call_laws.proofs.Laws.HeightBitsLaws.{known_bits}
use Rattle.observer_laws.specs.ObserverKeeping.{SameBlock, BlockOf, KeepsCertificate}

-- a mask to which nothing is added
nothing_more : (a test b : Bool) → test ≡ false → a ≡ (a || (test && b))
nothing_more true test b e = refl
nothing_more false test b e = rw e

-- a frame of kind `j` is of no other kind
other_kind : (frame : Bytes) (j k : ℕ) → kind frame ≡ j → (j ≡ k → ⊥) → eqb (kind frame) k ≡ false
other_kind frame j k e apart = not_passed (eqb (kind frame) k) (λ same. apart (sym e ∙ eqb-true (kind frame) k same))

block_same : (x : Height) → SameBlock x x
block_same x = record { same_status = refl; same_certificate = refl; same_block = refl }

module _ (n : ℕ) (frame : Bytes) (x : Height) (status : (x.status ≡ 0) ⊎ (x.status ≡ 2)) where
  abbrev pub KeptCertificate : Option Height → Type 0
  KeptCertificate o = KeepsCertificate n frame x (left x o)

  -- a height without a block has status 0
  free_status : is_notarized x ≡ false → x.status ≡ 0
  unfolding is_notarized
  free_status free = go status
    where
      go : (x.status ≡ 0) ⊎ (x.status ≡ 2) → x.status ≡ 0
      go (inl e) = e
      go (inr e) = absurd (true≢false (sym (le-leb 2 x.status (omega arith)) ∙ free))

  -- who voted and who finalizes after a certificate of another kind
  abbrev Dummies : Height → Type 0
  Dummies y = (t : ℕ) → t < n → in_mask y.dummy_mask t ≡
      (in_mask x.dummy_mask t || (is_dummy_certificate (kind frame) && in_mask (signer_mask frame) t))

  abbrev Finalizes : Height → Type 0
  Finalizes y = (t : ℕ) → t < n → in_mask y.finalize_mask t ≡
      (in_mask x.finalize_mask t || (is_finalize_certificate (kind frame) && in_mask (signer_mask frame) t))

  same_dummies : (j : ℕ) → kind frame ≡ j → (j ≡ 6 → ⊥) → Dummies x
  same_dummies j e apart t l = nothing_more _ _ _ (other_kind frame j 6 e apart)

  same_finalizes : (j : ℕ) → kind frame ≡ j → (j ≡ 7 → ⊥) → Finalizes x
  same_finalizes j e apart t l = nothing_more _ _ _ (other_kind frame j 7 e apart)

  -- ---- kind 5
  new_block_lem : is_notarized x ≡ false → BlockOf frame (with_notarized x (signer_mask frame) (frame_block frame))
  unfolding with_notarized
  new_block_lem free = record { notarized = omega (arith, free_status free); its_signers = refl; its_block = refl }

  pub block_kept : kind frame ≡ 5 → (is_notarized x ≡ true → x.notarized ≡ frame_block frame) →
      KeptCertificate (keep_block_certificate x frame)
  unfolding keep_block_certificate left with_notarized
  block_kept five agrees = cond-elim KeptCertificate (is_notarized x)
      (λ has. record {
        dummies = same_dummies 5 five (λ e. omega arith);
        finalizes = same_finalizes 5 five (λ e. omega arith);
        first_block_lem = λ _. block_same x;
        no_block = λ _. block_same x;
        this_block = λ _ free. absurd (true≢false (sym has ∙ free));
        known_block = λ _. agrees;
      })
      (λ free. record {
        dummies = same_dummies 5 five (λ e. omega arith);
        finalizes = same_finalizes 5 five (λ e. omega arith);
        first_block_lem = λ has. absurd (true≢false (sym has ∙ free));
        no_block = λ other. absurd (other five);
        this_block = λ _ _. new_block_lem free;
        known_block = λ _. agrees;
      })

  -- ---- kinds 6 and 7
  module _ (other : kind frame ≢ 5) where
    -- a height whose masks alone may differ
    masks_kept : (y : Height) → SameBlock x y → Dummies y → Finalizes y → KeepsCertificate n frame x y
    masks_kept y same dummies finalizes = record {
      dummies = dummies;
      finalizes = finalizes;
      first_block_lem = λ _. same;
      no_block = λ _. same;
      this_block = λ five _. absurd (other five);
      known_block = λ five _. absurd (other five);
    }

    pub dummies_kept : kind frame ≡ 6 → KeptCertificate (keep_dummy_certificate n x frame)
    unfolding keep_dummy_certificate left with_masks
    dummies_kept six = cond-elim KeptCertificate (eqb (union n x.dummy_mask (signer_mask frame)) x.dummy_mask)
        (λ known. masks_kept x (block_same x)
        (λ t l. rw six (known_bits x.dummy_mask (signer_mask frame) t l (eqb-true _ _ known)))
        (same_finalizes 6 six (λ e. omega arith)))
        (λ _. masks_kept _ (record { same_status = refl; same_certificate = refl; same_block = refl })
        (λ t l. rw six (union_bit n x.dummy_mask (signer_mask frame) t l))
        (same_finalizes 6 six (λ e. omega arith)))

    pub finalizes_kept : kind frame ≡ 7 → KeptCertificate (keep_finalize_certificate n x frame)
    unfolding keep_finalize_certificate left with_masks
    finalizes_kept seven = cond-elim KeptCertificate
        (eqb (union n x.finalize_mask (signer_mask frame)) x.finalize_mask)
        (λ known. masks_kept x (block_same x) (same_dummies 7 seven (λ e. omega arith))
        (λ t l. rw seven (known_bits x.finalize_mask (signer_mask frame) t l (eqb-true _ _ known))))
        (λ _. masks_kept _ (record { same_status = refl; same_certificate = refl; same_block = refl })
        (same_dummies 7 seven (λ e. omega arith))
        (λ t l. rw seven (union_bit n x.finalize_mask (signer_mask frame) t l)))
