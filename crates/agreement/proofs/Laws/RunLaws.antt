-- The book of an honest replica along a list of calls: what is backed in it, and what the frames delivered to it leave.
use Rattle.std.specs.Prelude.{ℕ, suc, ◌-◌, ◌<◌, ◌≡◌, refl, Bool, false, length, get_or, set, eqb}
use native.Mathlib.Omega.{arith}
use Rattle.std.proofs.Common.{sym, ◌∙◌, get_or-set_same, get_or-set_other, eqb-true}
use Rattle.std.proofs.Math.Path.{subst}
use Rattle.std.proofs.Math.Logic.{inl}
use Rattle.std.proofs.Math.Bool.{true}
use mathlib.Core.List.Memᴰ
use mathlib.Core.List.{List, [], ◌∷◌, Memᴰ}
use Rattle.std.proofs.Math.Option.{Option, some, none}
use Rattle.std.proofs.lemmas.Bool.{eqb-false}
use Rattle.protocol.specs.SoundState.{ShapedHeight, Shaped}
use Rattle.protocol.specs.Answer.{Delivery, Outcome, is_accepted}
use Rattle.protocol.specs.Bytes.{Bytes}
use Rattle.protocol.specs.Deliver.{deliver_all, deliver_call, keep}
use Rattle.protocol.proofs.Laws.EveryLaws.{every_set, every_at}
use Rattle.protocol.specs.Frame.{frame_height}
use Rattle.protocol.proofs.Laws.DeliverLaws.{Accepts, deliver_cases}
use Rattle.protocol.specs.State.{Height, State, at, decode, encode, flag, last, no_height, with_head, with_height}
use Rattle.protocol.specs.State.{with_timer_fired}
use Rattle.protocol.specs.Sound.{view}
use Rattle.protocol.proofs.Laws.StateLaws.{decode_encode}
use Rattle.protocol.proofs.Laws.FlagLaws.{flag_set, flag_kept}
use Rattle.agreement.proofs.Laws.BackingLaws.{Backed}
use Rattle.agreement.proofs.Laws.GrantsLaws.{grants}
use Rattle.agreement.proofs.Laws.KeepingLaws.{keep_good}
use Rattle.agreement.specs.Lists.{Member, Shows, Statement, Wrote, block_in, delivers, statement_of, writes}
use Rattle.agreement.proofs.Laws.StatementsLaws.{Consistent, stated_nothing}

-- ---- another height in the place of one: what holds of each height and of that one holds of each
pub each_set : (Q : ℕ → Height → Type 0) (heights : List Height) (k : ℕ) (new : Height) → k < length heights →
    Q (suc k) new → ((i : ℕ) → Q (suc i) (get_or heights i no_height)) →
    (i : ℕ) → Q (suc i) (get_or (set heights k new) i no_height)
each_set Q heights k new inside is each i = go (eqb i k) refl
  where
    go : (e : Bool) → eqb i k ≡ e → Q (suc i) (get_or (set heights k new) i no_height)
    go true e = rw (eqb-true i k e, get_or-set_same heights k new no_height inside) is
    go false e = rw (get_or-set_other heights k i new no_height (eqb-false i k e)) (each i)

module _ (digest : Bytes → Bytes) where
  -- `books`: whose books are meant; `names`: whose statements. An honest replica is among both
  module _ (weights : List ℕ) (books names : ℕ → Type 0) where
    -- what the named have stated, and the blocks that were delivered to those books or written from them
    abbrev pub States : List Member → ℕ → Statement → Type 0
    States P t st = names t → Wrote digest t st P

    abbrev pub Seen : List Member → Bytes → Type 0
    Seen P p = (m : Member) × Memᴰ m P × books m.replica × Shows digest m p

    abbrev pub BackedBy : List Member → ℕ → Height → Type 0
    BackedBy P h x = Backed digest (States P) (Seen P) h x

    -- all that a state keeps is backed; this asks nothing of what its replica states
    pub record Kept (P : List Member) (b : State) : Type 0 where
      pub shaped : Shaped b
      pub backed : (i : ℕ) → BackedBy P (suc i) (get_or b.heights i no_height)

    -- and what the replica itself has stated is consistent
    pub record Good (P : List Member) (s : ℕ) (b : State) : Type 0 where
      pub same_weights : (view b).weights ≡ weights
      pub kept : Kept P b
      pub consistent : Consistent (States P s) b.current (flag 1 b) (flag 4 b)

    abbrev pub GoodBytes : List Member → ℕ → Option Bytes → Type 0
    GoodBytes P s none = (st : Statement) → Wrote digest s st P → ⊥
    GoodBytes P s (some bs) = Good P s (decode bs)

    pub encoded : (P : List Member) (s : ℕ) (b : State) → Good P s b → Good P s (decode (encode b))
    encoded P s b g = rw (decode_encode b g.kept.shaped) g

    -- ---- the timer fires, by a signal or because the leader equivocates
    module _ (P : List Member) (b : State) where
      fired_kept : Kept P b → Kept P (with_timer_fired b)
      unfolding with_timer_fired with_head
      fired_kept k = record {
        shaped = record {
          weighed = k.shaped.weighed;
          pool_size_lem = k.shaped.pool_size_lem;
          heights = k.shaped.heights;
        };
        backed = k.backed;
      }

      pub fired_good : (s : ℕ) → flag 1 b ≡ false → Good P s b → Good P s (with_timer_fired b)
      unfolding with_timer_fired with_head view
      fired_good s clear g = record {
        same_weights = g.same_weights;
        kept = fired_kept g.kept;
        consistent = stated_nothing g.consistent (λ st w. inl w)
            (λ _. flag_set b b.current b.finalized 0 clear)
            (λ e. flag_kept b b.current b.finalized 0 clear 2 (omega arith) ∙ e);
      }

    -- ---- a frame among those that a member of the list delivers
    module _ (P : List Member) (m : Member) (among : Memᴰ m P) (ours : books m.replica) where
      module _ (book f : Bytes) (k : Kept P (decode book)) (delivered : Memᴰ f (delivers digest m))
          (said : (t : ℕ) (st : Statement) → statement_of digest f t ≡ some st → States P t st)
          (accepts : Accepts digest book f) (new : Height) (was-kept : keep digest (decode book) f ≡ some new) where
        abbrev was : State
        was = decode book

        abbrev place : ℕ
        place = frame_height f

        inside : place - 1 < length was.heights
        unfolding last
        inside = let low = accepts.read.low in let high = accepts.read.high in omega arith

        number : suc (place - 1) ≡ place
        number = let low = accepts.read.low in omega arith

        backed_at : BackedBy P place (at was place)
        unfolding at
        backed_at =
            subst (λ (j : ℕ). BackedBy P j (get_or was.heights (place - 1) no_height)) number (k.backed (place - 1))

        shaped_at : ShapedHeight (at was place)
        unfolding at
        shaped_at = every_at (place - 1) no_height k.shaped.heights inside

        shown : (p : Bytes) → block_in f ≡ some p → Seen P p
        unfolding Shows
        shown p e = (m, among, ours, (f, Memᴰ.append_left (writes digest m) delivered, e))

        new_good : BackedBy P place new × ShapedHeight new
        new_good = rw was-kept at (keep_good digest was f backed_at shaped_at said shown accepts.read
            (grants digest book accepts.was_sound).few)

        changed : Kept P (with_height was place new)
        unfolding with_height
        changed = record {
          shaped = record {
            weighed = k.shaped.weighed;
            pool_size_lem = k.shaped.pool_size_lem;
            heights = every_set (place - 1) new new_good.1 k.shaped.heights;
          };
          backed = each_set (BackedBy P) was.heights (place - 1) new inside
              (subst (λ (j : ℕ). BackedBy P j new) (sym number) new_good.0) k.backed;
        }

        changed_good : (s : ℕ) → Good P s was → Good P s (with_height was place new)
        unfolding with_height flag view
        changed_good s g = record { same_weights = g.same_weights; kept = changed; consistent = g.consistent }

      -- a frame that is refused leaves the book; of one that is not, what it states was stated
      abbrev pub Delivered : Bytes → Bytes → Type 0
      Delivered book f =
          is_accepted (deliver_call digest book f).answer ≡ true → Memᴰ f (delivers digest m)

      abbrev pub Said : Bytes → Type 0
      Said f =
          Memᴰ f (delivers digest m) → (t : ℕ) (st : Statement) → statement_of digest f t ≡ some st → States P t st

      pub frame_kept : (book f : Bytes) → Kept P (decode book) → Delivered book f → Said f →
          Kept P (decode (deliver_call digest book f).book)
      unfolding is_accepted
      frame_kept book f k =
          deliver_cases digest book f (λ (o : Outcome Delivery).
          (is_accepted o.answer ≡ true → Memᴰ f (delivers digest m)) → Said f → Kept P (decode o.book))
          (λ _ _ _ _. k) (λ _ _ _ _ _. k)
          (λ new accepts _ q d said.
          let after = changed book f k (d refl) (said (d refl)) accepts new q in
          rw (decode_encode (with_height (decode book) (frame_height f) new) after.shaped) after)
          (λ _ _ _ _ _.
          let after = fired_kept P (decode book) k in
          rw (decode_encode (with_timer_fired (decode book)) after.shaped) after)

      pub frame_good : (s : ℕ) (book f : Bytes) → Good P s (decode book) → Delivered book f → Said f →
          Good P s (decode (deliver_call digest book f).book)
      unfolding is_accepted
      frame_good s book f g =
          deliver_cases digest book f (λ (o : Outcome Delivery).
          (is_accepted o.answer ≡ true → Memᴰ f (delivers digest m)) → Said f → Good P s (decode o.book))
          (λ _ _ _ _. g) (λ _ _ _ _ _. g)
          (λ new accepts _ q d said.
          encoded P s _ (changed_good book f g.kept (d refl) (said (d refl)) accepts new q s g))
          (λ _ _ clear _ _. encoded P s _ (fired_good P (decode book) s clear g))

      -- several frames, each delivered to the book that those before it left
      unfoldable pub AllDelivered : Bytes → List Bytes → Type 0
      AllDelivered book [] = Unit {0}
      AllDelivered book (f ∷ fs) = Delivered book f × AllDelivered (deliver_call digest book f).book fs

      pub frames_good : (s : ℕ) (book : Bytes) (fs : List Bytes) → ((f : Bytes) → Said f) → Good P s (decode book) →
          AllDelivered book fs → Good P s (decode (deliver_all digest book fs))
      unfolding AllDelivered deliver_all
      frames_good s book [] said g all = g
      frames_good s book (f ∷ fs) said g (d, all) =
          frames_good s (deliver_call digest book f).book fs said (frame_good s book f g d (said f)) all
