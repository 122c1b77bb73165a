-- The book of an observer along a list of calls: all that it shows is backed by what was stated and seen.
use Prim.Native.Nat.{ℕ, zero, suc, ◌-◌, ◌≤◌, ◌<◌}
use native.Mathlib.Omega.{arith}
use Rattle.std.specs.Prelude.{◌≡◌, true, length, get_or, replicate}
use Rattle.std.proofs.Math.Path.{refl, subst}
use Rattle.std.proofs.Common.{sym, ◌∙◌}
use mathlib.Core.List.Memᴰ
use mathlib.Core.List.{List, [], ◌∷◌, ◌++◌, map, Memᴰ}
use Rattle.std.proofs.Math.Option.{Option, some, none}
use Rattle.protocol.specs.Bytes.{Bytes}
use Rattle.protocol.specs.Deliver.{keep}
use Rattle.protocol.specs.Every.{Every, none as no_more, one}
use Rattle.protocol.specs.Frame.{frame_height}
use Rattle.protocol.proofs.Laws.BytesLaws.{length_zeros}
use Rattle.protocol.proofs.Laws.EveryLaws.{every_at, every_set}
use Rattle.protocol.proofs.Laws.ObserverStateLaws.{as_shaped, decode_encode_observer}
use Rattle.protocol.proofs.Laws.TestsLaws.{cond-elim}
use Rattle.protocol.specs.Move.{Step, output_applies, output_step, idle_step, first_step}
use Rattle.protocol.specs.Observer.{Observer, ObservedHeight, as_replica, as_replica_height, decode_observer}
use Rattle.protocol.specs.Open.{Opening, opened_weights}
use Rattle.protocol.specs.Sound.{view}
use Rattle.protocol.proofs.Laws.NewStateLaws.{opened_front, opened_weighed}
use Rattle.protocol.specs.Observer.{encode_observer, observed, observed_height, observer_state}
use Rattle.protocol.specs.ObserverCalls.{new_observed_height, new_observer, observer_step}
use Rattle.protocol.specs.ObserverSound.{observer_sound}
use Rattle.protocol.specs.ReadFrame.{ReadFrame}
use Rattle.protocol.specs.SoundState.{Shaped, ShapedHeight}
use Rattle.protocol.specs.State.{maximum_replicas, Height, State, at, last, no_height, with_head, with_height, is_notarized}
use Rattle.agreement.proofs.Laws.BackingLaws.{Backed, ShownOf, shown_later}
use Rattle.agreement.proofs.Laws.KeepingLaws.{keep_good}
use Rattle.agreement.proofs.Laws.ListsLaws.{wrote_more}
use Rattle.agreement.proofs.Laws.ObserverGrantsLaws.{observer_grants}
use Rattle.agreement.proofs.Laws.ObserverListsLaws.{replicas_append}
use Rattle.agreement.proofs.Laws.OpeningLaws.{backed_nothing, nobody}
use Rattle.agreement.proofs.Laws.RunLaws.{each_set}
use Rattle.agreement.specs.Lists.{Statement, Wrote, block_in, statement_of}
use Rattle.agreement.specs.ObserverLists.{AnyMember, AnyShows, Meant, ObserverMember, any_shows, observes}
use Rattle.agreement.specs.ObserverLists.{of_observer, replica_calls}

-- ---- what an observer keeps of the heights of a state
observed_shaped : {heights : List Height} → Every ShapedHeight heights →
    Every ShapedHeight (map as_replica_height (map observed_height heights))
unfolding as_replica_height observed_height
observed_shaped no_more = no_more
observed_shaped (one h hs) = one
    (record { proposal_size = length_zeros 176; notarized_size = h.notarized_size; votes_size = length_zeros 512 })
    (observed_shaped hs)

module _ (digest : Bytes → Bytes) {W : ℕ → Statement → Type 0} {S : Bytes → Type 0} where
  observed_shown : (heights : List Height) (i h : ℕ) → ShownOf digest W S h (get_or heights i no_height) →
      ShownOf digest W S h (get_or (map as_replica_height (map observed_height heights)) i no_height)
  unfolding as_replica_height observed_height is_notarized
  observed_shown [] i h k = k
  observed_shown (x ∷ heights) zero h k = k
  observed_shown (x ∷ heights) (suc i) h k = observed_shown heights i h k

-- ---- an observer keeps no votes
no_voters : (heights : List ObservedHeight) (i : ℕ) → (get_or (map as_replica_height heights) i no_height).voter_mask ≡ 0
unfolding as_replica_height no_height
no_voters [] i = refl
no_voters (x ∷ heights) zero = refl
no_voters (x ∷ heights) (suc i) = no_voters heights i

module _ (digest : Bytes → Bytes) (weights : List ℕ) (books names observers : ℕ → Type 0) where
  -- what the named have stated, and the blocks that were delivered to the meant members or written by them
  abbrev pub AnyStates : List AnyMember → ℕ → Statement → Type 0
  AnyStates P t st = names t → Wrote digest t st (replica_calls P)

  abbrev pub AnySeen : List AnyMember → Bytes → Type 0
  AnySeen P block = (m : AnyMember) × Memᴰ m P × Meant books observers m × AnyShows digest m block

  abbrev pub ShownBy : List AnyMember → ℕ → Height → Type 0
  ShownBy P h x = ShownOf digest (AnyStates P) (AnySeen P) h x

  -- all that a state shows is backed
  pub record Followed (P : List AnyMember) (b : State) : Type 0 where
    pub same_weights : (view b).weights ≡ weights
    pub shaped : Shaped b
    pub shown : (i : ℕ) → ShownBy P (suc i) (get_or b.heights i no_height)

  abbrev pub FollowedBytes : List AnyMember → Option Bytes → Type 0
  FollowedBytes P none = Unit {0}
  FollowedBytes P (some book) = Followed P (observer_state book)

  -- ---- more is stated and seen later
  module _ (P Q : List AnyMember) where
    pub states_more : (t : ℕ) (st : Statement) → AnyStates P t st → AnyStates (P ++ Q) t st
    states_more t st w named =
        rw (replicas_append P Q) (wrote_more digest t st (replica_calls P) (replica_calls Q) (w named))

    pub seen_more : (block : Bytes) → AnySeen P block → AnySeen (P ++ Q) block
    seen_more block (m, i, ours, shows) = (m, Memᴰ.append_left Q i, ours, shows)

    pub followed_more : (b : State) → Followed P b → Followed (P ++ Q) b
    followed_more b f = record {
      same_weights = f.same_weights;
      shaped = f.shaped;
      shown = λ i. shown_later digest states_more seen_more (f.shown i);
    }

    pub bytes_more : (o : Option Bytes) → FollowedBytes P o → FollowedBytes (P ++ Q) o
    bytes_more none f = tt
    bytes_more (some book) f = followed_more (observer_state book) f

  -- ---- what an observer writes down of a state
  module _ (P : List AnyMember) where
    encoded : (o : Observer) → Followed P (as_replica o) → Followed P (observer_state (encode_observer o))
    encoded o f =
        subst (λ (x : Observer). Followed P (as_replica x))
        (sym (decode_encode_observer o (as_shaped o f.shaped))) f

    pub observed_followed : (b : State) → Followed P b → Followed P (observer_state (encode_observer (observed b)))
    unfolding observed as_replica view
    observed_followed b f = encoded (observed b) (record {
      same_weights = f.same_weights;
      shaped = record {
        weighed = f.shaped.weighed;
        pool_size_lem = length_zeros 512;
        heights = observed_shaped f.shaped.heights;
      };
      shown = λ i. observed_shown digest b.heights i (suc i) (f.shown i);
    })

    -- ---- a new book
    new_shaped : (count : ℕ) → Every ShapedHeight (map as_replica_height (replicate count new_observed_height))
    unfolding as_replica_height new_observed_height
    new_shaped zero = no_more
    new_shaped (suc count) = one
        (record { proposal_size = length_zeros 176; notarized_size = length_zeros 176; votes_size = length_zeros 512 })
        (new_shaped count)

    new_shown : (count i h : ℕ) →
        ShownBy P h (get_or (map as_replica_height (replicate count new_observed_height)) i no_height)
    unfolding as_replica_height new_observed_height no_height
    new_shown zero i h = (backed_nothing digest h no_height refl refl refl refl refl).shown
    new_shown (suc count) zero h =
        (backed_nothing digest h (as_replica_height new_observed_height) refl refl refl refl refl).shown
    new_shown (suc count) (suc i) h = new_shown count i h

    pub new_followed : (way : Opening) (n count : ℕ) → n ≤ maximum_replicas → opened_weights n way ≡ weights →
        Followed P (observer_state (encode_observer (new_observer way n count)))
    unfolding new_observer as_replica view
    new_followed way n count few same = encoded (new_observer way n count) (record {
      same_weights = opened_front way n few ∙ same;
      shaped = record { weighed = opened_weighed way n; pool_size_lem = length_zeros 512; heights = new_shaped count };
      shown = λ i. new_shown count i (suc i);
    })

    -- ---- a move changes the head alone
    pub move_followed : (b : State) → Followed P b → Followed P (observer_step digest b).after
    unfolding observer_step first_step output_step idle_step with_head view
    move_followed b f = cond-elim (λ (st : Step). Followed P st.after) (output_applies digest b)
        (λ _. record {
          same_weights = f.same_weights;
          shaped = record {
            weighed = f.shaped.weighed;
            pool_size_lem = f.shaped.pool_size_lem;
            heights = f.shaped.heights;
          };
          shown = f.shown;
        }) (λ _. f)

  -- ---- a certificate that a member of the list delivers
  module _ (P : List AnyMember) (m : ObserverMember) (among : Memᴰ (of_observer m) P)
      (ours : observers m.observer) (book frame : Bytes) (f : Followed P (observer_state book))
      (delivered : Memᴰ frame (observes digest m).delivers)
      (said : (t : ℕ) (st : Statement) → statement_of digest frame t ≡ some st → AnyStates P t st)
      (is_sound_lem : observer_sound digest book ≡ true) (read : ReadFrame (observer_state book) frame)
      (new : Height) (was-kept : keep digest (observer_state book) frame ≡ some new) where
    abbrev was : State
    was = observer_state book

    abbrev place : ℕ
    place = frame_height frame

    inside : place - 1 < length was.heights
    unfolding last
    inside = let low = read.low in let high = read.high in omega arith

    number : suc (place - 1) ≡ place
    number = let low = read.low in omega arith

    backed_at : Backed digest (AnyStates P) (AnySeen P) place (at was place)
    unfolding at as_replica
    backed_at = record {
      shown = subst (λ (j : ℕ). ShownBy P j (get_or was.heights (place - 1) no_height)) number (f.shown (place - 1));
      held = record {
        ballots = λ t e. nobody _ t (no_voters (decode_observer book).heights (place - 1)) e;
        proposal_seen = λ e. absurd ((observer_grants digest book is_sound_lem).none_held place read.low read.high e);
      };
    }

    shaped_at : ShapedHeight (at was place)
    unfolding at
    shaped_at = every_at (place - 1) no_height f.shaped.heights inside

    seen : (block : Bytes) → block_in frame ≡ some block → AnySeen P block
    unfolding AnyShows any_shows Meant
    seen block e = (of_observer m, among, ours, (frame, delivered, e))

    new_good : Backed digest (AnyStates P) (AnySeen P) place new × ShapedHeight new
    new_good = rw was-kept at (keep_good digest was frame backed_at shaped_at said seen read
        (observer_grants digest book is_sound_lem).few)

    pub changed_followed : Followed P (with_height was place new)
    unfolding with_height view
    changed_followed = record {
      same_weights = f.same_weights;
      shaped = record {
        weighed = f.shaped.weighed;
        pool_size_lem = f.shaped.pool_size_lem;
        heights = every_set (place - 1) new new_good.1 f.shaped.heights;
      };
      shown = each_set (ShownBy P) was.heights (place - 1) new inside
          (subst (λ (j : ℕ). ShownBy P j new) (sym number) new_good.0.shown) f.shown;
    }
