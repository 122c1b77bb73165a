-- The tests of the moves, row by row as the code makes them: the first row that fails decides.
use Rattle.std.specs.Prelude.{ℕ, ◌-◌, ◌≡◌, ◌≢◌, Bool, ◌&&◌, eqb, Option, Some, None}
use Rattle.std.proofs.Math.Path.{sym}
use Rattle.std.proofs.Common.{ap, ◌∙◌, eq-eqb, ne_eqb}
use Rattle.std.proofs.Math.Bool.{true, false, and-true}
use Rattle.protocol.specs.Bytes.{Bytes}
use Rattle.protocol.specs.Tests.{all_of}
use Rattle.protocol.specs.State.{State, at, decode, flag, holds_proposal, book_heights}
use Rattle.protocol.proofs.Laws.CodecLaws.{last_decode}
use Rattle.protocol.specs.View.{linked, is_dummy, extends, largest_finalized, parent_of}
use Rattle.protocol.specs.Sound.{view}
use Rattle.protocol.specs.Move.{is_running, is_some, dummy_vote_applies, new_finalized, parent_below, pass_applies}
use Rattle.protocol.specs.Move.{propose_applies, block_vote_applies}
use Rattle.answers.specs.declared.answer.Certificate.{Certificate}
use Rattle.answers.specs.declared.answer.Certificate.TheVariants.{Page, Blank}
use Rattle.linking.specs.Parent.{parent_option}
use Rattle.applies.specs.Held.{held_extends}
use Rattle.applies.specs.Found.{PassFound, ProposeFound}

-- a pass on the dummy block, where a chain ends below
abbrev pub on_chain : Option ℕ → Option Certificate
on_chain (Some j) = Some Blank
on_chain None = None

-- ---- move 1
module _ (s : State) where
  pub dummy_stopped : is_running s ≡ false → dummy_vote_applies s ≡ false
  unfolding dummy_vote_applies all_of
  dummy_stopped e = rw e

  pub dummy_in_time : is_running s ≡ true → flag 1 s ≡ false → dummy_vote_applies s ≡ false
  unfolding dummy_vote_applies all_of
  dummy_in_time e f = rw (e, f)

  pub dummy_cast : is_running s ≡ true → flag 1 s ≡ true → flag 2 s ≡ true → dummy_vote_applies s ≡ false
  unfolding dummy_vote_applies all_of
  dummy_cast e f g = rw (e, f, g)

  pub dummy_now : is_running s ≡ true → flag 1 s ≡ true → flag 2 s ≡ false → dummy_vote_applies s ≡ true
  unfolding dummy_vote_applies all_of
  dummy_now e f g = rw (e, f, g)

module _ (digest : Bytes → Bytes) where
  -- ---- move 2
  pub newest_is : (book : Bytes) (top : ℕ) → top ≡ book_heights book →
      largest_finalized digest (view (decode book)) top ≡ new_finalized digest (decode book)
  unfolding new_finalized
  newest_is book top e = rw (e, last_decode book)

  module _ (s : State) (c : ℕ) (is : c ≡ s.current) where
    pub below_is : parent_of digest (view s) (c - 1) ≡ parent_below digest s
    below_is = rw is

    -- ---- move 3
    pub pass_page : is_running s ≡ true → linked digest (view s) c ≡ true → PassFound digest s (Some Page)
    unfolding pass_applies
    pass_page e f =
        let l : linked digest (view s) s.current ≡ true = rw is at f in
        (rw (e, l), rw l)

    pub pass_chain : is_running s ≡ true → linked digest (view s) c ≡ false → is_dummy (view s) c ≡ true →
        (p : Option ℕ) → parent_option p ≡ parent_below digest s → PassFound digest s (on_chain p)
    unfolding pass_applies is_some
    pass_chain e f g (Some j) p =
        let l : linked digest (view s) s.current ≡ false = rw is at f in
        let d : is_dummy (view s) s.current ≡ true = rw is at g in
        (rw (e, l, d, ← p), rw l)
    pass_chain e f g None p =
        let l : linked digest (view s) s.current ≡ false = rw is at f in
        let d : is_dummy (view s) s.current ≡ true = rw is at g in
        rw (e, l, d, ← p)

    pub pass_neither : is_running s ≡ true → linked digest (view s) c ≡ false → is_dummy (view s) c ≡ false →
        pass_applies digest s ≡ false
    unfolding pass_applies
    pass_neither e f g =
        let l : linked digest (view s) s.current ≡ false = rw is at f in
        let d : is_dummy (view s) s.current ≡ false = rw is at g in
        rw (e, l, d)

    -- ---- move 4: the leader's row
    module _ (leader own : ℕ) (l : leader ≡ (at s c).leader) (o : own ≡ s.own) where
      pub leads : leader ≡ own → eqb (at s s.current).leader s.own ≡ true
      leads e = eq-eqb _ _ (ap (λ (k : ℕ). (at s k).leader) (sym is) ∙ sym l ∙ e ∙ o)

      pub leads_not : leader ≢ own → eqb (at s s.current).leader s.own ≡ false
      leads_not ne = ne_eqb _ _ (λ e. ne (l ∙ ap (λ (k : ℕ). (at s k).leader) is ∙ e ∙ sym o))

    -- ---- move 5: the held proposal
    pub held_extends_lem : (block : Bytes) → holds_proposal (at s c) ≡ true → block ≡ (at s c).proposal →
        extends digest (view s) c block ≡ held_extends digest s
    unfolding held_extends
    held_extends_lem block h b =
        let held : holds_proposal (at s s.current) ≡ true = rw is at h in
        rw (held, b, is)

    pub held_none : holds_proposal (at s c) ≡ false → held_extends digest s ≡ false
    unfolding held_extends
    held_none h =
        let held : holds_proposal (at s s.current) ≡ false = rw is at h in
        rw held

  module _ (s : State) where
    pub pass_stopped : is_running s ≡ false → pass_applies digest s ≡ false
    unfolding pass_applies
    pass_stopped e = rw e

    -- ---- move 4
    pub propose_stopped : is_running s ≡ false → propose_applies digest s ≡ false
    unfolding propose_applies all_of
    propose_stopped e = rw e

    pub propose_follows : is_running s ≡ true → eqb (at s s.current).leader s.own ≡ false →
        propose_applies digest s ≡ false
    unfolding propose_applies all_of
    propose_follows e f = rw (e, f)

    pub propose_done : is_running s ≡ true → eqb (at s s.current).leader s.own ≡ true → flag 8 s ≡ true →
        propose_applies digest s ≡ false
    unfolding propose_applies all_of
    propose_done e f g = rw (e, f, g)

    pub propose_chain : is_running s ≡ true → eqb (at s s.current).leader s.own ≡ true → flag 8 s ≡ false →
        (p : Option ℕ) → parent_option p ≡ parent_below digest s → ProposeFound digest s p
    unfolding propose_applies all_of is_some
    propose_chain e f g (Some j) p = (rw (e, f, g, ← p), sym p)
    propose_chain e f g None p = rw (e, f, g, ← p)

    -- ---- move 5
    pub vote_stopped : is_running s ≡ false → block_vote_applies digest s ≡ false
    unfolding block_vote_applies all_of
    vote_stopped e = rw e

    pub vote_cast : is_running s ≡ true → flag 4 s ≡ true → block_vote_applies digest s ≡ false
    unfolding block_vote_applies all_of
    vote_cast e f = rw (e, f)

    pub vote_held : is_running s ≡ true → flag 4 s ≡ false → block_vote_applies digest s ≡ held_extends digest s
    unfolding block_vote_applies all_of held_extends
    vote_held e f = rw (e, f) (ap (λ (b : Bool). holds_proposal (at s s.current) && b)
        (and-true (extends digest (view s) s.current (at s s.current).proposal)))
