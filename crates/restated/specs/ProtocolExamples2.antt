-- Written by tests/restated --write: what docs/statements has of
-- crates/protocol/specs/Examples.antt.
use Rattle.std.specs.Prelude.{ℕ, ◌≡◌, true, false, [], ◌∷◌}
use package.Rattle.protocol.specs.Bytes.{Bytes}
use package.Rattle.protocol.specs.Block.{parent_height}
use package.Rattle.protocol.specs.Frame.{dummy_vote, finalize_certificate}
use package.Rattle.protocol.specs.State.{at}
use package.Rattle.protocol.specs.View.{View}
use package.Rattle.protocol.specs.Answer.{accepted}
use package.Rattle.protocol.specs.Deliver.{deliver_call, deliver_all}
use package.Rattle.protocol.specs.Signal.{signal_call}
use package.Rattle.protocol.specs.Move.{MoveOutcome, move_call}
use Rattle.std.specs.Prelude.{◌≢◌}
use package.Rattle.protocol.specs.Bytes.{zeros}
use package.Rattle.protocol.specs.Frame.{finalize}
use package.Rattle.protocol.specs.State.{State, book_size, is_notarized}
use package.Rattle.protocol.specs.View.{is_dummy, extends}
use package.Rattle.protocol.specs.Answer.{idle, vote_dummy}
use package.Rattle.protocol.specs.Move.{step}
use package.Rattle.protocol.specs.Examples.{Letter, a, b, c, d, e, f, g, h, i, j, k, l, Start, opened, first_leader, after_signal, after_dummy_votes, after_finalizes, frame_in, quorum_from, passes_dummy, proposes_first, not_finalized}
use mathlib.Core.Path.{◌≡◌ as ◌is-kept◌, refl as by-text}
use package.Rattle.protocol.specs.Examples as page

Letter-a-kept : Letter
Letter-a-kept = page.Letter.a

Letter-b-kept : Letter
Letter-b-kept = page.Letter.b

Letter-c-kept : Letter
Letter-c-kept = page.Letter.c

Letter-d-kept : Letter
Letter-d-kept = page.Letter.d

Letter-e-kept : Letter
Letter-e-kept = page.Letter.e

Letter-f-kept : Letter
Letter-f-kept = page.Letter.f

Letter-g-kept : Letter
Letter-g-kept = page.Letter.g

Letter-h-kept : Letter
Letter-h-kept = page.Letter.h

Letter-i-kept : Letter
Letter-i-kept = page.Letter.i

Letter-j-kept : Letter
Letter-j-kept = page.Letter.j

Letter-k-kept : Letter
Letter-k-kept = page.Letter.k

Letter-l-kept : Letter
Letter-l-kept = page.Letter.l

Letter-apart : Letter → Unit {0}
Letter-apart (page.Letter.a) = tt
Letter-apart (page.Letter.b) = tt
Letter-apart (page.Letter.c) = tt
Letter-apart (page.Letter.d) = tt
Letter-apart (page.Letter.e) = tt
Letter-apart (page.Letter.f) = tt
Letter-apart (page.Letter.g) = tt
Letter-apart (page.Letter.h) = tt
Letter-apart (page.Letter.i) = tt
Letter-apart (page.Letter.j) = tt
Letter-apart (page.Letter.k) = tt
Letter-apart (page.Letter.l) = tt

module _ (digest : Bytes → Bytes) where
  abbrev signalled : Start → Bytes
  signalled = page.signalled digest

  signalled-kept : Start → Bytes
  signalled-kept x = (signal_call digest (opened x) 1).book

  same-signalled : signalled-kept is-kept page.signalled digest
  unfolding signalled-kept page.signalled
  same-signalled = by-text

  after_signal-kept : Start → MoveOutcome
  after_signal-kept x = move_call digest (signalled x) x.reply

  same-after_signal : after_signal-kept is-kept page.after_signal digest
  unfolding after_signal-kept page.after_signal
  same-after_signal = by-text

  after_dummy_votes-kept : Bytes → Bytes → MoveOutcome
  after_dummy_votes-kept book reply =
      move_call digest (deliver_all digest book (dummy_vote 0 1 ∷ dummy_vote 1 1 ∷ dummy_vote 2 1 ∷ [])) reply

  same-after_dummy_votes : after_dummy_votes-kept is-kept page.after_dummy_votes digest
  unfolding after_dummy_votes-kept page.after_dummy_votes
  same-after_dummy_votes = by-text

  after_finalizes-kept : Bytes → Bytes → MoveOutcome
  after_finalizes-kept book reply = move_call digest (deliver_call digest book (finalize_certificate 1 7)).book reply

  same-after_finalizes : after_finalizes-kept is-kept page.after_finalizes digest
  unfolding after_finalizes-kept page.after_finalizes
  same-after_finalizes = by-text

claim-kept : Letter → Type 0
claim-kept a = quorum_from 4 3
claim-kept b = quorum_from 6 4
claim-kept c = quorum_from 16 11
claim-kept d = quorum_from 1 1
claim-kept e = book_size 63 ≡ 56016
claim-kept f =
    (digest : Bytes → Bytes) (x : Start) → first_leader x ≢ x.own →
    (move_call digest (opened x) x.reply).answer ≡ accepted idle
claim-kept g =
    (digest : Bytes → Bytes) (x : Start) → first_leader x ≢ x.own →
    ((after_signal digest x).answer ≡ accepted (vote_dummy 1)) ×
    (frame_in (after_signal digest x).reply 0 ≡ dummy_vote x.own 1) ×
    ((move_call digest (after_signal digest x).book x.reply).answer ≡ accepted idle)
claim-kept h =
    (digest : Bytes → Bytes) (x : Start) → x.n ≡ 4 →
    passes_dummy (after_dummy_votes digest (opened x) x.reply) true (finalize x.own 1)
claim-kept i =
    (digest : Bytes → Bytes) (x : Start) → x.n ≡ 4 →
    passes_dummy (after_dummy_votes digest (after_signal digest x).book x.reply) false (zeros 224)
claim-kept j =
    (digest : Bytes → Bytes) (x : Start) → first_leader x ≡ x.own →
    proposes_first (move_call digest (opened x) x.reply)
claim-kept k =
    (digest : Bytes → Bytes) →
    ((x : Start) → x.n ≡ 4 → not_finalized (after_finalizes digest (opened x) x.reply).book) ×
    ((s : State) → ((h : ℕ) → is_notarized (at s h) ≡ false) → (step digest s).after.finalized ≡ s.finalized)
claim-kept l =
    (digest : Bytes → Bytes) (v : View) (block : Bytes) → parent_height block ≡ 1 → is_dummy v 2 ≡ false →
    extends digest v 3 block ≡ false

same-claim : claim-kept is-kept page.claim
unfolding claim-kept page.claim
same-claim = by-text
