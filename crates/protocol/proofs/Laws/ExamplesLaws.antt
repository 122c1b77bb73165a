-- The proofs of document 01's lettered examples.
use Rattle.std.specs.Prelude.{ℕ, ◌*◌, ◌≤◌, ◌<◌, ◌≡◌, ◌≢◌, true, false, [], ◌∷◌, length}
use native.Mathlib.Omega.{arith}
use Rattle.std.proofs.Math.Path.{refl, ap}
use Rattle.std.proofs.Common.{sym, subst, ◌∙◌, le-leb}
use Rattle.std.proofs.Math.Bool.{and-false}
use Rattle.std.proofs.lemmas.Bool.{lt-leb}
use Rattle.protocol.specs.Bytes.{Bytes, byte_at, word16, le16, part, zeros, join, pieces, over_front, without}
use Rattle.protocol.specs.Tests.{all_of}
use Rattle.protocol.specs.Block.{parent_height, entry_count, new_block, all_entries}
use Rattle.protocol.specs.Mask.{ones}
use Rattle.protocol.specs.State.{encode, book_size, flag, pending, with_head}
use Rattle.protocol.specs.View.{View, quorum, is_dummy, dummy_run, digest_at, parent_of, chain, chain_within, log_at}
use Rattle.protocol.specs.View.{extends, extends_over}
use Rattle.protocol.specs.Answer.{idle, vote_dummy, accepted, done}
use Rattle.protocol.specs.Open.{Opening, unweighed, weighed, opened_weights, open_call}
use Rattle.protocol.specs.Signal.{signal_call}
use Rattle.protocol.specs.Frame.{kind, frame_block, frame_of, proposal, dummy_vote, finalize}
use Rattle.protocol.specs.Move.{move_call, moved, MoveOutcome, dummy_vote_step, pass_step, propose_step, written}
use Rattle.protocol.specs.Move.{unused, proposed_block, offered, some_or}
use Rattle.protocol.specs.Computing.{everything}
use Rattle.protocol.specs.Examples.{Letter, claim, Start, opened, first_leader, quorum_from, signalled, after_signal}
use Rattle.protocol.specs.Examples.{after_dummy_votes, after_finalizes, frame_in, passes_dummy, proposes_first}
use Rattle.protocol.specs.Examples.{not_finalized}
use Rattle.protocol.proofs.Laws.QuorumLaws.{quorum_even}
use Rattle.protocol.proofs.Laws.NewBookLaws.{Ranges, early, first_height}
use Rattle.protocol.proofs.Laws.NewBookCallsLaws.{finalized_stays}
use Rattle.protocol.proofs.Laws.OpenedLaws.{Opened, opening, edition_of}
use Rattle.protocol.proofs.Laws.FirstMovesLaws.{new_idle, new_signal, new_vote, voted_idle, new_propose}
use Rattle.protocol.proofs.Laws.FourReplicasLaws.{passes, not_finalized_lem}

-- ---- a to d
quorum_from_lem : (n enough : ℕ) → ((x : ℕ) → enough ≤ x → 2 * n ≤ 3 * x) → ((x : ℕ) → x < enough → 3 * x < 2 * n) →
    quorum_from n enough
unfolding quorum_from quorum
quorum_from_lem n enough up down v mask q =
    rw (quorum_even v n mask q) (
      λ p. le-leb (2 * n) (3 * ones mask n) (up (ones mask n) p),
      λ p. lt-leb (2 * n) (3 * ones mask n) (down (ones mask n) p),
    )

-- ---- l
away : (digest : Bytes → Bytes) (v : View) (block : Bytes) → parent_height block ≡ 1 → is_dummy v 2 ≡ false →
    extends digest v 3 block ≡ false
unfolding extends extends_over all_of dummy_run
away digest v block p q = rw (p, q) (simp and-false)

-- ---- f to k: what the moves leave, computed
module _ (digest : Bytes → Bytes) (edition n own leader : ℕ) (leaders : Bytes) where
  -- frames at the front of a reply
  vote_first : (reply : Bytes) → frame_in (moved reply (dummy_vote_step (early edition n own 1 0 0 leader leaders))).reply
      0 ≡ dummy_vote own 1
  unfolding frame_in moved dummy_vote_step over_front written unused join part dummy_vote frame_of zeros le16
  vote_first reply = refl

  voted_book : (reply : Bytes) → (moved reply (dummy_vote_step (early edition n own 1 0 0 leader leaders))).book ≡ encode
      (early edition n own 3 0 0 leader leaders)
  unfolding moved dummy_vote_step with_head
  voted_book reply = refl

  proposal_first : (reply : Bytes) →
      frame_in (moved reply (propose_step digest (early edition n own 0 0 0 leader leaders))
      ).reply 0 ≡
      proposal own 1 (new_block 1 0 (zeros 32) [])
  unfolding frame_in moved propose_step over_front written unused join part proposal frame_of zeros le16 proposed_block
      new_block offered without log_at chain chain_within all_entries pending pieces parent_of some_or digest_at
  proposal_first reply = refl

module _ (digest : Bytes → Bytes) (edition own leader : ℕ) (leaders : Bytes) where
  abbrev P : ℕ → Bytes → MoveOutcome
  P flags reply = moved reply (pass_step digest (early edition 4 own flags 7 0 leader leaders))

  pass_in_time : (reply : Bytes) → passes_dummy (P 0 reply) true (finalize own 1)
  unfolding everything frame_in first_height
  pass_in_time reply = (refl, refl, refl)

  pass_late : (reply : Bytes) → passes_dummy (P 3 reply) false (zeros 224)
  unfolding everything frame_in first_height
  pass_late reply = (refl, refl, refl)

-- ---- the table
first_leader_lem : (x : Start) (o : Opened x) → first_leader x ≡ o.leader
unfolding first_leader
first_leader_lem x o = ap (λ (m : Bytes). byte_at m 0) o.roll

-- an opening for four replicas
four_ranges : (x : Start) (o : Opened x) → x.n ≡ 4 → Ranges (edition_of x) 4 x.own o.leader o.leaders
four_ranges x o q = subst (λ (n : ℕ). Ranges (edition_of x) n x.own o.leader o.leaders) q o.ranges

four_book : (x : Start) (o : Opened x) → x.n ≡ 4 →
    opened x ≡ encode (early (edition_of x) 4 x.own 0 0 0 o.leader o.leaders)
four_book x o q = o.book ∙ ap (λ (n : ℕ). encode (early (edition_of x) n x.own 0 0 0 o.leader o.leaders)) q

module _ (digest : Bytes → Bytes) (x : Start) where
  abbrev O : Opened x
  O = opening x

  signalled_book : signalled digest x ≡ encode (early (edition_of x) x.n x.own 1 0 0 O.leader O.leaders)
  unfolding signalled
  signalled_book =
      ap (λ (book : Bytes). (signal_call digest book 1).book) O.book ∙
      new_signal digest (edition_of x) x.n x.own O.leader O.leaders O.ranges

  after_signal_lem : after_signal digest x ≡ moved x.reply
      (dummy_vote_step (early (edition_of x) x.n x.own 1 0 0 O.leader O.leaders))
  unfolding after_signal
  after_signal_lem = rw signalled_book
      (new_vote digest (edition_of x) x.n x.own O.leader O.leaders O.ranges x.reply
      x.room)

  after_signal_book : (after_signal digest x).book ≡ encode
      (early (edition_of x) x.n x.own 3 0 0 O.leader O.leaders)
  after_signal_book = rw after_signal_lem (voted_book digest (edition_of x) x.n x.own O.leader O.leaders
      x.reply)

  led_by_another : first_leader x ≢ x.own → O.leader ≢ x.own
  led_by_another other q = other (first_leader_lem x O ∙ q)

  example_f : first_leader x ≢ x.own → (move_call digest (opened x) x.reply).answer ≡ accepted idle
  example_f other =
      rw O.book (new_idle digest (edition_of x) x.n x.own O.leader O.leaders O.ranges
      (led_by_another other)
      x.reply x.room)

  example_g : first_leader x ≢ x.own →
      ((after_signal digest x).answer ≡ accepted (vote_dummy 1)) ×
      (frame_in (after_signal digest x).reply 0 ≡ dummy_vote x.own 1) ×
      ((move_call digest (after_signal digest x).book x.reply).answer ≡ accepted idle)
  unfolding moved dummy_vote_step
  example_g other = (
    rw after_signal_lem,
    rw after_signal_lem (vote_first digest (edition_of x) x.n x.own O.leader O.leaders x.reply),
    rw after_signal_book (voted_idle digest (edition_of x) x.n x.own O.leader O.leaders O.ranges
        (led_by_another other)
        x.reply x.room),
  )

  example_h : x.n ≡ 4 → passes_dummy (after_dummy_votes digest (opened x) x.reply) true (finalize x.own 1)
  unfolding flag
  example_h four =
      rw (
        four_book x O four,
        passes digest (edition_of x) x.own O.leader O.leaders (four_ranges x O four) 0 (omega arith)
            refl x.reply x.room,
      )
      (pass_in_time digest (edition_of x) x.own O.leader O.leaders x.reply)

  example_i : x.n ≡ 4 → passes_dummy (after_dummy_votes digest (after_signal digest x).book x.reply) false (zeros 224)
  unfolding flag
  example_i four =
      let book = after_signal_book ∙ ap
      (λ (n : ℕ). encode (early (edition_of x) n x.own 3 0 0 O.leader O.leaders)) four in
      rw (
        book,
        passes digest (edition_of x) x.own O.leader O.leaders (four_ranges x O four) 3 (omega arith) refl
            x.reply
            x.room,
      )
      (pass_late digest (edition_of x) x.own O.leader O.leaders x.reply)

  example_j : first_leader x ≡ x.own → proposes_first (move_call digest (opened x) x.reply)
  unfolding moved propose_step kind parent_height entry_count frame_block proposal frame_of new_block word16 le16 zeros
  example_j lead =
      rw (
        O.book,
        new_propose digest (edition_of x) x.n x.own O.leader O.leaders O.ranges
            (sym (first_leader_lem x O) ∙ lead) x.reply x.room,
      )
      (refl, first kind, first (λ m. parent_height (frame_block m)), first (λ m. entry_count (frame_block m)))
    where
      first : (field : Bytes → ℕ) →
          field (frame_in (moved x.reply
          (propose_step digest (early (edition_of x) x.n x.own 0 0 0 O.leader O.leaders))
          ).reply 0) ≡
          field (proposal x.own 1 (new_block 1 0 (zeros 32) []))
      first field = ap field (proposal_first digest (edition_of x) x.n x.own O.leader O.leaders x.reply)

  example_k : x.n ≡ 4 → not_finalized (after_finalizes digest (opened x) x.reply).book
  example_k four =
      rw (four_book x O four)
      (not_finalized_lem digest (edition_of x) x.own O.leader O.leaders (four_ranges x O four) x.reply
      x.room)

-- every example of the table holds
pub examples : (x : Letter) → claim x
unfolding claim book_size
examples Letter.a = quorum_from_lem 4 3 (λ x p. omega arith) (λ x p. omega arith)
examples Letter.b = quorum_from_lem 6 4 (λ x p. omega arith) (λ x p. omega arith)
examples Letter.c = quorum_from_lem 16 11 (λ x p. omega arith) (λ x p. omega arith)
examples Letter.d = quorum_from_lem 1 1 (λ x p. omega arith) (λ x p. omega arith)
examples Letter.e = refl
examples Letter.f = example_f
examples Letter.g = example_g
examples Letter.h = example_h
examples Letter.i = example_i
examples Letter.j = example_j
examples Letter.k = λ digest. (example_k digest, finalized_stays digest)
examples Letter.l = away

-- ---- the premises of f to k can be met
-- replica 2 of 4 with one height, which another or the replica itself leads
start : (way : Opening) → opened_weights 4 way ≡ 1 ∷ 1 ∷ 1 ∷ 1 ∷ [] → (leader : ℕ) →
    (open_call way (zeros 1456) 4 2 1 (leader ∷ [])).answer ≡ accepted done → Start
start way even leader opens = record {
  way = way;
  even = even;
  old = zeros 1456;
  n = 4;
  own = 2;
  heights = 1;
  leaders = leader ∷ [];
  reply = zeros 448;
  opens = opens;
  room = le_of_reply;
}
  where
    le_of_reply : 448 ≤ length (zeros 448)
    le_of_reply = unfold zeros in omega arith

-- .. opened as document 01 opens it, or with weights of 1
pub led_by_other : (x : Start) × (x.n ≡ 4) × (first_leader x ≢ x.own)
unfolding everything first_leader start
led_by_other = (start unweighed refl 0 refl, refl, λ q. omega arith)

pub led_by_own : (x : Start) × (x.n ≡ 4) × (first_leader x ≡ x.own)
unfolding everything first_leader start
led_by_own = (start (weighed (1 ∷ 0 ∷ 1 ∷ 0 ∷ 1 ∷ 0 ∷ 1 ∷ 0 ∷ [])) refl 2 refl, refl, refl)
