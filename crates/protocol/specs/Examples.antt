-- Document 01's lettered examples, a to l, as one table; `examples` in ExamplesLaws.antt proves every row of it.
use Rattle.std.specs.Prelude.{ℕ, zero, suc, ◌≤◌, ◌<◌, ◌≡◌, ◌≢◌, Bool, true, false, [], ◌∷◌, length, replicate}
use Rattle.protocol.specs.Bytes.{Bytes, byte_at, word16, part, zeros}
use Rattle.protocol.specs.Block.{parent_height, entry_count}
use Rattle.protocol.specs.Frame.{kind, frame_block, dummy_vote, finalize, dummy_certificate, finalize_certificate}
use Rattle.protocol.specs.Mask.{ones}
use Rattle.protocol.specs.State.{State, at, decode, book_size, book_finalized, is_notarized}
use Rattle.protocol.specs.View.{View, quorum, is_dummy, extends}
use Rattle.protocol.specs.Answer.{accepted, done, idle, vote_dummy, pass, propose, on_dummy}
use Rattle.protocol.specs.Open.{Opening, opened_weights, open_call}
use Rattle.protocol.specs.Deliver.{deliver_call, deliver_all}
use Rattle.protocol.specs.Signal.{signal_call}
use Rattle.protocol.specs.Move.{step, MoveOutcome, move_call}

-- where examples f to k start: any opening that is not refused and gives all replicas the weight 1, over any old bytes,
-- and any reply that Move takes
pub record Start : Type 0 where
  pub way : Opening
  pub old : Bytes
  pub n : ℕ
  pub own : ℕ
  pub heights : ℕ
  pub leaders : Bytes
  pub reply : Bytes
  pub even : opened_weights n way ≡ replicate n 1
  pub opens : (open_call way old n own heights leaders).answer ≡ accepted done
  pub room : 448 ≤ length reply

-- the new book
unfoldable pub opened : Start → Bytes
opened x = (open_call x.way x.old x.n x.own x.heights x.leaders).book

-- the leader of height 1
unfoldable pub first_leader : Start → ℕ
first_leader x = byte_at x.leaders 0

module _ (digest : Bytes → Bytes) where
  -- the new book after the timer of height 1 fired
  unfoldable pub signalled : Start → Bytes
  signalled x = (signal_call digest (opened x) 1).book

  -- the move after that
  unfoldable pub after_signal : Start → MoveOutcome
  after_signal x = move_call digest (signalled x) x.reply

  -- a move after the dummy votes of replicas 0, 1 and 2 for height 1
  unfoldable pub after_dummy_votes : Bytes → Bytes → MoveOutcome
  after_dummy_votes book reply =
      move_call digest (deliver_all digest book (dummy_vote 0 1 ∷ dummy_vote 1 1 ∷ dummy_vote 2 1 ∷ [])) reply

  -- a move after the finalize certificate of replicas 0, 1 and 2 for height 1
  unfoldable pub after_finalizes : Bytes → Bytes → MoveOutcome
  after_finalizes book reply = move_call digest (deliver_call digest book (finalize_certificate 1 7)).book reply

-- frame `i` of a reply
unfoldable pub frame_in : Bytes → ℕ → Bytes
frame_in reply zero = part reply 0 224
frame_in reply (suc i) = part reply 224 224

-- with `n` replicas of weight 1, every mask of at least `enough` signers is a quorum, and no smaller one
unfoldable pub quorum_from : ℕ → ℕ → Type 0
quorum_from n enough =
    (v : View) (mask : ℕ) → v.weights ≡ replicate n 1 →
    (enough ≤ ones mask n → quorum v mask ≡ true) × (ones mask n < enough → quorum v mask ≡ false)

-- a move passes height 1 on the dummy certificate of mask 7, which is its first frame; its second is `next`
abbrev pub passes_dummy : MoveOutcome → Bool → Bytes → Type 0
passes_dummy m finalized next =
    (m.answer ≡ accepted (pass 1 on_dummy finalized)) ×
    (frame_in m.reply 0 ≡ dummy_certificate 1 7) ×
    (frame_in m.reply 1 ≡ next)

-- a move proposes at height 1, with parent height 0 and no entries
abbrev pub proposes_first : MoveOutcome → Type 0
proposes_first m =
    (m.answer ≡ accepted (propose 1)) ×
    (kind (frame_in m.reply 0) ≡ 1) ×
    (parent_height (frame_block (frame_in m.reply 0)) ≡ 0) ×
    (entry_count (frame_block (frame_in m.reply 0)) ≡ 0)

-- a book has finalize mask 7 at height 1 and the finalized height 0, in its bytes and in its state
abbrev pub not_finalized : Bytes → Type 0
not_finalized book =
    (word16 book 582 ≡ 7) ×
    (book_finalized book ≡ 0) ×
    ((at (decode book) 1).finalize_mask ≡ 7) ×
    ((decode book).finalized ≡ 0)

pub data Letter : Type 0 where
  a b c d e f g h i j k l : Letter

-- what each example claims
unfoldable pub claim : Letter → Type 0
-- 4 replicas: 3 signers are a quorum, 2 are not
claim a = quorum_from 4 3
-- 6 replicas: 4 signers, not 3
claim b = quorum_from 6 4
-- 16 replicas: 11 signers, not 10
claim c = quorum_from 16 11
-- 1 replica: 1 signer
claim d = quorum_from 1 1
-- the book of 63 heights has 56,016 bytes
claim e = book_size 63 ≡ 56016
-- a new book whose first leader is another replica: idle
claim f =
    (digest : Bytes → Bytes) (x : Start) → first_leader x ≢ x.own →
    (move_call digest (opened x) x.reply).answer ≡ accepted idle
-- the same after signal 1: a dummy vote at height 1, and after it idle
claim g =
    (digest : Bytes → Bytes) (x : Start) → first_leader x ≢ x.own →
    ((after_signal digest x).answer ≡ accepted (vote_dummy 1)) ×
    (frame_in (after_signal digest x).reply 0 ≡ dummy_vote x.own 1) ×
    ((move_call digest (after_signal digest x).book x.reply).answer ≡ accepted idle)
-- 4 replicas, no signal, dummy votes of 0, 1 and 2: a pass of height 1 on certificate 6 with mask 7, and a finalize
claim h =
    (digest : Bytes → Bytes) (x : Start) → x.n ≡ 4 →
    passes_dummy (after_dummy_votes digest (opened x) x.reply) true (finalize x.own 1)
-- the same after the signal and the dummy vote: no finalize, the second frame is zero
claim i =
    (digest : Bytes → Bytes) (x : Start) → x.n ≡ 4 →
    passes_dummy (after_dummy_votes digest (after_signal digest x).book x.reply) false (zeros 224)
-- a new book whose first leader is the replica: a proposal with parent height 0 and no entries
claim j =
    (digest : Bytes → Bytes) (x : Start) → first_leader x ≡ x.own →
    proposes_first (move_call digest (opened x) x.reply)
-- 4 replicas, finalize mask 7 at height 1 and no block: the finalized height stays 0; in general a move leaves the
-- finalized height alone where no block is notarized, whatever the masks
claim k =
    (digest : Bytes → Bytes) →
    ((x : Start) → x.n ≡ 4 → not_finalized (after_finalizes digest (opened x) x.reply).book) ×
    ((s : State) → ((h : ℕ) → is_notarized (at s h) ≡ false) → (step digest s).after.finalized ≡ s.finalized)
-- a block at height 3 with parent height 1 does not extend while height 2 is not dummy
claim l =
    (digest : Bytes → Bytes) (v : View) (block : Bytes) → parent_height block ≡ 1 → is_dummy v 2 ≡ false →
    extends digest v 3 block ≡ false
