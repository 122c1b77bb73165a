-- Deliver: keeps what a frame states, and notarizes a held proposal that has a quorum of votes. A leader of the current
-- height who proposes two blocks fires the timer.
use Rattle.std.specs.Prelude.{ℕ, ◌+◌, ◌*◌, ◌^◌, Bool, ◌&&◌, ◌||◌, not, cond, List, [], ◌∷◌, ◌++◌, take, drop, eqb, ltb}
use Rattle.std.proofs.Math.Option.{Option, some, none}
use Rattle.protocol.specs.Bytes.{Bytes, same}
use Rattle.protocol.specs.Tests.{all_of, implies, in_range, Row, first_refusal}
use Rattle.protocol.specs.Frame.{kind, signer, frame_height, signer_mask, frame_digest, frame_block, frame_well_formed}
use Rattle.protocol.specs.Frame.{is_statement, is_proposal, is_block_vote, is_dummy_vote, is_finalize}
use Rattle.protocol.specs.Frame.{is_block_certificate, is_dummy_certificate}
use Rattle.protocol.specs.Mask.{in_mask, mask_of, union, below_bit}
use Rattle.protocol.specs.State.{State, Height, at, last, with_height, encode, decode, holds_proposal, is_notarized}
use Rattle.protocol.specs.State.{vote_of, flag, with_timer_fired}
use Rattle.protocol.specs.View.{View, quorum}
use Rattle.protocol.specs.Sound.{view, sound}
use Rattle.protocol.specs.Answer.{Outcome, Delivery, known, fresh, accepted, unless_refused}

-- ---- changes of a height
unfoldable pub with_proposal : Height → Bytes → Height
with_proposal x block = record {
  leader = x.leader;
  status = x.status + 1;
  certificate_mask = x.certificate_mask;
  dummy_mask = x.dummy_mask;
  finalize_mask = x.finalize_mask;
  voter_mask = x.voter_mask;
  proposal = block;
  notarized = x.notarized;
  vote_digests = x.vote_digests;
}

unfoldable pub with_notarized : Height → ℕ → Bytes → Height
with_notarized x mask block = record {
  leader = x.leader;
  status = x.status + 2;
  certificate_mask = mask;
  dummy_mask = x.dummy_mask;
  finalize_mask = x.finalize_mask;
  voter_mask = x.voter_mask;
  proposal = x.proposal;
  notarized = block;
  vote_digests = x.vote_digests;
}

unfoldable pub with_masks : Height → ℕ → ℕ → Height
with_masks x dummy_mask finalize_mask = record {
  leader = x.leader;
  status = x.status;
  certificate_mask = x.certificate_mask;
  dummy_mask = dummy_mask;
  finalize_mask = finalize_mask;
  voter_mask = x.voter_mask;
  proposal = x.proposal;
  notarized = x.notarized;
  vote_digests = x.vote_digests;
}

unfoldable pub with_vote : Height → ℕ → Bytes → Height
with_vote x s digest = record {
  leader = x.leader;
  status = x.status;
  certificate_mask = x.certificate_mask;
  dummy_mask = x.dummy_mask;
  finalize_mask = x.finalize_mask;
  voter_mask = x.voter_mask + 2 ^ s;
  proposal = x.proposal;
  notarized = x.notarized;
  vote_digests = take (32 * s) x.vote_digests ++ (digest ++ drop (32 * s + 32) x.vote_digests);
}

-- the mask of the replicas below `n` whose kept vote is for this digest
unfoldable pub voters_for : Height → Bytes → ℕ → ℕ
voters_for x digest n = mask_of (λ s. in_mask x.voter_mask s && same (vote_of x s) digest) n

-- ---- what each kind of frame changes at its height, if anything
unfoldable pub keep_dummy_vote : Height → Bytes → Option Height
keep_dummy_vote x frame =
    cond (in_mask x.dummy_mask (signer frame)) none
    (some (with_masks x (x.dummy_mask + 2 ^ signer frame) x.finalize_mask))

unfoldable pub keep_finalize : Height → Bytes → Option Height
keep_finalize x frame =
    cond (in_mask x.finalize_mask (signer frame)) none
    (some (with_masks x x.dummy_mask (x.finalize_mask + 2 ^ signer frame)))

unfoldable pub keep_block_certificate : Height → Bytes → Option Height
keep_block_certificate x frame =
    cond (is_notarized x) none (some (with_notarized x (signer_mask frame) (frame_block frame)))

unfoldable pub keep_dummy_certificate : ℕ → Height → Bytes → Option Height
keep_dummy_certificate n x frame =
    let mask : ℕ = union n x.dummy_mask (signer_mask frame) in
    cond (eqb mask x.dummy_mask) none (some (with_masks x mask x.finalize_mask))

unfoldable pub keep_finalize_certificate : ℕ → Height → Bytes → Option Height
keep_finalize_certificate n x frame =
    let mask : ℕ = union n x.finalize_mask (signer_mask frame) in
    cond (eqb mask x.finalize_mask) none (some (with_masks x x.dummy_mask mask))

-- a frame is read over a state if it passes these rows
unfoldable pub read_rows : State → Bytes → List Row
read_rows s frame =
    let k : ℕ = kind frame in
    (4, frame_well_formed frame) ∷
    (6, in_range 1 (last s) (frame_height frame)) ∷
    (5, cond (is_statement k) (ltb (signer frame) s.n) (below_bit s.n (signer_mask frame))) ∷
    (7, implies (is_proposal k) (eqb (signer frame) (at s (frame_height frame)).leader)) ∷
    (9, is_statement k || quorum (view s) (signer_mask frame)) ∷ []

-- ---- a leader who proposes two blocks
-- a proposal whose height holds another one
unfoldable pub second_proposal : State → Bytes → Bool
second_proposal s frame =
    let x : Height = at s (frame_height frame) in
    all_of (is_proposal (kind frame) ∷ holds_proposal x ∷ not (same x.proposal (frame_block frame)) ∷ [])

-- 004, footnote 10: the leader of the current height equivocates (that the leader signed, row 7 of `read_rows` says)
unfoldable pub leader_equivocates : State → Bytes → Bool
leader_equivocates s frame = second_proposal s frame && eqb (frame_height frame) s.current

-- the timer fires, if it has not: known where it has, and nothing else changes
unfoldable pub timer_fires : Bytes → Outcome Delivery
timer_fires book =
    cond (flag 1 (decode book)) (record { answer = accepted known; book = book })
    (record { answer = accepted fresh; book = encode (with_timer_fired (decode book)) })

-- a frame that is read passes these rows if it contradicts nothing kept, or is a second proposal for the current height
unfoldable pub clash_rows : State → Bytes → List Row
clash_rows s frame =
    let x : Height = at s (frame_height frame) in
    let k : ℕ = kind frame in
    let voted : Bool = in_mask x.voter_mask (signer frame) in
    (8, implies (second_proposal s frame) (eqb (frame_height frame) s.current)) ∷
    (8, implies (is_block_vote k && voted) (same (vote_of x (signer frame)) (frame_digest frame))) ∷
    (10, implies (is_block_certificate k && is_notarized x) (same x.notarized (frame_block frame))) ∷ []

module _ (digest : Bytes → Bytes) where
  -- a held proposal with a quorum of kept votes becomes the notarized block, unless there is one
  unfoldable pub notarize : View → Height → Height
  notarize v x =
      let voters : ℕ = voters_for x (digest x.proposal) v.n in
      cond (all_of (not (is_notarized x) ∷ holds_proposal x ∷ quorum v voters ∷ []))
      (with_notarized x voters x.proposal) x

  unfoldable pub keep_proposal : View → Height → Bytes → Option Height
  keep_proposal v x frame =
      cond (holds_proposal x) none (some (notarize v (with_proposal x (frame_block frame))))

  unfoldable pub keep_block_vote : View → Height → Bytes → Option Height
  keep_block_vote v x frame =
      cond (in_mask x.voter_mask (signer frame)) none
      (some (notarize v (with_vote x (signer frame) (frame_digest frame))))

  -- the height after a frame that passes all rows, and none where the frame is known
  unfoldable pub keep : State → Bytes → Option Height
  keep s frame =
      let x : Height = at s (frame_height frame) in
      let k : ℕ = kind frame in
      cond (is_proposal k) (keep_proposal (view s) x frame)
      (cond (is_block_vote k) (keep_block_vote (view s) x frame)
      (cond (is_dummy_vote k) (keep_dummy_vote x frame)
      (cond (is_finalize k) (keep_finalize x frame)
      (cond (is_block_certificate k) (keep_block_certificate x frame)
      (cond (is_dummy_certificate k) (keep_dummy_certificate s.n x frame)
      (keep_finalize_certificate s.n x frame))))))

  unfoldable pub kept : Bytes → Bytes → Option Height → Outcome Delivery
  kept book frame none = record { answer = accepted known; book = book }
  kept book frame (some x) =
      record { answer = accepted fresh; book = encode (with_height (decode book) (frame_height frame) x) }

  unfoldable pub deliver_rows : Bytes → Bytes → List Row
  deliver_rows book frame =
      (1, sound digest book) ∷ (read_rows (decode book) frame ++ clash_rows (decode book) frame)

  -- what a frame that passes all rows leaves
  unfoldable pub heard : Bytes → Bytes → Outcome Delivery
  heard book frame =
      cond (leader_equivocates (decode book) frame) (timer_fires book) (kept book frame (keep (decode book) frame))

  unfoldable pub deliver_call : Bytes → Bytes → Outcome Delivery
  deliver_call book frame = unless_refused (first_refusal (deliver_rows book frame)) book (heard book frame)

  -- the book after frames were delivered in order
  unfoldable pub deliver_all : Bytes → List Bytes → Bytes
  deliver_all book [] = book
  deliver_all book (frame ∷ frames) = deliver_all (deliver_call book frame).book frames
