-- Written by tests/restated --write: what docs/statements has of
-- crates/protocol/specs/Deliver.antt.
use Rattle.std.specs.Prelude.{ℕ, ◌+◌, ◌*◌, ◌^◌, Bool, ◌&&◌, ◌||◌, not, cond, List, [], ◌∷◌, ◌++◌, take, drop, eqb, ltb}
use Rattle.std.proofs.Math.Option.{Option, some, none}
use package.Rattle.protocol.specs.Bytes.{Bytes, same}
use package.Rattle.protocol.specs.Tests.{all_of, implies, in_range, Row, first_refusal}
use package.Rattle.protocol.specs.Frame.{kind, signer, frame_height, signer_mask, frame_digest, frame_block, frame_well_formed}
use package.Rattle.protocol.specs.Frame.{is_statement, is_proposal, is_block_vote, is_dummy_vote, is_finalize}
use package.Rattle.protocol.specs.Frame.{is_block_certificate, is_dummy_certificate}
use package.Rattle.protocol.specs.Mask.{in_mask, mask_of, union, below_bit}
use package.Rattle.protocol.specs.State.{State, Height, at, last, with_height, encode, decode, holds_proposal, is_notarized}
use package.Rattle.protocol.specs.State.{vote_of, flag, with_timer_fired}
use package.Rattle.protocol.specs.View.{View, quorum}
use package.Rattle.protocol.specs.Sound.{view, sound}
use package.Rattle.protocol.specs.Answer.{Outcome, Delivery, known, fresh, accepted, unless_refused}
use package.Rattle.protocol.specs.Deliver.{with_notarized, with_masks, second_proposal, with_proposal, with_vote, voters_for, keep_dummy_vote, keep_finalize, keep_block_certificate, keep_dummy_certificate, keep_finalize_certificate, read_rows, leader_equivocates, timer_fires, clash_rows}
use mathlib.Core.Path.{◌≡◌ as ◌is-kept◌, refl as by-text}
use package.Rattle.protocol.specs.Deliver as page

with_proposal-kept : Height → Bytes → Height
with_proposal-kept x block = record {
  leader = x.leader;
  status = x.status + 1;
  certificate_mask = x.certificate_mask;
  dummy_mask = x.dummy_mask;
  finalize_mask = x.finalize_mask;
  voter_mask = x.voter_mask;
  proposal = block;
  notarized = x.notarized;
  vote_digests = x.vote_digests;
}

same-with_proposal : with_proposal-kept is-kept page.with_proposal
unfolding with_proposal-kept page.with_proposal
same-with_proposal = by-text

with_notarized-kept : Height → ℕ → Bytes → Height
with_notarized-kept x mask block = record {
  leader = x.leader;
  status = x.status + 2;
  certificate_mask = mask;
  dummy_mask = x.dummy_mask;
  finalize_mask = x.finalize_mask;
  voter_mask = x.voter_mask;
  proposal = x.proposal;
  notarized = block;
  vote_digests = x.vote_digests;
}

same-with_notarized : with_notarized-kept is-kept page.with_notarized
unfolding with_notarized-kept page.with_notarized
same-with_notarized = by-text

with_masks-kept : Height → ℕ → ℕ → Height
with_masks-kept x dummy_mask finalize_mask = record {
  leader = x.leader;
  status = x.status;
  certificate_mask = x.certificate_mask;
  dummy_mask = dummy_mask;
  finalize_mask = finalize_mask;
  voter_mask = x.voter_mask;
  proposal = x.proposal;
  notarized = x.notarized;
  vote_digests = x.vote_digests;
}

same-with_masks : with_masks-kept is-kept page.with_masks
unfolding with_masks-kept page.with_masks
same-with_masks = by-text

with_vote-kept : Height → ℕ → Bytes → Height
with_vote-kept x s digest = record {
  leader = x.leader;
  status = x.status;
  certificate_mask = x.certificate_mask;
  dummy_mask = x.dummy_mask;
  finalize_mask = x.finalize_mask;
  voter_mask = x.voter_mask + 2 ^ s;
  proposal = x.proposal;
  notarized = x.notarized;
  vote_digests = take (32 * s) x.vote_digests ++ (digest ++ drop (32 * s + 32) x.vote_digests);
}

same-with_vote : with_vote-kept is-kept page.with_vote
unfolding with_vote-kept page.with_vote
same-with_vote = by-text

voters_for-kept : Height → Bytes → ℕ → ℕ
voters_for-kept x digest n = mask_of (λ s. in_mask x.voter_mask s && same (vote_of x s) digest) n

same-voters_for : voters_for-kept is-kept page.voters_for
unfolding voters_for-kept page.voters_for
same-voters_for = by-text

keep_dummy_vote-kept : Height → Bytes → Option Height
keep_dummy_vote-kept x frame =
    cond (in_mask x.dummy_mask (signer frame)) none
    (some (with_masks x (x.dummy_mask + 2 ^ signer frame) x.finalize_mask))

same-keep_dummy_vote : keep_dummy_vote-kept is-kept page.keep_dummy_vote
unfolding keep_dummy_vote-kept page.keep_dummy_vote
same-keep_dummy_vote = by-text

keep_finalize-kept : Height → Bytes → Option Height
keep_finalize-kept x frame =
    cond (in_mask x.finalize_mask (signer frame)) none
    (some (with_masks x x.dummy_mask (x.finalize_mask + 2 ^ signer frame)))

same-keep_finalize : keep_finalize-kept is-kept page.keep_finalize
unfolding keep_finalize-kept page.keep_finalize
same-keep_finalize = by-text

keep_block_certificate-kept : Height → Bytes → Option Height
keep_block_certificate-kept x frame =
    cond (is_notarized x) none (some (with_notarized x (signer_mask frame) (frame_block frame)))

same-keep_block_certificate : keep_block_certificate-kept is-kept page.keep_block_certificate
unfolding keep_block_certificate-kept page.keep_block_certificate
same-keep_block_certificate = by-text

keep_dummy_certificate-kept : ℕ → Height → Bytes → Option Height
keep_dummy_certificate-kept n x frame =
    let mask : ℕ = union n x.dummy_mask (signer_mask frame) in
    cond (eqb mask x.dummy_mask) none (some (with_masks x mask x.finalize_mask))

same-keep_dummy_certificate : keep_dummy_certificate-kept is-kept page.keep_dummy_certificate
unfolding keep_dummy_certificate-kept page.keep_dummy_certificate
same-keep_dummy_certificate = by-text

keep_finalize_certificate-kept : ℕ → Height → Bytes → Option Height
keep_finalize_certificate-kept n x frame =
    let mask : ℕ = union n x.finalize_mask (signer_mask frame) in
    cond (eqb mask x.finalize_mask) none (some (with_masks x x.dummy_mask mask))

same-keep_finalize_certificate : keep_finalize_certificate-kept is-kept page.keep_finalize_certificate
unfolding keep_finalize_certificate-kept page.keep_finalize_certificate
same-keep_finalize_certificate = by-text

read_rows-kept : State → Bytes → List Row
read_rows-kept s frame =
    let k : ℕ = kind frame in
    (4, frame_well_formed frame) ∷
    (6, in_range 1 (last s) (frame_height frame)) ∷
    (5, cond (is_statement k) (ltb (signer frame) s.n) (below_bit s.n (signer_mask frame))) ∷
    (7, implies (is_proposal k) (eqb (signer frame) (at s (frame_height frame)).leader)) ∷
    (9, is_statement k || quorum (view s) (signer_mask frame)) ∷ []

same-read_rows : read_rows-kept is-kept page.read_rows
unfolding read_rows-kept page.read_rows
same-read_rows = by-text

second_proposal-kept : State → Bytes → Bool
second_proposal-kept s frame =
    let x : Height = at s (frame_height frame) in
    all_of (is_proposal (kind frame) ∷ holds_proposal x ∷ not (same x.proposal (frame_block frame)) ∷ [])

same-second_proposal : second_proposal-kept is-kept page.second_proposal
unfolding second_proposal-kept page.second_proposal
same-second_proposal = by-text

leader_equivocates-kept : State → Bytes → Bool
leader_equivocates-kept s frame = second_proposal s frame && eqb (frame_height frame) s.current

same-leader_equivocates : leader_equivocates-kept is-kept page.leader_equivocates
unfolding leader_equivocates-kept page.leader_equivocates
same-leader_equivocates = by-text

timer_fires-kept : Bytes → Outcome Delivery
timer_fires-kept book =
    cond (flag 1 (decode book)) (record { answer = accepted known; book = book })
    (record { answer = accepted fresh; book = encode (with_timer_fired (decode book)) })

same-timer_fires : timer_fires-kept is-kept page.timer_fires
unfolding timer_fires-kept page.timer_fires
same-timer_fires = by-text

clash_rows-kept : State → Bytes → List Row
clash_rows-kept s frame =
    let x : Height = at s (frame_height frame) in
    let k : ℕ = kind frame in
    let voted : Bool = in_mask x.voter_mask (signer frame) in
    (8, implies (second_proposal s frame) (eqb (frame_height frame) s.current)) ∷
    (8, implies (is_block_vote k && voted) (same (vote_of x (signer frame)) (frame_digest frame))) ∷
    (10, implies (is_block_certificate k && is_notarized x) (same x.notarized (frame_block frame))) ∷ []

same-clash_rows : clash_rows-kept is-kept page.clash_rows
unfolding clash_rows-kept page.clash_rows
same-clash_rows = by-text

module _ (digest : Bytes → Bytes) where
  abbrev notarize : View → Height → Height
  notarize = page.notarize digest

  abbrev keep_proposal : View → Height → Bytes → Option Height
  keep_proposal = page.keep_proposal digest

  abbrev keep_block_vote : View → Height → Bytes → Option Height
  keep_block_vote = page.keep_block_vote digest

  abbrev keep : State → Bytes → Option Height
  keep = page.keep digest

  abbrev kept : Bytes → Bytes → Option Height → Outcome Delivery
  kept = page.kept digest

  abbrev deliver_rows : Bytes → Bytes → List Row
  deliver_rows = page.deliver_rows digest

  abbrev heard : Bytes → Bytes → Outcome Delivery
  heard = page.heard digest

  abbrev deliver_call : Bytes → Bytes → Outcome Delivery
  deliver_call = page.deliver_call digest

  notarize-kept : View → Height → Height
  notarize-kept v x =
      let voters : ℕ = voters_for x (digest x.proposal) v.n in
      cond (all_of (not (is_notarized x) ∷ holds_proposal x ∷ quorum v voters ∷ []))
      (with_notarized x voters x.proposal) x

  same-notarize : notarize-kept is-kept page.notarize digest
  unfolding notarize-kept page.notarize
  same-notarize = by-text

  keep_proposal-kept : View → Height → Bytes → Option Height
  keep_proposal-kept v x frame =
      cond (holds_proposal x) none (some (notarize v (with_proposal x (frame_block frame))))

  same-keep_proposal : keep_proposal-kept is-kept page.keep_proposal digest
  unfolding keep_proposal-kept page.keep_proposal
  same-keep_proposal = by-text

  keep_block_vote-kept : View → Height → Bytes → Option Height
  keep_block_vote-kept v x frame =
      cond (in_mask x.voter_mask (signer frame)) none
      (some (notarize v (with_vote x (signer frame) (frame_digest frame))))

  same-keep_block_vote : keep_block_vote-kept is-kept page.keep_block_vote digest
  unfolding keep_block_vote-kept page.keep_block_vote
  same-keep_block_vote = by-text

  keep-kept : State → Bytes → Option Height
  keep-kept s frame =
      let x : Height = at s (frame_height frame) in
      let k : ℕ = kind frame in
      cond (is_proposal k) (keep_proposal (view s) x frame)
      (cond (is_block_vote k) (keep_block_vote (view s) x frame)
      (cond (is_dummy_vote k) (keep_dummy_vote x frame)
      (cond (is_finalize k) (keep_finalize x frame)
      (cond (is_block_certificate k) (keep_block_certificate x frame)
      (cond (is_dummy_certificate k) (keep_dummy_certificate s.n x frame)
      (keep_finalize_certificate s.n x frame))))))

  same-keep : keep-kept is-kept page.keep digest
  unfolding keep-kept page.keep
  same-keep = by-text

  kept-kept : Bytes → Bytes → Option Height → Outcome Delivery
  kept-kept book frame none = record { answer = accepted known; book = book }
  kept-kept book frame (some x) =
      record { answer = accepted fresh; book = encode (with_height (decode book) (frame_height frame) x) }

  same-kept : kept-kept is-kept page.kept digest
  unfolding kept-kept page.kept
  same-kept = by-text

  deliver_rows-kept : Bytes → Bytes → List Row
  deliver_rows-kept book frame =
      (1, sound digest book) ∷ (read_rows (decode book) frame ++ clash_rows (decode book) frame)

  same-deliver_rows : deliver_rows-kept is-kept page.deliver_rows digest
  unfolding deliver_rows-kept page.deliver_rows
  same-deliver_rows = by-text

  heard-kept : Bytes → Bytes → Outcome Delivery
  heard-kept book frame =
      cond (leader_equivocates (decode book) frame) (timer_fires book) (kept book frame (keep (decode book) frame))

  same-heard : heard-kept is-kept page.heard digest
  unfolding heard-kept page.heard
  same-heard = by-text

  deliver_call-kept : Bytes → Bytes → Outcome Delivery
  deliver_call-kept book frame = unless_refused (first_refusal (deliver_rows book frame)) book (heard book frame)

  same-deliver_call : deliver_call-kept is-kept page.deliver_call digest
  unfolding deliver_call-kept page.deliver_call
  same-deliver_call = by-text

  deliver_all-kept : Bytes → List Bytes → Bytes
  deliver_all-kept book [] = book
  deliver_all-kept book (frame ∷ frames) = deliver_all-kept (deliver_call book frame).book frames

  same-deliver_all : deliver_all-kept is-kept page.deliver_all digest
  unfolding deliver_all-kept page.deliver_all
  same-deliver_all = by-text
