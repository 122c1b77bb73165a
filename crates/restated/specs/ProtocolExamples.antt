-- Written by tests/restated --write: what docs/statements has of
-- crates/protocol/specs/Examples.antt.
use Rattle.std.specs.Prelude.{ℕ, zero, suc, ◌≤◌, ◌<◌, ◌≡◌, Bool, true, false, length, replicate}
use package.Rattle.protocol.specs.Bytes.{Bytes, byte_at, word16, part}
use package.Rattle.protocol.specs.Block.{parent_height, entry_count}
use package.Rattle.protocol.specs.Frame.{kind, frame_block, dummy_certificate}
use package.Rattle.protocol.specs.Mask.{ones}
use package.Rattle.protocol.specs.State.{at, decode, book_finalized}
use package.Rattle.protocol.specs.View.{View, quorum}
use package.Rattle.protocol.specs.Answer.{accepted, done, pass, propose, on_dummy}
use package.Rattle.protocol.specs.Open.{Opening, opened_weights, open_call}
use package.Rattle.protocol.specs.Move.{MoveOutcome}
use package.Rattle.protocol.specs.Examples.{Start, frame_in}
use mathlib.Core.Path.{◌≡◌ as ◌is-kept◌, refl as by-text}
use package.Rattle.protocol.specs.Examples as page

Start-kept : (way : Opening) (old : Bytes) (n : ℕ) (own : ℕ) (heights : ℕ) (leaders : Bytes) (reply : Bytes) (even : opened_weights n way ≡ replicate n 1) (opens : (open_call way old n own heights leaders).answer ≡ accepted done) (room : 448 ≤ length reply) →
    Start
Start-kept x0 x1 x2 x3 x4 x5 x6 x7 x8 x9 = record { way = x0; old = x1; n = x2; own = x3; heights = x4; leaders = x5; reply = x6; even = x7; opens = x8; room = x9 }

opened-kept : Start → Bytes
opened-kept x = (open_call x.way x.old x.n x.own x.heights x.leaders).book

same-opened : opened-kept is-kept page.opened
unfolding opened-kept page.opened
same-opened = by-text

first_leader-kept : Start → ℕ
first_leader-kept x = byte_at x.leaders 0

same-first_leader : first_leader-kept is-kept page.first_leader
unfolding first_leader-kept page.first_leader
same-first_leader = by-text

frame_in-kept : Bytes → ℕ → Bytes
frame_in-kept reply zero = part reply 0 224
frame_in-kept reply (suc i) = part reply 224 224

same-frame_in : frame_in-kept is-kept page.frame_in
unfolding frame_in-kept page.frame_in
same-frame_in = by-text

quorum_from-kept : ℕ → ℕ → Type 0
quorum_from-kept n enough =
    (v : View) (mask : ℕ) → v.weights ≡ replicate n 1 →
    (enough ≤ ones mask n → quorum v mask ≡ true) × (ones mask n < enough → quorum v mask ≡ false)

same-quorum_from : quorum_from-kept is-kept page.quorum_from
unfolding quorum_from-kept page.quorum_from
same-quorum_from = by-text

abbrev passes_dummy-kept : MoveOutcome → Bool → Bytes → Type 0
passes_dummy-kept m finalized next =
    (m.answer ≡ accepted (pass 1 on_dummy finalized)) ×
    (frame_in m.reply 0 ≡ dummy_certificate 1 7) ×
    (frame_in m.reply 1 ≡ next)

same-passes_dummy : passes_dummy-kept is-kept page.passes_dummy
same-passes_dummy = by-text

abbrev proposes_first-kept : MoveOutcome → Type 0
proposes_first-kept m =
    (m.answer ≡ accepted (propose 1)) ×
    (kind (frame_in m.reply 0) ≡ 1) ×
    (parent_height (frame_block (frame_in m.reply 0)) ≡ 0) ×
    (entry_count (frame_block (frame_in m.reply 0)) ≡ 0)

same-proposes_first : proposes_first-kept is-kept page.proposes_first
same-proposes_first = by-text

abbrev not_finalized-kept : Bytes → Type 0
not_finalized-kept book =
    (word16 book 582 ≡ 7) ×
    (book_finalized book ≡ 0) ×
    ((at (decode book) 1).finalize_mask ≡ 7) ×
    ((decode book).finalized ≡ 0)

same-not_finalized : not_finalized-kept is-kept page.not_finalized
same-not_finalized = by-text
