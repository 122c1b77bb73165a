-- Deliveries of wrong replicas: what each answers or leaves does not meet `Keeps`. Computed on a new book of four
-- replicas and one height, with a stand-in digest; byte 592 is the first of the body, and of the held proposal.
use Rattle.std.specs.Prelude.{ℕ, ◌≤◌, ◌<◌, ◌≡◌, refl, ◌⊎◌, true, false, [], ◌∷◌, length, set, ltb}
use Rattle.std.proofs.Common.{arith, sym, ap, inl, inr, true≢false, ltb-true}
use Rattle.std.proofs.lemmas.Bool.{false≢true}
use Rattle.std.proofs.Math.ListN.{get_or-eq_default}
use Rattle.protocol.specs.Bytes.{Bytes, byte_at, zeros, all, AreBytes, put}
use Rattle.protocol.proofs.Laws.TestsLaws.{le_or_lt}
use Rattle.protocol.proofs.Laws.RowLaws.{all_at}
use Rattle.protocol.specs.Block.{new_block}
use Rattle.protocol.specs.Frame.{block_certificate, dummy_vote, proposal}
use Rattle.protocol.specs.State.{encode, decode, with_height, at}
use Rattle.protocol.specs.Deliver.{with_notarized, deliver_call}
use Rattle.protocol.specs.Open.{unweighed, open_call}
use Rattle.protocol.specs.Answer.{Delivery, known, fresh, accepted}
use Rattle.protocol.specs.Computing.{everything}
use Rattle.call_laws.specs.KeptBytes.{in_parts, proposal_parts, dummy_parts, kept_parts, newly_notarized}
use Rattle.call_laws.specs.KeptBytes.{delivery_parts}
use Rattle.call_laws.specs.Equivocating.{Equivocation}
use Rattle.call_laws.specs.Keeping.{Keeps, NewlyKept}
use Rattle.call_laws.proofs.Laws.KeepingLaws.{known≢fresh}

stand_in : Bytes → Bytes
stand_in bytes = zeros 32

book : Bytes
book = (open_call unweighed (zeros 1456) 4 0 1 (0 ∷ [])).book

block : Bytes
block = new_block 1 0 (zeros 32) []

-- the book that a delivery of document 01's replica leaves
delivered : Bytes → Bytes
delivered frame = (deliver_call stand_in book frame).book

vote : Bytes
vote = dummy_vote 2 1

-- a replica that gets this frame, answers so and leaves these bytes does not keep what `Keeps` says
Wrong : Bytes → Delivery → Bytes → Type 0
Wrong frame news after = Keeps stand_in book frame news after → ⊥

-- ---- the numbers of the book are bytes
are_bytes : (bytes : Bytes) → all (λ x. ltb x 256) bytes ≡ true → AreBytes bytes
are_bytes bytes e i = go (le_or_lt (length bytes) i)
  where
    go : (length bytes ≤ i) ⊎ (i < length bytes) → byte_at bytes i < 256
    go (inl past) = rw (get_or-eq_default bytes 0 {n = i} past) (omega arith)
    go (inr inside) = ltb-true (byte_at bytes i) 256 (all_at (λ x. ltb x 256) bytes i e inside)

small : AreBytes book
small = are_bytes book (unfold everything book in refl)

-- ---- by these frames no leader equivocates
certificate_single : Equivocation (decode book) (block_certificate 1 7 block) → ⊥
unfolding everything book block
certificate_single e = let its-kind : ◌≡◌ {A = ℕ} 5 1 = e.proposed.proposes in omega arith

vote_single : Equivocation (decode book) vote → ⊥
unfolding everything book vote
vote_single e = let its-kind : ◌≡◌ {A = ℕ} 3 1 = e.proposed.proposes in omega arith

proposal_single : Equivocation (decode book) (proposal 0 1 block) → ⊥
unfolding everything book block
proposal_single e = false≢true e.held

-- ---- a fresh block certificate with other signers than the frame names
another_mask : Wrong (block_certificate 1 7 block) fresh
    (encode (with_height (decode book) 1 (with_notarized (at (decode book) 1) 15 block)))
unfolding everything stand_in book block Wrong
another_mask k =
    let same : ◌≡◌ {A = ℕ} 15 7 = (k.statement certificate_single).keeps.here.block.this_certificate refl refl in
    omega arith

-- ---- a dummy vote that changes a byte besides: of the held proposal where none is held, of the notarized block where
-- none is notarized, of the digest of a replica that did not vote, of a pending place past the count
held_area : Wrong vote fresh (set (delivered vote) 595 9)
unfolding everything stand_in book vote delivered Wrong in_parts dummy_parts kept_parts newly_notarized delivery_parts
held_area k = let same : ◌≡◌ {A = ℕ} 9 0 = ((k.statement vote_single).other_bytes small).same_byte 595 refl in
    omega arith

notarized_area : Wrong vote fresh (set (delivered vote) 800 9)
unfolding everything stand_in book vote delivered Wrong in_parts dummy_parts kept_parts newly_notarized delivery_parts
notarized_area k = let same : ◌≡◌ {A = ℕ} 9 0 = ((k.statement vote_single).other_bytes small).same_byte 800 refl in
    omega arith

absent_vote : Wrong vote fresh (set (delivered vote) 1010 9)
unfolding everything stand_in book vote delivered Wrong in_parts dummy_parts kept_parts newly_notarized delivery_parts
absent_vote k = let same : ◌≡◌ {A = ℕ} 9 0 = ((k.statement vote_single).other_bytes small).same_byte 1010 refl in
    omega arith

free_place : Wrong vote fresh (set (delivered vote) 150 9)
unfolding everything stand_in book vote delivered Wrong in_parts dummy_parts kept_parts newly_notarized delivery_parts
free_place k = let same : ◌≡◌ {A = ℕ} 9 0 = ((k.statement vote_single).other_bytes small).same_byte 150 refl in
    omega arith

-- ---- a proposal that notarizes nothing and writes a certificate mask
mask_without_block : Wrong (proposal 0 1 block) fresh (set (delivered (proposal 0 1 block)) 578 1)
unfolding everything stand_in book block delivered Wrong in_parts proposal_parts kept_parts newly_notarized delivery_parts
mask_without_block k =
    let same : ◌≡◌ {A = ℕ} 1 0 = ((k.statement proposal_single).other_bytes small).same_byte 578 refl in
    omega arith

-- ---- an answer that is always known, and one that is fresh where nothing changed
always_known : Wrong vote known (delivered vote)
unfolding everything stand_in book vote delivered Wrong
always_known k =
    let same : ◌≡◌ {A = ℕ} 4 0 = ap (λ (b : Bytes). byte_at b 580) ((k.statement vote_single).known_same refl) in
    omega arith

always_fresh : Wrong vote fresh book
unfolding Wrong
always_fresh k =
    let (i, inside, differs) = (k.statement vote_single).fresh_differs refl in
    differs refl

-- ---- a proposal that is known already, at a height whose votes were never counted, as no run leaves it: nothing is
-- newly kept, so nothing is notarized
only_new : {A : Type 0} →
    (false ≡ true) ⊎ ((◌≡◌ {A = ℕ} 1 5) ⊎
    ((((◌≡◌ {A = ℕ} 1 1) × (true ≡ false)) ⊎ ((◌≡◌ {A = ℕ} 1 2) × (true ≡ false))) × A)) → ⊥
only_new (inl e) = false≢true e
only_new (inr (inl e)) = omega arith
only_new (inr (inr (inl (e, held), by))) = true≢false held
only_new (inr (inr (inr (e, voted), by))) = omega arith

uncounted : Bytes
uncounted = put (set (set (open_call unweighed (zeros 1456) 1 0 1 (0 ∷ [])).book 577 1) 584 1) 592 block

late_count : Keeps stand_in uncounted (proposal 0 1 block) fresh
    (encode (with_height (decode uncounted) 1 (with_notarized (at (decode uncounted) 1) 1 block))) → ⊥
unfolding everything stand_in block uncounted put NewlyKept
late_count k = only_new ((k.statement (λ e. e.unlike refl)).keeps.here.block.only_so refl)

-- its book is sound, and document 01's replica answers known
uncounted_known : (deliver_call stand_in uncounted (proposal 0 1 block)).answer ≡ accepted known
unfolding everything stand_in block uncounted put
uncounted_known = refl

-- ---- the leader of the current height equivocates: `block` is held, and another one is proposed
holding : Bytes
holding = delivered (proposal 0 1 block)

other : Bytes
other = new_block 1 0 (zeros 32) ((1 ∷ zeros 15) ∷ [])

WrongSecond : Bytes → Delivery → Bytes → Type 0
WrongSecond before news after = Keeps stand_in before (proposal 0 1 other) news after → ⊥

-- the book after it, in which the timer has fired
fired : Bytes
fired = set holding 3 1

-- so it is on either book
second_equivocates : Equivocation (decode holding) (proposal 0 1 other)
unfolding everything stand_in book block other delivered holding
second_equivocates = record {
  proposed = record { read = refl; proposes = refl; here = refl; by_leader = refl };
  held = refl;
  unlike = λ e. let same : ◌≡◌ {A = ℕ} 0 1 = ap (λ (b : Bytes). byte_at b 4) e in omega arith;
}

third_equivocates : Equivocation (decode fired) (proposal 0 1 other)
unfolding everything stand_in book block other delivered holding fired
third_equivocates = record {
  proposed = record { read = refl; proposes = refl; here = refl; by_leader = refl };
  held = refl;
  unlike = λ e. let same : ◌≡◌ {A = ℕ} 0 1 = ap (λ (b : Bytes). byte_at b 4) e in omega arith;
}

-- the replica of request 2.2 leaves that book, twice
second_fires : deliver_call stand_in holding (proposal 0 1 other) ≡ record { answer = accepted fresh; book = fired }
unfolding everything stand_in book block other delivered holding fired
second_fires = refl

third_known : deliver_call stand_in fired (proposal 0 1 other) ≡ record { answer = accepted known; book = fired }
unfolding everything stand_in book block other delivered holding fired
third_known = refl

held_small : AreBytes holding
held_small = are_bytes holding (unfold everything stand_in book block delivered holding in refl)

-- the second block takes the place of the first
held_replaced : WrongSecond holding fresh (put fired 592 other)
unfolding everything stand_in book block other delivered holding fired put WrongSecond
held_replaced k =
    let same : ◌≡◌ {A = ℕ} 1 0 =
    ap (λ (b : Bytes). byte_at b 596) (((k.equivocation second_equivocates).fires_now refl).1 held_small) in
    omega arith

-- another flag is set besides it
another_flag : WrongSecond holding fresh (set holding 3 3)
unfolding everything stand_in book block other delivered holding WrongSecond
another_flag k =
    let same : ◌≡◌ {A = ℕ} 3 1 =
    ap (λ (b : Bytes). byte_at b 3) (((k.equivocation second_equivocates).fires_now refl).1 held_small) in
    omega arith

-- the timer does not fire
second_overheard : WrongSecond holding known holding
unfolding everything stand_in book block other delivered holding WrongSecond
second_overheard k = known≢fresh ((k.equivocation second_equivocates).fires_now refl).0

-- it fires again
fired_again : WrongSecond fired fresh fired
unfolding everything stand_in book block other delivered holding fired WrongSecond
fired_again k = known≢fresh (sym ((k.equivocation third_equivocates).fired_before refl).0)
