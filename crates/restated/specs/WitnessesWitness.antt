-- Written by tests/restated --write: what docs/statements has of
-- crates/witnesses/specs/Witness.antt.
use Rattle.std.specs.Prelude.{ℕ, ◌≢◌, replicate}
use mathlib.Core.List.{List, [], ◌∷◌, ◌++◌, map, Memᴰ}
use package.Rattle.protocol.specs.Bytes.{Bytes, byte_at, join, le16, part, zeros}
use package.Rattle.protocol.specs.Block.{new_block}
use package.Rattle.protocol.specs.Frame.{proposal, block_vote, dummy_vote, finalize, block_certificate, dummy_certificate}
use package.Rattle.protocol.specs.Frame.{finalize_certificate}
use package.Rattle.protocol.specs.Open.{unweighed, weighed}
use package.Rattle.protocol.specs.Call.{moving, opening, reading, signalling, submitting}
use package.Rattle.agreement.specs.Lists.{Member, proposes, votes_block, writes}
use package.Rattle.agreement.specs.Met.{Hears, HearsWhere, MemberOf, Met, ReadsWhere, fires_timer, has_edition, is_packet}
use package.Rattle.agreement.specs.Turns.{Turn, anything, build, entry, hear, hear_packet, move, next_block, next_log}
use package.Rattle.witnesses.specs.Witness.{sample, weights, dishonest, leaders, last_entry, openings, one_block, other_block, split, timeouts, votes, agreed, last_block, extended, readings, list, last_log, Witness}
use mathlib.Core.Path.{◌≡◌ as ◌is-kept◌, refl as by-text}
use package.Rattle.witnesses.specs.Witness as page

sample-kept : Bytes → Bytes
sample-kept block = byte_at block 0 ∷ part block 48 31

same-sample : sample-kept is-kept page.sample
unfolding sample-kept page.sample
same-sample = by-text

abbrev weights-kept : List ℕ
weights-kept = 1 ∷ 1 ∷ 1 ∷ 1 ∷ []

same-weights : weights-kept is-kept page.weights
same-weights = by-text

abbrev dishonest-kept : ℕ
dishonest-kept = 8

same-dishonest : dishonest-kept is-kept page.dishonest
same-dishonest = by-text

abbrev leaders-kept : Bytes
leaders-kept = 3 ∷ 3 ∷ 0 ∷ []

same-leaders : leaders-kept is-kept page.leaders
same-leaders = by-text

last_entry-kept : Bytes
last_entry-kept = replicate 16 7

same-last_entry : last_entry-kept is-kept page.last_entry
unfolding last_entry-kept page.last_entry
same-last_entry = by-text

openings-kept : List Turn
openings-kept =
    (0, opening unweighed 4 0 3 leaders) ∷ (1, opening (weighed (join (map le16 weights))) 4 1 3 leaders) ∷
    (2, opening unweighed 4 2 3 leaders) ∷ (0, opening unweighed 4 0 1 (3 ∷ [])) ∷ (3, moving (zeros 5)) ∷
    (0, submitting entry) ∷ (0, submitting last_entry) ∷ []

same-openings : openings-kept is-kept page.openings
unfolding openings-kept page.openings
same-openings = by-text

one_block-kept : Bytes
one_block-kept = new_block 1 0 (zeros 32) (replicate 16 1 ∷ [])

same-one_block : one_block-kept is-kept page.one_block
unfolding one_block-kept page.one_block
same-one_block = by-text

other_block-kept : Bytes
other_block-kept = new_block 1 0 (zeros 32) (replicate 16 2 ∷ [])

same-other_block : other_block-kept is-kept page.other_block
unfolding other_block-kept page.other_block
same-other_block = by-text

split-kept : List Turn
split-kept =
    hear 0 (proposal 3 1 one_block) ∷ hear 1 (proposal 3 1 other_block) ∷
    move 0 ∷ move 1 ∷
    hear 0 (block_vote 3 1 (sample one_block)) ∷ hear 1 (block_vote 3 1 (sample other_block)) ∷
    hear 0 (block_vote 0 1 (sample one_block)) ∷ hear 1 (block_vote 0 1 (sample one_block)) ∷ []

same-split : split-kept is-kept page.split
unfolding split-kept page.split
same-split = by-text

timeouts-kept : List Turn
timeouts-kept =
    hear 0 (proposal 3 1 other_block) ∷ (1, signalling 1) ∷ (2, signalling 1) ∷
    move 0 ∷ move 1 ∷ move 2 ∷
    hear 0 (dummy_vote 0 1) ∷ hear 0 (dummy_vote 1 1) ∷ hear 0 (dummy_vote 2 1) ∷ move 0 ∷
    hear 1 (dummy_certificate 1 7) ∷ move 1 ∷ []

same-timeouts : timeouts-kept is-kept page.timeouts
unfolding timeouts-kept page.timeouts
same-timeouts = by-text

votes-kept : List Bytes
votes-kept =
    block_vote 0 2 (sample next_block) ∷ dummy_vote 1 9 ∷
    block_vote 1 2 (sample next_block) ∷ block_vote 3 2 (sample next_block) ∷ []

same-votes : votes-kept is-kept page.votes
unfolding votes-kept page.votes
same-votes = by-text

agreed-kept : List Turn
agreed-kept =
    hear 0 (proposal 3 2 next_block) ∷ hear 1 (proposal 3 2 next_block) ∷ move 0 ∷ move 1 ∷
    hear_packet 0 votes ∷ move 0 ∷ hear 1 (block_certificate 2 11 next_block) ∷ move 1 ∷
    hear 0 (finalize 0 2) ∷ hear 0 (finalize 1 2) ∷ hear 0 (finalize 3 2) ∷ move 0 ∷
    hear 1 (finalize_certificate 2 11) ∷ move 1 ∷ (1, reading (zeros 32)) ∷ []

same-agreed : agreed-kept is-kept page.agreed
unfolding agreed-kept page.agreed
same-agreed = by-text

last_block-kept : Bytes
last_block-kept = new_block 3 2 (sample next_block) (last_entry ∷ [])

same-last_block : last_block-kept is-kept page.last_block
unfolding last_block-kept page.last_block
same-last_block = by-text

extended-kept : List Turn
extended-kept =
    move 0 ∷ hear 0 (proposal 0 3 last_block) ∷ hear 1 (proposal 0 3 last_block) ∷ move 0 ∷ move 1 ∷
    hear 0 (block_certificate 3 11 last_block) ∷ hear 1 (block_certificate 3 11 last_block) ∷ move 0 ∷ move 1 ∷
    hear 0 (finalize_certificate 3 11) ∷ hear 1 (finalize_certificate 3 11) ∷ move 0 ∷ move 1 ∷ []

same-extended : extended-kept is-kept page.extended
unfolding extended-kept page.extended
same-extended = by-text

readings-kept : List Turn
readings-kept = (0, reading (zeros 48)) ∷ (1, reading (zeros 50)) ∷ []

same-readings : readings-kept is-kept page.readings
unfolding readings-kept page.readings
same-readings = by-text

list-kept : List Member
list-kept = build sample (anything 3) (openings ++ (split ++ (timeouts ++ (agreed ++ (extended ++ readings)))))

same-list : list-kept is-kept page.list
unfolding list-kept page.list
same-list = by-text

last_log-kept : Bytes
last_log-kept = next_log ++ last_entry

same-last_log : last_log-kept is-kept page.last_log
unfolding last_log-kept page.last_log
same-last_log = by-text

Witness-kept : (met : Met sample weights dishonest list next_log last_log) (edition_0 : MemberOf list 0 (ReadsWhere sample (has_edition 1) last_log)) (edition_1 : MemberOf list 1 (ReadsWhere sample (has_edition 2) last_log)) (one_proposal : MemberOf list 0 (Hears sample 3 (proposes 1 one_block))) (other_proposal : MemberOf list 1 (Hears sample 3 (proposes 1 other_block))) (two_blocks : one_block ≢ other_block) (fires_0 : MemberOf list 0 (HearsWhere sample (fires_timer sample) 3 (proposes 1 other_block))) (dummy_0 : MemberOf list 0 (λ m. Memᴰ (dummy_certificate 1 7) (writes sample m))) (dummy_1 : MemberOf list 1 (λ m. Memᴰ (dummy_certificate 1 7) (writes sample m))) (packet_0 : MemberOf list 0 (HearsWhere sample is_packet 1 (votes_block 2 (sample next_block)))) (offers_0 : MemberOf list 0 (λ m. Memᴰ (proposal 0 3 last_block) (writes sample m))) →
    Witness
Witness-kept x0 x1 x2 x3 x4 x5 x6 x7 x8 x9 x10 = record { met = x0; edition_0 = x1; edition_1 = x2; one_proposal = x3; other_proposal = x4; two_blocks = x5; fires_0 = x6; dummy_0 = x7; dummy_1 = x8; packet_0 = x9; offers_0 = x10 }
