-- Written by tests/restated --write: what docs/statements has of
-- crates/agreement/specs/AnyDigest.antt.
use Rattle.std.specs.Prelude.{ℕ, ◌*◌, ◌<◌, ◌≤◌, ◌≡◌, ◌≢◌, false, length, replicate}
use mathlib.Core.List.{List, [], ◌∷◌, ◌++◌, map, Memᴰ}
use package.Rattle.protocol.specs.Bytes.{Bytes, join, le16, zeros}
use package.Rattle.protocol.specs.Block.{entries}
use package.Rattle.protocol.specs.Mask.{ones}
use package.Rattle.protocol.specs.Frame.{proposal, block_vote, dummy_vote, finalize, block_certificate, dummy_certificate}
use package.Rattle.protocol.specs.Frame.{finalize_certificate}
use package.Rattle.protocol.specs.Open.{Opening, weighed}
use package.Rattle.protocol.specs.Call.{delivery, fetching, moving, opening, packet_delivery, reading, signalling, sizing}
use package.Rattle.protocol.specs.Call.{submitting}
use package.Rattle.agreement.specs.Lists.{Member, votes_block, votes_dummy, finalizes, does, writes}
use package.Rattle.agreement.specs.Met.{Hears, HearsWhere, MemberOf, Met, is_packet}
use package.Rattle.agreement.specs.Turns.{Turn, anything, build, entry, hear, hear_packet, move, next_block, next_log}
use package.Rattle.agreement.specs.Turns.{other_entry}
use package.Rattle.agreement.specs.AnyDigest.{weights, heavy_two, light_four, way, one_digest, other_digest, leaders, dishonest, openings, split, timeouts, agreed, readings}
use mathlib.Core.Path.{◌≡◌ as ◌is-kept◌, refl as by-text}
use package.Rattle.agreement.specs.AnyDigest as page

abbrev weights-kept : List ℕ
weights-kept = 1000 ∷ 100 ∷ 100 ∷ 400 ∷ 100 ∷ []

same-weights : weights-kept is-kept page.weights
same-weights = by-text

abbrev dishonest-kept : ℕ
dishonest-kept = 24

same-dishonest : dishonest-kept is-kept page.dishonest
same-dishonest = by-text

abbrev heavy_two-kept : ℕ
heavy_two-kept = 9

same-heavy_two : heavy_two-kept is-kept page.heavy_two
same-heavy_two = by-text

abbrev light_four-kept : ℕ
light_four-kept = 30

same-light_four : light_four-kept is-kept page.light_four
same-light_four = by-text

way-kept : Opening
way-kept = weighed (join (map le16 weights))

same-way : way-kept is-kept page.way
unfolding way-kept page.way
same-way = by-text

one_digest-kept : Bytes
one_digest-kept = replicate 32 1

same-one_digest : one_digest-kept is-kept page.one_digest
unfolding one_digest-kept page.one_digest
same-one_digest = by-text

other_digest-kept : Bytes
other_digest-kept = replicate 32 2

same-other_digest : other_digest-kept is-kept page.other_digest
unfolding other_digest-kept page.other_digest
same-other_digest = by-text

abbrev leaders-kept : Bytes
leaders-kept = 3 ∷ 3 ∷ []

same-leaders : leaders-kept is-kept page.leaders
same-leaders = by-text

openings-kept : List Turn
openings-kept =
    (0, opening way 5 0 2 leaders) ∷ (1, opening way 5 1 2 leaders) ∷ hear 1 (dummy_certificate 1 light_four) ∷
    (2, opening way 5 2 2 leaders) ∷ (0, opening way 5 0 1 (3 ∷ [])) ∷ (3, moving (zeros 5)) ∷
    (0, submitting entry) ∷ (1, reading (zeros 16)) ∷ []

same-openings : openings-kept is-kept page.openings
unfolding openings-kept page.openings
same-openings = by-text

split-kept : List Turn
split-kept =
    hear 0 (block_vote 3 1 one_digest) ∷ hear 1 (block_vote 3 1 other_digest) ∷
    hear 0 (dummy_vote 3 1) ∷ hear 1 (finalize 3 1) ∷ hear 0 (dummy_vote 1 9) ∷ []

same-split : split-kept is-kept page.split
unfolding split-kept page.split
same-split = by-text

timeouts-kept : List Turn
timeouts-kept =
    (0, signalling 1) ∷ (1, signalling 1) ∷ (2, signalling 1) ∷ move 0 ∷ move 1 ∷ move 2 ∷
    hear_packet 0 (dummy_vote 1 9 ∷ dummy_vote 0 1 ∷ []) ∷ (1, packet_delivery (dummy_vote 0 1 ++ (0 ∷ []))) ∷ move 0 ∷
    hear 1 (dummy_certificate 1 heavy_two) ∷ hear 2 (dummy_certificate 1 heavy_two) ∷ move 1 ∷ move 2 ∷ []

same-timeouts : timeouts-kept is-kept page.timeouts
unfolding timeouts-kept page.timeouts
same-timeouts = by-text

agreed-kept : List Turn
agreed-kept =
    hear 0 (proposal 3 2 next_block) ∷ hear 1 (proposal 3 2 next_block) ∷ hear 2 (proposal 3 2 next_block) ∷
    move 0 ∷ move 1 ∷ move 2 ∷
    hear 0 (block_certificate 2 heavy_two next_block) ∷ hear 1 (block_certificate 2 heavy_two next_block) ∷
    hear 2 (block_certificate 2 heavy_two next_block) ∷ move 0 ∷ move 1 ∷ move 2 ∷
    hear 0 (finalize 0 2) ∷ hear 0 (finalize 1 2) ∷ hear 0 (finalize 2 2) ∷ move 0 ∷
    hear 1 (finalize_certificate 2 7) ∷ move 1 ∷ []

same-agreed : agreed-kept is-kept page.agreed
unfolding agreed-kept page.agreed
same-agreed = by-text

readings-kept : List Turn
readings-kept =
    (0, sizing) ∷ (1, fetching 5 2 (zeros 224)) ∷ (1, submitting entry) ∷
    (0, reading (zeros 32)) ∷ (1, reading (zeros 40)) ∷ (2, reading (zeros 32)) ∷ []

same-readings : readings-kept is-kept page.readings
unfolding readings-kept page.readings
same-readings = by-text

module _ (digest : Bytes → Bytes) where
  abbrev list : List Member
  list = page.list digest

  abbrev AnyDigest : Type 0
  AnyDigest = page.AnyDigest digest

  list-kept : List Member
  list-kept = build digest (anything 2) (openings ++ (split ++ (timeouts ++ (agreed ++ readings))))

  same-list : list-kept is-kept page.list digest
  unfolding list-kept page.list
  same-list = by-text

  AnyDigest-kept : (met : Met digest weights dishonest list [] next_log) (many_dishonest : length weights ≤ 3 * ones dishonest (length weights)) (dummy_0 : MemberOf list 0 (λ m. Memᴰ (dummy_certificate 1 heavy_two) (writes digest m))) (dummy_1 : MemberOf list 1 (λ m. Memᴰ (dummy_certificate 1 heavy_two) (writes digest m))) (few_sign : 3 * ones heavy_two (length weights) < 2 * length weights) (refused_1 : MemberOf list 1 (λ m. (m.call ≡ delivery (dummy_certificate 1 light_four)) × ((does digest m).accepted ≡ false))) (many_sign : 2 * length weights ≤ 3 * ones light_four (length weights)) (carries_twice : entries next_block ≡ entry ∷ other_entry ∷ entry ∷ []) (packet_0 : MemberOf list 0 (HearsWhere digest is_packet 0 (votes_dummy 1))) (one_vote : MemberOf list 0 (Hears digest 3 (votes_block 1 one_digest))) (other_vote : MemberOf list 1 (Hears digest 3 (votes_block 1 other_digest))) (two_digests : one_digest ≢ other_digest) (dummy_vote_lem : MemberOf list 0 (Hears digest 3 (votes_dummy 1))) (finalize_vote : MemberOf list 1 (Hears digest 3 (finalizes 1))) →
      AnyDigest
  AnyDigest-kept x0 x1 x2 x3 x4 x5 x6 x7 x8 x9 x10 x11 x12 x13 = record { met = x0; many_dishonest = x1; dummy_0 = x2; dummy_1 = x3; few_sign = x4; refused_1 = x5; many_sign = x6; carries_twice = x7; packet_0 = x8; one_vote = x9; other_vote = x10; two_digests = x11; dummy_vote_lem = x12; finalize_vote = x13 }
