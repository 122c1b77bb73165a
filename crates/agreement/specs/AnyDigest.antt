-- A list of calls that meets every premise of demand 3 whatever the digest, if digests have 32 bytes, so at SHA-256:
-- one block is shown, and no book keeps its digest, so that nothing has to be computed of it. Five replicas have
-- unequal weights: replica 0 is large, replica 3 of medium weight, the others small. Replicas 3 and 4 are dishonest: by
-- weight less than a third, by number more. Replica 3 votes for two digests at one height, and there both for the dummy
-- block and to finalize. Height 1 passes on its dummy block, height 2 is notarized by a certificate, both by the
-- weight of replicas 0 and 3 alone; its block carries an entry twice, and two honest replicas read it once.
use Rattle.std.specs.Prelude.{ℕ, ◌*◌, ◌<◌, ◌≤◌, ◌≡◌, ◌≢◌, false, length, replicate}
use mathlib.Core.List.{List, [], ◌∷◌, ◌++◌, map, Memᴰ}
use Rattle.protocol.specs.Bytes.{Bytes, join, le16, zeros}
use Rattle.protocol.specs.Block.{entries}
use Rattle.protocol.specs.Mask.{ones}
use Rattle.protocol.specs.Frame.{proposal, block_vote, dummy_vote, finalize, block_certificate, dummy_certificate}
use Rattle.protocol.specs.Frame.{finalize_certificate}
use Rattle.protocol.specs.Open.{Opening, weighed}
use Rattle.protocol.specs.Call.{delivery, fetching, moving, opening, packet_delivery, reading, signalling, sizing}
use Rattle.protocol.specs.Call.{submitting}
use Rattle.agreement.specs.Lists.{Member, votes_block, votes_dummy, finalizes, does, writes}
use Rattle.agreement.specs.Met.{Hears, HearsWhere, MemberOf, Met, is_packet}
use Rattle.agreement.specs.Turns.{Turn, anything, build, entry, hear, hear_packet, move, next_block, next_log}
use Rattle.agreement.specs.Turns.{other_entry}

-- ---- weights
-- a large partner, a dishonest one of medium weight, and three small ones, of which replica 4 is dishonest too
abbrev pub weights : List ℕ
weights = 1000 ∷ 100 ∷ 100 ∷ 400 ∷ 100 ∷ []

-- the mask of the dishonest replicas, 3 and 4: 500 of 1,700, and two of five
abbrev pub dishonest : ℕ
dishonest = 24

-- replicas 0 and 3: two of five, which are a quorum with 1,400 of 1,700
abbrev pub heavy_two : ℕ
heavy_two = 9

-- replicas 1 to 4: four of five, which are none with 700
abbrev pub light_four : ℕ
light_four = 30

unfoldable pub way : Opening
way = weighed (join (map le16 weights))

-- ---- the list
-- two digests that no block of the list need have
unfoldable pub one_digest : Bytes
one_digest = replicate 32 1

unfoldable pub other_digest : Bytes
other_digest = replicate 32 2

-- replica 3 leads both heights
abbrev pub leaders : Bytes
leaders = 3 ∷ 3 ∷ []

-- books that hold anything are opened; a second opening is refused, and so is a certificate that lacks weight; an
-- empty log is read
unfoldable pub openings : List Turn
openings =
    (0, opening way 5 0 2 leaders) ∷ (1, opening way 5 1 2 leaders) ∷ hear 1 (dummy_certificate 1 light_four) ∷
    (2, opening way 5 2 2 leaders) ∷ (0, opening way 5 0 1 (3 ∷ [])) ∷ (3, moving (zeros 5)) ∷
    (0, submitting entry) ∷ (1, reading (zeros 16)) ∷ []

-- height 1: replica 3 proposes nothing, votes for two digests, and both for the dummy block and to finalize; replica 0
-- hears a vote that replica 1 never cast, at a height that there is not, which is refused
unfoldable pub split : List Turn
split =
    hear 0 (block_vote 3 1 one_digest) ∷ hear 1 (block_vote 3 1 other_digest) ∷
    hear 0 (dummy_vote 3 1) ∷ hear 1 (finalize 3 1) ∷ hear 0 (dummy_vote 1 9) ∷ []

-- the timers fire; replica 0 gets its own vote in a packet, after one that replica 1 never cast, and height 1 passes on
-- its dummy block, by two votes
unfoldable pub timeouts : List Turn
timeouts =
    (0, signalling 1) ∷ (1, signalling 1) ∷ (2, signalling 1) ∷ move 0 ∷ move 1 ∷ move 2 ∷
    hear_packet 0 (dummy_vote 1 9 ∷ dummy_vote 0 1 ∷ []) ∷ (1, packet_delivery (dummy_vote 0 1 ++ (0 ∷ []))) ∷ move 0 ∷
    hear 1 (dummy_certificate 1 heavy_two) ∷ hear 2 (dummy_certificate 1 heavy_two) ∷ move 1 ∷ move 2 ∷ []

-- height 2: replica 3 proposes, the honest replicas vote, and replica 3 makes the certificate of its own vote and that
-- of replica 0; all honest replicas pass and finalize
unfoldable pub agreed : List Turn
agreed =
    hear 0 (proposal 3 2 next_block) ∷ hear 1 (proposal 3 2 next_block) ∷ hear 2 (proposal 3 2 next_block) ∷
    move 0 ∷ move 1 ∷ move 2 ∷
    hear 0 (block_certificate 2 heavy_two next_block) ∷ hear 1 (block_certificate 2 heavy_two next_block) ∷
    hear 2 (block_certificate 2 heavy_two next_block) ∷ move 0 ∷ move 1 ∷ move 2 ∷
    hear 0 (finalize 0 2) ∷ hear 0 (finalize 1 2) ∷ hear 0 (finalize 2 2) ∷ move 0 ∷
    hear 1 (finalize_certificate 2 7) ∷ move 1 ∷ []

-- a size is asked for, a certificate is fetched, and the logs are read; an entry that the log holds is refused
unfoldable pub readings : List Turn
readings =
    (0, sizing) ∷ (1, fetching 5 2 (zeros 224)) ∷ (1, submitting entry) ∷
    (0, reading (zeros 32)) ∷ (1, reading (zeros 40)) ∷ (2, reading (zeros 32)) ∷ []

module _ (digest : Bytes → Bytes) where
  unfoldable pub list : List Member
  list = build digest (anything 2) (openings ++ (split ++ (timeouts ++ (agreed ++ readings))))

  -- ---- what it shows
  pub record AnyDigest : Type 0 where
    pub met : Met digest weights dishonest list [] next_log
    -- the third is one of the weight: by number the dishonest replicas are a third or more
    pub many_dishonest : length weights ≤ 3 * ones dishonest (length weights)
    -- replicas 0 and 1 pass height 1 with the certificate of its dummy block, whose signers are no quorum by number
    pub dummy_0 : MemberOf list 0 (λ m. Memᴰ (dummy_certificate 1 heavy_two) (writes digest m))
    pub dummy_1 : MemberOf list 1 (λ m. Memᴰ (dummy_certificate 1 heavy_two) (writes digest m))
    pub few_sign : 3 * ones heavy_two (length weights) < 2 * length weights
    -- replica 1 refuses the certificate of those that are one by number
    pub refused_1 : MemberOf list 1 (λ m.
        (m.call ≡ delivery (dummy_certificate 1 light_four)) × ((does digest m).accepted ≡ false))
    pub many_sign : 2 * length weights ≤ 3 * ones light_four (length weights)
    -- the block carries an entry twice
    pub carries_twice : entries next_block ≡ entry ∷ other_entry ∷ entry ∷ []
    -- replica 0 gets its vote for the dummy block in a packet
    pub packet_0 : MemberOf list 0 (HearsWhere digest is_packet 0 (votes_dummy 1))
    -- replica 3 has voted for two digests at one height
    pub one_vote : MemberOf list 0 (Hears digest 3 (votes_block 1 one_digest))
    pub other_vote : MemberOf list 1 (Hears digest 3 (votes_block 1 other_digest))
    pub two_digests : one_digest ≢ other_digest
    -- and both for the dummy block and to finalize, which no honest replica does
    pub dummy_vote_lem : MemberOf list 0 (Hears digest 3 (votes_dummy 1))
    pub finalize_vote : MemberOf list 1 (Hears digest 3 (finalizes 1))
