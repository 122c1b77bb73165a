-- A list of calls that meets every premise of demand 3 over a stand-in digest, so that the claim is not vacuous: four
-- replicas that weigh 1 each, with books of editions 1 and 2 side by side. Replica 3 is dishonest and proposes two
-- blocks at one height; replica 0 hears both, and its timer fires by the second with no signal; height 1 passes on its
-- dummy block; height 2 is notarized by votes that come in one packet and are tallied, and its block carries an entry
-- twice; height 3 has the block of an honest leader on that of height 2, and two honest replicas read the log at height
-- 3, one of them also at height 2. The digest must compute here, and SHA-256 does not in the prover; a list for SHA-256
-- is `AnyDigest` of `agreement`.
use Rattle.std.specs.Prelude.{ℕ, ◌≢◌, replicate}
use mathlib.Core.List.{List, [], ◌∷◌, ◌++◌, map, Memᴰ}
use Rattle.protocol.specs.Bytes.{Bytes, byte_at, join, le16, part, zeros}
use Rattle.protocol.specs.Block.{new_block}
use Rattle.protocol.specs.Frame.{proposal, block_vote, dummy_vote, finalize, block_certificate, dummy_certificate}
use Rattle.protocol.specs.Frame.{finalize_certificate}
use Rattle.protocol.specs.Open.{unweighed, weighed}
use Rattle.protocol.specs.Call.{moving, opening, reading, signalling, submitting}
use Rattle.agreement.specs.Lists.{Member, proposes, votes_block, writes}
use Rattle.agreement.specs.Met.{Hears, HearsWhere, MemberOf, Met, ReadsWhere, fires_timer, has_edition, is_packet}
use Rattle.agreement.specs.Turns.{Turn, anything, build, entry, hear, hear_packet, move, next_block, next_log}

-- the stand-in: a digest that computes, and tells the blocks of the list apart, by the height, then the first entry
-- and a half
unfoldable pub sample : Bytes → Bytes
sample block = byte_at block 0 ∷ part block 48 31

-- ---- weights
abbrev pub weights : List ℕ
weights = 1 ∷ 1 ∷ 1 ∷ 1 ∷ []

-- the mask of the dishonest replicas: replica 3
abbrev pub dishonest : ℕ
dishonest = 8

-- ---- the list
-- replica 3 leads heights 1 and 2, replica 0 height 3
abbrev pub leaders : Bytes
leaders = 3 ∷ 3 ∷ 0 ∷ []

-- an entry that replica 0 has pending beside the one of height 2
unfoldable pub last_entry : Bytes
last_entry = replicate 16 7

-- books that hold anything are opened, those of replicas 0 and 2 as document 01 opens them and that of replica 1 with
-- weights; a second opening is refused
unfoldable pub openings : List Turn
openings =
    (0, opening unweighed 4 0 3 leaders) ∷ (1, opening (weighed (join (map le16 weights))) 4 1 3 leaders) ∷
    (2, opening unweighed 4 2 3 leaders) ∷ (0, opening unweighed 4 0 1 (3 ∷ [])) ∷ (3, moving (zeros 5)) ∷
    (0, submitting entry) ∷ (0, submitting last_entry) ∷ []

-- the two blocks that replica 3 proposes at height 1
unfoldable pub one_block : Bytes
one_block = new_block 1 0 (zeros 32) (replicate 16 1 ∷ [])

unfoldable pub other_block : Bytes
other_block = new_block 1 0 (zeros 32) (replicate 16 2 ∷ [])

-- height 1: replica 3 proposes two blocks and votes for both
unfoldable pub split : List Turn
split =
    hear 0 (proposal 3 1 one_block) ∷ hear 1 (proposal 3 1 other_block) ∷
    move 0 ∷ move 1 ∷
    hear 0 (block_vote 3 1 (sample one_block)) ∷ hear 1 (block_vote 3 1 (sample other_block)) ∷
    hear 0 (block_vote 0 1 (sample one_block)) ∷ hear 1 (block_vote 0 1 (sample one_block)) ∷ []

-- replica 0 hears the other block too, by which its timer fires; those of replicas 1 and 2 are signalled, and height 1
-- passes on its dummy block, but for replica 2, which is given nothing more
unfoldable pub timeouts : List Turn
timeouts =
    hear 0 (proposal 3 1 other_block) ∷ (1, signalling 1) ∷ (2, signalling 1) ∷
    move 0 ∷ move 1 ∷ move 2 ∷
    hear 0 (dummy_vote 0 1) ∷ hear 0 (dummy_vote 1 1) ∷ hear 0 (dummy_vote 2 1) ∷ move 0 ∷
    hear 1 (dummy_certificate 1 7) ∷ move 1 ∷ []

-- the votes for the block of height 2, with one amid them that replica 1 never cast, at a height that there is not
unfoldable pub votes : List Bytes
votes =
    block_vote 0 2 (sample next_block) ∷ dummy_vote 1 9 ∷
    block_vote 1 2 (sample next_block) ∷ block_vote 3 2 (sample next_block) ∷ []

-- height 2: replica 3 proposes a block that carries an entry twice; replicas 0 and 1 vote, pass and finalize, and so
-- does replica 3; replica 0 gets the votes in one packet, and replica 1 reads the log
unfoldable pub agreed : List Turn
agreed =
    hear 0 (proposal 3 2 next_block) ∷ hear 1 (proposal 3 2 next_block) ∷ move 0 ∷ move 1 ∷
    hear_packet 0 votes ∷ move 0 ∷ hear 1 (block_certificate 2 11 next_block) ∷ move 1 ∷
    hear 0 (finalize 0 2) ∷ hear 0 (finalize 1 2) ∷ hear 0 (finalize 3 2) ∷ move 0 ∷
    hear 1 (finalize_certificate 2 11) ∷ move 1 ∷ (1, reading (zeros 32)) ∷ []

-- the block that replica 0 proposes at height 3: of its two pending entries the one that the chain does not carry
unfoldable pub last_block : Bytes
last_block = new_block 3 2 (sample next_block) (last_entry ∷ [])

-- height 3: replica 0 proposes, and replica 3 makes the certificates of its own statements and those of replicas 0, 1
unfoldable pub extended : List Turn
extended =
    move 0 ∷ hear 0 (proposal 0 3 last_block) ∷ hear 1 (proposal 0 3 last_block) ∷ move 0 ∷ move 1 ∷
    hear 0 (block_certificate 3 11 last_block) ∷ hear 1 (block_certificate 3 11 last_block) ∷ move 0 ∷ move 1 ∷
    hear 0 (finalize_certificate 3 11) ∷ hear 1 (finalize_certificate 3 11) ∷ move 0 ∷ move 1 ∷ []

unfoldable pub readings : List Turn
readings = (0, reading (zeros 48)) ∷ (1, reading (zeros 50)) ∷ []

unfoldable pub list : List Member
list = build sample (anything 3) (openings ++ (split ++ (timeouts ++ (agreed ++ (extended ++ readings)))))

-- ---- what it shows
-- the log at height 3
unfoldable pub last_log : Bytes
last_log = next_log ++ last_entry

pub record Witness : Type 0 where
  pub met : Met sample weights dishonest list next_log last_log
  -- replica 0 reads it from a book of edition 1, replica 1 from one of edition 2
  pub edition_0 : MemberOf list 0 (ReadsWhere sample (has_edition 1) last_log)
  pub edition_1 : MemberOf list 1 (ReadsWhere sample (has_edition 2) last_log)
  -- replica 3 has proposed two blocks at one height
  pub one_proposal : MemberOf list 0 (Hears sample 3 (proposes 1 one_block))
  pub other_proposal : MemberOf list 1 (Hears sample 3 (proposes 1 other_block))
  pub two_blocks : one_block ≢ other_block
  -- replica 0 hears the second one as well, and its timer fires by that
  pub fires_0 : MemberOf list 0 (HearsWhere sample (fires_timer sample) 3 (proposes 1 other_block))
  -- replicas 0 and 1 pass height 1 with the certificate of its dummy block
  pub dummy_0 : MemberOf list 0 (λ m. Memᴰ (dummy_certificate 1 7) (writes sample m))
  pub dummy_1 : MemberOf list 1 (λ m. Memᴰ (dummy_certificate 1 7) (writes sample m))
  -- replica 0 gets the votes for height 2 in a packet
  pub packet_0 : MemberOf list 0 (HearsWhere sample is_packet 1 (votes_block 2 (sample next_block)))
  -- and proposes at height 3 the entry that the chain does not carry
  pub offers_0 : MemberOf list 0 (λ m. Memᴰ (proposal 0 3 last_block) (writes sample m))
