-- Blocks and frames of every kind: which of their bytes are free, one by one, the bounds of their fields, and where
-- each field stands.
use Rattle.std.specs.Prelude.{ℕ, ◌≡◌, refl, List, [], ◌∷◌, ◌++◌, Bool, true, not, replicate, take}
use Rattle.protocol.specs.Bytes.{Bytes, zeros, join}
use Rattle.protocol.specs.Tests.{all_of}
use Rattle.protocol.specs.Block.{block_height, parent_height, parent_digest, entry_count, entries, all_entries}
use Rattle.protocol.specs.Block.{block_well_formed, new_block}
use Rattle.protocol.specs.Frame.{kind, signer, frame_height, signer_mask, frame_digest, frame_block, frame_well_formed}
use Rattle.protocol.specs.Frame.{proposal, block_vote, dummy_vote, finalize, block_certificate, dummy_certificate}
use Rattle.protocol.specs.Frame.{finalize_certificate}
use Rattle.check_books.specs.CheckCalls.{count_up, splice}
use Rattle.check_books.specs.CheckStates.{entry, counting, free_places, passing, state_tools}

-- ---- blocks
-- height 3 on height 2, a parent digest of bytes 1 to 32, three entries
block : Bytes
block = 3 ∷ 0 ∷ 2 ∷ 0 ∷ 3 ∷ (zeros 11 ++ (count_up 1 32 ++ (entry 7 ++ (entry 8 ++ (entry 9 ++ zeros 80)))))

-- height 3 on height 0, no entries
lowest : Bytes
lowest = 3 ∷ zeros 175

-- height 3 on height 1, eight entries
crowded : Bytes
crowded = 3 ∷ 0 ∷ 1 ∷ 0 ∷ 8 ∷ (zeros 11 ++ (count_up 1 32 ++ join (replicate 8 (entry 7))))

unfoldable blocks : Unit {0}
unfolding state_tools block lowest crowded
blocks = tt

-- a raised byte 2 is a parent that is not below the block; a fourth entry may be zero; digest and entries are free
block_places : free_places (block_well_formed 3) block (counting 0 176) ≡ 4 ∷ counting 16 80
unfolding blocks
block_places = refl

-- without a parent the digest is zero; height 1 would be one, and one zero entry is one
lowest_places : free_places (block_well_formed 3) lowest (counting 0 176) ≡ 2 ∷ 4 ∷ []
unfolding blocks
lowest_places = refl

-- there is no ninth entry
crowded_places : free_places (block_well_formed 3) crowded (counting 0 176) ≡ 2 ∷ counting 16 160
unfolding blocks
crowded_places = refl

block_bounds : all_of
    (block_well_formed 3 block ∷
    block_well_formed 3 lowest ∷
    block_well_formed 3 crowded ∷
    -- the lengths beside 176
    not (block_well_formed 3 (take 175 block)) ∷
    not (block_well_formed 3 (block ++ (0 ∷ []))) ∷
    -- the heights beside its own; heights 1, 63 and 255; height 0, which has none below it
    not (block_well_formed 2 block) ∷
    not (block_well_formed 4 block) ∷
    block_well_formed 1 (1 ∷ zeros 175) ∷
    block_well_formed 63 (63 ∷ 0 ∷ 62 ∷ zeros 173) ∷
    block_well_formed 255 (255 ∷ 0 ∷ 254 ∷ zeros 173) ∷
    not (block_well_formed 63 (63 ∷ 0 ∷ 63 ∷ zeros 173)) ∷
    not (block_well_formed 0 (zeros 176)) ∷
    -- two counted where three stand
    not (block_well_formed 3 (splice 4 (2 ∷ []) block)) ∷
    -- a parent digest without a parent
    not (block_well_formed 3 (splice 2 (0 ∷ []) block)) ∷ []) ≡ true
unfolding blocks
block_bounds = refl

-- the fields by their places, and back
block_fields_lem : (block_height block ∷ parent_height block ∷ entry_count block ∷ []) ∷ parent_digest block ∷
    (entries block ++ all_entries (crowded ∷ block ∷ [])) ≡
    (3 ∷ 2 ∷ 3 ∷ []) ∷ count_up 1 32 ∷ entry 7 ∷ entry 8 ∷ entry 9 ∷
    entry 7 ∷ entry 7 ∷ entry 7 ∷ entry 7 ∷ entry 7 ∷ entry 7 ∷ entry 7 ∷ entry 7 ∷ entry 7 ∷ entry 8 ∷ entry 9 ∷ []
unfolding blocks
block_fields_lem = refl

block_made : new_block 3 2 (count_up 1 32) (entry 7 ∷ entry 8 ∷ entry 9 ∷ []) ≡ block
unfolding blocks
block_made = refl

-- ---- frames
-- kinds 1 and 5 with that block; kind 2 with a digest; the others
proposed : Bytes
proposed = 1 ∷ 1 ∷ 3 ∷ (zeros 45 ++ block)

voted : Bytes
voted = 2 ∷ 1 ∷ 3 ∷ (zeros 13 ++ (count_up 1 32 ++ zeros 176))

dummy_voted : Bytes
dummy_voted = 3 ∷ 1 ∷ 3 ∷ zeros 221

finalized : Bytes
finalized = 4 ∷ 1 ∷ 3 ∷ zeros 221

certified : Bytes
certified = 5 ∷ 0 ∷ 3 ∷ 0 ∷ 7 ∷ 1 ∷ (zeros 42 ++ block)

dummy_certified : Bytes
dummy_certified = 6 ∷ 0 ∷ 3 ∷ 0 ∷ 7 ∷ 1 ∷ zeros 218

finalize_certified : Bytes
finalize_certified = 7 ∷ 0 ∷ 3 ∷ 0 ∷ 7 ∷ 1 ∷ zeros 218

-- the places of a frame
places : List ℕ
places = counting 0 224

unfoldable frames : Unit {0}
unfolding blocks places proposed voted dummy_voted finalized certified dummy_certified finalize_certified
frames = tt

-- kind 1: the signer; of the block its fourth entry, parent digest and entries
proposal_places : free_places frame_well_formed proposed places ≡ 1 ∷ 52 ∷ counting 64 80
unfolding frames
proposal_places = refl

-- kind 2: the signer, the height, the digest
vote_places : free_places frame_well_formed voted places ≡ 1 ∷ 2 ∷ 3 ∷ counting 16 32
unfolding frames
vote_places = refl

-- kind 3: the signer, the height, and the kind, since kind 4 uses the same
dummy_vote_places : free_places frame_well_formed dummy_voted places ≡ 0 ∷ 1 ∷ 2 ∷ 3 ∷ []
unfolding frames
dummy_vote_places = refl

-- kind 4: the signer and the height; kind 5 has no signer
finalize_places : free_places frame_well_formed finalized places ≡ 1 ∷ 2 ∷ 3 ∷ []
unfolding frames
finalize_places = refl

-- kind 5: the mask, and of the block as in kind 1
certificate_places : free_places frame_well_formed certified places ≡ 4 ∷ 5 ∷ 52 ∷ counting 64 80
unfolding frames
certificate_places = refl

-- kind 6: the height, the mask, and the kind, since kind 7 uses the same
dummy_certificate_places : free_places frame_well_formed dummy_certified places ≡ 0 ∷ 2 ∷ 3 ∷ 4 ∷ 5 ∷ []
unfolding frames
dummy_certificate_places = refl

-- kind 7: the height and the mask; there is no kind 8
finalize_certificate_places : free_places frame_well_formed finalize_certified places ≡ 2 ∷ 3 ∷ 4 ∷ 5 ∷ []
unfolding frames
finalize_certificate_places = refl

-- of a frame that is zero but for its kind, kinds 2, 3, 4, 6 and 7 are well formed; 1 and 5 lack a block, 0 and 8 up
-- are none
kinds : passing (λ k. frame_well_formed (k ∷ zeros 223)) (0 ∷ 1 ∷ 2 ∷ 3 ∷ 4 ∷ 5 ∷ 6 ∷ 7 ∷ 8 ∷ 255 ∷ []) ≡ 2 ∷ 3 ∷ 4 ∷
    6 ∷ 7 ∷ []
unfolding frames
kinds = refl

frame_bounds : all_of
    (frame_well_formed proposed ∷
    frame_well_formed voted ∷
    frame_well_formed finalized ∷
    frame_well_formed certified ∷
    frame_well_formed finalize_certified ∷
    -- any signer, height and mask are left to refusals 5 and 6
    frame_well_formed (4 ∷ 255 ∷ 255 ∷ 255 ∷ zeros 220) ∷
    frame_well_formed (6 ∷ 0 ∷ 0 ∷ 0 ∷ 255 ∷ 255 ∷ zeros 218) ∷
    -- the lengths beside 224
    not (frame_well_formed (take 223 voted)) ∷
    not (frame_well_formed (voted ++ (0 ∷ []))) ∷
    not (frame_well_formed (take 223 proposed)) ∷
    not (frame_well_formed (proposed ++ (0 ∷ []))) ∷
    not (frame_well_formed []) ∷ []) ≡ true
unfolding frames
frame_bounds = refl

-- the fields by their places
frame_fields_lem : (kind certified ∷ signer proposed ∷ frame_height certified ∷ signer_mask certified ∷ []) ∷
    frame_digest voted ∷ frame_block certified ∷ [] ≡
    (5 ∷ 1 ∷ 3 ∷ 263 ∷ []) ∷ count_up 1 32 ∷ block ∷ []
unfolding frames
frame_fields_lem = refl

-- the frames that calls write
frames_made : proposal 1 3 block ∷ block_vote 1 3 (count_up 1 32) ∷ dummy_vote 1 3 ∷ finalize 1 3 ∷
    block_certificate 3 263 block ∷
    dummy_certificate 3 263 ∷ finalize_certificate 3 263 ∷ [] ≡
    proposed ∷ voted ∷ dummy_voted ∷ finalized ∷ certified ∷ dummy_certified ∷ finalize_certified ∷ []
unfolding frames
frames_made = refl

-- heights have two bytes, the low one first; HeightChecks has their bounds
height_bytes : (block_height (1 ∷ 2 ∷ 3 ∷ 4 ∷ []) ∷ parent_height (1 ∷ 2 ∷ 3 ∷ 4 ∷ []) ∷
    frame_height (1 ∷ 2 ∷ 3 ∷ 4 ∷ []) ∷ []) ∷ take 4 (new_block 513 1027 (zeros 32) []) ∷ take 4 (dummy_vote 1 1027) ∷ [] ≡
    (513 ∷ 1027 ∷ 1027 ∷ []) ∷ (1 ∷ 2 ∷ 3 ∷ 4 ∷ []) ∷ (3 ∷ 1 ∷ 3 ∷ 4 ∷ []) ∷ []
unfolding frames
height_bytes = refl
