-- Heights of two bytes and edition 3 (document 02, 2.7): where H, the current and the finalized height stand by
-- edition, which bytes of a head of edition 3 are free, both sides of each bound, and blocks and frames of heights from
-- 256 on.
use Rattle.std.specs.Prelude.{ℕ, ◌+◌, ◌*◌, ◌≡◌, refl, Bool, true, false, List, [], ◌∷◌, ◌++◌, map, replicate, take}
use Rattle.protocol.specs.Bytes.{Bytes, zeros, le16}
use Rattle.protocol.specs.Block.{block_well_formed, new_block}
use Rattle.protocol.specs.Frame.{frame_height, frame_well_formed, proposal, block_vote, dummy_vote, finalize}
use Rattle.protocol.specs.Frame.{block_certificate, dummy_certificate, finalize_certificate}
use Rattle.protocol.specs.State.{book_heights, book_current, book_finalized, head_bytes, head_unused, most_heights}
use Rattle.protocol.specs.State.{encode, decode, with_edition}
use Rattle.protocol.specs.Sound.{sound}
use Rattle.check_books.specs.CheckCalls.{stand_in, count_up, one_bytes, splice, first_edition, third_edition}
use Rattle.check_books.specs.CheckStates.{counting, free_places, passing, state, vacant, state_tools}

-- ---- where the numbers of a head stand
-- a head whose bytes count up, of an edition
counted_head : ℕ → Bytes
counted_head edition = splice 7 (edition ∷ []) (counting 0 64)

-- one byte each, at 2, 4 and 5; in edition 3 two bytes each, at 40, 42 and 44, the low one first
read : map (λ head. book_heights head ∷ book_current head ∷ book_finalized head ∷ []) (map counted_head (1 ∷ 2 ∷ 3 ∷ [])) ≡
    (2 ∷ 4 ∷ 5 ∷ []) ∷ (2 ∷ 4 ∷ 5 ∷ []) ∷ (10536 ∷ 11050 ∷ 11564 ∷ []) ∷ []
unfolding state_tools counted_head
read = refl

-- and the bytes that each edition calls zero
unused : map (λ edition. head_unused (counted_head edition)) (1 ∷ 2 ∷ 3 ∷ []) ≡
    counting 8 56 ∷ counting 40 24 ∷ (2 ∷ 4 ∷ 5 ∷ counting 46 18) ∷ []
unfolding state_tools counted_head
unused = refl

-- the head of 258 heights at height 515 with the log of 772, and of two heights at 3 with the log of 1
written : head_bytes (with_edition 3 (state 4 3 1 515 772 9 [] (replicate 258 (vacant 0)))) ∷
    map (λ edition. head_bytes (with_edition edition (state 4 3 1 3 1 9 [] (replicate 2 (vacant 0))))) (1 ∷ 2 ∷ 3 ∷ []) ≡
    (4 ∷ 3 ∷ 0 ∷ 1 ∷ 0 ∷ 0 ∷ 9 ∷ 3 ∷ (one_bytes 4 ++ (zeros 24 ++ (2 ∷ 1 ∷ 3 ∷ 2 ∷ 4 ∷ 3 ∷ zeros 18)))) ∷
    (4 ∷ 3 ∷ 2 ∷ 1 ∷ 3 ∷ 1 ∷ 9 ∷ 1 ∷ zeros 56) ∷
    (4 ∷ 3 ∷ 2 ∷ 1 ∷ 3 ∷ 1 ∷ 9 ∷ 2 ∷ (one_bytes 4 ++ zeros 48)) ∷
    (4 ∷ 3 ∷ 0 ∷ 1 ∷ 0 ∷ 0 ∷ 9 ∷ 3 ∷ (one_bytes 4 ++ (zeros 24 ++ (2 ∷ 0 ∷ 3 ∷ 0 ∷ 1 ∷ 0 ∷ zeros 18)))) ∷ []
unfolding state_tools
written = refl

-- H is at most 1,000 in edition 3 and 63 in any other
most : map most_heights (0 ∷ 1 ∷ 2 ∷ 3 ∷ 4 ∷ []) ≡ 63 ∷ 63 ∷ 63 ∷ 1000 ∷ 63 ∷ []
unfolding state_tools
most = refl

-- ---- books
-- four replicas that weigh 1, own number 2, in edition 2: so many heights with nothing in them; one height with a block
-- that is finalized, and the log of that height or none
empty : ℕ → Bytes
empty heights = 4 ∷ 2 ∷ heights ∷ 0 ∷ 1 ∷ 0 ∷ 0 ∷ 2 ∷ (one_bytes 4 ++ zeros (560 + 880 * heights))

settled : ℕ → Bytes
settled g =
    4 ∷ 2 ∷ 1 ∷ 0 ∷ 1 ∷ g ∷ 0 ∷ 2 ∷ (one_bytes 4 ++ (zeros 560 ++
    ((0 ∷ 2 ∷ 7 ∷ 0 ∷ 0 ∷ 0 ∷ 7 ∷ zeros 9) ++ (zeros 176 ++ (1 ∷ zeros 687)))))

unfoldable books : Unit {0}
unfolding state_tools empty settled
books = tt

is_sound : Bytes → Bool
is_sound bytes = sound stand_in bytes

-- the values of one byte that leave a book sound, in edition 3
sound_with : Bytes → ℕ → List ℕ → List ℕ
sound_with book place values = passing (λ x. is_sound (splice place (x ∷ []) (third_edition book))) values

-- the same state in the other editions, there and back
other_editions : encode (decode (third_edition (settled 1))) ∷
    map (λ edition. encode (with_edition edition (decode (third_edition (settled 1))))) (1 ∷ 2 ∷ []) ++
    map (λ book. encode (with_edition 3 (decode book))) (settled 1 ∷ first_edition (settled 1) ∷ []) ≡
    third_edition (settled 1) ∷ first_edition (settled 1) ∷ settled 1 ∷ replicate 2 (third_edition (settled 1))
unfolding books
other_editions = refl

-- of the raised bytes of a head of edition 3 own number 3, the timer's flag, a pending entry, weights and current
-- height 2 are sound: neither bytes 2, 4 and 5 nor the high bytes of the heights, nor 46 to 63
head_places : free_places is_sound (third_edition (empty 1)) (counting 0 64) ≡ 1 ∷ 3 ∷ 6 ∷ (counting 8 8 ++ (42 ∷ []))
unfolding books is_sound
head_places = refl

-- bytes 2, 4 and 5 are zero, also where they would say the same again; so are 46 and 63
zero_bytes : map (λ place. sound_with (settled 1) place (0 ∷ 1 ∷ 255 ∷ [])) (2 ∷ 4 ∷ 5 ∷ 46 ∷ 63 ∷ []) ≡
    replicate 5 (0 ∷ [])
unfolding books is_sound sound_with
zero_bytes = refl

-- H, the current and the finalized height by both bytes: 257 is not 1, though the book has one height
high_bytes : map (λ place. sound_with (settled 1) place (0 ∷ 1 ∷ [])) (41 ∷ 43 ∷ 45 ∷ []) ≡ replicate 3 (0 ∷ [])
unfolding books is_sound sound_with
high_bytes = refl

-- the current height is 1 to H + 1, the finalized one 0 or finalized, H that of the length
low_bytes : sound_with (empty 3) 42 (counting 0 6) ∷ sound_with (settled 0) 44 (counting 0 4) ∷
    sound_with (empty 1) 44 (0 ∷ 1 ∷ []) ∷ sound_with (settled 1) 40 (counting 0 4) ∷ [] ≡
    (1 ∷ 2 ∷ 3 ∷ 4 ∷ []) ∷ (0 ∷ 1 ∷ []) ∷ (0 ∷ []) ∷ (1 ∷ []) ∷ []
unfolding books is_sound sound_with
low_bytes = refl

-- edition 3 with the numbers further back, 2 and 1 with one byte each, and no other; edition 4 is like none
editions : map (λ book. passing (λ edition. is_sound (splice 7 (edition ∷ []) book)) (0 ∷ 1 ∷ 2 ∷ 3 ∷ 4 ∷ 5 ∷ 255 ∷ []))
    (third_edition (settled 1) ∷ settled 1 ∷ first_edition (settled 1) ∷ []) ≡ (3 ∷ []) ∷ (2 ∷ []) ∷ (1 ∷ []) ∷ []
unfolding books is_sound
editions = refl

-- a book of 64 heights in edition 3 alone, and in no edition one of none
heights : map
    (λ heights. map is_sound (third_edition (empty heights) ∷ empty heights ∷ first_edition (empty heights) ∷ []))
    (0 ∷ 64 ∷ []) ≡ (false ∷ false ∷ false ∷ []) ∷ (true ∷ false ∷ false ∷ []) ∷ []
unfolding books is_sound
heights = refl

-- a notarized block's height and its parent's by both bytes
block_bytes : map (λ place. sound_with (settled 1) place (0 ∷ 1 ∷ [])) (769 ∷ 771 ∷ []) ≡ replicate 2 (0 ∷ [])
unfolding books is_sound sound_with
block_bytes = refl

-- ---- blocks
-- a block of a height on a parent, with a digest that is not zero
on_parent : ℕ → ℕ → Bytes
on_parent h parent = le16 h ++ (le16 parent ++ (zeros 12 ++ (count_up 1 32 ++ zeros 128)))

-- of a height the parents below it: 256 is above 255 and is not 0, so that its digest need not be zero
parents : map
    (λ h. passing (λ parent. block_well_formed h (on_parent h parent)) (0 ∷ 1 ∷ 255 ∷ 256 ∷ 257 ∷ 999 ∷ 1000 ∷ []))
    (1 ∷ 255 ∷ 256 ∷ 257 ∷ 1000 ∷ []) ≡
    [] ∷ (1 ∷ []) ∷ (1 ∷ 255 ∷ []) ∷ (1 ∷ 255 ∷ 256 ∷ []) ∷ (1 ∷ 255 ∷ 256 ∷ 257 ∷ 999 ∷ []) ∷ []
unfolding state_tools on_parent
parents = refl

-- the height is that of both bytes: 256 is not 0, and 257 is not 1
block_heights : map (λ h. passing (λ other. block_well_formed other (new_block h 0 (zeros 32) []))
    (0 ∷ 1 ∷ 255 ∷ 256 ∷ 257 ∷ 1000 ∷ [])) (0 ∷ 1 ∷ 256 ∷ 257 ∷ 1000 ∷ []) ≡
    [] ∷ (1 ∷ []) ∷ (256 ∷ []) ∷ (257 ∷ []) ∷ (1000 ∷ []) ∷ []
unfolding state_tools
block_heights = refl

-- ---- frames
-- every frame of height 1,000 has it in bytes 2 and 3, and is read so; its block in bytes 0 and 1, and the parent's
-- after it
thousand : List Bytes
thousand =
    proposal 1 1000 (new_block 1000 999 (zeros 32) []) ∷ block_vote 1 1000 (zeros 32) ∷ dummy_vote 1 1000 ∷
    finalize 1 1000 ∷ block_certificate 1000 7 (new_block 1000 999 (zeros 32) []) ∷ dummy_certificate 1000 7 ∷
    finalize_certificate 1000 7 ∷ []

thousands : map (λ frame. take 6 frame) thousand ++ (take 4 (new_block 1000 999 (zeros 32) []) ∷ []) ≡
    (1 ∷ 1 ∷ 232 ∷ 3 ∷ 0 ∷ 0 ∷ []) ∷ (2 ∷ 1 ∷ 232 ∷ 3 ∷ 0 ∷ 0 ∷ []) ∷ (3 ∷ 1 ∷ 232 ∷ 3 ∷ 0 ∷ 0 ∷ []) ∷
    (4 ∷ 1 ∷ 232 ∷ 3 ∷ 0 ∷ 0 ∷ []) ∷ (5 ∷ 0 ∷ 232 ∷ 3 ∷ 7 ∷ 0 ∷ []) ∷ (6 ∷ 0 ∷ 232 ∷ 3 ∷ 7 ∷ 0 ∷ []) ∷
    (7 ∷ 0 ∷ 232 ∷ 3 ∷ 7 ∷ 0 ∷ []) ∷ (232 ∷ 3 ∷ 231 ∷ 3 ∷ []) ∷ []
unfolding state_tools thousand
thousands = refl

frame_heights : map frame_height thousand ∷ map frame_height (zeros 2 ∷ (2 ∷ 0 ∷ 1 ∷ 2 ∷ []) ∷ []) ∷ [] ≡
    replicate 7 1000 ∷ (0 ∷ 513 ∷ []) ∷ []
unfolding state_tools thousand
frame_heights = refl

formed : map frame_well_formed thousand ≡ replicate 7 true
unfolding state_tools thousand
formed = refl

-- a frame and its block agree in both bytes of the height
carried : (frame block : ℕ) → List Bool
carried frame block = map frame_well_formed
    (proposal 1 frame (new_block block 0 (zeros 32) []) ∷ block_certificate frame 7 (new_block block 0 (zeros 32) []) ∷ [])

agreeing : carried 3 3 ++ (carried 259 259 ++ (carried 256 256 ++
    (carried 259 3 ++ (carried 3 259 ++ (carried 768 3 ++ (carried 259 260 ++ carried 4 3)))))) ≡
    replicate 6 true ++ replicate 10 false
unfolding state_tools carried
agreeing = refl
