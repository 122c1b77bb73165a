-- Deliver over small states: each row of its refusals where it alone decides.
use Rattle.std.specs.Prelude.{ℕ, ◌≡◌, refl, List, [], ◌∷◌, ◌++◌, map, replicate}
use Rattle.std.proofs.Math.Option.{Option, some, none}
use Rattle.protocol.specs.Bytes.{Bytes, zeros}
use Rattle.protocol.specs.Tests.{first_refusal}
use Rattle.protocol.specs.Block.{new_block}
use Rattle.protocol.specs.Frame.{proposal, block_vote, dummy_vote, finalize, block_certificate, dummy_certificate}
use Rattle.protocol.specs.Frame.{finalize_certificate}
use Rattle.protocol.specs.State.{State}
use Rattle.protocol.specs.Deliver.{read_rows, clash_rows}
use Rattle.check_books.specs.CheckCalls.{splice}
use Rattle.check_books.specs.CheckStates.{entry, height, vacant, state, of_four, of_sixteen, state_tools}

-- ---- states and what a delivery says of them
-- the refusal's number, and 0 where there is none
number : Option ℕ → ℕ
number none = 0
number (some x) = x

refusals : State → List Bytes → List ℕ
refusals s frames = map (λ frame. number (first_refusal (read_rows s frame ++ clash_rows s frame))) frames

-- n replicas with three heights that 0, 1 and the last replica lead
of : ℕ → ℕ → State
of n lastReplica = state n 0 0 1 0 0 [] (vacant 0 ∷ vacant 1 ∷ vacant lastReplica ∷ [])

first : Bytes
first = new_block 1 0 (zeros 32) (entry 1 ∷ [])

other : Bytes
other = new_block 1 0 (zeros 32) (entry 2 ∷ [])

second : Bytes
second = new_block 2 0 (zeros 32) []

third : Bytes
third = new_block 3 0 (zeros 32) []

unfoldable deliveries : Unit {0}
unfolding state_tools number refusals of first other second third
deliveries = tt

-- ---- 6: heights 0, 1, 3 and 4 of three, for each kind; a block of height 0 is malformed
heights : refusals (of 4 3)
    (block_vote 0 0 (zeros 32) ∷ block_vote 0 1 (zeros 32) ∷ block_vote 0 3 (zeros 32) ∷ block_vote 0 4 (zeros 32) ∷
    dummy_vote 0 0 ∷ dummy_vote 0 1 ∷ dummy_vote 0 3 ∷ dummy_vote 0 4 ∷
    finalize 0 0 ∷ finalize 0 1 ∷ finalize 0 3 ∷ finalize 0 4 ∷
    dummy_certificate 0 7 ∷ dummy_certificate 1 7 ∷ dummy_certificate 3 7 ∷ dummy_certificate 4 7 ∷
    finalize_certificate 0 7 ∷ finalize_certificate 1 7 ∷ finalize_certificate 3 7 ∷ finalize_certificate 4 7 ∷
    proposal 0 0 (new_block 0 0 (zeros 32) []) ∷ proposal 0 1 first ∷ proposal 3 3 third ∷
    proposal 0 4 (new_block 4 0 (zeros 32) []) ∷
    block_certificate 0 7 (new_block 0 0 (zeros 32) []) ∷ block_certificate 1 7 first ∷ block_certificate 3 7 third ∷
    block_certificate 4 7 (new_block 4 0 (zeros 32) []) ∷ []) ≡
    6 ∷ 0 ∷ 0 ∷ 6 ∷
    6 ∷ 0 ∷ 0 ∷ 6 ∷
    6 ∷ 0 ∷ 0 ∷ 6 ∷
    6 ∷ 0 ∷ 0 ∷ 6 ∷
    6 ∷ 0 ∷ 0 ∷ 6 ∷
    4 ∷ 0 ∷ 0 ∷ 6 ∷
    4 ∷ 0 ∷ 0 ∷
    6 ∷ []
unfolding deliveries
heights = refl

-- ---- 5: the last signer and the next, the last bit and the next, of 4, 16 and 1 replicas
signers : refusals (of 4 3)
    (block_vote 3 1 (zeros 32) ∷ block_vote 4 1 (zeros 32) ∷ dummy_vote 3 1 ∷ dummy_vote 4 1 ∷ finalize 3 1 ∷
    finalize 4 1 ∷ finalize 255 1 ∷
    proposal 4 1 first ∷ block_certificate 1 14 first ∷ block_certificate 1 23 first ∷ dummy_certificate 1 14 ∷
    dummy_certificate 1 23 ∷
    finalize_certificate 1 14 ∷ finalize_certificate 1 23 ∷ finalize_certificate 1 16 ∷ finalize_certificate 1 32768 ∷
    []) ++
    (refusals (of 16 15)
    (block_vote 15 1 (zeros 32) ∷ block_vote 16 1 (zeros 32) ∷ dummy_certificate 1 65535 ∷ dummy_certificate 1 65504 ∷
    []) ++
    refusals (state 1 0 0 1 0 0 [] (vacant 0 ∷ []))
    (dummy_vote 0 1 ∷ dummy_vote 1 1 ∷ dummy_certificate 1 1 ∷ dummy_certificate 1 2 ∷ dummy_certificate 1 3 ∷ [])) ≡
    0 ∷ 5 ∷ 0 ∷ 5 ∷ 0 ∷ 5 ∷ 5 ∷
    5 ∷ 0 ∷ 5 ∷ 0 ∷ 5 ∷
    0 ∷ 5 ∷ 5 ∷ 5 ∷
    0 ∷ 5 ∷ 0 ∷ 0 ∷
    0 ∷ 5 ∷ 0 ∷ 5 ∷ 5 ∷ []
unfolding deliveries
signers = refl

-- ---- 7: each replica's proposal at each height; who votes need not lead
leaders : refusals (of 4 3)
    (proposal 0 1 first ∷ proposal 1 1 first ∷ proposal 2 1 first ∷ proposal 3 1 first ∷
    proposal 0 2 second ∷ proposal 1 2 second ∷ proposal 2 2 second ∷ proposal 3 2 second ∷
    proposal 0 3 third ∷ proposal 1 3 third ∷ proposal 2 3 third ∷ proposal 3 3 third ∷
    block_vote 2 1 (zeros 32) ∷ dummy_vote 2 1 ∷ finalize 2 1 ∷ []) ≡
    0 ∷ 7 ∷ 7 ∷ 7 ∷
    7 ∷ 0 ∷ 7 ∷ 7 ∷
    7 ∷ 7 ∷ 7 ∷ 0 ∷
    0 ∷ 0 ∷ 0 ∷ []
unfolding deliveries
leaders = refl

-- ---- 9: no signer, two and three of four; two of three; ten and eleven of sixteen, the first and the last
quorums : refusals (of 4 3)
    (block_certificate 1 0 first ∷ block_certificate 1 12 first ∷ block_certificate 1 13 first ∷
    dummy_certificate 1 0 ∷ dummy_certificate 1 12 ∷
    dummy_certificate 1 13 ∷ finalize_certificate 1 0 ∷ finalize_certificate 1 12 ∷ finalize_certificate 1 13 ∷ []) ++
    (refusals (of 3 2) (dummy_certificate 1 1 ∷ dummy_certificate 1 3 ∷ dummy_certificate 1 6 ∷ []) ++
    refusals (of 16 15)
    (dummy_certificate 1 1023 ∷ dummy_certificate 1 2047 ∷ dummy_certificate 1 65472 ∷ dummy_certificate 1 65504 ∷ [])) ≡
    9 ∷ 9 ∷ 0 ∷ 9 ∷ 9 ∷
    0 ∷ 9 ∷ 9 ∷ 0 ∷
    9 ∷ 0 ∷ 0 ∷
    9 ∷ 0 ∷ 9 ∷ 0 ∷ []
unfolding deliveries
quorums = refl

-- ---- 8 and 10: unlike what is kept
-- a digest for each of sixteen replicas: replica s has bytes s
digests : Bytes
digests = splice 480 (replicate 32 15) (splice 96 (replicate 32 3) (splice 32 (replicate 32 1) (zeros 512)))

-- sixteen replicas, of whom 0, 3 and 15 voted; a proposal is held and another block notarized
busy : State
busy = of_sixteen (height 0 3 65535 0 0 32777 first other digests)

-- the same bytes where nothing is held, notarized or voted
stale : State
stale = of_sixteen (height 0 0 65535 0 0 0 first other digests)

clashes : map (λ s. refusals s
    (proposal 0 1 first ∷ proposal 0 1 other ∷ proposal 0 1 (splice 175 (1 ∷
    []) (new_block 1 0 (zeros 32) (replicate 8 (entry 1)))) ∷
    block_vote 0 1 (zeros 32) ∷ block_vote 0 1 (zeros 31 ++ (1 ∷ [])) ∷ block_vote 0 1 (1 ∷ zeros 31) ∷
    block_vote 3 1 (replicate 32 3) ∷ block_vote 3 1 (replicate 32 1) ∷ block_vote 15 1 (replicate 32 15) ∷
    block_vote 15 1 (zeros 32) ∷
    block_vote 1 1 (replicate 32 7) ∷ block_vote 14 1 (replicate 32 7) ∷
    block_certificate 1 65535 other ∷ block_certificate 1 65535 first ∷ block_certificate 1 2047 other ∷
    dummy_vote 0 1 ∷ finalize 3 1 ∷ dummy_certificate 1 65535 ∷ finalize_certificate 1 65535 ∷ []))
    (busy ∷ stale ∷ []) ≡
    (0 ∷ 8 ∷ 8 ∷
    0 ∷ 8 ∷ 8 ∷
    0 ∷ 8 ∷ 0 ∷ 8 ∷
    0 ∷ 0 ∷
    0 ∷ 10 ∷ 0 ∷
    0 ∷ 0 ∷ 0 ∷ 0 ∷ []) ∷ replicate 19 0 ∷ []
unfolding deliveries digests busy stale
clashes = refl

-- the proposals and votes that are unlike at the current height: a proposal of the leader is no clash there, one of
-- another replica is refused before, and a voter's second digest is a clash as at any height
second_proposal_at_current : refusals (state 4 0 0 1 0 0 [] (height 0 1 0 0 0 8 first [] (zeros 512) ∷ []))
    (proposal 0 1 first ∷ proposal 0 1 other ∷ proposal 1 1 other ∷ block_vote 3 1 (zeros 32) ∷
    block_vote 3 1 (replicate 32 1) ∷ []) ≡ 0 ∷ 0 ∷ 7 ∷ 0 ∷ 8 ∷ []
unfolding deliveries
second_proposal_at_current = refl

-- blocks of eight entries that differ in their last byte
crowded : Bytes
crowded = new_block 1 0 (zeros 32) (replicate 8 (entry 1))

near_clashes : refusals (of_four (height 0 3 7 0 0 0 crowded crowded []))
    (proposal 0 1 crowded ∷ proposal 0 1 (splice 175 (2 ∷ []) crowded) ∷ block_certificate 1 7 crowded ∷
    block_certificate 1 7 (splice 175 (2 ∷ []) crowded) ∷ []) ≡ 0 ∷ 8 ∷ 0 ∷ 10 ∷ []
unfolding deliveries crowded
near_clashes = refl
