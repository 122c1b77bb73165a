-- A list of calls that meets every premise of demand 3 with observers whatever the digest, if digests have 32 bytes, so
-- at SHA-256: four replicas that weigh 1 each, of which replica 3 is dishonest and leads, and three observers. Of the
-- honest replicas and of the observers each has a book of another edition, opened as document 01 or request 2.3, as
-- request 2.6 or as request 2.7 opens it, and all six read the block of height 1, observer 1 the empty log before. The
-- books of edition 3 have a height more.
use Rattle.std.specs.Prelude.{ℕ, ◌<◌, ◌≡◌, List, [], ◌∷◌, ◌++◌, map, replicate}
use Rattle.protocol.specs.Bytes.{Bytes, join, le16, zeros}
use Rattle.protocol.specs.Block.{new_block}
use Rattle.protocol.specs.Frame.{proposal, block_certificate, finalize_certificate}
use Rattle.protocol.specs.State.{book_size}
use Rattle.protocol.specs.Open.{unweighed, weighed, long}
use Rattle.protocol.specs.Call.{opening, reading}
use Rattle.protocol.specs.Observer.{observer_book_size}
use Rattle.protocol.specs.ObserverCall.{observer_moving, observer_opening, observer_reading}
use Rattle.agreement.specs.Lists.{Reads}
use Rattle.agreement.specs.Met.{MemberOf}
use Rattle.agreement.specs.ObserverLists.{AnyMember, replica_calls}
use Rattle.agreement.specs.ObserverMet.{ObservedMet, ObserverOf, ObserverReads}
use Rattle.agreement.specs.ObserverWitness.{AnyTurn, build_any, by_observer, by_replicas, observer_hears}
use Rattle.agreement.specs.Turns.{Turn, entry, hear, move, other_entry}

-- ---- weights
abbrev pub weights : List ℕ
weights = replicate 4 1

-- the mask of the dishonest replicas: replica 3
abbrev pub dishonest : ℕ
dishonest = 8

-- replicas 0, 1 and 3, which are a quorum
abbrev pub three : ℕ
three = 11

-- as openings are given them
unfoldable pub ones : Bytes
ones = join (map le16 weights)

-- ---- the list
-- what the books hold before they are opened: one height, and two for those of edition 3
unfoldable pub any_books : List Bytes
any_books = replicate (book_size 1) 9 ∷ replicate (book_size 1) 9 ∷ replicate (book_size 2) 9 ∷ []

unfoldable pub any_observed : List Bytes
any_observed =
    replicate (observer_book_size 1) 9 ∷ replicate (observer_book_size 1) 9 ∷ replicate (observer_book_size 2) 9 ∷ []

unfoldable pub openings : List Turn
openings =
    (0, opening unweighed 4 0 1 (3 ∷ [])) ∷ (1, opening (weighed ones) 4 1 1 (3 ∷ [])) ∷
    (2, opening (long ones) 4 2 2 (3 ∷ 3 ∷ [])) ∷ []

unfoldable pub observer_openings : List AnyTurn
observer_openings =
    by_observer 0 (observer_opening unweighed 4 1) ∷ by_observer 1 (observer_opening (weighed ones) 4 1) ∷
    by_observer 2 (observer_opening (long ones) 4 2) ∷ by_observer 1 (observer_reading (zeros 16)) ∷ []

-- the block that replica 3 proposes
unfoldable pub block : Bytes
block = new_block 1 0 (zeros 32) (entry ∷ other_entry ∷ [])

unfoldable pub log : Bytes
log = entry ++ other_entry

-- replica 3 proposes, the others vote, and replica 3 makes the certificates of its own statements and of theirs
unfoldable pub agreed : List Turn
agreed =
    hear 0 (proposal 3 1 block) ∷ hear 1 (proposal 3 1 block) ∷ hear 2 (proposal 3 1 block) ∷
    move 0 ∷ move 1 ∷ move 2 ∷
    hear 0 (block_certificate 1 three block) ∷ hear 1 (block_certificate 1 three block) ∷
    hear 2 (block_certificate 1 three block) ∷ move 0 ∷ move 1 ∷ move 2 ∷
    hear 0 (finalize_certificate 1 three) ∷ hear 1 (finalize_certificate 1 three) ∷
    hear 2 (finalize_certificate 1 three) ∷ move 0 ∷ move 1 ∷ move 2 ∷
    (0, reading (zeros 32)) ∷ (1, reading (zeros 32)) ∷ (2, reading (zeros 32)) ∷ []

-- what observer `s` does after that
unfoldable pub observer_turns : ℕ → List AnyTurn
observer_turns s =
    observer_hears s (block_certificate 1 three block) ∷ observer_hears s (finalize_certificate 1 three) ∷
    by_observer s observer_moving ∷ by_observer s (observer_reading (zeros 32)) ∷ []

unfoldable pub any_turns : List AnyTurn
any_turns =
    by_replicas openings ++ (observer_openings ++ (by_replicas agreed ++
    (observer_turns 0 ++ (observer_turns 1 ++ observer_turns 2))))

-- which observers are meant
abbrev pub meant_observers : ℕ → Type 0
meant_observers s = s < 3

module _ (digest : Bytes → Bytes) where
  unfoldable pub list : List AnyMember
  list = build_any digest any_books any_observed any_turns

  -- ---- what it shows
  pub record AllEditions : Type 0 where
    pub met : ObservedMet digest weights dishonest meant_observers list [] log
    -- the honest replicas open books of editions 1, 2 and 3 ..
    pub opens_0 : MemberOf (replica_calls list) 0 (λ m. m.call ≡ opening unweighed 4 0 1 (3 ∷ []))
    pub opens_1 : MemberOf (replica_calls list) 1 (λ m. m.call ≡ opening (weighed ones) 4 1 1 (3 ∷ []))
    pub opens_2 : MemberOf (replica_calls list) 2 (λ m. m.call ≡ opening (long ones) 4 2 2 (3 ∷ 3 ∷ []))
    -- .. and so do the observers
    pub observer_opens_0 : ObserverOf list 0 (λ m. m.call ≡ observer_opening unweighed 4 1)
    pub observer_opens_1 : ObserverOf list 1 (λ m. m.call ≡ observer_opening (weighed ones) 4 1)
    pub observer_opens_2 : ObserverOf list 2 (λ m. m.call ≡ observer_opening (long ones) 4 2)
    -- replica 0 and observers 0 and 1 read the log, as `met` says, and so do the others
    pub reads_1 : MemberOf (replica_calls list) 1 (λ m. Reads digest m log)
    pub reads_2 : MemberOf (replica_calls list) 2 (λ m. Reads digest m log)
    pub observer_reads_2 : ObserverOf list 2 (ObserverReads digest log)
