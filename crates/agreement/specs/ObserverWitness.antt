-- A list of calls that meets every premise of demand 3 with observers whatever the digest, if digests have 32 bytes, so
-- at SHA-256: the calls of `AnyDigest`, with those of three observers among them. Observers 0 and 1 have books of two
-- and of three heights, are opened for the replicas' weights, and read what the honest replicas read, observer 1 the
-- empty log before. Observer 2 is not meant: its book is opened for five replicas too, but by document 01's opening, so
-- that each weighs 1; it hears what was forged in the names of replicas 1 and 2, and reads another entry.
use Rattle.std.specs.Prelude.{ℕ, ◌<◌, ◌≡◌, ◌⊎◌, List, [], ◌∷◌, ◌++◌, map, get_or, set, replicate}
use Rattle.protocol.specs.Bytes.{Bytes, zeros}
use Rattle.protocol.specs.Block.{new_block}
use Rattle.protocol.specs.Frame.{block_certificate, dummy_certificate, dummy_vote, finalize_certificate}
use Rattle.protocol.specs.Open.{unweighed}
use Rattle.protocol.specs.Call.{book_after}
use Rattle.protocol.specs.ObserverCall.{ObserverCall, observation, observer_delivery, observer_moving, observer_opening}
use Rattle.protocol.specs.ObserverCall.{observer_reading, observer_sizing}
use Rattle.agreement.specs.AnyDigest.{agreed, dishonest, heavy_two, light_four, openings, readings, split}
use Rattle.agreement.specs.AnyDigest.{timeouts, way, weights}
use Rattle.agreement.specs.Lists.{Begins}
use Rattle.agreement.specs.ObserverLists.{AnyMember, of_observer, of_replica}
use Rattle.agreement.specs.ObserverMet.{ObservedMet, ObserverOf, ObserverReads}
use Rattle.agreement.specs.Turns.{Turn, anything, next_block, next_log}

-- ---- lists by turns
-- a turn: whose call, a replica's or an observer's, and the call
pub data AnyTurn : Type 0 where
  by_replica : Turn → AnyTurn
  by_observer : ℕ → ObserverCall → AnyTurn

-- each call gets the book that its replica's or its observer's last call left
unfoldable pub build_any : (Bytes → Bytes) → (books observed : List Bytes) → List AnyTurn → List AnyMember
build_any digest books observed [] = []
build_any digest books observed (by_replica (s, call) ∷ turns) =
    let book : Bytes = get_or books s [] in
    of_replica (record { replica = s; book = book; call = call }) ∷
    build_any digest (set books s (book_after digest book call)) observed turns
build_any digest books observed (by_observer s call ∷ turns) =
    let book : Bytes = get_or observed s [] in
    of_observer (record { observer = s; book = book; call = call }) ∷
    build_any digest books (set observed s (observation digest book call).book) turns

unfoldable pub observer_hears : ℕ → Bytes → AnyTurn
observer_hears s frame = by_observer s (observer_delivery frame)

-- what the books of observers 0, 1 and 2 hold before they are opened: two, three and one height
unfoldable pub anything_observed : List Bytes
anything_observed = replicate 432 9 ∷ replicate 616 9 ∷ replicate 248 9 ∷ []

-- ---- the list
-- books that hold anything are opened, and an empty log is read; a second opening is refused
unfoldable pub observer_openings : List AnyTurn
observer_openings =
    by_observer 0 (observer_opening way 5 2) ∷ by_observer 1 (observer_opening way 5 3) ∷
    by_observer 2 (observer_opening unweighed 5 1) ∷ by_observer 0 (observer_opening way 5 3) ∷
    by_observer 1 (observer_reading (zeros 16)) ∷ []

-- observer 0 hears the certificate that height 1 passed with, and both hear those of height 2, in another order; a vote
-- that replica 1 never cast is refused, and so is a certificate that lacks weight
unfoldable pub observer_hearings : List AnyTurn
observer_hearings =
    observer_hears 0 (dummy_vote 1 2) ∷ observer_hears 0 (dummy_certificate 2 light_four) ∷
    observer_hears 0 (block_certificate 2 heavy_two next_block) ∷
    observer_hears 1 (finalize_certificate 2 7) ∷ by_observer 1 observer_moving ∷
    observer_hears 1 (block_certificate 2 heavy_two next_block) ∷ observer_hears 1 (dummy_certificate 1 heavy_two) ∷
    observer_hears 0 (finalize_certificate 2 7) ∷
    by_observer 0 observer_moving ∷ by_observer 1 observer_moving ∷ by_observer 0 observer_moving ∷
    by_observer 0 observer_sizing ∷ by_observer 0 (observer_reading (zeros 32)) ∷ []

-- observer 2 alone hears certificates that replicas 1 and 2 never signed, and takes their signers for a quorum
unfoldable pub lonely_entry : Bytes
lonely_entry = replicate 16 4

unfoldable pub lonely_block : Bytes
lonely_block = new_block 1 0 (zeros 32) (lonely_entry ∷ [])

unfoldable pub lonely : List AnyTurn
lonely =
    observer_hears 2 (block_certificate 1 light_four lonely_block) ∷ observer_hears 2 (finalize_certificate 1 light_four) ∷
    by_observer 2 observer_moving ∷ by_observer 2 (observer_reading (zeros 16)) ∷ []

abbrev pub by_replicas : List Turn → List AnyTurn
by_replicas turns = map by_replica turns

-- which observers are meant
abbrev pub meant_observers : ℕ → Type 0
meant_observers s = s < 2

unfoldable pub any_turns : List AnyTurn
any_turns =
    observer_openings ++ (by_replicas openings ++ (lonely ++ (by_replicas split ++ (by_replicas timeouts ++
    (observer_hears 0 (dummy_certificate 1 heavy_two) ∷ (by_replicas agreed ++ (observer_hearings ++
    (by_replicas readings ++ (by_observer 1 (observer_reading (zeros 40)) ∷ [])))))))))

module _ (digest : Bytes → Bytes) where
  unfoldable pub list : List AnyMember
  list = build_any digest (anything 2) anything_observed any_turns

  -- ---- what it shows
  pub record ObserverWitness : Type 0 where
    pub met : ObservedMet digest weights dishonest meant_observers list [] next_log
    -- observers 0 and 1 have books of different sizes
    pub opens_0 : ObserverOf list 0 (λ m. m.call ≡ observer_opening way 5 2)
    pub opens_1 : ObserverOf list 1 (λ m. m.call ≡ observer_opening way 5 3)
    -- observer 2, which is not meant, is opened for as many replicas, of other weights, and reads another log, so that
    -- neither is a beginning of the other
    pub opens_2 : ObserverOf list 2 (λ m. m.call ≡ observer_opening unweighed 5 1)
    pub lonely_reads : ObserverOf list 2 (ObserverReads digest lonely_entry)
    pub two_logs : Begins lonely_entry next_log ⊎ Begins next_log lonely_entry → ⊥
