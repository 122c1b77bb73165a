-- Tests of numbers as the code makes them, against the tests of the protocol.
use Rattle.std.proofs.Common.{ℕ, ◌<◌, arith, ◌≡◌, sym, Bool, true, false, ◌||◌, length, ltb, lt-ltb}
use Rattle.protocol.specs.State.{State, pending, maximum_pending}
use Rattle.protocol.specs.Sound.{log}
use Rattle.protocol.specs.Submit.{still_pending}
use Rattle.protocol.proofs.Laws.EntriesLaws.{pending_length}
use Rattle.protocol.proofs.Laws.PoolLaws.{without_short}

-- ---- Submit
pub few_stay : (s : State) (count : ℕ) → count ≡ s.pending_count → count < maximum_pending →
    true ≡ ltb (length (still_pending s)) maximum_pending
unfolding still_pending
few_stay s count e few =
    sym (lt-ltb (length (still_pending s)) 32 (omega
    (arith, without_short (log s) (pending s), pending_length s, e, few)))

pub first_holds : (a b : Bool) → a ≡ true → true ≡ (a || b)
first_holds a b e = rw e

pub second_holds : (a b r : Bool) → a ≡ false → r ≡ b → r ≡ (a || b)
second_holds a b r e f = rw (e, f)
