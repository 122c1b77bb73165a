-- A number that falls with each move, from the tests of the five moves and the heights left: at most H + 4 − c.
use Rattle.std.specs.Prelude.{ℕ, ◌+◌, ◌-◌, ◌≤◌, ◌<◌, ◌≡◌, Bool}
use native.Mathlib.Omega.{arith}
use Rattle.std.proofs.Math.Bool.{true, false}
use Rattle.std.proofs.Math.Dec.{leb}
use borrow.Author.Tests.{lt-leb}
use Rattle.protocol.specs.Bytes.{Bytes}
use Rattle.protocol.specs.State.{State, last}
use Rattle.protocol.specs.Move.{is_running, dummy_vote_applies, output_applies, pass_applies, propose_applies}
use Rattle.protocol.specs.Move.{block_vote_applies}

unfoldable pub bit : Bool → ℕ
bit true = 1
bit false = 0

pub bit_small : (b : Bool) → bit b ≤ 1
unfolding bit
bit_small true = omega arith
bit_small false = omega arith

-- at a height that passes: as many moves as heights are left, and two; else what is left to do there
unfoldable pub at_height : Bool → ℕ → ℕ → ℕ
at_height true left here = left + 2
at_height false left here = here

-- a number that falls with each move, from the tests of the five moves and the number of heights left
unfoldable pub weight : (running dummy_vote output pass propose block_vote : Bool) → ℕ → ℕ
weight true d o p q r left = bit o + (bit d + at_height p left (bit q + bit r))
weight false d o p q r left = bit o

pub less_dummy : (o p q r : Bool) (left : ℕ) → weight true false o p q r left < weight true true o p q r left
unfolding weight bit
less_dummy o p q r left = omega arith

pub less_output : (n p q r : Bool) (left : ℕ) → weight n false false p q r left < weight n false true p q r left
unfolding weight bit
less_output true p q r left = omega arith
less_output false p q r left = omega arith

pub less_pass : (p q r q' r' : Bool) (last c : ℕ) → c + 1 ≤ last →
    weight true false false p q r (last - (c + 1)) < weight true false false true q' r' (last - c)
unfolding weight at_height bit
less_pass true q r q' r' last c le = omega arith
less_pass false q r q' r' last c le = let a = bit_small q in let b = bit_small r in omega arith

pub less_propose : (r : Bool) (left : ℕ) →
    weight true false false false false r left < weight true false false false true r
    left
unfolding weight at_height bit
less_propose r left = omega arith

pub less_vote : (left : ℕ) →
    weight true false false false false false left < weight true false false false false true left
unfolding weight at_height bit
less_vote left = omega arith

module _ (digest : Bytes → Bytes) where
  unfoldable pub measure : State → ℕ
  measure s =
      weight (is_running s) (dummy_vote_applies s) (output_applies digest s) (pass_applies digest s)
      (propose_applies digest s) (block_vote_applies digest s) (last s - s.current)

  pub measure_most : (s : State) → s.current ≤ last s → measure s ≤ last s + 4 - s.current
  unfolding measure weight at_height bit
  measure_most s le = go (is_running s) (dummy_vote_applies s) (output_applies digest s) (pass_applies digest s)
      (propose_applies digest s) (block_vote_applies digest s)
    where
      go : (n d o p q r : Bool) → weight n d o p q r (last s - s.current) ≤ last s + 4 - s.current
      go true d o true q r = let a = bit_small d in let b = bit_small o in omega arith
      go true d o false q r = let a = bit_small d in let b = bit_small o in let e = bit_small q in
          let f = bit_small r in omega arith
      go false d o p q r = let b = bit_small o in omega arith

  pub measure_is : (s : State) {n d o p q r : Bool} → is_running s ≡ n → dummy_vote_applies s ≡ d →
      output_applies digest s ≡ o → pass_applies digest s ≡ p →
      propose_applies digest s ≡ q → block_vote_applies digest s ≡ r → measure s ≡ weight n d o p q r (last s - s.current)
  unfolding measure
  measure_is s e1 e2 e3 e4 e5 e6 = cc

  pub measure_full : (s : State) → last s + 1 ≤ s.current → measure s ≤ 1
  unfolding measure is_running
  measure_full s le =
      let full : leb s.current (last s) ≡ false = lt-leb s.current (last s) (omega arith) in
      rw full (unfold weight in bit_small (output_applies digest s))
