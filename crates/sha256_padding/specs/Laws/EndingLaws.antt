-- The last bytes of a message and its padding are one block or two. Assumes nothing.
use Rattle.std.specs.Prelude.{ℕ, ◌+◌, ◌-◌, ◌*◌, ◌%◌, ◌<◌, ◌≤◌, ◌≡◌, ◌∷◌, ◌++◌}
use Rattle.std.proofs.Math.Path.{sym, ap}
use Rattle.std.proofs.Common.{◌∙◌, append_assoc, arith, length-append, take_at}
use Rattle.std.proofs.Math.ListN.{length, take}
use Rattle.sha256_functions.specs.Bytes.{Bytes}
use Rattle.sha256_padding.specs.Laws.PaddingLaws.{zeros_length, zeros_add}
use Rattle.sha256_padding.specs.Ending.{opened}
use Rattle.sha256_padding.specs.Padding.{big_endian, zeros, zero_count, padding}

pub opened_length : (rest : Bytes) → length rest < 64 → length (opened rest) ≡ 64
unfolding opened
opened_length rest fits = simp (length-append, zeros_length) (omega arith)

-- zeros at the end of what was opened can be set apart
opened_more : (rest : Bytes) (some more : ℕ) (after : Bytes)
    → rest ++ (0x80 ∷ (zeros (some + more) ++ after)) ≡ (rest ++ (0x80 ∷ zeros some)) ++ (zeros more ++ after)
opened_more rest some more after = rw (append_assoc, ← zeros_add some more, append_assoc)

module _ (rest : Bytes) (size : ℕ) (same : length rest ≡ size % 64) where
  -- the length's 8 bytes fit into the same block
  pub ends_here : length rest < 56 → rest ++ padding size ≡ take 56 (opened rest) ++ big_endian 8 (8 * size)
  unfolding padding opened zero_count
  ends_here short =
      let count : (119 - size % 64) % 64 ≡ 55 - length rest = omega arith in
      let more : zeros (63 - length rest) ≡ zeros (55 - length rest) ++ zeros 8
      = sym (zeros_add (55 - length rest) 8 ∙ ap zeros (omega arith)) in
      let split : rest ++ (0x80 ∷ zeros (63 - length rest)) ≡ (rest ++ (0x80 ∷ zeros (55 - length rest))) ++ zeros 8
      = rw (more, append_assoc) in
      let front : take 56 (rest ++ (0x80 ∷ zeros (63 - length rest))) ≡ rest ++ (0x80 ∷ zeros (55 - length rest))
      = rw split (take_at (rest ++ (0x80 ∷ zeros (55 - length rest))) (zeros 8) 56
      (simp (length-append, zeros_length) (omega arith))) in
      rw (front, count, append_assoc)

  -- they need one block more
  pub ends_later : 56 ≤ length rest → rest ++ padding size ≡ opened rest ++ (zeros 56 ++ big_endian 8 (8 * size))
  unfolding padding opened zero_count
  ends_later long =
      let count : (119 - size % 64) % 64 ≡ 63 - length rest + 56 = omega arith in
      rw count (opened_more rest (63 - length rest) 56 (big_endian 8 (8 * size)))
