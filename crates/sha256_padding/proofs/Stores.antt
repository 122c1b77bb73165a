-- What the stores into a block leave, and a number's bytes as the library writes them. Assumes nothing.
use Rattle.std.specs.Int.{bytes_high_first, to_be_bytes}
use Rattle.std.proofs.Common.{◌≡◌, ℕ, zero, suc, ◌-◌, ◌*◌, ◌/◌, ◌%◌, ◌^◌, ◌<◌, [], ◌∷◌, ◌++◌, length, take, drop, set, replicate, refl, ap, ◌∙◌, arith, div-one, append-nil, drop-drop, drop_of_length-le, w64}
use Rattle.std.proofs.Math.Seq.{set-append_seam}
use Rattle.std.proofs.lemmas.List.{drop-replicate}
use Rattle.sha256_functions.specs.Bytes.{Bytes}
use Rattle.sha256_padding.specs.Padding.{big_endian, zeros}
use Rattle.sha256_padding.specs.Laws.PaddingLaws.{big_endian-low}
use Rattle.sha256_padding.specs.Ending.{opened}

-- the byte after those that were copied to the front of a block of zeros
pub closed : (rest : Bytes) → length rest < 64 → set (rest ++ drop (length rest) (zeros 64)) (length rest) 0x80 ≡ opened rest
unfolding opened zeros
closed rest fits =
    let count : 64 - length rest ≡ suc (63 - length rest) = omega arith in
    rw (drop-replicate {X = ℕ} (length rest) 64 0, count) (set-append_seam rest 0 (replicate (63 - length rest) 0) 0x80)

-- the bytes of a number, the most significant first
pub be_bytes : (count number : ℕ) → bytes_high_first count number ≡ big_endian count number
unfolding big_endian
be_bytes zero number = refl
be_bytes (suc zero) number = rw div-one
be_bytes (suc (suc count)) number = ap (λ (l : Bytes). number / 256 ^ suc count % 256 ∷ l) (be_bytes (suc count) number)

-- the length's bytes in the last 8 places of a block
pub length_bytes : (size : ℕ) → to_be_bytes w64 (size * 8 % 2 ^ 64) ≡ big_endian 8 (8 * size)
length_bytes size =
    let bits : size * 8 % 2 ^ 64 ≡ 8 * size % 2 ^ 64 = omega arith in
    be_bytes 8 (size * 8 % 2 ^ 64) ∙ rw bits (big_endian-low 8 1 (8 * size))

pub lengthened : (block written : Bytes) (size : ℕ) → length block ≡ 64 → written ≡ to_be_bytes w64 (size * 8 % 2 ^ 64)
    → take 56 block ++ (written ++ drop 8 (drop 56 block)) ≡ take 56 block ++ big_endian 8 (8 * size)
lengthened block written size whole e =
    let none : drop 8 (drop 56 block) ≡ [] = drop-drop 8 56 block ∙ drop_of_length-le block {i = 64} (omega arith) in
    rw (none, append-nil) (ap (λ (l : Bytes). take 56 block ++ l) (e ∙ length_bytes size))
