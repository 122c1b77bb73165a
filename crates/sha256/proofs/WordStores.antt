-- What a loop that writes words as bytes leaves. Assumes nothing.
use Rattle.std.specs.Int.{to_be_bytes}
use Rattle.std.proofs.Common.{◌≡◌, ℕ, ◌+◌, ◌*◌, ◌<◌, ◌++◌, length, get_or, take, drop, List, ◌∙◌, append-nil, append_assoc, add-one, arith, length-append, length-take-le, take_at, take-suc, w32}
use borrow.Rule.Slice.PartMut.{put_mid}
use Rattle.sha256_padding.specs.Padding.{big_endian}
use Rattle.sha256_padding.specs.Laws.PaddingLaws.{big_endian-length}
use Rattle.sha256_padding.proofs.Stores.{be_bytes}
use Rattle.sha256.specs.Bytes.{Bytes}
use Rattle.sha256.specs.Digest.{words_bytes}
use Rattle.sha256.specs.Laws.DigestLaws.{words_bytes-append}

-- one word of a loop that writes words
pub worded : (words : List ℕ) (bytes written : Bytes) (i k : ℕ) → i < 8 → length words ≡ 8 → length bytes ≡ 32 → k ≡ 4
    → written ≡ to_be_bytes w32 (get_or words i 0) → take (4 * i) bytes ≡ words_bytes (take i words)
    → take (4 * (i + 1)) (put_mid (4 * i) k bytes written) ≡ words_bytes (take (i + 1) words)
unfolding words_bytes
worded words bytes written i k fits whole room four e before =
    let word = get_or words i 0 in
    let bytes_of : written ≡ big_endian 4 word = e ∙ be_bytes 4 word in
    let after : words_bytes (take (i + 1) words) ≡ words_bytes (take i words) ++ big_endian 4 word
    = rw (add-one, take-suc words i 0 (omega arith), words_bytes-append, append-nil) in
    let size : length (take (4 * i) bytes ++ written) ≡ 4 * (i + 1) =
    rw (length-append, length-take-le (4 * i) bytes (omega arith), bytes_of, big_endian-length) (omega arith) in
    rw (
      ← append_assoc (take (4 * i) bytes) written (drop k (drop (4 * i) bytes)),
      take_at (take (4 * i) bytes ++ written) (drop k (drop (4 * i) bytes)) (4 * (i + 1)) size,
      after,
      before,
      bytes_of,
    )
