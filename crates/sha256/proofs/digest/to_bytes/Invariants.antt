-- `to_bytes` meets its contract. The invariant: the words passed stand as bytes at the front. Assumes nothing.
use Rattle.std.proofs.Common.{◌≡◌, ◌*◌, length, take}
use Rattle.sha256.specs.Digest.{words_bytes}
use Rattle.sha256.proofs.digest.to_bytes.Given as goal

abbrev pub invariant-loop-i : goal.invariant-loop-i
invariant-loop-i l = (length l.bytes ≡ 32) × (take (4 * l.i) l.bytes ≡ words_bytes (take l.i l.hash))
