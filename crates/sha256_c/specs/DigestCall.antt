-- What the call for a digest answers.
use Rattle.std.specs.Prelude.{ℕ, cond, leb, length}
use Rattle.sha256.specs.Bytes.{Bytes}

-- 0 where the buffer has room for the 32 bytes, else refusal 3, a reply that is too short
unfoldable pub digest_number : Bytes → ℕ
digest_number out = cond (leb 32 (length out)) 0 3
