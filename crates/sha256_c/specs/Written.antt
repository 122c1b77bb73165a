-- What a buffer holds after a digest was written to it. Assumes nothing.
use Rattle.std.specs.Prelude.{cond, ◌++◌, leb, length, drop}
use Rattle.sha256.specs.Bytes.{Bytes}
use Rattle.sha256.specs.Digest.{sha256}

-- the message's digest in the first 32 bytes, and the rest as it was; a buffer that is too short is left alone
unfoldable pub written : Bytes → Bytes → Bytes
written message out = cond (leb 32 (length out)) (sha256 message ++ drop 32 out) out
