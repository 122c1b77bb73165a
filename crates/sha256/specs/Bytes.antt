-- Bytes as the contracts read them, passed on for the crates above. Assumes nothing.
pub use Rattle.sha256_functions.specs.Bytes.{Bytes}
