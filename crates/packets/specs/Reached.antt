-- How far a packet is delivered: what the book and the counts are after the first frames of it.
use Rattle.std.specs.Prelude.{◌≡◌, true, List}
use Rattle.sha256.specs.Digest.{sha256}
use Rattle.protocol.specs.Bytes.{Bytes}
use Rattle.protocol.specs.Sound.{sound}
use Rattle.protocol.specs.Deliver.{deliver_all}
use Rattle.protocol.specs.Packet.{count_all}
use Rattle.answers.specs.Answers.{counts_of}
use Rattle.answers.specs.declared.answer.Counts.{Counts}

-- the book and the counts after these frames
pub record Reached (before book : Bytes) (frames : List Bytes) (counts : Counts) : Type 0 where
  pub is_sound_lem : sound sha256 book ≡ true
  pub left : book ≡ deliver_all sha256 before frames
  pub counted : counts_of counts ≡ count_all sha256 before frames
