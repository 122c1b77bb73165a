-- Written by tests/restated --write: what docs/statements has of
-- crates/protocol/proofs/Laws/SoundLaws.antt.
use Rattle.std.specs.Prelude.{◌≡◌, true}
use package.Rattle.protocol.specs.SoundState.{SoundState}
use package.Rattle.protocol.specs.Bytes.{Bytes, AreBytes}
use package.Rattle.protocol.specs.State.{decode, encode}
use package.Rattle.protocol.specs.Sound.{sound}
use package.Rattle.protocol.proofs.Laws.CodecLaws.{Clean}
use mathlib.Core.Path.{◌≡◌ as ◌is-kept◌, refl as by-text}
use package.Rattle.protocol.proofs.Laws.SoundLaws as page

module _ (digest : Bytes → Bytes) where
  module _ (book : Bytes) (e : sound digest book ≡ true) where
    pub sound_decode-kept : SoundState digest (decode book)
    sound_decode-kept = page.sound_decode digest book e

    pub encode_decode-kept : AreBytes book → encode (decode book) ≡ book
    encode_decode-kept = page.encode_decode digest book e

module _ (digest : Bytes → Bytes) where
  module _ (book : Bytes) (clean : Clean book) (facts : SoundState digest (decode book)) where
    pub sound_of-kept : sound digest book ≡ true
    sound_of-kept = page.sound_of digest book clean facts
