-- Tests as the code makes them, against the tests of the protocol.
use Rattle.std.specs.Prelude.{ℕ, ◌≡◌, refl, Bool, true, ◌&&◌, [], ◌∷◌}
use Rattle.std.proofs.Common.{ap}
use Rattle.std.specs.List.{list_all}
use Rattle.protocol.specs.Bytes.{Bytes, all}
use Rattle.protocol.specs.Tests.{in_range}
use Rattle.protocol.specs.Frame.{is_certificate}
use Rattle.certificates.specs.Kind.{kind_number}
use Rattle.certificates.specs.declared.kind.CertificateKind.{CertificateKind}

-- a test of all bytes, as the standard library names it
pub every_byte : (test : ℕ → Bool) (bytes : Bytes) → list_all test bytes ≡ all test bytes
unfolding all
every_byte test [] = refl
every_byte test (x ∷ xs) = ap (λ (rest : Bool). test x && rest) (every_byte test xs)

-- the number of a certificate's kind is one
pub number_of_kind : (kind : CertificateKind) (number : ℕ) → kind_number kind ≡ number → is_certificate number ≡ true
unfolding is_certificate in_range
number_of_kind CertificateKind.Block number e = rw (← e)
number_of_kind CertificateKind.Dummy number e = rw (← e)
number_of_kind CertificateKind.Finalize number e = rw (← e)
