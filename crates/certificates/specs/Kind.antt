-- The number of each kind of certificate.
use Rattle.std.specs.Prelude.{ℕ}
use Rattle.certificates.specs.declared.kind.CertificateKind.{CertificateKind}

-- the kinds of document 01's frames
abbrev pub kind_number : CertificateKind → ℕ
kind_number CertificateKind.Block = 5
kind_number CertificateKind.Dummy = 6
kind_number CertificateKind.Finalize = 7
