-- `write_certificate` meets its contract: each kind has its own frame, with the block or with signers alone.
use Rattle.std.proofs.Common.{rules}
use Rattle.protocol.specs.Certificates.{certificate_frame}
use Rattle.protocol.specs.Frame.{dummy_certificate, finalize_certificate}
use Rattle.certificates.proofs.write_certificate.Goals as goal

pub returns-in-Block : goal.returns-in-Block
unfolding certificate_frame
returns-in-Block c = search rules

pub returns-in-Dummy : goal.returns-in-Dummy
unfolding certificate_frame dummy_certificate
returns-in-Dummy c = search rules

pub returns-in-Finalize : goal.returns-in-Finalize
unfolding certificate_frame finalize_certificate
returns-in-Finalize c = search rules
