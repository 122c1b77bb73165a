use Rattle.std.proofs.Common.{rules}
use Rattle.protocol.specs.Answer.{certificate_kind}
use Rattle.answers.proofs.answer.UsizeFromCertificate.from.Goals as goal

pub returns-in-Page : goal.returns-in-Page
unfolding certificate_kind
returns-in-Page c = search rules

pub returns-in-Blank : goal.returns-in-Blank
unfolding certificate_kind
returns-in-Blank c = search rules
