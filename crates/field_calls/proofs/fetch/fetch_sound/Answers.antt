-- `fetch_sound` meets its contract: the number of a certificate's kind passes the first row.
use Rattle.std.proofs.Common.{arith, ◌≡◌, true}
use Rattle.std.proofs.lemmas.Grind.{common_steps}
use Rattle.protocol.specs.Frame.{is_certificate}
use Rattle.protocol.specs.Tests.{first_refusal}
use Rattle.protocol.specs.Fetch.{fetch_call, fetch_rows, unless_fetch_refused}
use Rattle.field_calls.proofs.Tests.{number_of_kind}
use Rattle.field_calls.proofs.fetch.fetch_sound.Goals as goal

pub returns-then-not-in_book-clause-answer : goal.returns-then-not-in_book-clause-answer
unfolding fetch_call fetch_rows first_refusal unless_fetch_refused
returns-then-not-in_book-clause-answer c =
    let is : is_certificate c.args.kind ≡ true = number_of_kind _ _ c.in_ok-kind.ensures in grind (arith, common_steps)

pub returns-then-reply-lt224-clause-answer : goal.returns-then-reply-lt224-clause-answer
unfolding fetch_call fetch_rows first_refusal unless_fetch_refused
returns-then-reply-lt224-clause-answer c =
    let is : is_certificate c.args.kind ≡ true = number_of_kind _ _ c.in_ok-kind.ensures in grind (arith, common_steps)

pub returns-then-not-has_certificate-clause-answer : goal.returns-then-not-has_certificate-clause-answer
unfolding fetch_call fetch_rows first_refusal unless_fetch_refused
returns-then-not-has_certificate-clause-answer c =
    let is : is_certificate c.args.kind ≡ true = number_of_kind _ _ c.in_ok-kind.ensures in grind (arith, common_steps)

pub returns-clause-answer : goal.returns-clause-answer
unfolding fetch_call fetch_rows first_refusal unless_fetch_refused
returns-clause-answer c =
    let is : is_certificate c.args.kind ≡ true = number_of_kind _ _ c.in_ok-kind.ensures in grind (arith, common_steps)

pub returns-clause-reply : goal.returns-clause-reply
unfolding fetch_call fetch_rows first_refusal unless_fetch_refused
returns-clause-reply c =
    let is : is_certificate c.args.kind ≡ true = number_of_kind _ _ c.in_ok-kind.ensures in grind (arith, common_steps)
