-- Written by tests/restated --write: what docs/statements has of
-- crates/answers/specs/Refusal.antt.
use Rattle.std.specs.Prelude.{ℕ}
use package.Rattle.answers.specs.declared.refusal.Refusal.{Refusal}
use mathlib.Core.Path.{◌≡◌ as ◌is-kept◌, refl as by-text}
use package.Rattle.answers.specs.Refusal as page

abbrev number_of-kept : Refusal → ℕ
number_of-kept Refusal.Unsound = 1
number_of-kept Refusal.OutOfRange = 2
number_of-kept Refusal.ShortReply = 3
number_of-kept Refusal.Malformed = 4
number_of-kept Refusal.NoSuchSigner = 5
number_of-kept Refusal.NoSuchHeight = 6
number_of-kept Refusal.NotLeader = 7
number_of-kept Refusal.OtherKept = 8
number_of-kept Refusal.NoQuorum = 9
number_of-kept Refusal.OtherNotarized = 10
number_of-kept Refusal.NoCertificate = 11
number_of-kept Refusal.PendingFull = 12
number_of-kept Refusal.EntryKnown = 13
number_of-kept Refusal.NotDue = 14
number_of-kept Refusal.UnevenPacket = 15
number_of-kept Refusal.NotACertificate = 16

same-number_of : number_of-kept is-kept page.number_of
same-number_of = by-text
