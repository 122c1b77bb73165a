-- The number of each refusal, and of what is answered with a refusal or without.
use Rattle.std.specs.Prelude.{ℕ, Result, Ok, Err}
use Rattle.std.proofs.Math.Option.{Option, some, none}
use Rattle.answers.specs.declared.refusal.Refusal.{Refusal}

-- the numbers of documents 01 and 02
abbrev pub number_of : Refusal → ℕ
number_of Refusal.Unsound = 1
number_of Refusal.OutOfRange = 2
number_of Refusal.ShortReply = 3
number_of Refusal.Malformed = 4
number_of Refusal.NoSuchSigner = 5
number_of Refusal.NoSuchHeight = 6
number_of Refusal.NotLeader = 7
number_of Refusal.OtherKept = 8
number_of Refusal.NoQuorum = 9
number_of Refusal.OtherNotarized = 10
number_of Refusal.NoCertificate = 11
number_of Refusal.PendingFull = 12
number_of Refusal.EntryKnown = 13
number_of Refusal.NotDue = 14
number_of Refusal.UnevenPacket = 15
number_of Refusal.NotACertificate = 16

-- the refusal that stands, by number, if one does
abbrev pub refusal_of : {A : Type 0} → Result A Refusal → Option ℕ
refusal_of (Ok answer) = none
refusal_of (Err refusal) = some (number_of refusal)
