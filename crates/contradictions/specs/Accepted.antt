-- What a frame that passes all rows leaves.
use Rattle.protocol.specs.Bytes.{Bytes}
use Rattle.protocol.specs.Answer.{Outcome, Delivery, accepted}
use Rattle.answers.specs.Answers.{delivery_of}
use Rattle.answers.specs.declared.answer.Delivered.{Delivered}

-- the outcome of a frame that passes all rows, by what is answered and the book that is left
abbrev pub accepted_book : Delivered → Bytes → Outcome Delivery
accepted_book answer book = record { answer = accepted (delivery_of answer); book = book }
