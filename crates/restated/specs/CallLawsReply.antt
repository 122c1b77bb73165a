-- Written by tests/restated --write: what docs/statements has of
-- crates/call_laws/specs/Reply.antt.
use Rattle.std.specs.Prelude.{ℕ, ◌+◌, ◌*◌, ◌<◌, ◌≡◌, List, [], length, get_or, drop}
use package.Rattle.protocol.specs.Bytes.{Bytes, part, zeros}
use package.Rattle.protocol.specs.Frame.{frame_size}
use package.Rattle.protocol.specs.Answer.{Answer, refused, accepted, Move}
use package.Rattle.protocol.specs.Move.{unused}
use package.Rattle.call_laws.specs.Reply.{Wrote}
use mathlib.Core.Path.{◌≡◌ as ◌is-kept◌, refl as by-text}
use package.Rattle.call_laws.specs.Reply as page

Wrote-kept : (frames : List Bytes) (blank : ℕ) (before after : Bytes) (frame_at_lem : (i : ℕ) → i < length frames → part after (frame_size * i) frame_size ≡ get_or frames i []) (blank_after_lem : part after (frame_size * length frames) blank ≡ zeros blank) (rest_kept : drop (frame_size * length frames + blank) after ≡ drop (frame_size * length frames + blank) before) (same_length : length after ≡ length before) →
    Wrote frames blank before after
Wrote-kept frames blank before after x0 x1 x2 x3 = record { frame_at_lem = x0; blank_after_lem = x1; rest_kept = x2; same_length = x3 }

blank_after-kept : Answer Move → ℕ
blank_after-kept (refused number) = 0
blank_after-kept (accepted move) = unused move

same-blank_after : blank_after-kept is-kept page.blank_after
unfolding blank_after-kept page.blank_after
same-blank_after = by-text
