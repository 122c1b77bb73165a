-- Written by tests/restated --write: what docs/statements has of
-- crates/agreement/specs/Turns.antt.
use Rattle.std.specs.Prelude.{ℕ, List, [], ◌∷◌, ◌++◌, get_or, set, replicate}
use package.Rattle.protocol.specs.Bytes.{Bytes, join, zeros}
use package.Rattle.protocol.specs.Block.{new_block}
use package.Rattle.protocol.specs.State.{book_size}
use package.Rattle.protocol.specs.Call.{Call, delivery, packet_delivery, moving}
use package.Rattle.protocol.specs.Call.{book_after}
use package.Rattle.agreement.specs.Lists.{Member}
use package.Rattle.agreement.specs.Turns.{Turn, entry, other_entry}
use mathlib.Core.Path.{◌≡◌ as ◌is-kept◌, refl as by-text}
use package.Rattle.agreement.specs.Turns as page

abbrev Turn-kept : Type 0
Turn-kept = ℕ × Call

same-Turn : Turn-kept is-kept page.Turn
same-Turn = by-text

move-kept : ℕ → Turn
move-kept s = (s, moving (zeros 448))

same-move : move-kept is-kept page.move
unfolding move-kept page.move
same-move = by-text

hear-kept : ℕ → Bytes → Turn
hear-kept s frame = (s, delivery frame)

same-hear : hear-kept is-kept page.hear
unfolding hear-kept page.hear
same-hear = by-text

hear_packet-kept : ℕ → List Bytes → Turn
hear_packet-kept s frames = (s, packet_delivery (join frames))

same-hear_packet : hear_packet-kept is-kept page.hear_packet
unfolding hear_packet-kept page.hear_packet
same-hear_packet = by-text

build-kept : (Bytes → Bytes) → List Bytes → List Turn → List Member
build-kept digest books [] = []
build-kept digest books ((s, call) ∷ turns) =
    let book : Bytes = get_or books s [] in
    record { replica = s; book = book; call = call } ∷ build-kept digest (set books s (book_after digest book call)) turns

same-build : build-kept is-kept page.build
unfolding build-kept page.build
same-build = by-text

anything-kept : ℕ → List Bytes
anything-kept heights = replicate 3 (replicate (book_size heights) 9)

same-anything : anything-kept is-kept page.anything
unfolding anything-kept page.anything
same-anything = by-text

entry-kept : Bytes
entry-kept = replicate 16 3

same-entry : entry-kept is-kept page.entry
unfolding entry-kept page.entry
same-entry = by-text

other_entry-kept : Bytes
other_entry-kept = replicate 16 5

same-other_entry : other_entry-kept is-kept page.other_entry
unfolding other_entry-kept page.other_entry
same-other_entry = by-text

next_block-kept : Bytes
next_block-kept = new_block 2 0 (zeros 32) (entry ∷ other_entry ∷ entry ∷ [])

same-next_block : next_block-kept is-kept page.next_block
unfolding next_block-kept page.next_block
same-next_block = by-text

next_log-kept : Bytes
next_log-kept = entry ++ other_entry

same-next_log : next_log-kept is-kept page.next_log
unfolding next_log-kept page.next_log
same-next_log = by-text
