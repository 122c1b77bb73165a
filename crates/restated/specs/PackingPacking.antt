-- Written by tests/restated --write: what docs/statements has of
-- crates/packing/specs/Packing.antt.
use Rattle.std.specs.Prelude.{ℕ, ◌+◌, ◌*◌, List, [], ◌∷◌}
use package.Rattle.protocol.specs.Answer.{Answer, refused, accepted, Done, Delivery, known, fresh, Counts, Move, idle}
use package.Rattle.protocol.specs.Answer.{vote_dummy, output, pass, propose, vote_block, certificate_kind, finalize_kind}
use package.Rattle.protocol.specs.Answer.{move_number, move_height}
use package.Rattle.packing.specs.Packing.{pass_kinds}
use mathlib.Core.Path.{◌≡◌ as ◌is-kept◌, refl as by-text}
use package.Rattle.packing.specs.Packing as page

abbrev packed_done-kept : Answer Done → ℕ
packed_done-kept (refused number) = number
packed_done-kept (accepted answer) = 0

same-packed_done : packed_done-kept is-kept page.packed_done
same-packed_done = by-text

abbrev packed_delivery-kept : Answer Delivery → ℕ
packed_delivery-kept (refused number) = number
packed_delivery-kept (accepted known) = 0
packed_delivery-kept (accepted fresh) = 256

same-packed_delivery : packed_delivery-kept is-kept page.packed_delivery
same-packed_delivery = by-text

abbrev packed_packet-kept : Answer Counts → ℕ
packed_packet-kept (refused number) = number
packed_packet-kept (accepted counts) = 0

same-packed_packet : packed_packet-kept is-kept page.packed_packet
same-packed_packet = by-text

abbrev counts_after-kept : Answer Counts → List ℕ → List ℕ
counts_after-kept (refused number) before = before
counts_after-kept (accepted counts) before = counts.fresh_frames ∷ counts.known_frames ∷ counts.refused_frames ∷ []

same-counts_after : counts_after-kept is-kept page.counts_after
same-counts_after = by-text

abbrev pass_kinds-kept : Move → ℕ
pass_kinds-kept idle = 0
pass_kinds-kept (vote_dummy h) = 0
pass_kinds-kept (output g) = 0
pass_kinds-kept (pass h certificate finalized) = certificate_kind certificate + 256 * finalize_kind finalized
pass_kinds-kept (propose h) = 0
pass_kinds-kept (vote_block h) = 0

same-pass_kinds : pass_kinds-kept is-kept page.pass_kinds
same-pass_kinds = by-text

abbrev packed_move-kept : Answer Move → ℕ
packed_move-kept (refused number) = number
packed_move-kept (accepted move) = 256 * move_number move + 65536 * move_height move + 4294967296 * pass_kinds move

same-packed_move : packed_move-kept is-kept page.packed_move
same-packed_move = by-text

abbrev answered_height-kept : Answer Move → ℕ
answered_height-kept (refused number) = 0
answered_height-kept (accepted move) = move_height move

same-answered_height : answered_height-kept is-kept page.answered_height
same-answered_height = by-text

abbrev packed_size-kept : Answer ℕ → ℕ
packed_size-kept (refused number) = number
packed_size-kept (accepted size) = 256 * size

same-packed_size : packed_size-kept is-kept page.packed_size
same-packed_size = by-text

abbrev answered_size-kept : Answer ℕ → ℕ
answered_size-kept (refused number) = 0
answered_size-kept (accepted size) = size

same-answered_size : answered_size-kept is-kept page.answered_size
same-answered_size = by-text
