-- An answer as one number for C: its low byte is the refusal's number, 0 where the call is not refused; the values
-- stand in the bytes above.
use Rattle.std.specs.Prelude.{ℕ, ◌+◌, ◌*◌, List, [], ◌∷◌}
use Rattle.protocol.specs.Answer.{Answer, refused, accepted, Done, Delivery, known, fresh, Counts, Move, idle}
use Rattle.protocol.specs.Answer.{vote_dummy, output, pass, propose, vote_block, certificate_kind, finalize_kind}
use Rattle.protocol.specs.Answer.{move_number, move_height}

-- Open, Signal, Submit, Fetch: 0 where the call is done
abbrev pub packed_done : Answer Done → ℕ
packed_done (refused number) = number
packed_done (accepted answer) = 0

-- Deliver: byte 1 is 1 where the book changed
abbrev pub packed_delivery : Answer Delivery → ℕ
packed_delivery (refused number) = number
packed_delivery (accepted known) = 0
packed_delivery (accepted fresh) = 256

-- Deliver of a packet: 0 where it is not refused
abbrev pub packed_packet : Answer Counts → ℕ
packed_packet (refused number) = number
packed_packet (accepted counts) = 0

-- the three lent numbers afterwards: how many frames were fresh, known and refused, in that order; a refused packet
-- leaves them as they were
abbrev pub counts_after : Answer Counts → List ℕ → List ℕ
counts_after (refused number) before = before
counts_after (accepted counts) before = counts.fresh_frames ∷ counts.known_frames ∷ counts.refused_frames ∷ []

-- the certificate's kind and the finalize's kind of a pass, and 0 for other moves
abbrev pub pass_kinds : Move → ℕ
pass_kinds idle = 0
pass_kinds (vote_dummy h) = 0
pass_kinds (output g) = 0
pass_kinds (pass h certificate finalized) = certificate_kind certificate + 256 * finalize_kind finalized
pass_kinds (propose h) = 0
pass_kinds (vote_block h) = 0

-- Move: byte 1 is the move's number, bytes 2 and 3 its height (at most 1,000), byte 4 the certificate's kind, byte 5
-- the finalize's kind
abbrev pub packed_move : Answer Move → ℕ
packed_move (refused number) = number
packed_move (accepted move) = 256 * move_number move + 65536 * move_height move + 4294967296 * pass_kinds move

-- the height that an answer of Move names, and 0 for a refusal; at most 1,000 (PackingLaws)
abbrev pub answered_height : Answer Move → ℕ
answered_height (refused number) = 0
answered_height (accepted move) = move_height move

-- Register size: the bytes above the lowest are the size (at most 128,000)
abbrev pub packed_size : Answer ℕ → ℕ
packed_size (refused number) = number
packed_size (accepted size) = 256 * size

-- the size that an answer of Register size names, and 0 for a refusal; at most 128,000 (PackingLaws)
abbrev pub answered_size : Answer ℕ → ℕ
answered_size (refused number) = 0
answered_size (accepted size) = size
