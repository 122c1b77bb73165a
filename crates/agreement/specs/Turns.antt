-- Lists of calls by turns, for the lists that meet the premises of demand 3: each call gets the book that its
-- replica's last call left.
use Rattle.std.specs.Prelude.{ℕ, List, [], ◌∷◌, ◌++◌, get_or, set, replicate}
use Rattle.protocol.specs.Bytes.{Bytes, join, zeros}
use Rattle.protocol.specs.Block.{new_block}
use Rattle.protocol.specs.State.{book_size}
use Rattle.protocol.specs.Call.{Call, delivery, packet_delivery, moving}
use Rattle.protocol.specs.Call.{book_after}
use Rattle.protocol.specs.Computing.{everything}
use Rattle.agreement.specs.ListTests.{every_in, some_in, every_honest, is_honest, statement_bytes, opens_for, is_among}
use Rattle.agreement.specs.ListTests.{opens_in_turn, opens_once, signed, signed_in, is_backed, delivers_backed}
use Rattle.agreement.specs.ListTests.{not_forged, shows, shows_only, no_collision, reads_part, reads_where_at, reads_at}
use Rattle.agreement.specs.ListTests.{hears_where_at, hears_at, writes_at}
use Rattle.agreement.specs.Lists.{Member, when, block_in, statement_of}
use Rattle.agreement.specs.Unpacked.{packet_in}

-- a turn: whose call, and the call
abbrev pub Turn : Type 0
Turn = ℕ × Call

unfoldable pub move : ℕ → Turn
move s = (s, moving (zeros 448))

unfoldable pub hear : ℕ → Bytes → Turn
hear s frame = (s, delivery frame)

-- frames in one packet
unfoldable pub hear_packet : ℕ → List Bytes → Turn
hear_packet s frames = (s, packet_delivery (join frames))

unfoldable pub build : (Bytes → Bytes) → List Bytes → List Turn → List Member
build digest books [] = []
build digest books ((s, call) ∷ turns) =
    let book : Bytes = get_or books s [] in
    record { replica = s; book = book; call = call } ∷ build digest (set books s (book_after digest book call)) turns

-- what the books of replicas 0, 1 and 2, of so many heights, hold before they are opened
unfoldable pub anything : ℕ → List Bytes
anything heights = replicate 3 (replicate (book_size heights) 9)

-- ---- what the lists have in common
-- two entries
unfoldable pub entry : Bytes
entry = replicate 16 3

unfoldable pub other_entry : Bytes
other_entry = replicate 16 5

-- the block that replica 3, which is dishonest, proposes at height 2: it carries an entry twice
unfoldable pub next_block : Bytes
next_block = new_block 2 0 (zeros 32) (entry ∷ other_entry ∷ entry ∷ [])

-- the log that ends with this block: each entry at its first place
unfoldable pub next_log : Bytes
next_log = entry ++ other_entry

-- one name that opens every definition of these lists and their tests
unfoldable pub every_turn : Unit {0}
unfolding everything every_honest is_honest opens_in_turn opens_once delivers_backed not_forged shows shows_only no_collision
    some_in every_in signed signed_in is_backed statement_bytes opens_for is_among reads_part reads_where_at reads_at hears_where_at
    hears_at writes_at packet_in when block_in statement_of entry other_entry next_block next_log move hear hear_packet build
    anything
every_turn = tt
