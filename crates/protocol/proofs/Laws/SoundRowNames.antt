-- The rows of soundness by name: their places in `Sound.sound`, counted from 0. A row that is added moves these alone.
use Rattle.std.specs.Prelude.{ℕ}

-- the length is that of H heights
abbrev pub length_row : ℕ
length_row = 0

-- n
abbrev pub replicas_row : ℕ
replicas_row = 1

-- the own number
abbrev pub own_row : ℕ
own_row = 2

-- H
abbrev pub heights_row : ℕ
heights_row = 3

-- the edition
abbrev pub edition_row : ℕ
edition_row = 4

-- the weights
abbrev pub weights_row : ℕ
weights_row = 5

-- the current height
abbrev pub current_row : ℕ
current_row = 6

-- the flags
abbrev pub flags_row : ℕ
flags_row = 7

-- how many entries are pending
abbrev pub pending_row : ℕ
pending_row = 8

-- each leader is a replica
abbrev pub leaders_row : ℕ
leaders_row = 9

-- each mask is below 2 to the n
abbrev pub masks_row : ℕ
masks_row = 10

-- each status
abbrev pub status_row : ℕ
status_row = 11

-- blocks are well formed
abbrev pub blocks_row : ℕ
blocks_row = 12

-- notarized blocks have their quorum
abbrev pub certified_row : ℕ
certified_row = 13

-- zero bytes of the head
abbrev pub head_zeros_row : ℕ
head_zeros_row = 14

-- zero bytes of each height
abbrev pub content_zeros_row : ℕ
content_zeros_row = 15

-- the finalized height
abbrev pub finalized_row : ℕ
finalized_row = 16
