-- Which bytes of a book a delivery writes that keeps what its frame states, by the kind of the frame.
use Rattle.std.specs.Prelude.{ℕ, ◌+◌, ◌-◌, ◌*◌, ◌≡◌, Bool, false, ◌&&◌, ◌||◌, not, cond, List, [], ◌∷◌, ◌++◌, leb, ltb}
use Rattle.protocol.specs.Bytes.{Bytes, byte_at}
use Rattle.protocol.specs.Frame.{kind, signer, frame_height, is_proposal, is_block_vote, is_dummy_vote, is_finalize}
use Rattle.protocol.specs.Frame.{is_dummy_certificate, is_finalize_certificate}
use Rattle.protocol.specs.State.{Height, at, decode, is_notarized, book_heights}

-- a part of a book: its first byte, and how many bytes it has
abbrev pub Part : Type 0
Part = ℕ × ℕ

-- byte `i` lies in one of these parts
unfoldable pub in_parts : List Part → ℕ → Bool
in_parts [] i = false
in_parts (p ∷ ps) i = (leb p.0 i && ltb i (p.0 + p.1)) || in_parts ps i

-- every byte outside these parts is the same in both
pub record SameOutside (parts : List Part) (before after : Bytes) : Type 0 where
  pub same_byte : (i : ℕ) → in_parts parts i ≡ false → byte_at after i ≡ byte_at before i

-- ---- where height `h` stands in a book of `heights` heights
module _ (heights h : ℕ) where
  -- its contents: 0 leader, 1 state, 2 certificate mask, 4 dummy votes, 6 finalizes, 8 block voters, 10 to 15 zero
  abbrev pub content_at : ℕ
  content_at = 576 + 16 * (h - 1)

  -- its body: 0 held proposal, 176 notarized block, 352 and 32 more for each replica: the digest that it voted for
  abbrev pub body_at : ℕ
  body_at = 576 + 16 * heights + 864 * (h - 1)

  -- a proposal that is kept: the state and the held proposal
  unfoldable pub proposal_parts : List Part
  proposal_parts = (content_at + 1, 1) ∷ (body_at, 176) ∷ []

  -- replica t's vote for a block: the voters and its own digest
  unfoldable pub vote_parts : ℕ → List Part
  vote_parts t = (content_at + 8, 2) ∷ (body_at + (352 + 32 * t), 32) ∷ []

  unfoldable pub dummy_parts : List Part
  dummy_parts = (content_at + 4, 2) ∷ []

  unfoldable pub finalize_parts : List Part
  finalize_parts = (content_at + 6, 2) ∷ []

  -- a block that becomes the notarized one: the state, the certificate mask and the notarized block
  unfoldable pub notarized_parts : List Part
  notarized_parts = (content_at + 1, 1) ∷ (content_at + 2, 2) ∷ (body_at + 176, 176) ∷ []

  -- what a frame of kind `k` and signer `t` writes by itself; a block certificate only what it notarizes
  unfoldable pub kept_parts : ℕ → ℕ → List Part
  kept_parts k t =
      cond (is_proposal k) proposal_parts
      (cond (is_block_vote k) (vote_parts t)
      (cond (is_dummy_vote k || is_dummy_certificate k) dummy_parts
      (cond (is_finalize k || is_finalize_certificate k) finalize_parts [])))

-- a height has a notarized block, and had none before
unfoldable pub newly_notarized : Height → Height → Bool
newly_notarized x y = not (is_notarized x) && is_notarized y

-- all that the delivery of a frame that made `after` of `book` may have written
unfoldable pub delivery_parts : Bytes → Bytes → Bytes → List Part
delivery_parts book frame after =
    let h : ℕ = frame_height frame in
    kept_parts (book_heights book) h (kind frame) (signer frame) ++
    cond (newly_notarized (at (decode book) h) (at (decode after) h)) (notarized_parts (book_heights book) h) []
