-- The rows of reading and of contradiction one by one.
use Rattle.std.specs.Prelude.{ℕ, Bool, ◌&&◌, ◌||◌, cond, List, [], ◌∷◌, eqb, ltb}
use Rattle.protocol.specs.Bytes.{Bytes, same}
use Rattle.protocol.specs.Tests.{implies, Row}
use Rattle.protocol.specs.Frame.{kind, signer, signer_mask, frame_digest, is_statement, is_proposal, is_block_vote}
use Rattle.protocol.specs.Mask.{in_mask, below_bit}
use Rattle.protocol.specs.State.{State, Height, at, vote_of}
use Rattle.protocol.specs.View.{quorum}
use Rattle.protocol.specs.Sound.{view}

-- three rows, each a number and a test
abbrev pub three_rows : ℕ → ℕ → ℕ → Bool → Bool → Bool → List Row
three_rows a b c p q r = (a, p) ∷ (b, q) ∷ (c, r) ∷ []

-- ---- the rows about a frame's signers
unfoldable pub members_fit : State → Bytes → Bool
members_fit s frame = cond (is_statement (kind frame)) (ltb (signer frame) s.n) (below_bit s.n (signer_mask frame))

unfoldable pub leader_signed : State → ℕ → Bytes → Bool
leader_signed s h frame = implies (is_proposal (kind frame)) (eqb (signer frame) (at s h).leader)

unfoldable pub signers_enough : State → Bytes → Bool
signers_enough s frame = is_statement (kind frame) || quorum (view s) (signer_mask frame)

unfoldable pub member_rows : State → ℕ → Bytes → List Row
member_rows s h frame = three_rows 5 7 9 (members_fit s frame) (leader_signed s h frame) (signers_enough s frame)

-- ---- the row about the signer's kept vote
unfoldable pub vote_agrees : Height → Bytes → Bool
vote_agrees x frame = implies (is_block_vote (kind frame) && in_mask x.voter_mask (signer frame))
    (same (vote_of x (signer frame)) (frame_digest frame))
