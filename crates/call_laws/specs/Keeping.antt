-- What a delivery that is not refused leaves, beside document 01's "Deliver": the statements that its frame makes are
-- kept, all that was kept before stays, and no other byte changes; the answer says whether a byte did. A block is
-- notarized just where a certificate says so, or where a proposal or a vote is newly kept and the kept votes for the
-- held proposal are a quorum. The one exception is request 2.2's: a second proposal of the leader of the current height
-- fires the timer, and is not kept. That this leaves no choice is `KeepsExactLaws.keeps_exact`.
use Rattle.std.specs.Prelude.{ℕ, ◌+◌, ◌≤◌, ◌<◌, ◌≡◌, ◌⊎◌, ◌≢◌, Bool, true, false, ◌&&◌, ◌||◌, cond, eqb, length, set}
use Rattle.protocol.specs.Bytes.{Bytes, byte_at, AreBytes}
use Rattle.protocol.specs.Answer.{Delivery, known, fresh}
use Rattle.protocol.specs.Mask.{in_mask}
use Rattle.protocol.specs.Frame.{kind, signer, frame_height, signer_mask, frame_digest, frame_block, is_proposal}
use Rattle.protocol.specs.Frame.{is_block_vote}
use Rattle.protocol.specs.State.{State, Height, at, decode, with_height, holds_proposal, is_notarized, vote_of, flag}
use Rattle.protocol.specs.View.{View, quorum}
use Rattle.protocol.specs.Sound.{view, sound}
use Rattle.protocol.specs.Deliver.{voters_for}
use Rattle.call_laws.specs.KeptBytes.{SameOutside, delivery_parts}
use Rattle.call_laws.specs.Equivocating.{Equivocation}

-- a frame of kind `k` makes a statement in the name of replica `t`: one of its own, or one that a certificate says it
-- made
unfoldable pub says : (k statement certificate : ℕ) → Bytes → ℕ → Bool
says k statement certificate frame t =
    cond (eqb k statement) (eqb (signer frame) t) (eqb k certificate && in_mask (signer_mask frame) t)

-- a proposal where none is held, or a replica's first vote for a block
unfoldable pub NewlyKept : ℕ → Bytes → Height → Type 0
NewlyKept k frame x =
    ((k ≡ 1) × (holds_proposal x ≡ false)) ⊎ ((k ≡ 2) × (in_mask x.voter_mask (signer frame) ≡ false))

-- ---- one height, `x` before and `y` after a frame of kind `k`
module _ (n k : ℕ) (frame : Bytes) (x y : Height) where
  -- who voted for the dummy block, and who finalizes: those known before, and those that the frame names
  pub record KeepsMasks : Type 0 where
    pub dummies : (t : ℕ) → t < n → in_mask y.dummy_mask t ≡ (in_mask x.dummy_mask t || says k 3 6 frame t)
    pub finalizes : (t : ℕ) → t < n → in_mask y.finalize_mask t ≡ (in_mask x.finalize_mask t || says k 4 7 frame t)

  -- votes for blocks: a replica's first one stays
  pub record KeepsVotes : Type 0 where
    pub voters : (t : ℕ) → t < n →
        in_mask y.voter_mask t ≡ (in_mask x.voter_mask t || (is_block_vote k && eqb (signer frame) t))
    pub first_vote : (t : ℕ) → in_mask x.voter_mask t ≡ true → vote_of y t ≡ vote_of x t
    pub this_vote : k ≡ 2 → vote_of y (signer frame) ≡ frame_digest frame

  -- proposals: the first one stays
  pub record KeepsProposal : Type 0 where
    pub holds : holds_proposal y ≡ (holds_proposal x || is_proposal k)
    pub first_proposal : holds_proposal x ≡ true → y.proposal ≡ x.proposal
    pub this_proposal : k ≡ 1 → y.proposal ≡ frame_block frame

module _ (digest : Bytes → Bytes) (v : View) where
  -- the replicas whose kept vote is for the held proposal
  abbrev pub held_voters : Height → ℕ
  held_voters x = voters_for x (digest x.proposal) v.n

  -- they are a quorum
  unfoldable pub Voted : Height → Type 0
  Voted x = (holds_proposal x ≡ true) × (quorum v (held_voters x) ≡ true)

  -- no such quorum is overlooked, as where no proposal is held
  unfoldable pub Tallied : Height → Type 0
  Tallied x = Voted x → is_notarized x ≡ true

  -- the notarized block is the held proposal, and its certificate is signed by all who voted for it
  unfoldable pub ByVotes : Height → Type 0
  ByVotes y = Voted y × (y.notarized ≡ y.proposal) × (y.certificate_mask ≡ held_voters y)

  -- the notarized block
  pub record KeepsBlock (k : ℕ) (frame : Bytes) (x y : Height) : Type 0 where
    -- the first one stays, with its certificate
    pub first_block_lem : is_notarized x ≡ true →
        (is_notarized y ≡ true) × (y.notarized ≡ x.notarized) × (y.certificate_mask ≡ x.certificate_mask)
    -- a certificate's block is notarized, where none was with the signers that the frame names
    pub this_block : k ≡ 5 → (is_notarized y ≡ true) × (y.notarized ≡ frame_block frame)
    pub this_certificate : k ≡ 5 → is_notarized x ≡ false → y.certificate_mask ≡ signer_mask frame
    -- when a proposal or a vote is newly kept the votes are counted, and no quorum that was counted is lost
    pub counted : NewlyKept k frame x → Tallied y
    pub tallied : Tallied x → Tallied y
    -- and nothing else notarizes
    pub only_so : is_notarized y ≡ true →
        (is_notarized x ≡ true) ⊎ ((k ≡ 5) ⊎ (NewlyKept k frame x × ByVotes y))

  pub record KeepsAt (k : ℕ) (frame : Bytes) (x y : Height) : Type 0 where
    pub leader : y.leader ≡ x.leader
    pub masks : KeepsMasks v.n k frame x y
    pub votes : KeepsVotes v.n k frame x y
    pub proposal : KeepsProposal v.n k frame x y
    pub block : KeepsBlock k frame x y

-- every height of a state is tallied
abbrev pub AllTallied : (Bytes → Bytes) → State → Type 0
AllTallied digest s = (h : ℕ) → 1 ≤ h → Tallied digest (view s) (at s h)

-- ---- a state, and the one after a delivery: only the frame's height has changed, and there its statement is kept
pub record KeepsState (digest : Bytes → Bytes) (s s' : State) (frame : Bytes) : Type 0 where
  pub elsewhere : s' ≡ with_height s (frame_height frame) (at s' (frame_height frame))
  pub here : KeepsAt digest (view s) (kind frame) frame (at s (frame_height frame)) (at s' (frame_height frame))

-- ---- the bytes of a book, and those after a delivery that answered `news` and kept the frame's statement
pub record KeepsStatement (digest : Bytes → Bytes) (book frame : Bytes) (news : Delivery) (after : Bytes) : Type 0 where
  -- known: no byte has changed; fresh: one has
  pub known_same : news ≡ known → after ≡ book
  pub fresh_differs : news ≡ fresh → (i : ℕ) × (i < length book) × (byte_at after i ≢ byte_at book i)
  -- only the bytes that `KeptBytes` lists for the frame may have changed (a book's numbers are bytes, as in a slice)
  pub other_bytes : AreBytes book → SameOutside (delivery_parts book frame after) book after
  pub same_length : length after ≡ length book
  -- and they hold what the frame states, with no bit of a mask from n up and no state above 3, as in each sound book
  pub keeps : KeepsState digest (decode book) (decode after) frame
  pub stays_sound : sound digest after ≡ true

-- ---- the same where the leader of the current height equivocates: nothing but flag 1 changes
pub record FiresTimer (book : Bytes) (news : Delivery) (after : Bytes) : Type 0 where
  -- the timer had fired: no byte has changed
  pub fired_before : flag 1 (decode book) ≡ true → (news ≡ known) × (after ≡ book)
  -- it had not: flag 1 is added to byte 3, and no other byte has changed
  pub fires_now : flag 1 (decode book) ≡ false →
      (news ≡ fresh) × (AreBytes book → after ≡ set book 3 (byte_at book 3 + 1))

-- ---- each delivery that is not refused does one of the two
pub record Keeps (digest : Bytes → Bytes) (book frame : Bytes) (news : Delivery) (after : Bytes) : Type 0 where
  pub statement : (Equivocation (decode book) frame → ⊥) → KeepsStatement digest book frame news after
  pub equivocation : Equivocation (decode book) frame → FiresTimer book news after
