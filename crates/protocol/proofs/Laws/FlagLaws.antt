-- Setting one flag that was clear leaves the others as they were. Flag 1, 2, 4 or 8 is bit 0, 1, 2 or 3 of the flags.
use Rattle.std.specs.Prelude.{ℕ, ◌+◌, ◌^◌, ◌<◌, ◌≡◌, ◌≢◌, true, false}
use Rattle.protocol.specs.Mask.{in_mask}
use Rattle.protocol.proofs.Laws.MaskLaws.{in_mask-add-self, in_mask-add-other, add_below}
use Rattle.protocol.specs.State.{State, flag, with_head}

module _ (s : State) (c g bit : ℕ) (clear : flag (2 ^ bit) s ≡ false) where
  -- the state with that flag set
  abbrev flagged : State
  flagged = with_head s (s.flags + 2 ^ bit) c g

  pub flag_set : flag (2 ^ bit) flagged ≡ true
  unfolding flag with_head in_mask
  flag_set = in_mask-add-self s.flags bit clear

  pub flag_kept : (other : ℕ) → other ≢ bit → flag (2 ^ other) flagged ≡ flag (2 ^ other) s
  unfolding flag with_head in_mask
  flag_kept other differs = in_mask-add-other s.flags bit other clear differs

  -- flags below 16 stay below 16
  pub flag_room : bit < 4 → s.flags < 16 → s.flags + 2 ^ bit < 16
  unfolding flag in_mask
  flag_room inside small = add_below bit 4 s.flags inside small clear
