-- When a frame is read, and over which states.
use Rattle.std.specs.Prelude.{ℕ, ◌≤◌, ◌≡◌, List, map, length}
use Rattle.std.proofs.Math.Option.{none}
use Rattle.protocol.specs.Every.{Every}
use Rattle.protocol.specs.Bytes.{Bytes, Sized}
use Rattle.protocol.specs.Tests.{first_refusal}
use Rattle.protocol.specs.Block.{digest_size}
use Rattle.protocol.specs.Frame.{frame_size}
use Rattle.protocol.specs.State.{State, at, last}
use Rattle.protocol.specs.Deliver.{read_rows}
use Rattle.call_laws.specs.Fields.{Fields, fields}

-- a frame is read over a state: it passes refusals 4, 6, 5, 7 and 9
abbrev pub IsRead : State → Bytes → Type 0
IsRead s frame = first_refusal (read_rows s frame) ≡ none

-- two states of the same n, weights, H and leaders
pub record SameSetting (s s' : State) : Type 0 where
  pub same_n : s'.n ≡ s.n
  pub same_weights : s'.weights ≡ s.weights
  pub same_last : last s' ≡ last s
  pub same_leaders : (h : ℕ) → 1 ≤ h → h ≤ last s → (at s' h).leader ≡ (at s h).leader

-- what is asked of a digest function: its results have 32 bytes
abbrev pub DigestSized : (Bytes → Bytes) → Type 0
DigestSized digest = (bytes : Bytes) → length (digest bytes) ≡ digest_size

-- frames of 224 bytes that are read over a state and say these fields, one by one
pub record Said (s : State) (said : List Fields) (frames : List Bytes) : Type 0 where
  pub says : map fields frames ≡ said
  pub sized : Every (Sized frame_size) frames
  pub read : Every (IsRead s) frames
