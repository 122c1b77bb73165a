-- What a packet that is not refused leaves: what its frames leave, each delivered by itself over the book that those
-- before it left. A refused frame changes nothing and is counted, and the frames after it are delivered all the same.
use Rattle.std.specs.Prelude.{◌≡◌, List, [], ◌∷◌}
use Rattle.std.proofs.Math.Option.{some, none}
use Rattle.protocol.specs.Bytes.{Bytes}
use Rattle.protocol.specs.Tests.{first_refusal}
use Rattle.protocol.specs.Answer.{Answer, Counts, Delivery, refused, accepted}
use Rattle.protocol.specs.Deliver.{deliver_rows}
use Rattle.protocol.specs.Packet.{no_frames, counted_in}
use Rattle.call_laws.specs.Keeping.{Keeps}

module _ (digest : Bytes → Bytes) where
  -- a frame with this answer, and the book after it: the number of its first row that fails, and no byte changes; or
  -- no row fails, and what the frame states is kept or the timer fires
  unfoldable pub Delivers : Bytes → Bytes → Answer Delivery → Bytes → Type 0
  Delivers book frame (refused number) after =
      (first_refusal (deliver_rows digest book frame) ≡ some number) × (after ≡ book)
  Delivers book frame (accepted news) after =
      (first_refusal (deliver_rows digest book frame) ≡ none) × Keeps digest book frame news after

  -- frames in order: how many were fresh, known and refused, and the book after the last
  unfoldable pub KeepsAll : Bytes → List Bytes → Counts → Bytes → Type 0
  KeepsAll book [] counts after = (counts ≡ no_frames) × (after ≡ book)
  KeepsAll book (frame ∷ frames) counts after =
      (answer : Answer Delivery) × (next : Bytes) × (later : Counts) ×
      Delivers book frame answer next × KeepsAll next frames later after × (counts ≡ counted_in answer later)
