-- Written by tests/restated --write: what docs/statements has of
-- crates/packing/proofs/Laws/ObserverPackingLaws.antt.
use Rattle.std.specs.Prelude.{ℕ, ◌≡◌}
use package.Rattle.protocol.specs.Bytes.{Bytes}
use package.Rattle.protocol.specs.Open.{Opening}
use package.Rattle.protocol.specs.ObserverCalls.{observer_open_call, observer_deliver_call}
use package.Rattle.protocol.specs.ObserverCalls.{observer_move_call}
use package.Rattle.protocol.specs.ObserverCalls.{observer_size_call}
use package.Rattle.packing.specs.Packing.{packed_done, packed_delivery, packed_move, packed_size}
use package.Rattle.packing.specs.Unpacking.{DoneRead, DeliveryRead, MoveRead, SizeRead}
use package.Rattle.packing.specs.Unpacking.{unpacked_frames}
use mathlib.Core.Path.{◌≡◌ as ◌is-kept◌, refl as by-text}
use package.Rattle.packing.proofs.Laws.ObserverPackingLaws as page

pub observer_open_read-kept : (way : Opening) (book : Bytes) (n heights : ℕ) →
    DoneRead (packed_done (observer_open_call way book n heights).answer) (observer_open_call way book n heights).answer
observer_open_read-kept = page.observer_open_read

module _ (digest : Bytes → Bytes) (book : Bytes) where
  pub observer_deliver_read-kept : (frame : Bytes) →
      DeliveryRead (packed_delivery (observer_deliver_call digest book frame).answer)
      (observer_deliver_call digest book frame).answer
  observer_deliver_read-kept = page.observer_deliver_read digest book

  pub observer_move_read-kept :
      MoveRead (packed_move (observer_move_call digest book).answer) (observer_move_call digest book).answer
  observer_move_read-kept = page.observer_move_read digest book

  pub observer_frames_read-kept : unpacked_frames (packed_move (observer_move_call digest book).answer) ≡ 0
  observer_frames_read-kept = page.observer_frames_read digest book

  pub observer_size_read-kept : SizeRead (packed_size (observer_size_call digest book)) (observer_size_call digest book)
  observer_size_read-kept = page.observer_size_read digest book
