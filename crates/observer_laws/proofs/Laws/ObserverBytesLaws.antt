-- The bytes that Open leaves.
use Rattle.std.specs.Prelude.{ℕ, ◌+◌, ◌*◌, ◌≡◌, ◌++◌, replicate}
use Rattle.std.proofs.Common.{arith, ◌∙◌, append_assoc}
use Rattle.std.proofs.lemmas.List.{length-map, length-replicate}
use Rattle.protocol.specs.Bytes.{Bytes, zeros}
use Rattle.protocol.specs.State.{head_bytes, weight_bytes, padded, number_bytes}
use Rattle.protocol.specs.Open.{Opening, opened_edition, opened_weights}
use Rattle.protocol.specs.Answer.{accepted, done}
use Rattle.protocol.specs.Observer.{as_replica, as_replica_height, encode_observer, observed_content_bytes, observed_body_bytes}
use Rattle.protocol.specs.ObserverCalls.{observer_open_call, new_observer, new_observed_height}
use Rattle.protocol.proofs.Laws.BytesLaws.{zeros_add}
use Rattle.protocol.proofs.Laws.ObserverPlaceLaws.{zero_join, zero_content, zero_body}
use Rattle.call_laws.proofs.Laws.BookBytesLaws.{short_zero}
use Rattle.observer_laws.specs.ObserverOpened.{opened_observer}
use Rattle.observer_laws.proofs.Laws.ObserverOpenLaws.{observer_opened}

new_bytes : (way : Opening) (n heights : ℕ) → encode_observer (new_observer way n heights) ≡ opened_observer way n heights
unfolding opened_observer encode_observer head_bytes as_replica new_observer
new_bytes way n heights =
    let size : 8 * heights + 176 * heights ≡ 184 * heights = omega arith in
    let weights = weight_bytes (opened_edition way) (padded (opened_weights n way)) in
    let numbers = number_bytes (opened_edition way) heights 0 0 in
    rw (
      length-map (replicate heights new_observed_height) as_replica_height,
      length-replicate heights new_observed_height,
      zero_join observed_content_bytes 8 zero_content heights,
      zero_join observed_body_bytes 176 zero_body heights,
      append_assoc weights numbers (zeros (8 * heights) ++ zeros (176 * heights)),
      zeros_add (8 * heights) (176 * heights),
      size,
      short_zero (opened_edition way),
    )

pub observer_open_bytes : (way : Opening) (book : Bytes) (n heights : ℕ) →
    (observer_open_call way book n heights).answer ≡ accepted done →
    (observer_open_call way book n heights).book ≡ opened_observer way n heights
observer_open_bytes way book n heights opened = (observer_opened way book n heights opened).1 ∙ new_bytes way n heights
