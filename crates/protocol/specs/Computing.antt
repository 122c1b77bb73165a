-- One name that opens every definition, for checks that compute on whole books. tests/computing writes this file.
use Rattle.protocol.specs.Bytes.{word16, le16, part, zeros, over_front, all, is_zero, same, pieces, join, holds}
use Rattle.protocol.specs.Bytes.{without, put}
use Rattle.protocol.specs.Distinct.{distinct_after, distinct, none_twice}
use Rattle.protocol.specs.Tests.{all_of, implies, in_range, every_height, first_refusal}
use Rattle.protocol.specs.Block.{block_height, parent_height, entry_count, parent_digest, entries, block_well_formed}
use Rattle.protocol.specs.Block.{new_block, all_entries}
use Rattle.protocol.specs.Frame.{kind, signer, frame_height, signer_mask, frame_digest, frame_block, is_statement}
use Rattle.protocol.specs.Frame.{is_certificate, carries_block, carries_digest, frame_well_formed, frame_of, proposal}
use Rattle.protocol.specs.Frame.{block_vote, dummy_vote, finalize, block_certificate, dummy_certificate}
use Rattle.protocol.specs.Frame.{finalize_certificate}
use Rattle.protocol.specs.Mask.{in_mask, mask_of, ones, union, intersection, below_bit, weigh, total}
use Rattle.protocol.specs.State.{book_size, most_heights, head_number, head_put, short_number, number_bytes, padded}
use Rattle.protocol.specs.State.{evenly, words, weight_bytes, weights_in, head_unused, head_bytes, content_bytes}
use Rattle.protocol.specs.State.{body_bytes, encode, decode_height, decode_heights, decode, last, no_height, at}
use Rattle.protocol.specs.State.{holds_proposal, is_notarized, vote_of, with_edition, with_height, with_head, with_pool}
use Rattle.protocol.specs.State.{with_timer_fired, flag, pending}
use Rattle.protocol.specs.View.{quorum, is_dummy, dummy_run, digest_at, extends_over, linked_within, linked, extends}
use Rattle.protocol.specs.View.{is_finalized, largest_finalized, parent_of, chain_within, chain, log_at}
use Rattle.protocol.specs.Sound.{view, log, weights_fit, masks_below, blocks_well_formed, content_zeros, sound}
use Rattle.protocol.specs.Answer.{is_accepted, unless_refused, refusal_number, certificate_kind, finalize_kind}
use Rattle.protocol.specs.Answer.{move_number, move_height}
use Rattle.protocol.specs.Open.{new_height, opened_edition, opened_weights, weights_in_range, new_state, open_in_range}
use Rattle.protocol.specs.Open.{open_rows, open_call}
use Rattle.protocol.specs.Deliver.{with_proposal, with_notarized, with_masks, with_vote, voters_for, keep_dummy_vote}
use Rattle.protocol.specs.Deliver.{keep_finalize, keep_block_certificate, keep_dummy_certificate}
use Rattle.protocol.specs.Deliver.{keep_finalize_certificate, read_rows, second_proposal, leader_equivocates}
use Rattle.protocol.specs.Deliver.{timer_fires, clash_rows, notarize, keep_proposal, keep_block_vote, keep, kept}
use Rattle.protocol.specs.Deliver.{deliver_rows, heard, deliver_call, deliver_all}
use Rattle.protocol.specs.Packet.{packet_frames, no_frames, counted_in, count_all, accepted_of, packet_rows}
use Rattle.protocol.specs.Packet.{packet_call}
use Rattle.protocol.specs.Certificates.{certificate_frame}
use Rattle.protocol.specs.Move.{first_step, is_some, some_or, is_running, idle_step, dummy_vote_applies}
use Rattle.protocol.specs.Move.{dummy_vote_step, offered, unused, written, moved, unless_move_refused, new_finalized}
use Rattle.protocol.specs.Move.{output_applies, output_step, pass_applies, pass_step, propose_applies, proposed_block}
use Rattle.protocol.specs.Move.{propose_step, block_vote_applies, block_vote_step, step, after_moves, move_rows}
use Rattle.protocol.specs.Move.{move_call}
use Rattle.protocol.specs.Signal.{signal_rows, signal_call}
use Rattle.protocol.specs.Submit.{with_pending, still_pending, submit_rows, submit_call}
use Rattle.protocol.specs.Read.{log_size, size_call, read_part, read_buffer}
use Rattle.protocol.specs.Fetch.{has_certificate, certificate_if, certificates_at, certificates_to, every_certificate}
use Rattle.protocol.specs.Fetch.{unless_fetch_refused, fetch_rows, fetch_call}
use Rattle.protocol.specs.Call.{effect, book_after_all}
use Rattle.protocol.specs.Observer.{as_replica_height, as_replica, observed_height, observed, observer_book_size}
use Rattle.protocol.specs.Observer.{observed_content_bytes, observed_body_bytes, encode_observer}
use Rattle.protocol.specs.Observer.{decode_observed_height, decode_observed_heights, decode_observer}
use Rattle.protocol.specs.ObserverSound.{replica_head, observed_zero, observer_sound}
use Rattle.protocol.specs.ObserverCalls.{new_observed_height, new_observer, observer_open_rows, observer_open_call}
use Rattle.protocol.specs.ObserverCalls.{observer_kept, observer_log_size, observer_deliver_rows, observer_deliver_call}
use Rattle.protocol.specs.ObserverCalls.{observer_step, observer_moved, observer_move_rows, observer_move_call}
use Rattle.protocol.specs.ObserverCalls.{observer_size_call, observer_read_part, observer_read_buffer}
use Rattle.protocol.specs.ObserverCall.{observation, observer_book_after_all}

unfoldable pub everything : Unit {0}
unfolding word16 le16 part zeros over_front all is_zero same pieces join holds without put distinct_after distinct
    none_twice all_of implies in_range every_height first_refusal block_height parent_height entry_count parent_digest
    entries block_well_formed new_block all_entries kind signer frame_height signer_mask frame_digest frame_block
    is_statement is_certificate carries_block carries_digest frame_well_formed frame_of proposal block_vote dummy_vote
    finalize block_certificate dummy_certificate finalize_certificate in_mask mask_of ones union intersection below_bit
    weigh total book_size most_heights head_number head_put short_number number_bytes padded evenly words weight_bytes
    weights_in head_unused head_bytes content_bytes body_bytes encode decode_height decode_heights decode last no_height
    at holds_proposal is_notarized vote_of with_edition with_height with_head with_pool with_timer_fired flag pending
    quorum is_dummy dummy_run digest_at extends_over linked_within linked extends is_finalized largest_finalized
    parent_of chain_within chain log_at view log weights_fit masks_below blocks_well_formed content_zeros sound
    is_accepted unless_refused refusal_number certificate_kind finalize_kind move_number move_height new_height
    opened_edition opened_weights weights_in_range new_state open_in_range open_rows open_call with_proposal
    with_notarized with_masks with_vote voters_for keep_dummy_vote keep_finalize keep_block_certificate
    keep_dummy_certificate keep_finalize_certificate read_rows second_proposal leader_equivocates timer_fires clash_rows
    notarize keep_proposal keep_block_vote keep kept deliver_rows heard deliver_call deliver_all packet_frames no_frames
    counted_in count_all accepted_of packet_rows packet_call certificate_frame first_step is_some some_or is_running
    idle_step dummy_vote_applies dummy_vote_step offered unused written moved unless_move_refused new_finalized
    output_applies output_step pass_applies pass_step propose_applies proposed_block propose_step block_vote_applies
    block_vote_step step after_moves move_rows move_call signal_rows signal_call with_pending still_pending submit_rows
    submit_call log_size size_call read_part read_buffer has_certificate certificate_if certificates_at certificates_to
    every_certificate unless_fetch_refused fetch_rows fetch_call effect book_after_all as_replica_height as_replica
    observed_height observed observer_book_size observed_content_bytes observed_body_bytes encode_observer
    decode_observed_height decode_observed_heights decode_observer replica_head observed_zero observer_sound
    new_observed_height new_observer observer_open_rows observer_open_call observer_kept observer_log_size
    observer_deliver_rows observer_deliver_call observer_step observer_moved observer_move_rows observer_move_call
    observer_size_call observer_read_part observer_read_buffer observation observer_book_after_all
everything = tt
