-- The demands at SHA-256, over the bytes of books: nothing is asked of the digest here, and nothing is left open.
--
-- Demand 1 is the contracts: each function answers, and leaves in every byte lent to it, what its definition says.
--
-- The calls, each with its definition in `protocol` and its function in `replica`:
--
-- - Open: `Open.open_call`; `open::open`
-- - Deliver: `Deliver.deliver_call sha256`; `deliver::deliver`
-- - Packet: `Packet.packet_call sha256`; `packet::deliver_packet`
-- - Move: `Move.move_call sha256`; `make_move::make_move`
-- - Signal: `Signal.signal_call sha256`; `signal::signal`
-- - Submit: `Submit.submit_call sha256`; `submit::submit`
-- - Register size: `Read.size_call sha256`; `read::size`
-- - Read, the part returned: `Read.read_part sha256`; `read::read`
-- - Read, every byte: `Read.read_buffer sha256`; `read::read_into`
-- - Fetch: `Fetch.fetch_call sha256`; `fetch::fetch`
--
-- Those of observers are on the page `ObserverDemands`.
--
-- What these definitions say follows, demand by demand. A premise `AreBytes book` says that each number of the book is
-- below 256, as in a byte slice.
use Rattle.std.specs.Prelude.{ℕ, ◌-◌, ◌*◌, ◌≤◌, ◌<◌, ◌≡◌, true, false, ◌&&◌, List, [], ◌∷◌, ◌++◌, map, length, replicate, leb, ltb}
use Rattle.std.proofs.Math.Option.{none}
use Rattle.std.proofs.Common.{le-leb}
use Rattle.sha256.specs.Digest.{sha256}
use Rattle.sha256.specs.Laws.DigestLaws.{sha256_length}
use Rattle.protocol.specs.Bytes.{Bytes, AreBytes, byte_at, holds, join, le16, zeros}
use Rattle.protocol.specs.Distinct.{distinct_after, distinct, none_twice}
use Rattle.protocol.specs.Tests.{first_refusal, in_range}
use Rattle.protocol.specs.Block.{block_well_formed, new_block}
use Rattle.protocol.specs.Frame.{frame_height, frame_of, frame_size, frame_well_formed}
use Rattle.protocol.specs.State.{State, decode, book_finalized, flag}
use Rattle.protocol.specs.Mask.{ones, intersection}
use Rattle.protocol.specs.View.{View, mask_weight, quorum, total_weight, log_at}
use Rattle.protocol.proofs.Laws.SharedLaws.{quorums_third, third_tight, quorum_equal, equal_third}
use Rattle.protocol.specs.Sound.{view, sound, log}
use Rattle.protocol.specs.Before.{block_before, frame_before, sound_before}
use Rattle.protocol.proofs.Laws.BeforeLaws.{short_frame, short_block, block_before_lem, frame_before_lem, sound_before_lem}
use Rattle.protocol.proofs.Laws.DistinctLaws.{distinct_append}
use Rattle.protocol.proofs.Laws.LogLaws.{log_once, log_holds, log_whole}
use Rattle.protocol.proofs.Laws.SoundLaws.{sound_decode}
use Rattle.protocol.specs.Answer.{Done, Delivery, Counts, Move, accepted, done}
use Rattle.protocol.specs.Open.{Opening, open_rows, open_call}
use Rattle.protocol.specs.Deliver.{deliver_rows, deliver_call, deliver_all}
use Rattle.protocol.specs.Packet.{packet_frames, counted, packet_rows, packet_call}
use Rattle.protocol.proofs.Laws.PacketLaws.{packet_delivered, packet_sums}
use Rattle.protocol.specs.Move.{step, moved, move_rows, move_call, unless_move_refused}
use Rattle.protocol.specs.Signal.{signal_rows, signal_call}
use Rattle.protocol.specs.Submit.{submit_rows, submit_call}
use Rattle.protocol.specs.Read.{size_call, read_part, read_buffer}
use Rattle.protocol.specs.Fetch.{fetch_rows, fetch_call}
use Rattle.protocol.specs.Call.{Call, delivery, effect, book_after, book_after_all}
use Rattle.agreement.specs.Lists.{Agreement, Member}
use Rattle.agreement.specs.ObserverLists.{AnyMember, ObservedAgreement}
use Rattle.agreement.proofs.Laws.AgreementLaws.{agreement, observed_agreement}
use Rattle.agreement.specs.AnyDigest.{AnyDigest}
use Rattle.agreement.proofs.Laws.AnyDigestLaws.{any_digest}
use Rattle.agreement.specs.Turns.{next_block}
use Rattle.agreement.specs.ObserverWitness.{ObserverWitness}
use Rattle.agreement.proofs.Laws.ObserverWitnessLaws.{observer_witness}
use Rattle.agreement.specs.ObserverUnpacked.{ObservedAgreementOn, ObserverUnpacks, all_unpacked}
use Rattle.agreement.proofs.Laws.ObserverUnpackedLaws.{observed_deliveries_alone}
use Rattle.agreement.proofs.Laws.ObserverUnpacksLaws.{observer_unpacks}
use Rattle.agreement.specs.Unpacked.{AgreementOn, Unpacks, unpacked}
use Rattle.agreement.proofs.Laws.UnpacksLaws.{deliveries_alone, unpacks}
use Rattle.witnesses.specs.AllEditions.{AllEditions, block}
use Rattle.witnesses.specs.Laws.AllEditionsLaws.{all_editions}
use Rattle.call_laws.specs.Refusals.{Refuses}
use Rattle.call_laws.proofs.Laws.RefusalsLaws.{open_refuses, deliver_refuses, packet_refuses, move_refuses}
use Rattle.call_laws.proofs.Laws.RefusalsLaws.{signal_refuses, submit_refuses, size_refuses, fetch_refuses}
use Rattle.call_laws.specs.BookBytes.{opened_book, Signals, Submits, head_of}
use Rattle.call_laws.proofs.Laws.BookBytesLaws.{open_bytes, signal_bytes, submit_bytes, move_bytes}
use Rattle.call_laws.specs.Equivocating.{Equivocation}
use Rattle.call_laws.specs.Keeping.{Keeps, AllTallied}
use Rattle.call_laws.proofs.Laws.KeepingLaws.{deliver_keeps}
use Rattle.call_laws.proofs.Laws.KeepsExactLaws.{keeps_exact}
use Rattle.call_laws.specs.PacketKeeping.{KeepsAll}
use Rattle.call_laws.proofs.Laws.PacketKeepingLaws.{packet_keeps}
use Rattle.call_laws.proofs.Laws.SoundStays.{sound_stays as stays_sound, sound_opened}
use Rattle.call_laws.specs.SettingStays.{SettingStays}
use Rattle.call_laws.proofs.Laws.SettingStaysLaws.{setting_stays}
use Rattle.call_laws.proofs.Laws.Tallying.{tallied_stays_all, tallied_opened}
use Rattle.call_laws.specs.Readable.{SameSetting}
use Rattle.call_laws.specs.WrittenRead.{MoveWritten, FetchWritten}
use Rattle.call_laws.proofs.Laws.CallWrittenLaws.{move_written_read, fetch_written_read}
use Rattle.paper.specs.Steps.{FiveSteps}
use Rattle.paper.proofs.Laws.StepsLaws.{five_steps}
use Rattle.paper.specs.Timer.{Timer, TwoBlocks, VotesDummyNext}
use Rattle.paper.proofs.Laws.TimerLaws.{timer}
use Rattle.paper.proofs.Laws.EquivocationLaws.{second_block, two_blocks, two_blocks_packet}
use Rattle.paper.specs.Idle.{IdlesJustThen, MovesEnd}
use Rattle.paper.proofs.Laws.IdleLaws.{idles_just_then, moves_end}
use Rattle.paper.specs.Register.{ReadsChainOf, ReadsChain, CannotRead}
use Rattle.paper.proofs.Laws.RegisterLaws.{reads_chain, reads_nothing}
use Rattle.paper.proofs.Laws.RegisterExactLaws.{reads_exact}

-- ---- demand 1: refusals
-- each call is refused by the number of its first row that fails, if one does, and then no byte lent to it changes
pub open_refused : (way : Opening) (book : Bytes) (n own heights : ℕ) (leaders : Bytes) →
    Refuses Done (open_rows way book n own heights leaders) (open_call way book n own heights leaders).answer
    (book ∷ []) ((open_call way book n own heights leaders).book ∷ [])
open_refused = open_refuses

pub deliver_refused : (book frame : Bytes) →
    Refuses Delivery (deliver_rows sha256 book frame) (deliver_call sha256 book frame).answer
    (book ∷ []) ((deliver_call sha256 book frame).book ∷ [])
deliver_refused = deliver_refuses sha256

pub packet_refused : (book packet : Bytes) →
    Refuses Counts (packet_rows sha256 book packet) (packet_call sha256 book packet).answer
    (book ∷ []) ((packet_call sha256 book packet).book ∷ [])
packet_refused = packet_refuses sha256

pub move_refused : (book reply : Bytes) →
    Refuses Move (move_rows sha256 book reply) (move_call sha256 book reply).answer
    (book ∷ reply ∷ []) ((move_call sha256 book reply).book ∷ (move_call sha256 book reply).reply ∷ [])
move_refused = move_refuses sha256

pub signal_refused : (book : Bytes) (h : ℕ) →
    Refuses Done (signal_rows sha256 book h) (signal_call sha256 book h).answer
    (book ∷ []) ((signal_call sha256 book h).book ∷ [])
signal_refused = signal_refuses sha256

pub submit_refused : (book entry : Bytes) →
    Refuses Done (submit_rows sha256 book entry) (submit_call sha256 book entry).answer
    (book ∷ []) ((submit_call sha256 book entry).book ∷ [])
submit_refused = submit_refuses sha256

pub size_refused : (book : Bytes) → Refuses ℕ ((1, sound sha256 book) ∷ []) (size_call sha256 book) [] []
size_refused = size_refuses sha256

pub fetch_refused : (book : Bytes) (k h : ℕ) (reply : Bytes) →
    Refuses Done (fetch_rows sha256 book k h reply) (fetch_call sha256 book k h reply).answer
    (reply ∷ []) ((fetch_call sha256 book k h reply).reply ∷ [])
fetch_refused = fetch_refuses sha256

-- Read, where size refuses or the buffer is shorter: the empty part, and no byte of the buffer changes
pub read_refused : (book buffer : Bytes) → CannotRead sha256 book buffer →
    (read_part sha256 book buffer ≡ []) × (read_buffer sha256 book buffer ≡ buffer)
read_refused = reads_nothing sha256

-- ---- demand 1: the bytes of the book where a call is not refused; those of a delivery are in `deliveries_keep` below
pub open_writes : (way : Opening) (book : Bytes) (n own heights : ℕ) (leaders : Bytes) →
    (open_call way book n own heights leaders).answer ≡ accepted done →
    (open_call way book n own heights leaders).book ≡ opened_book way n own heights leaders
open_writes = open_bytes

pub signal_writes : (book : Bytes) → AreBytes book → (h : ℕ) → (signal_call sha256 book h).answer ≡ accepted done →
    Signals book h (signal_call sha256 book h).book
signal_writes = signal_bytes sha256

pub submit_writes : (book : Bytes) → AreBytes book → (entry : Bytes) →
    (submit_call sha256 book entry).answer ≡ accepted done →
    Submits book entry (submit_call sha256 book entry).book
submit_writes = submit_bytes sha256

pub move_writes : (book : Bytes) → AreBytes book → (reply : Bytes) → sound sha256 book ≡ true → 448 ≤ length reply →
    (move_call sha256 book reply).book ≡ head_of book (step sha256 (decode book)).after
move_writes = move_bytes sha256

-- every call leaves a sound book sound, and Open makes a sound one of any bytes
pub sound_stays : (book : Bytes) (call : Call) → sound sha256 book ≡ true →
    sound sha256 (book_after sha256 book call) ≡ true
sound_stays = stays_sound sha256

pub open_makes_sound : (way : Opening) (book : Bytes) (n own heights : ℕ) (leaders : Bytes) →
    (open_call way book n own heights leaders).answer ≡ accepted done →
    sound sha256 (open_call way book n own heights leaders).book ≡ true
open_makes_sound = sound_opened sha256

-- no call but an opening that is not refused changes what an opening settles: edition, n, weights, own number and H
pub settings_stay : (book : Bytes) (call : Call) → sound sha256 book ≡ true → (effect sha256 book call).opens ≡ none →
    SettingStays (decode book) (decode (book_after sha256 book call))
settings_stay = setting_stays sha256

-- ---- demand 2: the five steps
-- on a sound book and a reply that is long enough Move does the step of the state that the book says ..
pub move_is_the_step : (book reply : Bytes) → sound sha256 book ≡ true → 448 ≤ length reply →
    move_call sha256 book reply ≡ moved reply (step sha256 (decode book))
unfolding move_call move_rows first_refusal unless_move_refused
move_is_the_step book reply ok room = rw (ok, le-leb 448 (length reply) room)

-- .. and that step is what the paper's five steps ask, idle where they ask for none
pub the_five_steps : (book : Bytes) → sound sha256 book ≡ true → FiveSteps sha256 (decode book)
the_five_steps book ok = five_steps sha256 sha256_length (decode book) (sound_decode sha256 book ok)

-- flag 1, by which step 2 goes: it goes up by a signal of the current height and by a second, different proposal of its
-- leader (004, footnote 10), also in a packet, and by nothing else; it comes down by a pass alone, unless the bytes are
-- opened anew
pub the_timer : (book : Bytes) (call : Call) → sound sha256 book ≡ true → Timer sha256 book call
the_timer book call ok = timer sha256 book ok call

-- when the leader's second, different proposal for the current height is delivered, the next move is the vote for the
-- dummy block, if it has not gone out: no signal is needed ..
pub second_block_ends_the_wait : (book frame : Bytes) → sound sha256 book ≡ true → Equivocation (decode book) frame →
    flag 2 (decode book) ≡ false → VotesDummyNext sha256 book (deliver_call sha256 book frame).book
second_block_ends_the_wait = second_block sha256

-- .. so too when both come among frames that are delivered one after the other, whatever was held before ..
pub two_blocks_end_the_wait : (book : Bytes) (frames : List Bytes) → sound sha256 book ≡ true →
    TwoBlocks book frames → flag 2 (decode book) ≡ false →
    VotesDummyNext sha256 book (deliver_all sha256 book frames)
two_blocks_end_the_wait book frames = two_blocks sha256 book frames

-- .. and when they come in one packet
pub two_blocks_in_a_packet : (book packet : Bytes) (counts : Counts) → sound sha256 book ≡ true →
    (packet_call sha256 book packet).answer ≡ accepted counts → TwoBlocks book (packet_frames packet) →
    flag 2 (decode book) ≡ false → VotesDummyNext sha256 book (packet_call sha256 book packet).book
two_blocks_in_a_packet = two_blocks_packet sha256

-- Move answers idle if and only if none of document 01's moves applies, and moving until idle ends
pub idle_just_then : (book reply : Bytes) → sound sha256 book ≡ true → 448 ≤ length reply →
    IdlesJustThen sha256 book reply
idle_just_then = idles_just_then sha256

pub moving_ends : (book : Bytes) → MovesEnd sha256 (decode book)
moving_ends book = moves_end sha256 (decode book)

-- ---- demand 2: what is kept
-- a delivery that is not refused keeps what its frame states, all that was kept before, and nothing else; but where the
-- leader of the current height equivocates, the timer fires and nothing else changes
pub deliveries_keep : (book frame : Bytes) (news : Delivery) → (deliver_call sha256 book frame).answer ≡ accepted news →
    Keeps sha256 book frame news (deliver_call sha256 book frame).book
deliveries_keep = deliver_keeps sha256

-- .. and that leaves no choice: an answer and bytes that meet it are those of Deliver
pub nothing_else_keeps : (book frame : Bytes) (news : Delivery) →
    (deliver_call sha256 book frame).answer ≡ accepted news → AreBytes book →
    AreBytes (deliver_call sha256 book frame).book →
    (news' : Delivery) (after : Bytes) → AreBytes after → Keeps sha256 book frame news' after →
    (news' ≡ news) × (after ≡ (deliver_call sha256 book frame).book)
nothing_else_keeps = keeps_exact sha256

-- a packet that is not refused keeps what its frames keep, one after the other ..
pub packets_keep : (book packet : Bytes) (counts : Counts) → (packet_call sha256 book packet).answer ≡ accepted counts →
    KeepsAll sha256 book (packet_frames packet) counts (packet_call sha256 book packet).book
packets_keep = packet_keeps sha256

-- .. leaves the book that delivering each of them by itself leaves ..
pub packets_deliver : (book packet : Bytes) (counts : Counts) →
    (packet_call sha256 book packet).answer ≡ accepted counts →
    (packet_call sha256 book packet).book ≡ book_after_all sha256 book (map delivery (packet_frames packet))
packets_deliver = packet_delivered sha256

-- .. and counts all its bytes: fresh, known and refused frames sum to the frames of the packet
pub packets_count : (book packet : Bytes) (counts : Counts) → (packet_call sha256 book packet).answer ≡ accepted counts →
    frame_size * counted counts ≡ length packet
packets_count = packet_sums sha256

-- on every book that calls make from an opened one, a proposal held with a quorum of kept votes is notarized
pub votes_are_tallied : (way : Opening) (book : Bytes) (n own heights : ℕ) (leaders : Bytes) (calls : List Call) →
    (open_call way book n own heights leaders).answer ≡ accepted done →
    AllTallied sha256 (decode (book_after_all sha256 (open_call way book n own heights leaders).book calls))
votes_are_tallied way book n own heights leaders calls opened =
    tallied_stays_all sha256 _ calls (sound_opened sha256 way book n own heights leaders opened)
    (tallied_opened sha256 way book n own heights leaders opened)

-- ---- demand 2: what is read
-- Read gives the linearization of the finalized blockchain that ends in block g, each entry at its first place ..
pub the_register : (book buffer : Bytes) (size : ℕ) → size_call sha256 book ≡ accepted size → size ≤ length buffer →
    ReadsChain sha256 book buffer size
the_register = reads_chain sha256

-- .. and that leaves no choice: a part, a buffer and a size that meet it are those of Read
pub nothing_else_is_read : (book buffer : Bytes) (size : ℕ) → size_call sha256 book ≡ accepted size →
    size ≤ length buffer → (part after : Bytes) (size' : ℕ) →
    ReadsChainOf sha256 (view (decode book)) (book_finalized book) part buffer after size' →
    (part ≡ read_part sha256 book buffer) × (after ≡ read_buffer sha256 book buffer) × (size' ≡ size)
nothing_else_is_read book buffer size is fits part after size' =
    reads_exact sha256 _ _ _ part buffer _ after size size' (reads_chain sha256 book buffer size is fits)

-- the log of any state, a replica's or an observer's: no entry twice; just the entries of the finalized chain; all of
-- them where the chain has none twice; and what follows in a longer chain takes nothing away
pub nothing_is_logged_twice : (s : State) → none_twice (log s) ≡ true
nothing_is_logged_twice = log_once

pub logged_are_the_chains_entries : (s : State) (entry : Bytes) →
    holds entry (log s) ≡ holds entry (log_at (view s) s.finalized)
logged_are_the_chains_entries = log_holds

pub logged_is_all_without_repeats : (s : State) → none_twice (log_at (view s) s.finalized) ≡ true →
    log s ≡ log_at (view s) s.finalized
logged_is_all_without_repeats = log_whole

pub first_places_stay : (entries more : List Bytes) →
    distinct (entries ++ more) ≡ distinct entries ++ distinct_after entries more
first_places_stay = distinct_append

-- each frame written is read over every book of the same n, weights, H and leaders as the same statement
pub moves_are_read : (book reply other : Bytes) → SameSetting (decode book) (decode other) →
    MoveWritten sha256 book reply other
moves_are_read = move_written_read sha256 sha256_length

pub fetches_are_read : (book : Bytes) (k h : ℕ) (reply other : Bytes) → SameSetting (decode book) (decode other) →
    FetchWritten sha256 book k h reply other
fetches_are_read = fetch_written_read sha256

-- ---- request 2.6: weights
-- the replicas that two quorums share weigh at least a third of all, whatever the weights ..
pub quorums_share_a_third : (v v' : View) (a b : ℕ) → v'.weights ≡ v.weights → quorum v a ≡ true →
    quorum v' b ≡ true → total_weight v ≤ 3 * mask_weight v (intersection (length v.weights) a b)
quorums_share_a_third = quorums_third

-- .. and there are weights for which they weigh no more
pub a_third_is_tight : (v : View) → v.weights ≡ 10 ∷ 4 ∷ 6 ∷ 7 ∷ 3 ∷ [] →
    (quorum v 30 ≡ true) × (quorum v 25 ≡ true) × (3 * mask_weight v (intersection 5 30 25) ≡ total_weight v)
a_third_is_tight = third_tight

-- where all replicas weigh the same, a quorum is document 01's, by their number ..
pub equal_weights_count : (v : View) (n weight mask : ℕ) → 1 ≤ weight → v.weights ≡ replicate n weight →
    quorum v mask ≡ leb (2 * n) (3 * ones mask n)
equal_weights_count = quorum_equal

-- .. so that at least a third of them is in two quorums
pub equal_quorums_share_a_third : (v v' : View) (n weight a b : ℕ) → 1 ≤ weight → v.weights ≡ replicate n weight →
    v'.weights ≡ replicate n weight → quorum v a ≡ true → quorum v' b ≡ true → n ≤ 3 * ones (intersection n a b) n
equal_quorums_share_a_third = equal_third

-- ---- request 2.7: heights of two bytes
-- a frame or a block of a height below 256 has the bytes that it had before, so that its digest stays ..
pub short_frames_keep_their_bytes : (k s h mask : ℕ) (digest block : Bytes) → h < 256 →
    frame_of k s h mask digest block ≡ (k ∷ s ∷ h ∷ 0 ∷ []) ++ (le16 mask ++ (zeros 10 ++ (digest ++ block)))
short_frames_keep_their_bytes = short_frame

pub short_blocks_keep_their_bytes : (h parent : ℕ) (digest : Bytes) (es : List Bytes) → parent < h → h < 256 →
    new_block h parent digest es ≡
    (h ∷ 0 ∷ parent ∷ 0 ∷ length es ∷ zeros 11) ++ (digest ++ (join es ++ zeros (128 - 16 * length es)))
short_blocks_keep_their_bytes = short_block

-- .. and is well formed just where it was
pub short_frames_stay_well_formed : (frame : Bytes) → AreBytes frame →
    frame_before frame ≡ (frame_well_formed frame && ltb (frame_height frame) 256)
short_frames_stay_well_formed = frame_before_lem

pub short_blocks_stay_well_formed : (h : ℕ) (block : Bytes) → AreBytes block →
    block_before h block ≡ (block_well_formed h block && ltb h 256)
short_blocks_stay_well_formed = block_before_lem

-- to a program that knew edition 1 alone, or editions 1 and 2, just those books were sound that are sound now and of an
-- edition that it knew: it takes none of edition 3
pub earlier_programs_take_their_editions : (latest : ℕ) → latest ≤ 2 → (book : Bytes) →
    sound_before sha256 latest book ≡ (sound sha256 book && in_range 1 latest (byte_at book 7))
earlier_programs_take_their_editions = sound_before_lem sha256

-- ---- demand 3: of two logs read in any list of calls from observers and honest replicas one begins the other
pub no_fork_with_observers : ObservedAgreement sha256
no_fork_with_observers = observed_agreement sha256

-- .. and a list of calls with a dishonest replica meets every premise of it, with two observers that read an entry
pub no_fork_with_observers_is_met : ObserverWitness sha256
no_fork_with_observers_is_met = observer_witness sha256 (sha256_length next_block)

-- .. so does one in which each replica and each observer has a book of another edition, and all read an entry
pub no_fork_of_all_editions_is_met : AllEditions sha256
no_fork_of_all_editions_is_met = all_editions sha256 (sha256_length block)

-- the same of honest replicas alone, which follows from it
pub no_fork : Agreement sha256
no_fork = agreement sha256

-- .. and a list of calls with a dishonest replica meets every premise of it, and reads an entry at two honest replicas
pub no_fork_is_met : AnyDigest sha256
no_fork_is_met = any_digest sha256 (sha256_length next_block)

-- a packet stands for the deliveries of its frames: with them in its place a list has the same books, and the same is
-- granted, delivered, written and read ..
pub packets_are_deliveries : (list : List Member) → Unpacks sha256 list
packets_are_deliveries = unpacks sha256

-- .. in lists with observers as well ..
pub packets_are_deliveries_with_observers : (list : List AnyMember) → ObserverUnpacks sha256 list
packets_are_deliveries_with_observers = observer_unpacks sha256

-- .. and no fork follows from what is granted of the deliveries alone
pub no_fork_by_deliveries : (list : List Member) → AgreementOn sha256 (unpacked sha256 list) list
no_fork_by_deliveries list = deliveries_alone sha256 list (agreement sha256)

-- .. so too with observers
pub no_fork_with_observers_by_deliveries : (list : List AnyMember) →
    ObservedAgreementOn sha256 (all_unpacked sha256 list) list
no_fork_with_observers_by_deliveries = observed_deliveries_alone sha256 (observed_agreement sha256)
