-- Written by tests/restated --write: what docs/statements has of
-- crates/demands/specs/Demands.antt.
use Rattle.std.specs.Prelude.{ℕ, ◌-◌, ◌*◌, ◌≤◌, ◌<◌, ◌≡◌, true, false, ◌&&◌, List, [], ◌∷◌, ◌++◌, map, length, replicate, leb, ltb}
use Rattle.std.proofs.Math.Option.{none}
use package.Rattle.sha256.specs.Digest.{sha256}
use package.Rattle.protocol.specs.Bytes.{Bytes, AreBytes, byte_at, holds, join, le16, zeros}
use package.Rattle.protocol.specs.Distinct.{distinct_after, distinct, none_twice}
use package.Rattle.protocol.specs.Tests.{in_range}
use package.Rattle.protocol.specs.Block.{block_well_formed, new_block}
use package.Rattle.protocol.specs.Frame.{frame_height, frame_of, frame_size, frame_well_formed}
use package.Rattle.protocol.specs.State.{State, decode, book_finalized, flag}
use package.Rattle.protocol.specs.Mask.{ones, intersection}
use package.Rattle.protocol.specs.View.{View, mask_weight, quorum, total_weight, log_at}
use package.Rattle.protocol.specs.Sound.{view, sound, log}
use package.Rattle.protocol.specs.Before.{block_before, frame_before, sound_before}
use package.Rattle.protocol.specs.Answer.{Done, Delivery, Counts, Move, accepted, done}
use package.Rattle.protocol.specs.Open.{Opening, open_rows, open_call}
use package.Rattle.protocol.specs.Deliver.{deliver_rows, deliver_call, deliver_all}
use package.Rattle.protocol.specs.Packet.{packet_frames, counted, packet_rows, packet_call}
use package.Rattle.protocol.specs.Move.{step, moved, move_rows, move_call}
use package.Rattle.protocol.specs.Signal.{signal_rows, signal_call}
use package.Rattle.protocol.specs.Submit.{submit_rows, submit_call}
use package.Rattle.protocol.specs.Read.{size_call, read_part, read_buffer}
use package.Rattle.protocol.specs.Fetch.{fetch_rows, fetch_call}
use package.Rattle.protocol.specs.Call.{Call, delivery, effect, book_after, book_after_all}
use package.Rattle.agreement.specs.Lists.{Agreement, Member}
use package.Rattle.agreement.specs.ObserverLists.{AnyMember, ObservedAgreement}
use package.Rattle.agreement.specs.AnyDigest.{AnyDigest}
use package.Rattle.agreement.specs.ObserverWitness.{ObserverWitness}
use package.Rattle.agreement.specs.ObserverUnpacked.{ObservedAgreementOn, ObserverUnpacks, all_unpacked}
use package.Rattle.agreement.specs.Unpacked.{AgreementOn, Unpacks, unpacked}
use package.Rattle.witnesses.specs.AllEditions.{AllEditions, block}
use package.Rattle.call_laws.specs.Refusals.{Refuses}
use package.Rattle.call_laws.specs.BookBytes.{opened_book, Signals, Submits, head_of}
use package.Rattle.call_laws.specs.Equivocating.{Equivocation}
use package.Rattle.call_laws.specs.Keeping.{Keeps, AllTallied}
use package.Rattle.call_laws.specs.PacketKeeping.{KeepsAll}
use package.Rattle.call_laws.specs.SettingStays.{SettingStays}
use package.Rattle.call_laws.specs.Readable.{SameSetting}
use package.Rattle.call_laws.specs.WrittenRead.{MoveWritten, FetchWritten}
use package.Rattle.paper.specs.Steps.{FiveSteps}
use package.Rattle.paper.specs.Timer.{Timer, TwoBlocks, VotesDummyNext}
use package.Rattle.paper.specs.Idle.{IdlesJustThen, MovesEnd}
use package.Rattle.paper.specs.Register.{ReadsChainOf, ReadsChain, CannotRead}
use mathlib.Core.Path.{◌≡◌ as ◌is-kept◌, refl as by-text}
use package.Rattle.demands.specs.Demands as page

pub open_refused-kept : (way : Opening) (book : Bytes) (n own heights : ℕ) (leaders : Bytes) →
    Refuses Done (open_rows way book n own heights leaders) (open_call way book n own heights leaders).answer
    (book ∷ []) ((open_call way book n own heights leaders).book ∷ [])
open_refused-kept = page.open_refused

pub deliver_refused-kept : (book frame : Bytes) →
    Refuses Delivery (deliver_rows sha256 book frame) (deliver_call sha256 book frame).answer
    (book ∷ []) ((deliver_call sha256 book frame).book ∷ [])
deliver_refused-kept = page.deliver_refused

pub packet_refused-kept : (book packet : Bytes) →
    Refuses Counts (packet_rows sha256 book packet) (packet_call sha256 book packet).answer
    (book ∷ []) ((packet_call sha256 book packet).book ∷ [])
packet_refused-kept = page.packet_refused

pub move_refused-kept : (book reply : Bytes) →
    Refuses Move (move_rows sha256 book reply) (move_call sha256 book reply).answer
    (book ∷ reply ∷ []) ((move_call sha256 book reply).book ∷ (move_call sha256 book reply).reply ∷ [])
move_refused-kept = page.move_refused

pub signal_refused-kept : (book : Bytes) (h : ℕ) →
    Refuses Done (signal_rows sha256 book h) (signal_call sha256 book h).answer
    (book ∷ []) ((signal_call sha256 book h).book ∷ [])
signal_refused-kept = page.signal_refused

pub submit_refused-kept : (book entry : Bytes) →
    Refuses Done (submit_rows sha256 book entry) (submit_call sha256 book entry).answer
    (book ∷ []) ((submit_call sha256 book entry).book ∷ [])
submit_refused-kept = page.submit_refused

pub size_refused-kept : (book : Bytes) → Refuses ℕ ((1, sound sha256 book) ∷ []) (size_call sha256 book) [] []
size_refused-kept = page.size_refused

pub fetch_refused-kept : (book : Bytes) (k h : ℕ) (reply : Bytes) →
    Refuses Done (fetch_rows sha256 book k h reply) (fetch_call sha256 book k h reply).answer
    (reply ∷ []) ((fetch_call sha256 book k h reply).reply ∷ [])
fetch_refused-kept = page.fetch_refused

pub read_refused-kept : (book buffer : Bytes) → CannotRead sha256 book buffer →
    (read_part sha256 book buffer ≡ []) × (read_buffer sha256 book buffer ≡ buffer)
read_refused-kept = page.read_refused

pub open_writes-kept : (way : Opening) (book : Bytes) (n own heights : ℕ) (leaders : Bytes) →
    (open_call way book n own heights leaders).answer ≡ accepted done →
    (open_call way book n own heights leaders).book ≡ opened_book way n own heights leaders
open_writes-kept = page.open_writes

pub signal_writes-kept : (book : Bytes) → AreBytes book → (h : ℕ) → (signal_call sha256 book h).answer ≡ accepted done →
    Signals book h (signal_call sha256 book h).book
signal_writes-kept = page.signal_writes

pub submit_writes-kept : (book : Bytes) → AreBytes book → (entry : Bytes) →
    (submit_call sha256 book entry).answer ≡ accepted done →
    Submits book entry (submit_call sha256 book entry).book
submit_writes-kept = page.submit_writes

pub move_writes-kept : (book : Bytes) → AreBytes book → (reply : Bytes) → sound sha256 book ≡ true → 448 ≤ length reply →
    (move_call sha256 book reply).book ≡ head_of book (step sha256 (decode book)).after
move_writes-kept = page.move_writes

pub sound_stays-kept : (book : Bytes) (call : Call) → sound sha256 book ≡ true →
    sound sha256 (book_after sha256 book call) ≡ true
sound_stays-kept = page.sound_stays

pub open_makes_sound-kept : (way : Opening) (book : Bytes) (n own heights : ℕ) (leaders : Bytes) →
    (open_call way book n own heights leaders).answer ≡ accepted done →
    sound sha256 (open_call way book n own heights leaders).book ≡ true
open_makes_sound-kept = page.open_makes_sound

pub settings_stay-kept : (book : Bytes) (call : Call) → sound sha256 book ≡ true → (effect sha256 book call).opens ≡ none →
    SettingStays (decode book) (decode (book_after sha256 book call))
settings_stay-kept = page.settings_stay

pub move_is_the_step-kept : (book reply : Bytes) → sound sha256 book ≡ true → 448 ≤ length reply →
    move_call sha256 book reply ≡ moved reply (step sha256 (decode book))
move_is_the_step-kept = page.move_is_the_step

pub the_five_steps-kept : (book : Bytes) → sound sha256 book ≡ true → FiveSteps sha256 (decode book)
the_five_steps-kept = page.the_five_steps

pub the_timer-kept : (book : Bytes) (call : Call) → sound sha256 book ≡ true → Timer sha256 book call
the_timer-kept = page.the_timer

pub second_block_ends_the_wait-kept : (book frame : Bytes) → sound sha256 book ≡ true → Equivocation (decode book) frame →
    flag 2 (decode book) ≡ false → VotesDummyNext sha256 book (deliver_call sha256 book frame).book
second_block_ends_the_wait-kept = page.second_block_ends_the_wait

pub two_blocks_end_the_wait-kept : (book : Bytes) (frames : List Bytes) → sound sha256 book ≡ true →
    TwoBlocks book frames → flag 2 (decode book) ≡ false →
    VotesDummyNext sha256 book (deliver_all sha256 book frames)
two_blocks_end_the_wait-kept = page.two_blocks_end_the_wait

pub two_blocks_in_a_packet-kept : (book packet : Bytes) (counts : Counts) → sound sha256 book ≡ true →
    (packet_call sha256 book packet).answer ≡ accepted counts → TwoBlocks book (packet_frames packet) →
    flag 2 (decode book) ≡ false → VotesDummyNext sha256 book (packet_call sha256 book packet).book
two_blocks_in_a_packet-kept = page.two_blocks_in_a_packet

pub idle_just_then-kept : (book reply : Bytes) → sound sha256 book ≡ true → 448 ≤ length reply →
    IdlesJustThen sha256 book reply
idle_just_then-kept = page.idle_just_then

pub moving_ends-kept : (book : Bytes) → MovesEnd sha256 (decode book)
moving_ends-kept = page.moving_ends

pub deliveries_keep-kept : (book frame : Bytes) (news : Delivery) → (deliver_call sha256 book frame).answer ≡ accepted news →
    Keeps sha256 book frame news (deliver_call sha256 book frame).book
deliveries_keep-kept = page.deliveries_keep

pub nothing_else_keeps-kept : (book frame : Bytes) (news : Delivery) →
    (deliver_call sha256 book frame).answer ≡ accepted news → AreBytes book →
    AreBytes (deliver_call sha256 book frame).book →
    (news' : Delivery) (after : Bytes) → AreBytes after → Keeps sha256 book frame news' after →
    (news' ≡ news) × (after ≡ (deliver_call sha256 book frame).book)
nothing_else_keeps-kept = page.nothing_else_keeps

pub packets_keep-kept : (book packet : Bytes) (counts : Counts) → (packet_call sha256 book packet).answer ≡ accepted counts →
    KeepsAll sha256 book (packet_frames packet) counts (packet_call sha256 book packet).book
packets_keep-kept = page.packets_keep

pub packets_deliver-kept : (book packet : Bytes) (counts : Counts) →
    (packet_call sha256 book packet).answer ≡ accepted counts →
    (packet_call sha256 book packet).book ≡ book_after_all sha256 book (map delivery (packet_frames packet))
packets_deliver-kept = page.packets_deliver

pub packets_count-kept : (book packet : Bytes) (counts : Counts) → (packet_call sha256 book packet).answer ≡ accepted counts →
    frame_size * counted counts ≡ length packet
packets_count-kept = page.packets_count

pub votes_are_tallied-kept : (way : Opening) (book : Bytes) (n own heights : ℕ) (leaders : Bytes) (calls : List Call) →
    (open_call way book n own heights leaders).answer ≡ accepted done →
    AllTallied sha256 (decode (book_after_all sha256 (open_call way book n own heights leaders).book calls))
votes_are_tallied-kept = page.votes_are_tallied

pub the_register-kept : (book buffer : Bytes) (size : ℕ) → size_call sha256 book ≡ accepted size → size ≤ length buffer →
    ReadsChain sha256 book buffer size
the_register-kept = page.the_register

pub nothing_else_is_read-kept : (book buffer : Bytes) (size : ℕ) → size_call sha256 book ≡ accepted size →
    size ≤ length buffer → (part after : Bytes) (size' : ℕ) →
    ReadsChainOf sha256 (view (decode book)) (book_finalized book) part buffer after size' →
    (part ≡ read_part sha256 book buffer) × (after ≡ read_buffer sha256 book buffer) × (size' ≡ size)
nothing_else_is_read-kept = page.nothing_else_is_read

pub nothing_is_logged_twice-kept : (s : State) → none_twice (log s) ≡ true
nothing_is_logged_twice-kept = page.nothing_is_logged_twice

pub logged_are_the_chains_entries-kept : (s : State) (entry : Bytes) →
    holds entry (log s) ≡ holds entry (log_at (view s) s.finalized)
logged_are_the_chains_entries-kept = page.logged_are_the_chains_entries

pub logged_is_all_without_repeats-kept : (s : State) → none_twice (log_at (view s) s.finalized) ≡ true →
    log s ≡ log_at (view s) s.finalized
logged_is_all_without_repeats-kept = page.logged_is_all_without_repeats

pub first_places_stay-kept : (entries more : List Bytes) →
    distinct (entries ++ more) ≡ distinct entries ++ distinct_after entries more
first_places_stay-kept = page.first_places_stay

pub moves_are_read-kept : (book reply other : Bytes) → SameSetting (decode book) (decode other) →
    MoveWritten sha256 book reply other
moves_are_read-kept = page.moves_are_read

pub fetches_are_read-kept : (book : Bytes) (k h : ℕ) (reply other : Bytes) → SameSetting (decode book) (decode other) →
    FetchWritten sha256 book k h reply other
fetches_are_read-kept = page.fetches_are_read

pub quorums_share_a_third-kept : (v v' : View) (a b : ℕ) → v'.weights ≡ v.weights → quorum v a ≡ true →
    quorum v' b ≡ true → total_weight v ≤ 3 * mask_weight v (intersection (length v.weights) a b)
quorums_share_a_third-kept = page.quorums_share_a_third

pub a_third_is_tight-kept : (v : View) → v.weights ≡ 10 ∷ 4 ∷ 6 ∷ 7 ∷ 3 ∷ [] →
    (quorum v 30 ≡ true) × (quorum v 25 ≡ true) × (3 * mask_weight v (intersection 5 30 25) ≡ total_weight v)
a_third_is_tight-kept = page.a_third_is_tight

pub equal_weights_count-kept : (v : View) (n weight mask : ℕ) → 1 ≤ weight → v.weights ≡ replicate n weight →
    quorum v mask ≡ leb (2 * n) (3 * ones mask n)
equal_weights_count-kept = page.equal_weights_count

pub equal_quorums_share_a_third-kept : (v v' : View) (n weight a b : ℕ) → 1 ≤ weight → v.weights ≡ replicate n weight →
    v'.weights ≡ replicate n weight → quorum v a ≡ true → quorum v' b ≡ true → n ≤ 3 * ones (intersection n a b) n
equal_quorums_share_a_third-kept = page.equal_quorums_share_a_third

pub short_frames_keep_their_bytes-kept : (k s h mask : ℕ) (digest block : Bytes) → h < 256 →
    frame_of k s h mask digest block ≡ (k ∷ s ∷ h ∷ 0 ∷ []) ++ (le16 mask ++ (zeros 10 ++ (digest ++ block)))
short_frames_keep_their_bytes-kept = page.short_frames_keep_their_bytes

pub short_blocks_keep_their_bytes-kept : (h parent : ℕ) (digest : Bytes) (es : List Bytes) → parent < h → h < 256 →
    new_block h parent digest es ≡
    (h ∷ 0 ∷ parent ∷ 0 ∷ length es ∷ zeros 11) ++ (digest ++ (join es ++ zeros (128 - 16 * length es)))
short_blocks_keep_their_bytes-kept = page.short_blocks_keep_their_bytes

pub short_frames_stay_well_formed-kept : (frame : Bytes) → AreBytes frame →
    frame_before frame ≡ (frame_well_formed frame && ltb (frame_height frame) 256)
short_frames_stay_well_formed-kept = page.short_frames_stay_well_formed

pub short_blocks_stay_well_formed-kept : (h : ℕ) (block : Bytes) → AreBytes block →
    block_before h block ≡ (block_well_formed h block && ltb h 256)
short_blocks_stay_well_formed-kept = page.short_blocks_stay_well_formed

pub earlier_programs_take_their_editions-kept : (latest : ℕ) → latest ≤ 2 → (book : Bytes) →
    sound_before sha256 latest book ≡ (sound sha256 book && in_range 1 latest (byte_at book 7))
earlier_programs_take_their_editions-kept = page.earlier_programs_take_their_editions

pub no_fork_with_observers-kept : ObservedAgreement sha256
no_fork_with_observers-kept = page.no_fork_with_observers

pub no_fork_with_observers_is_met-kept : ObserverWitness sha256
no_fork_with_observers_is_met-kept = page.no_fork_with_observers_is_met

pub no_fork_of_all_editions_is_met-kept : AllEditions sha256
no_fork_of_all_editions_is_met-kept = page.no_fork_of_all_editions_is_met

pub no_fork-kept : Agreement sha256
no_fork-kept = page.no_fork

pub no_fork_is_met-kept : AnyDigest sha256
no_fork_is_met-kept = page.no_fork_is_met

pub packets_are_deliveries-kept : (list : List Member) → Unpacks sha256 list
packets_are_deliveries-kept = page.packets_are_deliveries

pub packets_are_deliveries_with_observers-kept : (list : List AnyMember) → ObserverUnpacks sha256 list
packets_are_deliveries_with_observers-kept = page.packets_are_deliveries_with_observers

pub no_fork_by_deliveries-kept : (list : List Member) → AgreementOn sha256 (unpacked sha256 list) list
no_fork_by_deliveries-kept = page.no_fork_by_deliveries

pub no_fork_with_observers_by_deliveries-kept : (list : List AnyMember) →
    ObservedAgreementOn sha256 (all_unpacked sha256 list) list
no_fork_with_observers_by_deliveries-kept = page.no_fork_with_observers_by_deliveries
