-- Observers at SHA-256, over the bytes of books: what their calls refuse, leave and read, and the second claim of
-- request 2.3. Demand 3 with observers stands on the page of the demands, with that of replicas alone.
--
-- The calls, each with its definition in `protocol` and its function in `observer`:
--
-- - Open: `ObserverCalls.observer_open_call`; `open::open`
-- - Deliver: `ObserverCalls.observer_deliver_call sha256`; `deliver::deliver`
-- - Move: `ObserverCalls.observer_move_call sha256`; `make_move::make_move`
-- - Register size: `ObserverCalls.observer_size_call sha256`; `read::size`
-- - Read, the part returned: `ObserverCalls.observer_read_part sha256`; `read::read`
-- - Read, every byte: `ObserverCalls.observer_read_buffer sha256`; `read::read_into`
use Rattle.std.specs.Prelude.{ℕ, ◌≤◌, ◌≡◌, true, false, ◌&&◌, [], ◌∷◌, length}
use Rattle.std.proofs.Math.Option.{none}
use Rattle.sha256.specs.Digest.{sha256}
use Rattle.sha256.specs.Laws.DigestLaws.{sha256_length}
use Rattle.protocol.specs.Open.{Opening}
use Rattle.protocol.specs.Bytes.{Bytes, AreBytes, byte_at}
use Rattle.protocol.specs.Tests.{in_range}
use Rattle.protocol.specs.State.{decode, book_finalized}
use Rattle.protocol.specs.Sound.{view, sound}
use Rattle.protocol.specs.Answer.{Done, Delivery, Move, accepted, done}
use Rattle.protocol.specs.Observer.{observer_state}
use Rattle.protocol.specs.ObserverSound.{observer_sound}
use Rattle.protocol.specs.ObserverBefore.{observer_sound_before}
use Rattle.protocol.proofs.Laws.ObserverBeforeLaws.{observer_sound_before_lem}
use Rattle.protocol.specs.ObserverCalls.{observer_open_rows, observer_open_call, observer_deliver_call, observer_move_rows}
use Rattle.protocol.specs.ObserverCalls.{observer_move_call, observer_size_call, observer_read_part, observer_read_buffer}
use Rattle.protocol.specs.ObserverCall.{ObserverCall, observation, observes_book}
use Rattle.call_laws.specs.Refusals.{Refuses}
use Rattle.paper.specs.Observing.{ObserverStep}
use Rattle.paper.proofs.Laws.ObservingLaws.{observer_moves}
use Rattle.paper.specs.Register.{ReadsChainOf, ObserverReadsChain, ObserverCannotRead}
use Rattle.paper.proofs.Laws.RegisterLaws.{observer_reads_chain, observer_reads_nothing}
use Rattle.paper.proofs.Laws.RegisterExactLaws.{reads_exact}
use Rattle.observer_laws.specs.Refusing.{refusal_rows, RefusesStatements}
use Rattle.observer_laws.specs.ObserverOpened.{opened_observer}
use Rattle.observer_laws.specs.ObserverKeeping.{ObserverKeeps}
use Rattle.observer_laws.specs.CertificatesRead.{MoveReadByObserver, FetchReadByObserver}
use Rattle.observer_laws.specs.Twins.{Twins, TwinsMoved, ObserverIdles}
use Rattle.observer_laws.specs.TwinsMet.{TwinsMet}
use Rattle.observer_laws.proofs.Laws.RefusingLaws.{observer_open_refuses, observer_deliver_refuses}
use Rattle.observer_laws.proofs.Laws.RefusingLaws.{observer_move_refuses, observer_size_refuses, refuses_statements}
use Rattle.observer_laws.proofs.Laws.RefusingLaws.{observer_refused_does_nothing}
use Rattle.observer_laws.proofs.Laws.KindsApartLaws.{replica_no_observer, observer_no_replica}
use Rattle.observer_laws.proofs.Laws.ObserverBytesLaws.{observer_open_bytes}
use Rattle.observer_laws.proofs.Laws.ObserverSoundStays.{observer_sound_stays, observer_sound_opened}
use Rattle.observer_laws.proofs.Laws.ObserverKeepsLaws.{observer_deliver_keeps}
use Rattle.observer_laws.proofs.Laws.ObserverExactLaws.{observer_keeps_exact}
use Rattle.observer_laws.proofs.Laws.CertificatesReadLaws.{move_read_by_observer, fetch_read_by_observer}
use Rattle.observer_laws.proofs.Laws.TwinsLaws.{twins, observer_idles}
use Rattle.observer_laws.proofs.Laws.TwinsMovedLaws.{twins_moved}
use Rattle.observer_laws.proofs.Laws.TwinsMetLaws.{twins_met}
use Rattle.call_laws.specs.SettingStays.{SettingStays}
use Rattle.observer_laws.proofs.Laws.ObserverSettingLaws.{observer_setting_stays}

-- ---- refusals
-- each call is refused by the number of its first row that fails, if one does, and then no byte lent to it changes
pub observer_open_refused : (way : Opening) (book : Bytes) (n heights : ℕ) →
    Refuses Done (observer_open_rows way book n heights) (observer_open_call way book n heights).answer (book ∷ [])
    ((observer_open_call way book n heights).book ∷ [])
observer_open_refused = observer_open_refuses

pub observer_deliver_refused : (book frame : Bytes) →
    Refuses Delivery (refusal_rows sha256 book frame) (observer_deliver_call sha256 book frame).answer (book ∷ [])
    ((observer_deliver_call sha256 book frame).book ∷ [])
observer_deliver_refused = observer_deliver_refuses sha256

pub observer_move_refused : (book : Bytes) →
    Refuses Move (observer_move_rows sha256 book) (observer_move_call sha256 book).answer (book ∷ [])
    ((observer_move_call sha256 book).book ∷ [])
observer_move_refused = observer_move_refuses sha256

pub observer_size_refused : (book : Bytes) →
    Refuses ℕ ((1, observer_sound sha256 book) ∷ []) (observer_size_call sha256 book) [] []
observer_size_refused = observer_size_refuses sha256

-- Read, where size refuses or the buffer is shorter: the empty part, and no byte of the buffer changes
pub observer_read_refused : (book buffer : Bytes) → ObserverCannotRead sha256 book buffer →
    (observer_read_part sha256 book buffer ≡ []) × (observer_read_buffer sha256 book buffer ≡ buffer)
observer_read_refused = observer_reads_nothing sha256

-- a refused call does nothing; a frame of kinds 1 to 4 that is well formed is refused with 16
pub observer_refused_nothing : (book : Bytes) (call : ObserverCall) →
    (observation sha256 book call).accepted ≡ false → observation sha256 book call ≡ observes_book book false
observer_refused_nothing = observer_refused_does_nothing sha256

pub statements_refused : RefusesStatements sha256
statements_refused = refuses_statements sha256

-- no book is of both kinds
pub no_observer_book : (book : Bytes) → sound sha256 book ≡ true → observer_sound sha256 book ≡ false
no_observer_book = replica_no_observer sha256

pub no_replica_book : (book : Bytes) → observer_sound sha256 book ≡ true → sound sha256 book ≡ false
no_replica_book = observer_no_replica sha256

-- to a program before request 2.7 just those books were sound that are sound now and of an edition that it knew
pub earlier_observers_take_their_editions : (latest : ℕ) → latest ≤ 2 → (book : Bytes) →
    observer_sound_before sha256 latest book ≡ (observer_sound sha256 book && in_range 1 latest (byte_at book 7))
earlier_observers_take_their_editions = observer_sound_before_lem sha256

-- ---- what is left
-- every byte of an opened book; and each call leaves a sound book sound
pub observer_open_writes : (way : Opening) (book : Bytes) (n heights : ℕ) →
    (observer_open_call way book n heights).answer ≡ accepted done →
    (observer_open_call way book n heights).book ≡ opened_observer way n heights
observer_open_writes = observer_open_bytes

pub observers_stay_sound : (book : Bytes) (call : ObserverCall) → observer_sound sha256 book ≡ true →
    observer_sound sha256 (observation sha256 book call).book ≡ true
observers_stay_sound = observer_sound_stays sha256

pub observer_open_makes_sound : (way : Opening) (book : Bytes) (n heights : ℕ) →
    (observer_open_call way book n heights).answer ≡ accepted done →
    observer_sound sha256 (observer_open_call way book n heights).book ≡ true
observer_open_makes_sound = observer_sound_opened sha256

-- no call but an opening that is not refused changes what an opening settles: edition, n, weights and H
pub observers_settings_stay : (book : Bytes) → observer_sound sha256 book ≡ true → (call : ObserverCall) →
    (observation sha256 book call).opens ≡ none →
    SettingStays (observer_state book) (observer_state (observation sha256 book call).book)
observers_settings_stay = observer_setting_stays sha256

-- a delivery that is not refused keeps what its certificate says, all that was kept before, and nothing else ..
pub observers_keep : (book frame : Bytes) (news : Delivery) →
    (observer_deliver_call sha256 book frame).answer ≡ accepted news →
    ObserverKeeps sha256 book frame news (observer_deliver_call sha256 book frame).book
observers_keep = observer_deliver_keeps sha256

-- .. and that leaves no choice: an answer and bytes that meet it are those of Deliver
pub nothing_else_is_kept : (book frame : Bytes) (news : Delivery) →
    (observer_deliver_call sha256 book frame).answer ≡ accepted news →
    AreBytes (observer_deliver_call sha256 book frame).book →
    (news' : Delivery) (after : Bytes) → AreBytes after → ObserverKeeps sha256 book frame news' after →
    (news' ≡ news) × (after ≡ (observer_deliver_call sha256 book frame).book)
nothing_else_is_kept = observer_keeps_exact sha256

-- ---- the paper's steps
-- on a sound book Move outputs just where the paper's last step does, and then the finalized height alone changes;
-- else it is idle
pub the_observers_step : (book : Bytes) → observer_sound sha256 book ≡ true → AreBytes book → ObserverStep sha256 book
the_observers_step = observer_moves sha256

-- ---- what is read
-- Read gives the linearization of the finalized blockchain that ends in block g, each entry at its first place ..
pub the_observers_register : (book buffer : Bytes) (size : ℕ) → observer_size_call sha256 book ≡ accepted size →
    size ≤ length buffer → ObserverReadsChain sha256 book buffer size
the_observers_register = observer_reads_chain sha256

-- .. and that leaves no choice: a part, a buffer and a size that meet it are those of Read
pub observers_read_nothing_else : (book buffer : Bytes) (size : ℕ) → observer_size_call sha256 book ≡ accepted size →
    size ≤ length buffer → (part after : Bytes) (size' : ℕ) →
    ReadsChainOf sha256 (view (observer_state book)) (book_finalized book) part buffer after size' →
    (part ≡ observer_read_part sha256 book buffer) × (after ≡ observer_read_buffer sha256 book buffer) × (size' ≡ size)
observers_read_nothing_else book buffer size is fits part after size' =
    reads_exact sha256 _ _ _ part buffer _ after size size' (observer_reads_chain sha256 book buffer size is fits)

-- each certificate that a replica writes is read over every observer's book of the same n and weights that has its
-- height, as the same statement
pub moves_are_read_by_observers : (book reply other : Bytes) → (observer_state other).n ≡ (decode book).n →
    (observer_state other).weights ≡ (decode book).weights → MoveReadByObserver sha256 book reply other
moves_are_read_by_observers = move_read_by_observer sha256 sha256_length

pub fetches_are_read_by_observers : (book : Bytes) (k h : ℕ) (reply other : Bytes) →
    (observer_state other).n ≡ (decode book).n → (observer_state other).weights ≡ (decode book).weights →
    FetchReadByObserver sha256 book k h reply other
fetches_are_read_by_observers = fetch_read_by_observer sha256

-- ---- a replica and an observer that are given the same certificates
-- they answer alike on the way, and read the same once each is idle ..
pub same_certificates_same_log : Twins sha256
same_certificates_same_log = twins sha256

-- .. so after as many moves as each needs for that; and there are such calls, which read an entry
pub same_log_after_moves : TwinsMoved sha256
same_log_after_moves = twins_moved sha256

pub same_log_is_met : TwinsMet sha256
same_log_is_met = twins_met sha256

-- an observer needs one move
pub observer_idle_after_one : ObserverIdles sha256
observer_idle_after_one = observer_idles sha256
