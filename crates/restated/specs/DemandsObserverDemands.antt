-- Written by tests/restated --write: what docs/statements has of
-- crates/demands/specs/ObserverDemands.antt.
use Rattle.std.specs.Prelude.{ℕ, ◌≤◌, ◌≡◌, true, false, ◌&&◌, [], ◌∷◌, length}
use Rattle.std.proofs.Math.Option.{none}
use package.Rattle.sha256.specs.Digest.{sha256}
use package.Rattle.protocol.specs.Open.{Opening}
use package.Rattle.protocol.specs.Bytes.{Bytes, AreBytes, byte_at}
use package.Rattle.protocol.specs.Tests.{in_range}
use package.Rattle.protocol.specs.State.{decode, book_finalized}
use package.Rattle.protocol.specs.Sound.{view, sound}
use package.Rattle.protocol.specs.Answer.{Done, Delivery, Move, accepted, done}
use package.Rattle.protocol.specs.Observer.{observer_state}
use package.Rattle.protocol.specs.ObserverSound.{observer_sound}
use package.Rattle.protocol.specs.ObserverBefore.{observer_sound_before}
use package.Rattle.protocol.specs.ObserverCalls.{observer_open_rows, observer_open_call, observer_deliver_call, observer_move_rows}
use package.Rattle.protocol.specs.ObserverCalls.{observer_move_call, observer_size_call, observer_read_part, observer_read_buffer}
use package.Rattle.protocol.specs.ObserverCall.{ObserverCall, observation, observes_book}
use package.Rattle.call_laws.specs.Refusals.{Refuses}
use package.Rattle.paper.specs.Observing.{ObserverStep}
use package.Rattle.paper.specs.Register.{ReadsChainOf, ObserverReadsChain, ObserverCannotRead}
use package.Rattle.observer_laws.specs.Refusing.{refusal_rows, RefusesStatements}
use package.Rattle.observer_laws.specs.ObserverOpened.{opened_observer}
use package.Rattle.observer_laws.specs.ObserverKeeping.{ObserverKeeps}
use package.Rattle.observer_laws.specs.CertificatesRead.{MoveReadByObserver, FetchReadByObserver}
use package.Rattle.observer_laws.specs.Twins.{Twins, TwinsMoved, ObserverIdles}
use package.Rattle.observer_laws.specs.TwinsMet.{TwinsMet}
use package.Rattle.call_laws.specs.SettingStays.{SettingStays}
use mathlib.Core.Path.{◌≡◌ as ◌is-kept◌, refl as by-text}
use package.Rattle.demands.specs.ObserverDemands as page

pub observer_open_refused-kept : (way : Opening) (book : Bytes) (n heights : ℕ) →
    Refuses Done (observer_open_rows way book n heights) (observer_open_call way book n heights).answer (book ∷ [])
    ((observer_open_call way book n heights).book ∷ [])
observer_open_refused-kept = page.observer_open_refused

pub observer_deliver_refused-kept : (book frame : Bytes) →
    Refuses Delivery (refusal_rows sha256 book frame) (observer_deliver_call sha256 book frame).answer (book ∷ [])
    ((observer_deliver_call sha256 book frame).book ∷ [])
observer_deliver_refused-kept = page.observer_deliver_refused

pub observer_move_refused-kept : (book : Bytes) →
    Refuses Move (observer_move_rows sha256 book) (observer_move_call sha256 book).answer (book ∷ [])
    ((observer_move_call sha256 book).book ∷ [])
observer_move_refused-kept = page.observer_move_refused

pub observer_size_refused-kept : (book : Bytes) →
    Refuses ℕ ((1, observer_sound sha256 book) ∷ []) (observer_size_call sha256 book) [] []
observer_size_refused-kept = page.observer_size_refused

pub observer_read_refused-kept : (book buffer : Bytes) → ObserverCannotRead sha256 book buffer →
    (observer_read_part sha256 book buffer ≡ []) × (observer_read_buffer sha256 book buffer ≡ buffer)
observer_read_refused-kept = page.observer_read_refused

pub observer_refused_nothing-kept : (book : Bytes) (call : ObserverCall) →
    (observation sha256 book call).accepted ≡ false → observation sha256 book call ≡ observes_book book false
observer_refused_nothing-kept = page.observer_refused_nothing

pub statements_refused-kept : RefusesStatements sha256
statements_refused-kept = page.statements_refused

pub no_observer_book-kept : (book : Bytes) → sound sha256 book ≡ true → observer_sound sha256 book ≡ false
no_observer_book-kept = page.no_observer_book

pub no_replica_book-kept : (book : Bytes) → observer_sound sha256 book ≡ true → sound sha256 book ≡ false
no_replica_book-kept = page.no_replica_book

pub earlier_observers_take_their_editions-kept : (latest : ℕ) → latest ≤ 2 → (book : Bytes) →
    observer_sound_before sha256 latest book ≡ (observer_sound sha256 book && in_range 1 latest (byte_at book 7))
earlier_observers_take_their_editions-kept = page.earlier_observers_take_their_editions

pub observer_open_writes-kept : (way : Opening) (book : Bytes) (n heights : ℕ) →
    (observer_open_call way book n heights).answer ≡ accepted done →
    (observer_open_call way book n heights).book ≡ opened_observer way n heights
observer_open_writes-kept = page.observer_open_writes

pub observers_stay_sound-kept : (book : Bytes) (call : ObserverCall) → observer_sound sha256 book ≡ true →
    observer_sound sha256 (observation sha256 book call).book ≡ true
observers_stay_sound-kept = page.observers_stay_sound

pub observer_open_makes_sound-kept : (way : Opening) (book : Bytes) (n heights : ℕ) →
    (observer_open_call way book n heights).answer ≡ accepted done →
    observer_sound sha256 (observer_open_call way book n heights).book ≡ true
observer_open_makes_sound-kept = page.observer_open_makes_sound

pub observers_settings_stay-kept : (book : Bytes) → observer_sound sha256 book ≡ true → (call : ObserverCall) →
    (observation sha256 book call).opens ≡ none →
    SettingStays (observer_state book) (observer_state (observation sha256 book call).book)
observers_settings_stay-kept = page.observers_settings_stay

pub observers_keep-kept : (book frame : Bytes) (news : Delivery) →
    (observer_deliver_call sha256 book frame).answer ≡ accepted news →
    ObserverKeeps sha256 book frame news (observer_deliver_call sha256 book frame).book
observers_keep-kept = page.observers_keep

pub nothing_else_is_kept-kept : (book frame : Bytes) (news : Delivery) →
    (observer_deliver_call sha256 book frame).answer ≡ accepted news →
    AreBytes (observer_deliver_call sha256 book frame).book →
    (news' : Delivery) (after : Bytes) → AreBytes after → ObserverKeeps sha256 book frame news' after →
    (news' ≡ news) × (after ≡ (observer_deliver_call sha256 book frame).book)
nothing_else_is_kept-kept = page.nothing_else_is_kept

pub the_observers_step-kept : (book : Bytes) → observer_sound sha256 book ≡ true → AreBytes book → ObserverStep sha256 book
the_observers_step-kept = page.the_observers_step

pub the_observers_register-kept : (book buffer : Bytes) (size : ℕ) → observer_size_call sha256 book ≡ accepted size →
    size ≤ length buffer → ObserverReadsChain sha256 book buffer size
the_observers_register-kept = page.the_observers_register

pub observers_read_nothing_else-kept : (book buffer : Bytes) (size : ℕ) → observer_size_call sha256 book ≡ accepted size →
    size ≤ length buffer → (part after : Bytes) (size' : ℕ) →
    ReadsChainOf sha256 (view (observer_state book)) (book_finalized book) part buffer after size' →
    (part ≡ observer_read_part sha256 book buffer) × (after ≡ observer_read_buffer sha256 book buffer) × (size' ≡ size)
observers_read_nothing_else-kept = page.observers_read_nothing_else

pub moves_are_read_by_observers-kept : (book reply other : Bytes) → (observer_state other).n ≡ (decode book).n →
    (observer_state other).weights ≡ (decode book).weights → MoveReadByObserver sha256 book reply other
moves_are_read_by_observers-kept = page.moves_are_read_by_observers

pub fetches_are_read_by_observers-kept : (book : Bytes) (k h : ℕ) (reply other : Bytes) →
    (observer_state other).n ≡ (decode book).n → (observer_state other).weights ≡ (decode book).weights →
    FetchReadByObserver sha256 book k h reply other
fetches_are_read_by_observers-kept = page.fetches_are_read_by_observers

pub same_certificates_same_log-kept : Twins sha256
same_certificates_same_log-kept = page.same_certificates_same_log

pub same_log_after_moves-kept : TwinsMoved sha256
same_log_after_moves-kept = page.same_log_after_moves

pub same_log_is_met-kept : TwinsMet sha256
same_log_is_met-kept = page.same_log_is_met

pub observer_idle_after_one-kept : ObserverIdles sha256
observer_idle_after_one-kept = page.observer_idle_after_one
