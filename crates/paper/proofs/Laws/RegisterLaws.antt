-- Read gives what `Register` says.
use Rattle.std.specs.Prelude.{ℕ, ◌*◌, ◌≤◌, ◌<◌, ◌≡◌, refl, ◌⊎◌, Bool, false, ◌&&◌, cond, []}
use Rattle.std.proofs.Common.{arith, ap, subst, ◌∙◌, inl, inr}
use Rattle.std.proofs.Math.Path.{sym}
use Rattle.std.proofs.Math.Bool.{true}
use Rattle.std.proofs.Math.ListN.{length}
use Rattle.std.proofs.Math.Dec.{leb}
use borrow.Author.Tests.{le-leb, lt-leb}
use Rattle.protocol.specs.Bytes.{Bytes, join, over_front}
use Rattle.protocol.specs.Block.{entry_size}
use Rattle.protocol.specs.SoundState.{CertifiedState}
use Rattle.protocol.specs.State.{State, decode}
use Rattle.protocol.specs.Sound.{view, sound, log}
use Rattle.protocol.specs.Answer.{Answer, refused, accepted}
use Rattle.protocol.specs.Read.{log_size, size_call, read_part, read_buffer}
use Rattle.protocol.specs.Observer.{observer_state, decode_observer, as_replica}
use Rattle.protocol.specs.ObserverSound.{observer_sound}
use Rattle.protocol.specs.ObserverCalls.{observer_log_size, observer_size_call, observer_read_part, observer_read_buffer}
use Rattle.protocol.proofs.Laws.ObserverSoundLaws.{sound_observer, certified_observer}
use Rattle.protocol.proofs.Laws.FrontLaws.{front_none}
use Rattle.protocol.proofs.Laws.LogLaws.{log_bytes}
use Rattle.protocol.proofs.Laws.SoundLaws.{sound_decode, certified_state}
use Rattle.paper.proofs.Laws.BlockchainsLaws.{in_the_papers_terms}
use Rattle.paper.specs.Register.{ReadsChainOf, ReadsChain, ObserverReadsChain, CannotRead, ObserverCannotRead}

-- what an answer of Register size says, of a book that is sound or not
Said : Bool → ℕ → Answer ℕ → Type 0
Said is_sound_lem total (accepted size) = (is_sound_lem ≡ true) × (size ≡ total)
Said is_sound_lem total (refused number) = is_sound_lem ≡ false

said : (is_sound_lem : Bool) (total : ℕ) (answer : Answer ℕ) → cond is_sound_lem (accepted total) (refused 1) ≡ answer →
    Said is_sound_lem total answer
unfolding Said
said is_sound_lem total answer e = subst (Said is_sound_lem total) e (go is_sound_lem)
  where
    go : (b : Bool) → Said b total (cond b (accepted total) (refused 1))
    go true = (refl, refl)
    go false = refl

-- ---- of either kind of book
module _ (digest : Bytes → Bytes) (s : State) (facts : CertifiedState digest s) (buffer : Bytes) where
  abbrev total : ℕ
  total = entry_size * length (log s)

  -- the part that is returned where the book is sound
  abbrev part_of : Bytes
  part_of = cond (leb total (length buffer)) (join (log s)) []

  reads_chain_of : (size : ℕ) → size ≡ total → size ≤ length buffer →
      ReadsChainOf digest (view s) s.finalized part_of buffer (over_front part_of buffer) size
  unfolding over_front
  reads_chain_of size is fits =
      let chain = (in_the_papers_terms digest s facts).log_is in
      let found : leb total (length buffer) ≡ true = le-leb total (length buffer) (omega arith) in
      let bytes : length (join (log s)) ≡ size = log_bytes digest s facts ∙ sym is in
      record {
        sequence = chain.sequence;
        finalized = chain.finalized;
        its_height = chain.its_height;
        its_last = chain.its_last;
        part_read_lem = rw found (ap join (sym chain.its_log));
        its_size = is ∙ rw chain.its_log;
        part_size = rw found bytes;
        buffer_after = rw (found, bytes);
      }

-- nothing is returned where the book is not sound or the buffer too short
empty_part : (is_sound_lem : Bool) (total : ℕ) (part buffer : Bytes) →
    ((number : ℕ) × (cond is_sound_lem (accepted total) (refused 1) ≡ refused number)) ⊎
    ((size : ℕ) × (cond is_sound_lem (accepted total) (refused 1) ≡ accepted size) × (length buffer < size)) →
    cond (is_sound_lem && leb total (length buffer)) part [] ≡ []
unfolding Said
empty_part is_sound_lem total part buffer (inl (number, e)) = rw (said is_sound_lem total (refused number) e)
empty_part is_sound_lem total part buffer (inr (size, e, short)) =
    let (ok, is) = said is_sound_lem total (accepted size) e in
    let too_long : leb total (length buffer) ≡ false = lt-leb total (length buffer) (omega arith) in rw (ok, too_long)

-- ---- of a replica's
module _ (digest : Bytes → Bytes) (book : Bytes) where
  pub reads_chain : (buffer : Bytes) (size : ℕ) → size_call digest book ≡ accepted size → size ≤ length buffer →
      ReadsChain digest book buffer size
  unfolding size_call read_part read_buffer log_size decode Said
  reads_chain buffer size e fits =
      let (ok, is) = said (sound digest book) (log_size book) (accepted size) e in
      rw ok (reads_chain_of digest (decode book) (certified_state (sound_decode digest book ok)) buffer size is fits)

  -- else nothing is returned and nothing written
  pub reads_nothing : (buffer : Bytes) → CannotRead digest book buffer →
      (read_part digest book buffer ≡ []) × (read_buffer digest book buffer ≡ buffer)
  unfolding CannotRead size_call read_part read_buffer
  reads_nothing buffer cannot =
      let e = empty_part (sound digest book) (log_size book) (join (log (decode book))) buffer cannot in
      (e, rw e (front_none buffer))

-- ---- and of an observer's
module _ (digest : Bytes → Bytes) (book : Bytes) where
  pub observer_reads_chain : (buffer : Bytes) (size : ℕ) → observer_size_call digest book ≡ accepted size →
      size ≤ length buffer → ObserverReadsChain digest book buffer size
  unfolding observer_size_call observer_read_part observer_read_buffer observer_log_size decode_observer as_replica Said
  observer_reads_chain buffer size e fits =
      let (ok, is) = said (observer_sound digest book) (observer_log_size book) (accepted size) e in
      rw ok (reads_chain_of digest (observer_state book) (certified_observer (sound_observer digest book ok)) buffer size
      is fits)

  pub observer_reads_nothing : (buffer : Bytes) → ObserverCannotRead digest book buffer →
      (observer_read_part digest book buffer ≡ []) × (observer_read_buffer digest book buffer ≡ buffer)
  unfolding ObserverCannotRead observer_size_call observer_read_part observer_read_buffer
  observer_reads_nothing buffer cannot =
      let e = empty_part (observer_sound digest book) (observer_log_size book) (join (log (observer_state book))) buffer
      cannot in
      (e, rw e (front_none buffer))
