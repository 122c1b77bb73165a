-- A refused call does nothing; what opens a book is an opening, and what reads a part is a reading.
use Rattle.std.specs.Prelude.{ℕ, ◌≡◌, Bool, true, false, cond}
use Rattle.std.proofs.Common.{arith, sym, ap, ◌∙◌, true≢false}
use Rattle.std.proofs.Math.Path.{refl}
use Rattle.std.proofs.Math.Option.{Option, some, none}
use Rattle.protocol.specs.Bytes.{Bytes}
use Rattle.protocol.specs.Tests.{first_refusal}
use Rattle.protocol.specs.State.{decode}
use Rattle.protocol.specs.Answer.{Outcome, refused, is_accepted, unless_refused}
use Rattle.protocol.specs.Open.{Opening, opened_weights, open_call, open_rows}
use Rattle.protocol.specs.Deliver.{deliver_call, deliver_rows}
use Rattle.protocol.specs.Packet.{accepted_of, packet_call, packet_frames, packet_rows}
use Rattle.protocol.specs.Move.{move_call, move_rows, moved, step, unless_move_refused}
use Rattle.protocol.specs.Signal.{signal_call, signal_rows}
use Rattle.protocol.specs.Submit.{submit_call, submit_rows}
use Rattle.protocol.specs.Read.{read_part}
use Rattle.protocol.specs.Certificates.{certificate_frame}
use Rattle.protocol.specs.Fetch.{fetch_call, fetch_rows, unless_fetch_refused}
use Rattle.protocol.specs.Call.{Call, Effect, Opened, opening, delivery, packet_delivery, moving, signalling}
use Rattle.protocol.specs.Call.{submitting, sizing, reading, fetching, effect, leaves, of_delivery, of_fetch}
use Rattle.protocol.specs.Call.{of_move, of_opening, of_outcome, of_packet}
use Rattle.protocol.proofs.Laws.DeliverLaws.{heard_accepted}

module _ (digest : Bytes → Bytes) (book : Bytes) where
  -- an effect that is nothing, if the call was refused
  abbrev NothingIfRefused : Effect → Type 0
  NothingIfRefused e = e.accepted ≡ false → e ≡ leaves book false

  -- a call that is refused by its rows, or does what it does, and then is accepted
  unless_refused_lem : {A : Type 0} (effect_of : Outcome A → Effect) →
      ((number : ℕ) → effect_of (record { answer = refused number; book = book }) ≡ leaves book false) →
      (outcome : Outcome A) → (effect_of outcome).accepted ≡ true →
      (r : Option ℕ) → NothingIfRefused (effect_of (unless_refused r book outcome))
  unfolding unless_refused
  unless_refused_lem effect_of idle outcome done none e = absurd (true≢false (sym done ∙ e))
  unless_refused_lem effect_of idle outcome done (some number) e = idle number

  -- a refused call leaves the book as it was, opens none, delivers and writes no frame and reads nothing
  pub refused_does_nothing : (call : Call) → (effect digest book call).accepted ≡ false →
      effect digest book call ≡ leaves book false
  unfolding effect is_accepted open_call deliver_call packet_call signal_call submit_call
  refused_does_nothing (opening way n own heights leaders) =
      unless_refused_lem (of_opening (record { weights = opened_weights n way; own = own })) (λ number. refl) _ refl
      (first_refusal (open_rows way book n own heights leaders))
  refused_does_nothing (delivery frame) =
      unless_refused_lem (of_delivery frame) (λ number. refl) _
      (ap is_accepted (heard_accepted digest book frame).1)
      (first_refusal (deliver_rows digest book frame))
  refused_does_nothing (packet_delivery packet) =
      unless_refused_lem (of_packet (accepted_of digest book (packet_frames packet))) (λ number. refl) _ refl
      (first_refusal (packet_rows digest book packet))
  refused_does_nothing (moving reply) = unfold move_call in go (first_refusal (move_rows digest book reply))
    where
      go : (r : Option ℕ) → NothingIfRefused (of_move (unless_move_refused r book reply (step digest (decode book))))
      go none e = unfold unless_move_refused moved in absurd (true≢false e)
      go (some number) e = unfold unless_move_refused in refl
  refused_does_nothing (signalling h) =
      unless_refused_lem of_outcome (λ number. refl) _ refl (first_refusal (signal_rows digest book h))
  refused_does_nothing (submitting entry) =
      unless_refused_lem of_outcome (λ number. refl) _ refl (first_refusal (submit_rows digest book entry))
  refused_does_nothing sizing = λ e. rw e refl
  refused_does_nothing (reading buffer) = λ e. absurd (true≢false e)
  refused_does_nothing (fetching k h reply) = unfold fetch_call in go (first_refusal (fetch_rows digest book k h reply))
    where
      go : (r : Option ℕ) →
          NothingIfRefused (of_fetch book (unless_fetch_refused r (certificate_frame (decode book) k h) reply))
      go none e = unfold unless_fetch_refused in absurd (true≢false e)
      go (some number) e = unfold unless_fetch_refused in refl

  -- ---- openings and readings
  -- the opening that opened such a book, not refused
  abbrev pub OpensBy : Call → Opened → Type 0
  OpensBy call opened = (way : Opening) × (n : ℕ) × (heights : ℕ) × (leaders : Bytes) ×
      (call ≡ opening way n opened.own heights leaders) × (opened_weights n way ≡ opened.weights) ×
      (is_accepted (open_call way book n opened.own heights leaders).answer ≡ true)

  -- the reading that returned such a part
  abbrev pub ReadsBy : Call → Bytes → Type 0
  ReadsBy call part = (buffer : Bytes) × (call ≡ reading buffer) × (part ≡ read_part digest book buffer)

  nothing : {A B : Type 0} {x : A} → none ≡ some x → B
  nothing e = let z : ◌≡◌ {A = ℕ} 0 1 = cc in absurd (omega arith)

  accepts : (b : Bool) (opened opened' : Opened) → cond b (some opened) none ≡ some opened' →
      (b ≡ true) × (opened ≡ opened')
  accepts true opened opened' e = (refl, cc)
  accepts false opened opened' e = nothing e

  refuses : (b : Bool) (opened : Opened) → cond b (some opened) none ≡ none → b ≡ false
  refuses true opened e = nothing (sym e)
  refuses false opened e = refl

  pub opens_nothing : (way : Opening) (n own heights : ℕ) (leaders : Bytes) →
      (effect digest book (opening way n own heights leaders)).opens ≡ none →
      is_accepted (open_call way book n own heights leaders).answer ≡ false
  unfolding effect
  opens_nothing way n own heights leaders e = refuses _ _ e

  pub only_opening : (call : Call) (opened : Opened) → (effect digest book call).opens ≡ some opened →
      OpensBy call opened
  unfolding effect
  only_opening (opening way n own heights leaders) opened e =
      let unrefused = is_accepted (open_call way book n own heights leaders).answer in
      let (unrefused-is, same) = accepts unrefused (record { weights = opened_weights n way; own = own }) opened e in
      rw (← same) (way, n, heights, leaders, refl, refl, unrefused-is)
  only_opening (delivery frame) opened e = nothing e
  only_opening (packet_delivery packet) opened e = nothing e
  only_opening (moving reply) opened e = nothing e
  only_opening (signalling h) opened e = nothing e
  only_opening (submitting entry) opened e = nothing e
  only_opening sizing opened e = nothing e
  only_opening (reading buffer) opened e = nothing e
  only_opening (fetching k h reply) opened e = nothing e

  pub only_reading : (call : Call) (part : Bytes) → (effect digest book call).reads ≡ some part → ReadsBy call part
  unfolding effect
  only_reading (opening way n own heights leaders) part e = nothing e
  only_reading (delivery frame) part e = nothing e
  only_reading (packet_delivery packet) part e = nothing e
  only_reading (moving reply) part e = nothing e
  only_reading (signalling h) part e = nothing e
  only_reading (submitting entry) part e = nothing e
  only_reading sizing part e = nothing e
  only_reading (reading buffer) part e = (buffer, refl, cc)
  only_reading (fetching k h reply) part e = nothing e
