-- Fetch: what a fetch that is not refused has tested, and that all that Fetch gives is `every_certificate`.
use Prim.Native.Nat.{ℕ, zero, suc, ◌≤◌}
use native.Mathlib.Omega.{arith}
use Rattle.std.proofs.Math.Decide.{ℕ_discrete}
use Rattle.std.specs.Prelude.{◌≡◌, length}
use Rattle.std.proofs.Math.Path.{refl, subst}
use Rattle.std.proofs.Common.{sym, ap}
use Rattle.std.proofs.Math.Logic.{⊎_elim}
use Rattle.std.proofs.Math.Bool.{true}
use mathlib.Core.List.Memᴰ
use mathlib.Core.List.{List, [], ◌∷◌, ◌++◌, Memᴰ}
use Rattle.std.proofs.Math.Option.{Option, some, none}
use borrow.Author.Tests.{leb-true, le-leb}
use Rattle.protocol.specs.Bytes.{Bytes}
use Rattle.protocol.specs.Tests.{first_refusal, in_range}
use Rattle.protocol.specs.Frame.{is_certificate}
use Rattle.protocol.specs.State.{State, decode, last}
use Rattle.protocol.specs.Sound.{sound}
use Rattle.protocol.specs.Answer.{accepted, done}
use Rattle.protocol.specs.Certificates.{certificate_frame}
use Rattle.protocol.specs.Fetch.{has_certificate, certificate_if, certificates_at, certificates_to, every_certificate}
use Rattle.protocol.specs.Fetch.{unless_fetch_refused, fetch_rows, fetch_call}
use Rattle.protocol.proofs.Laws.TestsLaws.{cond-elim}
use Rattle.protocol.proofs.Laws.RowLaws.{by_tested, in_range_lem, range_in}

-- ---- what the rows of Fetch say
-- a certificate that a state gives: its kind, its height, and that the state has it
pub record Gives (s : State) (k h : ℕ) : Type 0 where
  pub a_certificate : is_certificate k ≡ true
  pub low : 1 ≤ h
  pub high : h ≤ last s
  pub has : has_certificate s k h ≡ true

module _ (digest : Bytes → Bytes) (book : Bytes) (k h : ℕ) (reply : Bytes) where
  pub record Fetches : Type 0 where
    pub was_sound : sound digest book ≡ true
    pub gives : Gives (decode book) k h
    pub room : 224 ≤ length reply

  pub fetch_tested : first_refusal (fetch_rows digest book k h reply) ≡ none → Fetches
  unfolding fetch_rows
  fetch_tested passes =
      by_tested _ passes λ is_sound_lem certificate height room has.
      let range = in_range_lem 1 (last (decode book)) h height in
      record {
        was_sound = is_sound_lem;
        gives = record { a_certificate = certificate; low = range.0; high = range.1; has = has };
        room = leb-true 224 (length reply) room;
      }

  fetch_passes : Fetches → first_refusal (fetch_rows digest book k h reply) ≡ none
  unfolding fetch_rows first_refusal
  fetch_passes is =
      rw (
        is.was_sound,
        is.gives.a_certificate,
        range_in 1 (last (decode book)) h is.gives.low is.gives.high,
        le-leb 224 (length reply) is.room,
        is.gives.has,
      )

-- ---- the certificates of a state
module _ (s : State) where
  -- the certificate of a kind is the only one of its list
  if_in : (k h : ℕ) → has_certificate s k h ≡ true → Memᴰ (certificate_frame s k h) (certificate_if s k h)
  unfolding certificate_if
  if_in k h has = rw has (Memᴰ.head refl)

  in_if : (k h : ℕ) {frame : Bytes} → Memᴰ frame (certificate_if s k h) →
      (has_certificate s k h ≡ true) × (frame ≡ certificate_frame s k h)
  unfolding certificate_if
  in_if k h {frame} =
      cond-elim
      (λ (l : List Bytes). Memᴰ frame l → (has_certificate s k h ≡ true) × (frame ≡ certificate_frame s k h))
      (has_certificate s k h) (λ has m. (has, Memᴰ.eq_of_singleton m)) (λ lacks m. absurd (Memᴰ.not-nil m))

  -- a kind is one of three
  kinds : (P : ℕ → Type 0) (k : ℕ) → is_certificate k ≡ true → P 5 → P 6 → P 7 → P k
  unfolding is_certificate
  kinds P k e p5 p6 p7 = go (ℕ_discrete k 5) (ℕ_discrete k 6)
    where
      go : Dec (k ≡ 5) → Dec (k ≡ 6) → P k
      go (yes q) d = subst P (sym q) p5
      go (no q) (yes r) = subst P (sym r) p6
      go (no q) (no r) = let range = in_range_lem 5 7 k e in let is : k ≡ 7 = omega arith in subst P (sym is) p7

  at_in : (k h : ℕ) → is_certificate k ≡ true → has_certificate s k h ≡ true →
      Memᴰ (certificate_frame s k h) (certificates_at s h)
  unfolding certificates_at
  at_in k h e =
      kinds (λ (k : ℕ). has_certificate s k h ≡ true → Memᴰ (certificate_frame s k h) (certificates_at s h)) k e
      (λ has. Memᴰ.append_left (certificate_if s 6 h ++ certificate_if s 7 h) (if_in 5 h has))
      (λ has. Memᴰ.append_right (certificate_if s 5 h) (Memᴰ.append_left (certificate_if s 7 h) (if_in 6 h has)))
      (λ has. Memᴰ.append_right (certificate_if s 5 h) (Memᴰ.append_right (certificate_if s 6 h) (if_in 7 h has)))

  abbrev Of : ℕ → Bytes → Type 0
  Of h frame = (k : ℕ) × (is_certificate k ≡ true) × (has_certificate s k h ≡ true) × (frame ≡ certificate_frame s k h)

  in_at : (h : ℕ) {frame : Bytes} → Memᴰ frame (certificates_at s h) → Of h frame
  unfolding certificates_at is_certificate in_range
  in_at h {frame} m =
      ⊎_elim (λ a. let (has, e) = in_if 5 h a in (5, refl, has, e)) rest
      (Memᴰ.append_cases (certificate_if s 5 h) m)
    where
      rest : Memᴰ frame (certificate_if s 6 h ++ certificate_if s 7 h) → Of h frame
      rest m =
          ⊎_elim (λ a. let (has, e) = in_if 6 h a in (6, refl, has, e))
          (λ b. let (has, e) = in_if 7 h b in (7, refl, has, e)) (Memᴰ.append_cases (certificate_if s 6 h) m)

  to_in : (k h to : ℕ) → is_certificate k ≡ true → 1 ≤ h → h ≤ to → has_certificate s k h ≡ true →
      Memᴰ (certificate_frame s k h) (certificates_to s to)
  unfolding certificates_to
  to_in k h zero e low high has = absurd (omega arith)
  to_in k h (suc to) e low high has = go (ℕ_discrete h (suc to)) (λ l. to_in k h to e low l has)
    where
      go : Dec (h ≡ suc to) → (h ≤ to → Memᴰ (certificate_frame s k h) (certificates_to s to)) →
          Memᴰ (certificate_frame s k h) (certificates_to s to ++ certificates_at s (suc to))
      go (yes q) below = Memᴰ.append_right (certificates_to s to)
          (subst (λ (j : ℕ). Memᴰ (certificate_frame s k h) (certificates_at s j)) q (at_in k h e has))
      go (no q) below = Memᴰ.append_left (certificates_at s (suc to)) (below (omega arith))

  in_to : (to : ℕ) {frame : Bytes} → Memᴰ frame (certificates_to s to) → (h : ℕ) × (1 ≤ h) × (h ≤ to) × Of h frame
  unfolding certificates_to
  in_to zero m = absurd (Memᴰ.not-nil m)
  in_to (suc to) {frame} m =
      ⊎_elim (λ a. let (h, low, high, of) = in_to to a in (h, low, omega arith, of))
      (λ b. (suc to, omega arith, omega arith, in_at (suc to) b))
      (Memᴰ.append_cases (certificates_to s to) m)

  -- each certificate that the state gives is among all of them, and there is no other
  pub given_in : (k h : ℕ) → Gives s k h → Memᴰ (certificate_frame s k h) (every_certificate s)
  unfolding every_certificate
  given_in k h is = to_in k h (last s) is.a_certificate is.low is.high is.has

  pub in_given : {frame : Bytes} → Memᴰ frame (every_certificate s) →
      (k : ℕ) × (h : ℕ) × Gives s k h × (frame ≡ certificate_frame s k h)
  unfolding every_certificate
  in_given m =
      let (h, low, high, of) = in_to (last s) m in
      let (k, a, has, e) = of in
      (k, h, record { a_certificate = a; low = low; high = high; has = has }, e)

-- ---- so is each frame that Fetch writes, and each of them is written by Fetch
module _ (digest : Bytes → Bytes) (book reply : Bytes) where
  pub fetched_in : (k h : ℕ) {frame : Bytes} → Memᴰ frame (fetch_call digest book k h reply).frames →
      Memᴰ frame (every_certificate (decode book))
  unfolding fetch_call
  fetched_in k h {frame} = go (first_refusal (fetch_rows digest book k h reply)) refl
    where
      go : (r : Option ℕ) → first_refusal (fetch_rows digest book k h reply) ≡ r →
          Memᴰ frame (unless_fetch_refused r (certificate_frame (decode book) k h) reply).frames →
          Memᴰ frame (every_certificate (decode book))
      go none e m = unfold unless_fetch_refused in
          rw (Memᴰ.eq_of_singleton m) (given_in (decode book) k h (fetch_tested digest book k h reply e).gives)
      go (some number) e m = unfold unless_fetch_refused in absurd (Memᴰ.not-nil m)

  pub in_fetched : sound digest book ≡ true → 224 ≤ length reply →
      {frame : Bytes} → Memᴰ frame (every_certificate (decode book)) →
      (k : ℕ) × (h : ℕ) × ((fetch_call digest book k h reply).answer ≡ accepted done) ×
      ((fetch_call digest book k h reply).frames ≡ frame ∷ [])
  unfolding fetch_call unless_fetch_refused
  in_fetched ok room m =
      let (k, h, gives, e) = in_given (decode book) m in
      let passes = fetch_passes digest book k h reply (record { was_sound = ok; gives = gives; room = room }) in
      (k, h, rw passes refl, rw passes (ap (λ (frame : Bytes). frame ∷ []) (sym e)))
