-- One call more in the list: what a delivery, a packet, a refused opening, a signal and a move leave of a good book.
use Rattle.std.specs.Prelude.{ℕ, suc, ◌≡◌, ◌⊎◌, true, false, cond, get_or}
use Rattle.std.proofs.Math.Path.{refl}
use Rattle.std.proofs.Common.{sym, subst, ◌∙◌, inl, inr, true≢false}
use mathlib.Core.List.Memᴰ
use mathlib.Core.List.{List, [], ◌∷◌, ◌++◌, Memᴰ}
use Rattle.std.proofs.Math.Option.{Option, some, none}
use Rattle.protocol.specs.SoundState.{Shaped}
use Rattle.protocol.specs.Answer.{Counts, Done, Outcome, accepted, done, is_accepted, unless_refused}
use Rattle.protocol.specs.Bytes.{Bytes}
use Rattle.protocol.specs.Deliver.{deliver_all, deliver_call}
use Rattle.protocol.specs.Packet.{accepted_of, count_all, packet_call, packet_frames, packet_rows}
use Rattle.protocol.proofs.Laws.MoveLaws.{step_body}
use Rattle.protocol.specs.Move.{Step, move_call, move_rows, moved, step, unless_move_refused}
use Rattle.protocol.specs.Open.{Opening, new_state, open_call, open_rows}
use Rattle.protocol.specs.Signal.{signal_call, signal_rows}
use Rattle.protocol.specs.Sound.{sound, view}
use Rattle.protocol.specs.State.{Height, State, decode, encode, flag, no_height}
use Rattle.protocol.specs.Tests.{first_refusal}
use Rattle.protocol.proofs.Laws.TestedLaws.{signal_tested, move_tested}
use Rattle.agreement.proofs.Laws.BackingLaws.{later}
use Rattle.agreement.proofs.Laws.GrantsLaws.{grants}
use Rattle.agreement.specs.Lists.{Member, Statement, Wrote, delivers, statement_of, writes}
use Rattle.agreement.proofs.Laws.MovingLaws.{step_good}
use Rattle.agreement.proofs.Laws.StatementsLaws.{Consistent, stated_nothing}
use Rattle.agreement.proofs.Laws.RunLaws.{AllDelivered, BackedBy, Good, Seen, States, encoded, fired_good}
use Rattle.agreement.proofs.Laws.RunLaws.{frame_good, frames_good}
use Rattle.agreement.proofs.Laws.ListsLaws.{wrote_last, wrote_more}

module _ (digest : Bytes → Bytes) (weights : List ℕ) (books names : ℕ → Type 0) (P : List Member) (m : Member) where
  abbrev StatesIn : List Member → ℕ → Statement → Type 0
  StatesIn Q = States digest weights books names Q

  abbrev SeenIn : List Member → Bytes → Type 0
  SeenIn Q = Seen digest weights books names Q

  abbrev BackedIn : List Member → ℕ → Height → Type 0
  BackedIn Q = BackedBy digest weights books names Q

  abbrev GoodIn : List Member → ℕ → State → Type 0
  GoodIn Q = Good digest weights books names Q

  abbrev pub P' : List Member
  P' = P ++ (m ∷ [])

  pub states_more : (t : ℕ) (st : Statement) → StatesIn P t st → StatesIn P' t st
  states_more t st w h = wrote_more digest t st P (m ∷ []) (w h)

  pub seen_more : (p : Bytes) → SeenIn P p → SeenIn P' p
  seen_more p w = (w.0, Memᴰ.append_left (m ∷ []) w.1, w.2, w.3)

  pub backed_more : {h : ℕ} {x : Height} → BackedIn P h x → BackedIn P' h x
  backed_more k = later digest states_more seen_more k

  -- a call that writes nothing
  pub nothing_new : (s : ℕ) → (m.replica ≡ s → writes digest m ≡ []) → (st : Statement) → Wrote digest s st P' →
      Wrote digest s st P
  nothing_new s e st w = go (wrote_last digest s st P m w)
    where
      go : Wrote digest s st P ⊎ ((m.replica ≡ s) × (f : Bytes) × Memᴰ f
          (writes digest m) × (statement_of digest f s ≡ some st)) →
          Wrote digest s st P
      go (inl v) = v
      go (inr v) = absurd (Memᴰ.not-nil (rw (e v.0) at v.2))

  -- and changes flags only upwards
  pub quiet : (s : ℕ) (b b' : State) → GoodIn P s b → (m.replica ≡ s → writes digest m ≡ []) →
      (view b').weights ≡ (view b).weights →
      b'.current ≡ b.current →
      (flag 1 b ≡ true → flag 1 b' ≡ true) → (flag 4 b ≡ true → flag 4 b' ≡ true) → Shaped b' →
      ((i : ℕ) → BackedIn P' (suc i) (get_or b'.heights i no_height)) → GoodIn P' s b'
  quiet s b b' g e en ec e1 e4 sh k = record {
    same_weights = en ∙ g.same_weights;
    kept = record { shaped = sh; backed = k };
    consistent = subst (λ (c : ℕ). Consistent (StatesIn P' s) c (flag 1 b') (flag 4 b')) (sym ec)
        (stated_nothing g.consistent (λ st w. inl (λ h. nothing_new s e st (w h))) e1 e4);
  }

  pub unchanged : (s : ℕ) (b : State) → GoodIn P s b → (m.replica ≡ s → writes digest m ≡ []) → GoodIn P' s b
  unchanged s b g e =
      quiet s b b g e refl refl (λ q. q) (λ q. q) g.kept.shaped (λ i. backed_more (g.kept.backed i))

  -- ---- a delivery
  among : Memᴰ m P'
  among = Memᴰ.append_right P (Memᴰ.head refl)

  pub delivery_good : (s : ℕ) (book f : Bytes) → GoodIn P s (decode book) → writes digest m ≡ [] →
      books m.replica →
      delivers digest m ≡ cond (is_accepted (deliver_call digest book f).answer) (f ∷ []) [] →
      (Memᴰ f (delivers digest m) → (t : ℕ) (st : Statement) → statement_of digest f t ≡ some st →
      StatesIn P t st) →
      GoodIn P' s (decode (deliver_call digest book f).book)
  delivery_good s book f g silent ours e said =
      frame_good digest weights books names P' m among ours s book f
      (unchanged s (decode book) g (λ z. silent)) (λ ok. rw (e, ok) (Memᴰ.head refl))
      (λ d t st q. states_more t st (said d t st q))

  -- ---- a packet: each frame over the book that those before it left
  all_delivered : (ours : books m.replica) (book : Bytes) (frames : List Bytes) →
      ((f : Bytes) → Memᴰ f (accepted_of digest book frames) → Memᴰ f (delivers digest m)) →
      AllDelivered digest weights books names P' m among ours book frames
  unfolding AllDelivered accepted_of
  all_delivered ours book [] each = tt
  all_delivered ours book (f ∷ frames) each = (
    λ ok. each f (rw ok (Memᴰ.head refl)),
    all_delivered ours (deliver_call digest book f).book frames (λ g i. each g
        (Memᴰ.append_right (cond (is_accepted (deliver_call digest book f).answer) (f ∷ []) []) i)),
  )

  pub packet_good : (s : ℕ) (book packet : Bytes) → GoodIn P s (decode book) → writes digest m ≡ [] →
      books m.replica →
      delivers digest m ≡ cond (is_accepted (packet_call digest book packet).answer)
      (accepted_of digest book (packet_frames packet)) [] →
      ((f : Bytes) → Memᴰ f (delivers digest m) → (t : ℕ) (st : Statement) → statement_of digest f t ≡ some st →
      StatesIn P t st) →
      GoodIn P' s (decode (packet_call digest book packet).book)
  unfolding packet_call unless_refused is_accepted
  packet_good s book packet g silent ours e said = go (first_refusal (packet_rows digest book packet)) e
    where
      frames : List Bytes
      frames = packet_frames packet

      still : GoodIn P' s (decode book)
      still = unchanged s (decode book) g (λ z. silent)

      delivered : Outcome Counts
      delivered = record { answer = accepted (count_all digest book frames); book = deliver_all digest book frames }

      go : (o : Option ℕ) →
          delivers digest m ≡ cond (is_accepted (unless_refused o book delivered).answer) (accepted_of digest book frames)
          [] → GoodIn P' s (decode (unless_refused o book delivered).book)
      go none q = frames_good digest weights books names P' m among ours s book frames
          (λ f d t st r. states_more t st (said f d t st r)) still (all_delivered ours book frames (λ f i. rw q i))
      go (some number) q = still

  -- ---- a call that changes the book unless it is refused
  pub unless_refused_good : {A : Type 0} (s : ℕ) (o : Option ℕ) (book : Bytes) (outcome : Outcome A) →
      GoodIn P' s (decode book) →
      (o ≡ none → GoodIn P' s (decode outcome.book)) → GoodIn P' s (decode (unless_refused o book outcome).book)
  unfolding unless_refused
  unless_refused_good s none book outcome g g' = g' refl
  unless_refused_good s (some number) book outcome g g' = g

  pub reopening_good : (s : ℕ) (way : Opening) (book : Bytes) (n' own heights : ℕ) (leaders : Bytes) →
      GoodIn P s (decode book) →
      writes digest m ≡ [] →
      is_accepted (open_call way book n' own heights leaders).answer ≡ false → GoodIn P' s
      (decode (open_call way book n' own heights leaders).book)
  unfolding open_call unless_refused is_accepted
  reopening_good s way book n' own heights leaders g silent no_way =
      go (first_refusal (open_rows way book n' own heights leaders)) no_way
    where
      opened : Outcome Done
      opened = record { answer = accepted done; book = encode (new_state way n' own leaders) }

      go : (o : Option ℕ) → is_accepted (unless_refused o book opened).answer ≡ false →
          GoodIn P' s (decode (unless_refused o book opened).book)
      go none e = absurd (true≢false e)
      go (some number) e = unchanged s (decode book) g (λ q. silent)

  pub signal_good : (s : ℕ) (book : Bytes) (h : ℕ) → GoodIn P s (decode book) → writes digest m ≡ [] →
      GoodIn P' s (decode (signal_call digest book h).book)
  unfolding signal_call
  signal_good s book h g silent =
      let still = unchanged s (decode book) g (λ q. silent) in
      unless_refused_good s (first_refusal (signal_rows digest book h)) book _ still
      (λ e. encoded digest weights books names P' s _ (fired_good digest weights books names P' (decode book) s
      (signal_tested digest book h e).not_fired still))

  -- ---- a move
  pub step_keeps : (s : ℕ) (book : Bytes) → names s → GoodIn P s (decode book) → sound digest book ≡ true →
      writes digest m ≡ (step digest (decode book)).frames →
      GoodIn P' s (step digest (decode book)).after
  step_keeps s book hs g ok e =
      let body = step_body digest b in
      record {
        same_weights = body.same_view ∙ g.same_weights;
        kept = record {
          shaped = record {
            weighed = body.same_weighed g.kept.shaped.weighed;
            pool_size_lem = rw body.same_pool g.kept.shaped.pool_size_lem;
            heights = rw body.same_heights g.kept.shaped.heights;
          };
          backed = λ i. rw body.same_heights (backed_more (g.kept.backed i));
        };
        consistent = step_good digest (StatesIn P) (StatesIn P' s) (SeenIn P) s b g.kept.backed g.consistent
            (grants digest book ok).positive (λ t w. go t (wrote_last digest s t P m (w hs)));
      }
    where
      b : State
      b = decode book

      go : (t : Statement) →
          Wrote digest s t P ⊎ ((m.replica ≡ s) × (f : Bytes) × Memᴰ f
          (writes digest m) × (statement_of digest f s ≡ some t)) →
          StatesIn P s t ⊎ ((f : Bytes) × Memᴰ f (step digest b).frames × (statement_of digest f s ≡ some t))
      go t (inl v) = inl (λ q. v)
      go t (inr v) = inr (v.1, rw e at v.2, v.3)

  pub move_good : (s : ℕ) (book reply : Bytes) → names s → GoodIn P s (decode book) →
      writes digest m ≡ (move_call digest book reply).frames →
      GoodIn P' s (decode (move_call digest book reply).book)
  unfolding move_call unless_move_refused moved
  move_good s book reply hs g = go (first_refusal (move_rows digest book reply)) refl
    where
      st : Step
      st = step digest (decode book)

      go : (o : Option ℕ) → first_refusal (move_rows digest book reply) ≡ o →
          writes digest m ≡ (unless_move_refused o book reply st).frames →
          GoodIn P' s (decode (unless_move_refused o book reply st).book)
      go none p e =
          let ok = (move_tested digest book reply p).was_sound in
          encoded digest weights books names P' s st.after (step_keeps s book hs g ok e)
      go (some number) p e = unchanged s (decode book) g (λ z. e)
