-- A list that passes the tests meets the premises of demand 3.
use Rattle.std.specs.Prelude.{ℕ, zero, suc, ◌<◌, ◌≤◌, ◌≡◌, refl, ◌⊎◌, Bool, true, false, ◌&&◌, not, cond, eqb, ltb, length}
use Rattle.std.proofs.Common.{arith, ◌∙◌, inl, inr, eqb-true, leb-true, le-leb}
use Rattle.std.proofs.Math.Path.{sym, ap}
use Rattle.std.proofs.lemmas.Bool.{false≢true, not-true}
use mathlib.Core.List.Memᴰ
use mathlib.Core.List.{List, [], ◌∷◌, ◌++◌, Memᴰ}
use Rattle.std.proofs.Math.Option.{Option, some, none}
use Rattle.protocol.specs.Bytes.{Bytes, holds, same}
use Rattle.protocol.specs.Mask.{in_mask}
use Rattle.protocol.proofs.Laws.RowLaws.{eq_same, implies_true, same_eq}
use Rattle.protocol.specs.Tests.{implies}
use Rattle.protocol.proofs.Laws.TestsLaws.{and_both, le_or_lt, or_either}
use Rattle.agreement.specs.ListTests.{every_honest, every_in, hears_at, is_among, is_honest, no_collision, reads_at}
use Rattle.agreement.specs.ListTests.{hears_where_at, reads_part, reads_where_at, shows, shows_only, some_in, writes_at}
use Rattle.agreement.specs.Lists.{HonestIn, Member, NoCollision, Reads, Shows, Statement, block_in, delivers, does}
use Rattle.agreement.specs.Lists.{statement_of, writes}
use Rattle.agreement.specs.Met.{Hears, HearsWhere, MemberOf, ReadsWhere}

-- ---- over lists and replicas
pub every_in_lem : {A : Type 0} (test : A → Bool) (l : List A) → every_in test l ≡ true → (x : A) → Memᴰ x l →
    test x ≡ true
unfolding every_in
every_in_lem test [] e x i = absurd (Memᴰ.not-nil i)
every_in_lem test (y ∷ ys) e x i = go (Memᴰ.cases_cons i) (every_in_lem test ys q.1 x)
  where
    q : (test y ≡ true) × (every_in test ys ≡ true)
    q = and_both (test y) (every_in test ys) e

    go : (x ≡ y) ⊎ Memᴰ x ys → (Memᴰ x ys → test x ≡ true) → test x ≡ true
    go (inl z) below = ap test z ∙ q.0
    go (inr j) below = below j

pub some_in_lem : {A : Type 0} (test : A → Bool) (l : List A) → some_in test l ≡ true →
    (x : A) × Memᴰ x l × (test x ≡ true)
unfolding some_in
some_in_lem test [] e = absurd (false≢true e)
some_in_lem {A} test (y ∷ ys) e = go (or_either (test y) (some_in test ys) e) (some_in_lem test ys)
  where
    go : (test y ≡ true) ⊎ (some_in test ys ≡ true) →
        (some_in test ys ≡ true → (x : A) × Memᴰ x ys × (test x ≡ true)) →
        (x : A) × Memᴰ x (y ∷ ys) × (test x ≡ true)
    go (inl z) below = (y, Memᴰ.head refl, z)
    go (inr z) below = let r = below z in (r.0, Memᴰ.tail r.1, r.2)

pub every_honest_lem : (dishonest : ℕ) (test : ℕ → Bool) (n : ℕ) → every_honest dishonest test n ≡ true → (s : ℕ) →
    (s < n) × (in_mask dishonest s ≡ false) → test s ≡ true
unfolding every_honest
every_honest_lem dishonest test zero e s (low, h) = absurd (omega arith)
every_honest_lem dishonest test (suc k) e s (low, h) =
    go (le_or_lt k s) (λ l. every_honest_lem dishonest test k q.0 s (l, h))
  where
    q : (every_honest dishonest test k ≡ true) × (implies (not (in_mask dishonest k)) (test k) ≡ true)
    q = and_both (every_honest dishonest test k) _ e

    go : (k ≤ s) ⊎ (s < k) → (s < k → test s ≡ true) → test s ≡ true
    go (inl l) below = let z : s ≡ k = omega arith in rw z (implies_true _ _ q.1 (rw (rw z at h)))
    go (inr l) below = below l

pub is_honest_lem : (weights : List ℕ) (dishonest s : ℕ) → HonestIn weights dishonest s →
    is_honest weights dishonest s ≡ true
unfolding is_honest HonestIn
is_honest_lem weights dishonest s (low, h) = rw (h, le-leb (suc s) (length weights) low)

pub honest_in : (weights : List ℕ) (dishonest s : ℕ) → is_honest weights dishonest s ≡ true →
    HonestIn weights dishonest s
unfolding is_honest HonestIn
honest_in weights dishonest s e =
    let q = and_both (ltb s (length weights)) (not (in_mask dishonest s)) e in
    (leb-true (suc s) (length weights) q.0, not-true (in_mask dishonest s) q.1)

-- ---- bytes
pub holds_member : (x : Bytes) (l : List Bytes) → holds x l ≡ true → Memᴰ x l
unfolding holds
holds_member x [] e = absurd (false≢true e)
holds_member x (y ∷ ys) e = go (same x y) refl (λ h. Memᴰ.tail (holds_member x ys h)) e
  where
    go : (b : Bool) → same x y ≡ b → (holds x ys ≡ true → Memᴰ x (y ∷ ys)) → cond b true (holds x ys) ≡ true →
        Memᴰ x (y ∷ ys)
    go true q below h = Memᴰ.head (same_eq x y q)
    go false q below h = below h

module _ (digest : Bytes → Bytes) where
  module _ (weights : List ℕ) (dishonest : ℕ) where
    -- ---- blocks
    shown_among : (blocks : List Bytes) (l : List Member) → shows_only digest weights dishonest blocks l ≡ true →
        (m : Member) (block : Bytes) → Memᴰ m l → HonestIn weights dishonest m.replica → Shows digest m block →
        Memᴰ block blocks
    unfolding shows_only shows Shows is_among
    shown_among blocks l t m block i hm (frame, j, e) =
        let q = every_in_lem _ l t m i in
        let k = every_in_lem (λ (f : Bytes). is_among blocks (block_in f)) (delivers digest m ++ writes digest m)
        (implies_true _ _ q (is_honest_lem weights dishonest m.replica hm)) frame j in
        holds_member block blocks (rw e at k)

    pub collision_sound : (blocks : List Bytes) (l : List Member) → shows_only digest weights dishonest blocks l ≡ true →
        no_collision digest blocks ≡ true → NoCollision digest (HonestIn weights dishonest) l
    unfolding NoCollision no_collision
    collision_sound blocks l t u m m' p p' i i' hm hm' w w' e =
        let q = every_in_lem _ blocks u p (shown_among blocks l t m p i hm w) in
        let r = every_in_lem (λ (other : Bytes). implies (same (digest p) (digest other)) (same p other)) blocks q p'
        (shown_among blocks l t m' p' i' hm' w') in
        same_eq p p' (implies_true _ _ r (eq_same (digest p) (digest p') e))

    -- where one block alone is shown, nothing has to be known of its digest
    pub one_block_sound : (block : Bytes) (l : List Member) → shows_only digest weights dishonest (block ∷ []) l ≡ true →
        NoCollision digest (HonestIn weights dishonest) l
    unfolding NoCollision
    one_block_sound block l t m m' p p' i i' hm hm' w w' e =
        let q = Memᴰ.eq_of_singleton (shown_among (block ∷ []) l t m p i hm w) in
        let q' = Memᴰ.eq_of_singleton (shown_among (block ∷ []) l t m' p' i' hm' w') in
        q ∙ sym q'

  -- ---- readings
  pub reads_part_lem : (part : Bytes) (o : Option Bytes) → reads_part part o ≡ true → o ≡ some part
  unfolding reads_part
  reads_part_lem part none e = absurd (false≢true e)
  reads_part_lem part (some read) e = ap some (sym (same_eq part read e))

  pub reads_sound : (m : Member) (part : Bytes) → reads_part part (does digest m).reads ≡ true → Reads digest m part
  unfolding Reads
  reads_sound m part t = reads_part_lem part (does digest m).reads t

  -- ---- members of a replica
  found : (list : List Member) (s : ℕ) (test : Member → Bool) (P : Member → Type 0) →
      ((m : Member) → test m ≡ true → P m) → some_in (λ m. eqb m.replica s && test m) list ≡ true → MemberOf list s P
  found list s test P f e =
      let (m, i, t) = some_in_lem (λ (m : Member). eqb m.replica s && test m) list e in
      let q = and_both (eqb m.replica s) (test m) t in
      (m, i, eqb-true m.replica s q.0, f m q.1)

  pub reads_found : (list : List Member) (part : Bytes) (s : ℕ) → some_in (reads_at digest part s) list ≡ true →
      MemberOf list s (λ m. Reads digest m part)
  unfolding reads_at
  reads_found list part s e = found list s _ _ (λ m t. reads_sound m part t) e

  pub reads_where_found : (test : Member → Bool) (list : List Member) (part : Bytes) (s : ℕ) →
      some_in (reads_where_at digest test part s) list ≡ true → MemberOf list s (ReadsWhere digest test part)
  unfolding reads_where_at
  reads_where_found test list part s e = found list s _ _ (λ m t.
      let q = and_both (test m) (reads_part part (does digest m).reads) t in (q.0, reads_sound m part q.1)) e

  pub hears_found : (list : List Member) (frame : Bytes) (s t : ℕ) (st : Statement) →
      statement_of digest frame t ≡ some st → some_in (hears_at digest frame s) list ≡ true →
      MemberOf list s (Hears digest t st)
  unfolding hears_at
  hears_found list frame s t st says e = found list s _ _ (λ m r. (frame, holds_member _ _ r, says)) e

  pub where_found : (test : Member → Bool) (list : List Member) (frame : Bytes) (s t : ℕ) (st : Statement) →
      statement_of digest frame t ≡ some st → some_in (hears_where_at digest test frame s) list ≡ true →
      MemberOf list s (HearsWhere digest test t st)
  unfolding hears_where_at
  where_found test list frame s t st says e = found list s _ _ (λ m r.
      let q = and_both (test m) (holds frame (delivers digest m)) r in
      (q.0, (frame, holds_member _ _ q.1, says))) e

  pub writes_found : (list : List Member) (frame : Bytes) (s : ℕ) → some_in (writes_at digest frame s) list ≡ true →
      MemberOf list s (λ m. Memᴰ frame (writes digest m))
  unfolding writes_at
  writes_found list frame s e = found list s _ _ (λ m t. holds_member frame (writes digest m) t) e
