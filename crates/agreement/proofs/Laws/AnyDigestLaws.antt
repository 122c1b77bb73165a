-- The list passes the tests whatever the digest, by computation up to one comparison: the digest that a replica's vote
-- carries with that of the block.
use Rattle.std.specs.Prelude.{ℕ, ◌*◌, ◌<◌, ◌≤◌, ◌≡◌, ◌≢◌, true, false, cond, ◌&&◌, length, take, ltb}
use Rattle.std.proofs.Common.{arith, sym, ◌∙◌}
use Rattle.std.proofs.Math.Path.{refl, ap}
use Rattle.std.proofs.Math.Bool.{Bool}
use mathlib.Core.List.Memᴰ
use mathlib.Core.List.{List, [], ◌∷◌, ◌++◌}
use Rattle.std.proofs.Math.Option.{some}
use Rattle.std.proofs.Math.Seq.{take-append_seam}
use Rattle.protocol.specs.Block.{entries}
use Rattle.protocol.specs.Bytes.{Bytes, byte_at, same, zeros}
use Rattle.protocol.specs.Call.{delivery}
use Rattle.protocol.specs.Frame.{block_vote, dummy_certificate, dummy_vote, finalize}
use Rattle.protocol.proofs.Laws.RowLaws.{by_rows, eq_same}
use Rattle.protocol.specs.Mask.{in_mask, ones, total, weigh}
use Rattle.protocol.specs.Tests.{all_of}
use Rattle.agreement.specs.AnyDigest.{AnyDigest, agreed, dishonest, heavy_two, light_four, list, one_digest}
use Rattle.agreement.specs.AnyDigest.{openings, other_digest, readings, split, timeouts, way, weights}
use Rattle.agreement.specs.ListTests.{every_honest, hears_at, hears_where_at, is_honest, opens_once, not_forged, reads_at}
use Rattle.agreement.specs.ListTests.{shows_only, some_in, writes_at}
use Rattle.agreement.proofs.Laws.ListTestsLaws.{hears_found, honest_in, one_block_sound, reads_found, where_found}
use Rattle.agreement.proofs.Laws.ListTestsLaws.{writes_found}
use Rattle.agreement.proofs.Laws.NotForgedLaws.{forged_sound}
use Rattle.agreement.specs.Lists.{Begins, FewDishonest, HonestIn, Member, Statement, does, finalizes, statement_of}
use Rattle.agreement.specs.Lists.{votes_block, votes_dummy}
use Rattle.agreement.specs.Met.{MemberOf, Met, is_packet}
use Rattle.agreement.proofs.Laws.MetLaws.{OneBegins, applied}
use Rattle.agreement.specs.Turns.{anything, entry, every_turn, next_block, next_log, other_entry}
use Rattle.agreement.proofs.Laws.TurnsLaws.{keeps}

-- ---- weights, and who is honest
few : FewDishonest weights dishonest
unfolding weigh total in_mask
few = omega arith

honest : HonestIn weights dishonest 0 × HonestIn weights dishonest 1
unfolding is_honest in_mask
honest = (honest_in weights dishonest 0 refl, honest_in weights dishonest 1 refl)

-- what they would be by number
by_number : (length weights ≤ 3 * ones dishonest (length weights)) ×
    (3 * ones heavy_two (length weights) < 2 * length weights) ×
    (2 * length weights ≤ 3 * ones light_four (length weights))
unfolding ones
by_number = (omega arith, omega arith, omega arith)

-- ---- parts, digests and blocks
not_empty : next_log ≢ []
unfolding next_log entry other_entry
not_empty e = let z : ◌≡◌ {A = ℕ} 0 1 = cc in omega arith

begins : Begins [] next_log
unfolding Begins
begins = refl

begins_not : Begins next_log [] → ⊥
unfolding Begins next_log entry other_entry
begins_not e = let z : ◌≡◌ {A = ℕ} 0 1 = cc in omega arith

-- the digests differ in their first byte
two_digests : one_digest ≢ other_digest
unfolding one_digest other_digest
two_digests e = let z : ◌≡◌ {A = ℕ} 1 2 = ap (λ (d : Bytes). byte_at d 0) e in omega arith

carries_twice : entries next_block ≡ entry ∷ other_entry ∷ entry ∷ []
unfolding every_turn
carries_twice = refl

have_books : every_honest dishonest (λ s. ltb s (length (anything 2))) (length weights) ≡ true
unfolding every_turn
have_books = refl

module _ (digest : Bytes → Bytes) where
  -- ---- the tests
  -- what the tests come to, in one, so that each call is computed once: all that needs nothing of the digest, and
  -- whether nothing is forged
  tests : List Member → Bool × Bool
  tests l = (
    all_of
        (every_honest dishonest (λ s. opens_once digest weights s false l) (length weights) ∷
        shows_only digest weights dishonest (next_block ∷ []) l ∷
        some_in (reads_at digest next_log 0) l ∷
        some_in (reads_at digest next_log 1) l ∷
        some_in (reads_at digest [] 1) l ∷
        some_in (hears_at digest (block_vote 3 1 one_digest) 0) l ∷
        some_in (hears_at digest (block_vote 3 1 other_digest) 1) l ∷
        some_in (hears_at digest (dummy_vote 3 1) 0) l ∷
        some_in (hears_at digest (finalize 3 1) 1) l ∷
        some_in (writes_at digest (dummy_certificate 1 heavy_two) 0) l ∷
        some_in (writes_at digest (dummy_certificate 1 heavy_two) 1) l ∷
        some_in (hears_where_at digest is_packet (dummy_vote 0 1) 0) l ∷ []),
    not_forged digest weights dishonest [] l,
  )

  -- what the rows say of a list, by name
  record Passes (l : List Member) : Type 0 where
    opens : every_honest dishonest (λ s. opens_once digest weights s false l) (length weights) ≡ true
    shows : shows_only digest weights dishonest (next_block ∷ []) l ≡ true
    reads_0 : some_in (reads_at digest next_log 0) l ≡ true
    reads_1 : some_in (reads_at digest next_log 1) l ≡ true
    reads_shorter : some_in (reads_at digest [] 1) l ≡ true
    hears_one : some_in (hears_at digest (block_vote 3 1 one_digest) 0) l ≡ true
    hears_other : some_in (hears_at digest (block_vote 3 1 other_digest) 1) l ≡ true
    hears_dummy : some_in (hears_at digest (dummy_vote 3 1) 0) l ≡ true
    hears_finalize : some_in (hears_at digest (finalize 3 1) 1) l ≡ true
    writes_0 : some_in (writes_at digest (dummy_certificate 1 heavy_two) 0) l ≡ true
    writes_1 : some_in (writes_at digest (dummy_certificate 1 heavy_two) 1) l ≡ true
    packet_0 : some_in (hears_where_at digest is_packet (dummy_vote 0 1) 0) l ≡ true

  passes_rows : (l : List Member) → (tests l).0 ≡ true → Passes l
  unfolding tests
  passes_rows l e =
      by_rows _ e λ opens shows reads_0 reads_1 reads_shorter one other dummy final writes_0 writes_1 packet_0.
      record {
        opens = opens;
        shows = shows;
        reads_0 = reads_0;
        reads_1 = reads_1;
        reads_shorter = reads_shorter;
        hears_one = one;
        hears_other = other;
        hears_dummy = dummy;
        hears_finalize = final;
        writes_0 = writes_0;
        writes_1 = writes_1;
        packet_0 = packet_0;
      }

  -- the digest in a vote for the block is the block's
  abbrev own_vote : Bool
  own_vote = same (digest next_block) (take 32 (digest next_block ++ zeros 176))

  -- the certificate is delivered three times, each time in the name of replica 0
  abbrev backed : Bool → Bool
  backed b =
      let name : Bool = cond b true false && true in
      let certificate : Bool = ((((name && true) && true) && true) && true) && true in
      certificate && (certificate && (certificate && true))

  comes_to : tests (list digest) ≡ (true, backed own_vote)
  unfolding every_turn tests is_packet list one_digest other_digest way openings split timeouts agreed readings
  comes_to = refl

  passes : Passes (list digest)
  passes = passes_rows (list digest) (ap (λ (r : Bool × Bool). r.0) comes_to)

  -- what replicas 0 and 3 state in the five frames
  abbrev Says : ℕ → Bytes → Statement → Type 0
  Says s frame statement = statement_of digest frame s ≡ some statement

  says : Says 3 (block_vote 3 1 one_digest) (votes_block 1 one_digest) ×
      Says 3 (block_vote 3 1 other_digest) (votes_block 1 other_digest) × Says 3 (dummy_vote 3 1) (votes_dummy 1) ×
      Says 3 (finalize 3 1) (finalizes 1) × Says 0 (dummy_vote 0 1) (votes_dummy 1)
  unfolding every_turn one_digest other_digest
  says = (refl, refl, refl, refl, refl)

  -- the third call
  refused_1 : MemberOf (list digest) 1 (λ m.
      (m.call ≡ delivery (dummy_certificate 1 light_four)) × ((does digest m).accepted ≡ false))
  unfolding every_turn list openings way
  refused_1 = (_, Memᴰ.tail (Memᴰ.tail (Memᴰ.head refl)), refl, (refl, refl))

  module _ (size : length (digest next_block) ≡ 32) where
    own_vote_lem : own_vote ≡ true
    own_vote_lem =
        let front = take-append_seam (digest next_block) (zeros 176) in
        eq_same _ _ (sym front ∙ ap (λ (k : ℕ). take k (digest next_block ++ zeros 176)) size)

    unforged : not_forged digest weights dishonest [] (list digest) ≡ true
    unfolding tests
    unforged = ap (λ (r : Bool × Bool). r.1) comes_to ∙ ap backed own_vote_lem

    met : Met digest weights dishonest (list digest) [] next_log
    unfolding list
    met = record {
      few = few;
      keeps = keeps weights dishonest (anything 2) have_books digest _ passes.opens;
      unforged = forged_sound digest weights dishonest (list digest) unforged;
      collisionless = one_block_sound digest weights dishonest next_block (list digest) passes.shows;
      honest_0 = honest.0;
      honest_1 = honest.1;
      reads_0 = reads_found digest (list digest) next_log 0 passes.reads_0;
      reads_1 = reads_found digest (list digest) next_log 1 passes.reads_1;
      not_empty = not_empty;
      reads_shorter = reads_found digest (list digest) [] 1 passes.reads_shorter;
      begins = begins;
      begins_not = begins_not;
    }

    pub any_digest : AnyDigest digest
    any_digest = record {
      met = met;
      many_dishonest = by_number.0;
      dummy_0 = writes_found digest (list digest) _ 0 passes.writes_0;
      dummy_1 = writes_found digest (list digest) _ 1 passes.writes_1;
      few_sign = by_number.1;
      refused_1 = refused_1;
      many_sign = by_number.2;
      carries_twice = carries_twice;
      packet_0 = where_found digest is_packet (list digest) _ 0 0 _ says.4 passes.packet_0;
      one_vote = hears_found digest (list digest) _ 0 3 _ says.0 passes.hears_one;
      other_vote = hears_found digest (list digest) _ 1 3 _ says.1 passes.hears_other;
      two_digests = two_digests;
      dummy_vote_lem = hears_found digest (list digest) _ 0 3 _ says.2 passes.hears_dummy;
      finalize_vote = hears_found digest (list digest) _ 1 3 _ says.3 passes.hears_finalize;
    }

    -- agreement, applied to the list
    pub agreed_on : OneBegins next_log next_log × OneBegins [] next_log
    agreed_on = applied digest weights dishonest (list digest) [] next_log met
