-- The list of the witness passes the tests, by computation, and so meets the premises.
use Rattle.std.specs.Prelude.{ℕ, ◌≡◌, refl, ◌≢◌, Bool, true, false, List, [], ◌∷◌, length, ltb}
use Rattle.std.proofs.Common.{arith, ap}
use Rattle.std.proofs.Math.Option.{some}
use Rattle.protocol.specs.Block.{new_block}
use Rattle.protocol.specs.Bytes.{Bytes, byte_at, join, le16, word16, zeros}
use Rattle.protocol.specs.Frame.{block_vote, dummy_certificate, frame_block, frame_height, frame_of, kind, proposal, signer}
use Rattle.protocol.proofs.Laws.RowLaws.{by_rows}
use Rattle.protocol.specs.Mask.{in_mask, total, weigh}
use Rattle.protocol.specs.Tests.{all_of}
use Rattle.agreement.specs.ListTests.{every_honest, hears_at, hears_where_at, is_honest, no_collision, not_forged}
use Rattle.agreement.specs.ListTests.{opens_once, reads_at, reads_where_at, shows_only, some_in, writes_at}
use Rattle.agreement.proofs.Laws.ListTestsLaws.{collision_sound, hears_found, honest_in, reads_found}
use Rattle.agreement.proofs.Laws.ListTestsLaws.{reads_where_found, where_found, writes_found}
use Rattle.agreement.proofs.Laws.NotForgedLaws.{forged_sound}
use Rattle.agreement.specs.Lists.{Begins, FewDishonest, HonestIn, Member, Reads, proposes, statement_of}
use Rattle.agreement.specs.Lists.{votes_block, when}
use Rattle.agreement.specs.Met.{MemberOf, Met, ReadsWhere, fires_timer, has_edition, is_packet}
use Rattle.agreement.proofs.Laws.MetLaws.{OneBegins, applied}
use Rattle.agreement.specs.Turns.{anything, entry, every_turn, next_block, next_log, other_entry}
use Rattle.agreement.proofs.Laws.TurnsLaws.{keeps}
use Rattle.witnesses.specs.Witness.{Witness, agreed, dishonest, extended, last_block, last_entry, last_log, list}
use Rattle.witnesses.specs.Witness.{one_block, openings, other_block, readings, sample, split, timeouts, votes}
use Rattle.witnesses.specs.Witness.{weights}

-- ---- weights, and who is honest
few : FewDishonest weights dishonest
unfolding weigh total in_mask
few = omega arith

honest : HonestIn weights dishonest 0 × HonestIn weights dishonest 1
unfolding is_honest in_mask
honest = (honest_in weights dishonest 0 refl, honest_in weights dishonest 1 refl)

have_books : every_honest dishonest (λ s. ltb s (length (anything 3))) (length weights) ≡ true
unfolding every_turn
have_books = refl

-- ---- parts
not_empty : last_log ≢ []
unfolding last_log next_log entry other_entry
not_empty e = let z : ◌≡◌ {A = ℕ} 0 1 = cc in omega arith

begins : Begins next_log last_log
unfolding Begins every_turn last_log last_entry
begins = refl

-- they differ in their length
begins_not : Begins last_log next_log → ⊥
unfolding Begins every_turn last_log last_entry
begins_not e = let z : ◌≡◌ {A = ℕ} 48 32 = ap (λ (bytes : Bytes). length bytes) e in omega arith

-- ---- the tests
abbrev blocks : List Bytes
blocks = one_block ∷ other_block ∷ next_block ∷ last_block ∷ []

-- all that is to be computed, in one test
tests : List Member → Bool
tests l = all_of
    (every_honest dishonest (λ s. opens_once sample weights s false l) (length weights) ∷
    not_forged sample weights dishonest [] l ∷
    shows_only sample weights dishonest blocks l ∷
    no_collision sample blocks ∷
    some_in (reads_where_at sample (has_edition 1) last_log 0) l ∷
    some_in (reads_where_at sample (has_edition 2) last_log 1) l ∷
    some_in (reads_at sample next_log 1) l ∷
    some_in (hears_at sample (proposal 3 1 one_block) 0) l ∷
    some_in (hears_at sample (proposal 3 1 other_block) 1) l ∷
    some_in (writes_at sample (dummy_certificate 1 7) 0) l ∷
    some_in (writes_at sample (dummy_certificate 1 7) 1) l ∷
    some_in (hears_where_at sample (fires_timer sample) (proposal 3 1 other_block) 0) l ∷
    some_in (hears_where_at sample is_packet (block_vote 1 2 (sample next_block)) 0) l ∷
    some_in (writes_at sample (proposal 0 3 last_block) 0) l ∷ [])

-- what they say of a list, by name
record Passes (l : List Member) : Type 0 where
  opens : every_honest dishonest (λ s. opens_once sample weights s false l) (length weights) ≡ true
  unforged : not_forged sample weights dishonest [] l ≡ true
  shows : shows_only sample weights dishonest blocks l ≡ true
  no_collision_lem : no_collision sample blocks ≡ true
  reads_0 : some_in (reads_where_at sample (has_edition 1) last_log 0) l ≡ true
  reads_1 : some_in (reads_where_at sample (has_edition 2) last_log 1) l ≡ true
  reads_shorter : some_in (reads_at sample next_log 1) l ≡ true
  hears_0 : some_in (hears_at sample (proposal 3 1 one_block) 0) l ≡ true
  hears_1 : some_in (hears_at sample (proposal 3 1 other_block) 1) l ≡ true
  writes_0 : some_in (writes_at sample (dummy_certificate 1 7) 0) l ≡ true
  writes_1 : some_in (writes_at sample (dummy_certificate 1 7) 1) l ≡ true
  fires_0 : some_in (hears_where_at sample (fires_timer sample) (proposal 3 1 other_block) 0) l ≡ true
  packet_0 : some_in (hears_where_at sample is_packet (block_vote 1 2 (sample next_block)) 0) l ≡ true
  offers_0 : some_in (writes_at sample (proposal 0 3 last_block) 0) l ≡ true

passes_rows : (l : List Member) → tests l ≡ true → Passes l
unfolding tests
passes_rows l e =
    by_rows _ e λ opens unforged shows no_collision_lem reads_0 reads_1 reads_shorter hears_0 hears_1 writes_0 writes_1
    fires_0 packet_0 offers_0. record {
      opens = opens;
      unforged = unforged;
      shows = shows;
      no_collision_lem = no_collision_lem;
      reads_0 = reads_0;
      reads_1 = reads_1;
      reads_shorter = reads_shorter;
      hears_0 = hears_0;
      hears_1 = hears_1;
      writes_0 = writes_0;
      writes_1 = writes_1;
      fires_0 = fires_0;
      packet_0 = packet_0;
      offers_0 = offers_0;
    }

tested : tests list ≡ true
unfolding every_turn tests fires_timer has_edition is_packet list sample one_block other_block last_entry last_block last_log
    openings split timeouts votes agreed extended readings
tested = refl

passes : Passes list
passes = passes_rows list tested

-- ---- from tests to facts
proposal_says : (block : Bytes) → statement_of sample (proposal 3 1 block) 3 ≡ some (proposes 1 block)
unfolding statement_of when proposal frame_of kind signer frame_height frame_block word16 le16 zeros
proposal_says block = refl

vote_says : statement_of sample (block_vote 1 2 (sample next_block)) 1 ≡ some (votes_block 2 (sample next_block))
unfolding every_turn sample
vote_says = refl

-- the two blocks differ in their first entry
two_blocks : one_block ≢ other_block
unfolding one_block other_block new_block le16 zeros join
two_blocks e = let z : ◌≡◌ {A = ℕ} 1 2 = ap (λ (b : Bytes). byte_at b 48) e in omega arith

edition_0 : MemberOf list 0 (ReadsWhere sample (has_edition 1) last_log)
edition_0 = reads_where_found sample (has_edition 1) list last_log 0 passes.reads_0

edition_1 : MemberOf list 1 (ReadsWhere sample (has_edition 2) last_log)
edition_1 = reads_where_found sample (has_edition 2) list last_log 1 passes.reads_1

-- a reading that passes a test is one
any_edition : (s : ℕ) {test : Member → Bool} → MemberOf list s (ReadsWhere sample test last_log) →
    MemberOf list s (λ m. Reads sample m last_log)
any_edition s (m, here, own, (passes-it, reads)) = (m, here, own, reads)

met : Met sample weights dishonest list next_log last_log
unfolding list
met = record {
  few = few;
  keeps = keeps weights dishonest (anything 3) have_books sample _ passes.opens;
  unforged = forged_sound sample weights dishonest list passes.unforged;
  collisionless = collision_sound sample weights dishonest blocks list passes.shows passes.no_collision_lem;
  honest_0 = honest.0;
  honest_1 = honest.1;
  reads_0 = any_edition 0 edition_0;
  reads_1 = any_edition 1 edition_1;
  not_empty = not_empty;
  reads_shorter = reads_found sample list next_log 1 passes.reads_shorter;
  begins = begins;
  begins_not = begins_not;
}

pub witness : Witness
witness = record {
  met = met;
  edition_0 = edition_0;
  edition_1 = edition_1;
  one_proposal = hears_found sample list _ 0 3 _ (proposal_says one_block) passes.hears_0;
  other_proposal = hears_found sample list _ 1 3 _ (proposal_says other_block) passes.hears_1;
  two_blocks = two_blocks;
  dummy_0 = writes_found sample list _ 0 passes.writes_0;
  dummy_1 = writes_found sample list _ 1 passes.writes_1;
  fires_0 =
      where_found sample (fires_timer sample) list _ 0 3 _ (proposal_says other_block) passes.fires_0;
  packet_0 = where_found sample is_packet list _ 0 1 _ vote_says passes.packet_0;
  offers_0 = writes_found sample list _ 0 passes.offers_0;
}

-- agreement, applied to the list
pub agreed_on : OneBegins last_log last_log × OneBegins next_log last_log
agreed_on = applied sample weights dishonest list next_log last_log met
