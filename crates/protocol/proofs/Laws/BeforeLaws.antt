-- What was well formed or sound before request 2.7 is so now and keeps its bytes, and what is so now was so then, up to
-- heights below 256 and to the editions that there were.
use Rattle.std.specs.Prelude.{ℕ, ◌+◌, ◌-◌, ◌*◌, ◌/◌, ◌%◌, ◌≤◌, ◌<◌, ◌≡◌, refl, Bool, false, ◌&&◌, List, [], ◌∷◌, ◌++◌, length, eqb, ltb}
use Rattle.std.proofs.Common.{arith, sym, ◌∙◌, eqb-true, eq-eqb, lt-ltb, ltb-true}
use Rattle.std.proofs.Math.Bool.{true}
use Rattle.protocol.specs.Bytes.{Bytes, AreBytes, byte_at, word16, le16, zeros, join}
use Rattle.protocol.specs.Tests.{all_of, in_range}
use Rattle.protocol.specs.Every.{none, one}
use Rattle.protocol.specs.Block.{new_block, block_height, parent_height, block_well_formed}
use Rattle.protocol.specs.Frame.{frame_height, frame_of, frame_well_formed}
use Rattle.protocol.specs.State.{Height, decode, book_heights, head_number, head_unused, most_heights}
use Rattle.protocol.specs.Sound.{blocks_well_formed, sound}
use Rattle.protocol.specs.Before.{block_before, frame_before, blocks_before, decode_before, rows_before, sound_before}
use Rattle.protocol.specs.Before.{unused_before}
use Rattle.protocol.proofs.Laws.TestsLaws.{and_both}
use Rattle.protocol.proofs.Laws.RowLaws.{by_rows, all_of_lem, true_and, in_range_lem, range_in, implies_true, true_implies}
use Rattle.protocol.proofs.Laws.RowLaws.{not_passed, row, every_height_lem, every_height_at}
use Rattle.protocol.proofs.Laws.SoundRowNames.{edition_row}
use Rattle.protocol.proofs.Laws.FormedLaws.{Formed, formed, formed_frame}

-- tests of which each passes where the other does
pub same_test : (a b : Bool) → (a ≡ true → b ≡ true) → (b ≡ true → a ≡ true) → a ≡ b
same_test true b f g = sym (f refl)
same_test false true f g = g refl
same_test false false f g = refl

-- ---- bytes of heights below 256
short_word : (x : ℕ) → x < 256 → le16 x ≡ x ∷ 0 ∷ []
unfolding le16
short_word x low =
    let small : x % 256 ≡ x = omega arith in
    let none : x / 256 ≡ 0 = omega arith in
    rw (small, none)

pub short_frame : (k s h mask : ℕ) (digest block : Bytes) → h < 256 →
    frame_of k s h mask digest block ≡ (k ∷ s ∷ h ∷ 0 ∷ []) ++ (le16 mask ++ (zeros 10 ++ (digest ++ block)))
unfolding frame_of
short_frame k s h mask digest block low = rw (short_word h low)

pub short_block : (h parent : ℕ) (digest : Bytes) (es : List Bytes) → parent < h → h < 256 →
    new_block h parent digest es ≡
    (h ∷ 0 ∷ parent ∷ 0 ∷ length es ∷ zeros 11) ++ (digest ++ (join es ++ zeros (128 - 16 * length es)))
unfolding new_block
short_block h parent digest es below low = rw (short_word h low, short_word parent (omega arith))

-- ---- tests of blocks and frames
-- a word below 256 has a high byte of zero
high_zero : (bytes : Bytes) (i : ℕ) → word16 bytes i < 256 → eqb (byte_at bytes (i + 1)) 0 ≡ true
unfolding word16
high_zero bytes i low = eq-eqb (byte_at bytes (i + 1)) 0 (omega arith)

low_word : (bytes : Bytes) (i : ℕ) → AreBytes bytes → eqb (byte_at bytes (i + 1)) 0 ≡ true → word16 bytes i < 256
unfolding word16
low_word bytes i small zero = omega (arith, small i, eqb-true (byte_at bytes (i + 1)) 0 zero)

pub block_then : (h : ℕ) (block : Bytes) → block_well_formed h block ≡ true → h < 256 → block_before h block ≡ true
unfolding block_before block_height parent_height
block_then h block good low =
    let facts : Formed h block = formed h block good in
    all_of_lem (one good (one (high_zero block 0 (omega arith)) (one (high_zero block 2 (omega arith)) none)))

pub block_now : (h : ℕ) (block : Bytes) → block_before h block ≡ true → block_well_formed h block ≡ true
unfolding block_before
block_now h block good = by_rows _ good λ now one two. now

pub block_before_lem : (h : ℕ) (block : Bytes) → AreBytes block →
    block_before h block ≡ (block_well_formed h block && ltb h 256)
unfolding block_before block_height
block_before_lem h block small = same_test _ _
    (λ good. by_rows _ good λ now high parent.
    let low = low_word block 0 small high in
    let its = (formed h block now).height_is in
    true_and _ _ now (lt-ltb h 256 (omega arith)))
    (λ both. let t = and_both _ _ both in block_then h block t.0 (ltb-true h 256 t.1))

pub frame_before_lem : (frame : Bytes) → AreBytes frame →
    frame_before frame ≡ (frame_well_formed frame && ltb (frame_height frame) 256)
unfolding frame_before frame_height
frame_before_lem frame small = same_test _ _
    (λ good. by_rows _ good λ now high block. true_and _ _ now (lt-ltb _ 256 (low_word frame 2 small high)))
    (λ both. let t = and_both _ _ both in let low = ltb-true _ 256 t.1 in all_of_lem
    (one t.0 (one (high_zero frame 2 low) (one (true_implies _ _
    (λ carries. block_then _ _ ((formed_frame frame t.0).block_formed carries) low)) none))))

-- ---- tests of books
blocks_then : (h : ℕ) (x : Height) → blocks_well_formed h x ≡ true → h < 256 → blocks_before h x ≡ true
unfolding blocks_well_formed blocks_before
blocks_then h x good low =
    let t = and_both _ _ good in
    true_and _ _ (true_implies _ _ (λ e. block_then h _ (implies_true _ _ t.0 e) low))
    (true_implies _ _ (λ e. block_then h _ (implies_true _ _ t.1 e) low))

blocks_now : (h : ℕ) (x : Height) → blocks_before h x ≡ true → blocks_well_formed h x ≡ true
unfolding blocks_well_formed blocks_before
blocks_now h x good =
    let t = and_both _ _ good in
    true_and _ _ (true_implies _ _ (λ e. block_now h _ (implies_true _ _ t.0 e)))
    (true_implies _ _ (λ e. block_now h _ (implies_true _ _ t.1 e)))

pub not_three : (latest x : ℕ) → latest ≤ 2 → in_range 1 latest x ≡ true → eqb x 3 ≡ false
not_three latest x few range = not_passed (eqb x 3)
    (λ e. let r = in_range_lem 1 latest x range in let is = eqb-true x 3 e in omega arith)

pub wider : (latest x : ℕ) → latest ≤ 2 → in_range 1 latest x ≡ true → in_range 1 3 x ≡ true
wider latest x few range = let r = in_range_lem 1 latest x range in range_in 1 3 x r.0 (omega arith)

module _ (book : Bytes) (short : eqb (byte_at book 7) 3 ≡ false) where
  pub reads_heights : book_heights book ≡ byte_at book 2
  unfolding head_number
  reads_heights = rw short

  pub reads_unused : unused_before book ≡ head_unused book
  unfolding unused_before head_unused
  reads_unused = rw short

module _ (digest : Bytes → Bytes) (latest : ℕ) (few : latest ≤ 2) (book : Bytes) where
  module _ (short : eqb (byte_at book 7) 3 ≡ false) where
    reads_book : decode_before book ≡ decode book
    unfolding decode_before decode head_number
    reads_book = rw short

    most_63 : most_heights (decode book).edition ≡ 63
    unfolding most_heights decode
    most_63 = rw short

    rows_before_lem : sound_before digest latest book ≡
        all_of (rows_before digest latest book (decode book) (book_heights book))
    unfolding sound_before
    rows_before_lem = rw (reads_book, reads_heights book short)

    sound_now : sound_before digest latest book ≡ true → sound digest book ≡ true
    unfolding rows_before sound
    sound_now good =
        by_rows _ (sym rows_before_lem ∙ good)
        λ size n own heights edition weights current flags pending leaders masks status blocks certified unused zeros
        final. all_of_lem
        (one size (one n (one own (one (rw most_63 heights) (one (wider latest _ few edition) (one weights (one current
        (one flags (one pending (one leaders (one masks (one status
        (one (every_height_lem _ _ (λ h low high. blocks_now h _ (every_height_at _ _ h blocks low high)))
        (one certified (one (rw (reads_unused book short) at unused) (one zeros (one final none)))))))))))))))))

    sound_then : sound digest book ≡ true → in_range 1 latest (decode book).edition ≡ true →
        sound_before digest latest book ≡ true
    unfolding rows_before sound
    sound_then good known =
        by_rows _ good
        λ size n own heights edition weights current flags pending leaders masks status blocks certified unused zeros
        final.
        let low = in_range_lem 1 63 _ (rw most_63 at heights) in
        rows_before_lem ∙ all_of_lem
        (one size (one n (one own (one (rw most_63 at heights) (one known (one weights (one current
        (one flags (one pending (one leaders (one masks (one status
        (one (every_height_lem _ _
        (λ h least most. blocks_then h _ (every_height_at _ _ h blocks least most) (omega arith)))
        (one certified (one (rw (reads_unused book short) unused) (one zeros (one final none)))))))))))))))))

  -- the tests of then passed on just the books that are sound now and of an edition that there was
  pub sound_before_lem : sound_before digest latest book ≡ (sound digest book && in_range 1 latest (byte_at book 7))
  unfolding sound_before rows_before decode_before decode
  sound_before_lem = same_test _ _
      (λ good.
      let known : in_range 1 latest (byte_at book 7) ≡ true = row _ edition_row good in
      true_and _ _ (sound_now (not_three latest _ few known) good) known)
      (λ both. let t = and_both _ _ both in sound_then (not_three latest _ few t.1) t.0 t.1)
