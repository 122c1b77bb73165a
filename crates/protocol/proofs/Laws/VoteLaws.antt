-- A vote that is put among the kept votes of a height: it can be read back, and the others are as they were.
use Rattle.std.specs.Prelude.{ℕ, ◌+◌, ◌-◌, ◌*◌, ◌≤◌, ◌<◌, ◌≡◌, ◌⊎◌, ◌≢◌, ◌++◌, length}
use Rattle.std.proofs.Common.{arith, sym, ◌∙◌, inl, inr, append_assoc, length-append, length-drop, take-append-drop, take_at, drop_at, length-take-le, drop-drop}
use Rattle.std.proofs.Math.Path.{ap}
use Rattle.std.proofs.Math.ListN.{take, drop}
use Rattle.std.proofs.lemmas.List.{drop-append-le, take-append-le}
use Rattle.std.proofs.Math.Seq.{drop-append-add}
use Rattle.protocol.specs.SoundState.{ShapedHeight}
use Rattle.protocol.specs.Bytes.{Bytes, part}
use Rattle.protocol.specs.Deliver.{with_vote}
use Rattle.protocol.specs.State.{Height, vote_of}
use Rattle.protocol.proofs.Laws.TestsLaws.{le_or_lt}

part_front : (u r : Bytes) (i j : ℕ) → i + j ≤ length u → part (u ++ r) i j ≡ part u i j
unfolding part
part_front u r i j h =
    rw (drop-append-le i u r (omega arith)) (take-append-le j (drop i u) r (rw length-drop (omega arith)))

module _ (v d : Bytes) (a : ℕ) (fits : a + 32 ≤ length v) (size : length d ≡ 32) where
  before_size : length (take a v) ≡ a
  before_size = length-take-le a v (omega arith)

  splice_at : part (take a v ++ (d ++ drop (a + 32) v)) a 32 ≡ d
  unfolding part
  splice_at = rw (drop_at (take a v) (d ++ drop (a + 32) v) a before_size) (take_at d (drop (a + 32) v) 32 size)

  splice_before : (i : ℕ) → i + 32 ≤ a → part (take a v ++ (d ++ drop (a + 32) v)) i 32 ≡ part v i 32
  splice_before i h =
      let n = before_size in
      part_front (take a v) (d ++ drop (a + 32) v) i 32 (omega arith)
      ∙ sym (part_front (take a v) (drop a v) i 32 (omega arith))
      ∙ ap (λ (z : Bytes). part z i 32) (take-append-drop a v)

  splice_after : (i : ℕ) → a + 32 ≤ i → part (take a v ++ (d ++ drop (a + 32) v)) i 32 ≡ part v i 32
  unfolding part
  splice_after i h = ap (λ (z : Bytes). take 32 z) (far ∙ near)
    where
      u : Bytes
      u = take a v ++ d

      u_size : length u ≡ a + 32
      u_size = let n = before_size in rw (length-append (take a v) d, n, size)

      far : drop i (take a v ++ (d ++ drop (a + 32) v)) ≡ drop (i - (a + 32)) (drop (a + 32) v)
      far =
          let e : i ≡ length u + (i - (a + 32)) = let n = u_size in omega arith in
          rw (← append_assoc (take a v) d (drop (a + 32) v))
          (ap (λ (z : ℕ). drop z (u ++ drop (a + 32) v)) e ∙ drop-append-add u (drop (a + 32) v) (i - (a + 32)))

      near : drop (i - (a + 32)) (drop (a + 32) v) ≡ drop i v
      near = drop-drop (i - (a + 32)) (a + 32) v ∙ ap (λ (z : ℕ). drop z v)
          (let e : a + 32 + (i - (a + 32)) ≡ i = omega arith in e)

module _ (x : Height) (s : ℕ) (d : Bytes) (sized : ShapedHeight x) (few : s < 16) (size : length d ≡ 32) where
  fits : 32 * s + 32 ≤ length x.vote_digests
  fits = omega arith

  pub vote_same : vote_of (with_vote x s d) s ≡ d
  unfolding vote_of with_vote
  vote_same = splice_at x.vote_digests d (32 * s) fits size

  pub vote_other : (t : ℕ) → t ≢ s → vote_of (with_vote x s d) t ≡ vote_of x t
  unfolding vote_of with_vote
  vote_other t ne = go (le_or_lt s t)
    where
      spliced : Bytes
      spliced = take (32 * s) x.vote_digests ++ (d ++ drop (32 * s + 32) x.vote_digests)

      go : (s ≤ t) ⊎ (t < s) → part spliced (32 * t) 32 ≡ part x.vote_digests (32 * t) 32
      go (inl h) = splice_after x.vote_digests d (32 * s) fits size (32 * t) (omega arith)
      go (inr h) = splice_before x.vote_digests d (32 * s) fits size (32 * t) (omega arith)
