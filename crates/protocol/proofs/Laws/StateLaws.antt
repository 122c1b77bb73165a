-- A book of the right shape is read back from its bytes as it is.
use Rattle.std.specs.Prelude.{ℕ, ◌+◌, ◌*◌, ◌≡◌, refl, List, [], ◌∷◌, ◌++◌, map, length, take, drop}
use Rattle.std.proofs.Common.{arith, ap₂, subst, ◌∙◌, append_assoc, append-nil, length-append, take_at, drop_at, take_all, drop-drop}
use Rattle.std.proofs.Math.Path.{sym}
use Rattle.std.proofs.lemmas.List.{length-map}
use Rattle.protocol.specs.SoundState.{ShapedHeight, Shaped}
use Rattle.protocol.specs.Every.{Every, none, one}
use Rattle.protocol.specs.Bytes.{Bytes, word16, le16, part, zeros, join, pieces, Sized}
use Rattle.protocol.proofs.Laws.BytesLaws.{word16_le16}
use Rattle.protocol.proofs.Laws.HeadLaws.{head_size, head_weights, head_heights, head_current, head_finalized}
use Rattle.protocol.proofs.Laws.EveryLaws.{every_map}
use Rattle.protocol.proofs.Laws.PiecesLaws.{length_join, pieces_join}
use Rattle.protocol.specs.State.{State, Height, encode, decode, head_bytes, content_bytes, body_bytes, decode_height}
use Rattle.protocol.specs.State.{decode_heights, book_weights, book_heights, book_current, book_finalized}

decode_height_lem : (x : Height) → ShapedHeight x → decode_height (content_bytes x) (body_bytes x) ≡ x
unfolding decode_height content_bytes body_bytes part word16 le16
decode_height_lem x h = λ i. record {
  leader = x.leader;
  status = x.status;
  certificate_mask = word16_le16 x.certificate_mask i;
  dummy_mask = word16_le16 x.dummy_mask i;
  finalize_mask = word16_le16 x.finalize_mask i;
  voter_mask = word16_le16 x.voter_mask i;
  proposal = proposal_back i;
  notarized = notarized_back i;
  vote_digests = votes_back i;
}
  where
    proposal_back : take 176 (x.proposal ++ (x.notarized ++ x.vote_digests)) ≡ x.proposal
    proposal_back = take_at x.proposal (x.notarized ++ x.vote_digests) 176 h.proposal_size

    notarized_back : take 176 (drop 176 (x.proposal ++ (x.notarized ++ x.vote_digests))) ≡ x.notarized
    notarized_back = rw (drop_at x.proposal (x.notarized ++ x.vote_digests) 176 h.proposal_size)
        (take_at x.notarized x.vote_digests 176 h.notarized_size)

    votes_back : take 512 (drop 352 (x.proposal ++ (x.notarized ++ x.vote_digests))) ≡ x.vote_digests
    votes_back =
        let two : drop 352 (x.proposal ++ (x.notarized ++ x.vote_digests)) ≡ x.vote_digests =
        rw (← append_assoc x.proposal x.notarized x.vote_digests)
        (drop_at (x.proposal ++ x.notarized) x.vote_digests 352 (simp length-append (omega (arith, h)))) in
        rw two (take_all 512 x.vote_digests (omega (arith, h)))

pub content_size_lem : (x : Height) → Sized 16 (content_bytes x)
unfolding content_bytes le16 zeros
content_size_lem x = refl

pub body_size_lem : (x : Height) → ShapedHeight x → Sized 864 (body_bytes x)
unfolding body_bytes
body_size_lem x h = simp length-append (omega arith)

heights_zip : {l : List Height} → Every ShapedHeight l → decode_heights (map content_bytes l) (map body_bytes l) ≡ l
unfolding decode_heights
heights_zip none = refl
heights_zip (one {x = x} h hs) = ap₂ ◌∷◌ (decode_height_lem x h) (heights_zip hs)

pub contents_sized : (l : List Height) → Every (Sized 16) (map content_bytes l)
contents_sized [] = none
contents_sized (x ∷ xs) = one (content_size_lem x) (contents_sized xs)

pub bodies_sized : {l : List Height} → Every ShapedHeight l → Every (Sized 864) (map body_bytes l)
bodies_sized hs = every_map body_bytes (λ x h. body_size_lem x h) hs

module _ (s : State) (shaped : Shaped s) where
  abbrev C : Bytes
  C = join (map content_bytes s.heights)

  abbrev D : Bytes
  D = join (map body_bytes s.heights)

  pool_back : part (encode s) 64 512 ≡ s.pool
  unfolding part encode
  pool_back = rw (drop_at (head_bytes s) (s.pool ++ (C ++ D)) 64 (head_size s))
      (take_at s.pool (C ++ D) 512 shaped.pool_size_lem)

  contents_from : drop 576 (encode s) ≡ C ++ D
  unfolding encode
  contents_from =
      sym (drop-drop 512 64 (encode s)) ∙
      rw (drop_at (head_bytes s) (s.pool ++ (C ++ D)) 64 (head_size s))
      (drop_at s.pool (C ++ D) 512 shaped.pool_size_lem)

  bodies_from : drop (576 + 16 * length s.heights) (encode s) ≡ D
  bodies_from =
      sym (drop-drop (16 * length s.heights) 576 (encode s))
      ∙ rw contents_from (drop_at C D (16 * length s.heights)
      (length_join 16 (map content_bytes s.heights) (contents_sized s.heights) ∙ rw length-map))

  contents_back : pieces 16 (length s.heights) (C ++ D) ≡ map content_bytes s.heights
  contents_back =
      subst (λ (k : ℕ). pieces 16 k (C ++ D) ≡ map content_bytes s.heights) (length-map s.heights content_bytes)
      (pieces_join 16 (map content_bytes s.heights) D (contents_sized s.heights))

  bodies_back : pieces 864 (length s.heights) D ≡ map body_bytes s.heights
  bodies_back =
      subst (λ (k : ℕ). pieces 864 k D ≡ map body_bytes s.heights) (length-map s.heights body_bytes)
      (subst (λ (d : Bytes). pieces 864 (length (map body_bytes s.heights)) d ≡ map body_bytes s.heights)
      (append-nil D)
      (pieces_join 864 (map body_bytes s.heights) [] (bodies_sized shaped.heights)))

  heights_back : decode_heights (pieces 16 (length s.heights) (drop 576 (encode s)))
      (pieces 864 (length s.heights) (drop (576 + 16 * length s.heights) (encode s))) ≡ s.heights
  heights_back = rw (contents_from, bodies_from, contents_back, bodies_back) (heights_zip shaped.heights)

  weights_back : book_weights (encode s) ≡ s.weights
  unfolding encode
  weights_back = head_weights s (s.pool ++ (C ++ D)) shaped.weighed

  current_back : book_current (encode s) ≡ s.current
  unfolding encode
  current_back = head_current s (s.pool ++ (C ++ D))

  finalized_back : book_finalized (encode s) ≡ s.finalized
  unfolding encode
  finalized_back = head_finalized s (s.pool ++ (C ++ D))

  count_encode : book_heights (encode s) ≡ length s.heights
  unfolding encode
  count_encode = head_heights s (s.pool ++ (C ++ D))

  all_heights : decode_heights (pieces 16 (book_heights (encode s)) (drop 576 (encode s)))
      (pieces 864 (book_heights (encode s)) (drop (576 + 16 * book_heights (encode s)) (encode s))) ≡ s.heights
  all_heights = rw count_encode heights_back

  pub decode_encode : decode (encode s) ≡ s
  unfolding decode encode head_bytes
  decode_encode = λ i. record {
    edition = s.edition;
    n = s.n;
    weights = weights_back i;
    own = s.own;
    flags = s.flags;
    current = current_back i;
    finalized = finalized_back i;
    pending_count = s.pending_count;
    pool = pool_back i;
    heights = all_heights i;
  }
