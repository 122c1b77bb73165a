-- Written by tests/restated --write: what docs/statements has of
-- crates/call_laws/specs/KeptBytes.antt.
use Rattle.std.specs.Prelude.{ℕ, ◌+◌, ◌-◌, ◌*◌, ◌≡◌, Bool, false, ◌&&◌, ◌||◌, not, cond, List, [], ◌∷◌, ◌++◌, leb, ltb}
use package.Rattle.protocol.specs.Bytes.{Bytes, byte_at}
use package.Rattle.protocol.specs.Frame.{kind, signer, frame_height, is_proposal, is_block_vote, is_dummy_vote, is_finalize}
use package.Rattle.protocol.specs.Frame.{is_dummy_certificate, is_finalize_certificate}
use package.Rattle.protocol.specs.State.{Height, at, decode, is_notarized, book_heights}
use package.Rattle.call_laws.specs.KeptBytes.{Part, in_parts, SameOutside, notarized_parts, kept_parts, newly_notarized}
use mathlib.Core.Path.{◌≡◌ as ◌is-kept◌, refl as by-text}
use package.Rattle.call_laws.specs.KeptBytes as page

abbrev Part-kept : Type 0
Part-kept = ℕ × ℕ

same-Part : Part-kept is-kept page.Part
same-Part = by-text

in_parts-kept : List Part → ℕ → Bool
in_parts-kept [] i = false
in_parts-kept (p ∷ ps) i = (leb p.0 i && ltb i (p.0 + p.1)) || in_parts-kept ps i

same-in_parts : in_parts-kept is-kept page.in_parts
unfolding in_parts-kept page.in_parts
same-in_parts = by-text

SameOutside-kept : (parts : List Part) (before after : Bytes) (same_byte : (i : ℕ) → in_parts parts i ≡ false → byte_at after i ≡ byte_at before i) →
    SameOutside parts before after
SameOutside-kept parts before after x0 = record { same_byte = x0 }

newly_notarized-kept : Height → Height → Bool
newly_notarized-kept x y = not (is_notarized x) && is_notarized y

same-newly_notarized : newly_notarized-kept is-kept page.newly_notarized
unfolding newly_notarized-kept page.newly_notarized
same-newly_notarized = by-text

delivery_parts-kept : Bytes → Bytes → Bytes → List Part
delivery_parts-kept book frame after =
    let h : ℕ = frame_height frame in
    kept_parts (book_heights book) h (kind frame) (signer frame) ++
    cond (newly_notarized (at (decode book) h) (at (decode after) h)) (notarized_parts (book_heights book) h) []

same-delivery_parts : delivery_parts-kept is-kept page.delivery_parts
unfolding delivery_parts-kept page.delivery_parts
same-delivery_parts = by-text

module _ (heights h : ℕ) where
  abbrev content_at : ℕ
  content_at = page.content_at heights h

  abbrev body_at : ℕ
  body_at = page.body_at heights h

  abbrev proposal_parts : List Part
  proposal_parts = page.proposal_parts heights h

  abbrev vote_parts : ℕ → List Part
  vote_parts = page.vote_parts heights h

  abbrev dummy_parts : List Part
  dummy_parts = page.dummy_parts heights h

  abbrev finalize_parts : List Part
  finalize_parts = page.finalize_parts heights h

  abbrev content_at-kept : ℕ
  content_at-kept = 576 + 16 * (h - 1)

  same-content_at : content_at-kept is-kept page.content_at heights h
  same-content_at = by-text

  abbrev body_at-kept : ℕ
  body_at-kept = 576 + 16 * heights + 864 * (h - 1)

  same-body_at : body_at-kept is-kept page.body_at heights h
  same-body_at = by-text

  proposal_parts-kept : List Part
  proposal_parts-kept = (content_at + 1, 1) ∷ (body_at, 176) ∷ []

  same-proposal_parts : proposal_parts-kept is-kept page.proposal_parts heights h
  unfolding proposal_parts-kept page.proposal_parts
  same-proposal_parts = by-text

  vote_parts-kept : ℕ → List Part
  vote_parts-kept t = (content_at + 8, 2) ∷ (body_at + (352 + 32 * t), 32) ∷ []

  same-vote_parts : vote_parts-kept is-kept page.vote_parts heights h
  unfolding vote_parts-kept page.vote_parts
  same-vote_parts = by-text

  dummy_parts-kept : List Part
  dummy_parts-kept = (content_at + 4, 2) ∷ []

  same-dummy_parts : dummy_parts-kept is-kept page.dummy_parts heights h
  unfolding dummy_parts-kept page.dummy_parts
  same-dummy_parts = by-text

  finalize_parts-kept : List Part
  finalize_parts-kept = (content_at + 6, 2) ∷ []

  same-finalize_parts : finalize_parts-kept is-kept page.finalize_parts heights h
  unfolding finalize_parts-kept page.finalize_parts
  same-finalize_parts = by-text

  notarized_parts-kept : List Part
  notarized_parts-kept = (content_at + 1, 1) ∷ (content_at + 2, 2) ∷ (body_at + 176, 176) ∷ []

  same-notarized_parts : notarized_parts-kept is-kept page.notarized_parts heights h
  unfolding notarized_parts-kept page.notarized_parts
  same-notarized_parts = by-text

  kept_parts-kept : ℕ → ℕ → List Part
  kept_parts-kept k t =
      cond (is_proposal k) proposal_parts
      (cond (is_block_vote k) (vote_parts t)
      (cond (is_dummy_vote k || is_dummy_certificate k) dummy_parts
      (cond (is_finalize k || is_finalize_certificate k) finalize_parts [])))

  same-kept_parts : kept_parts-kept is-kept page.kept_parts heights h
  unfolding kept_parts-kept page.kept_parts
  same-kept_parts = by-text
