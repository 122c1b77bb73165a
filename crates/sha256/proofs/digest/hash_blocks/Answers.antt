-- `hash_blocks` meets its contract: the library's fold over the blocks that it cuts is that of the definition. Assumes
-- nothing.
use Rattle.std.proofs.Common.{◌≡◌, ℕ, List, fold, [], ◌∷◌, ◌++◌, refl, ap, sym, ◌∙◌, rules}
use Rattle.std.proofs.lemmas.Fn.{fold_over, fronts, slice_gives}
use Rattle.std.proofs.lemmas.List.Sums.{fold-append}
use Rattle.sha256.specs.Compression.{compression}
use Rattle.sha256.proofs.Blocks.{all_blocks}
use Rattle.sha256.proofs.digest.hash_blocks.Goals as goal

one_more : (start before after block : List ℕ) (blocks : List (List ℕ)) → before ≡ fold compression start blocks
    → after ≡ compression before block → after ≡ fold compression start (blocks ++ (block ∷ []))
one_more start before after block blocks p q =
    q ∙ ap (λ (l : List ℕ). compression l block) p ∙ sym (fold-append compression start blocks (block ∷ []))

pub returns : goal.returns
returns c = fold_over (fronts {A = List ℕ}) (λ y. y.now) _ (λ ys a. a ≡ fold compression c.args.start ys) _
    (λ ys a x b f' j k. (one_more c.args.start a b x.now ys j (search rules), search rules))
    c.iter.result c.iter.result.rest.now c.args.start c.fold.result (slice_gives c.iter.result) refl c.fold.ensures.ran
    ∙ ap (fold compression c.args.start) (c.iter.ensures.rest ∙ c.as_chunks.ensures.front)
    ∙ all_blocks c.args.start c.args.bytes.now
