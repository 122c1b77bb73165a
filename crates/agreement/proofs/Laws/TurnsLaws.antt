-- What the lists have in common: the honest replicas have books and keep them, and the log that is read is not empty.
use Rattle.std.specs.Prelude.{ℕ, suc, ◌<◌, ◌≡◌, true, List, length}
use Rattle.std.proofs.Math.Bool.{false}
use Rattle.std.proofs.Math.Dec.{ltb}
use borrow.Author.Tests.{leb-true}
use Rattle.protocol.specs.Bytes.{Bytes}
use Rattle.agreement.specs.ListTests.{every_honest, opens_once}
use Rattle.agreement.proofs.Laws.ListTestsLaws.{every_honest_lem}
use Rattle.agreement.proofs.Laws.OneBookLaws.{keeps_one_book}
use Rattle.agreement.specs.Lists.{HonestIn, KeepsOneBook}
use Rattle.agreement.specs.Turns.{Turn, build}

module _ (weights : List ℕ) (dishonest : ℕ) (books : List Bytes)
    (have_books : every_honest dishonest (λ s. ltb s (length books)) (length weights) ≡ true) where
  has_book : (s : ℕ) → HonestIn weights dishonest s → s < length books
  unfolding HonestIn
  has_book s h = leb-true (suc s) (length books)
      (every_honest_lem dishonest (λ (t : ℕ). ltb t (length books)) (length weights) have_books s h)

  pub keeps : (digest : Bytes → Bytes) (turns : List Turn) →
      every_honest dishonest (λ s. opens_once digest weights s false (build digest books turns)) (length weights) ≡ true →
      (s : ℕ) → HonestIn weights dishonest s → KeepsOneBook digest weights (build digest books turns) s
  unfolding HonestIn
  keeps digest turns test s h = keeps_one_book digest weights s books (has_book s h) turns
      (every_honest_lem dishonest (λ (t : ℕ). opens_once digest weights t false (build digest books turns)) (length weights)
      test s h)
