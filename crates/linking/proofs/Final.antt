-- A height that is 0 or finalized: 0 passes, a height past a book's last is not finalized, and any other is asked for.
use Prim.Native.Nat.{ℕ, ◌<◌}
use mathlib.Core.Path.{◌≡◌, ◌∙◌}
use mathlib.Core.Logic.{◌≢◌}
use mathlib.Core.Bool.{true, false, ◌||◌}
use lib.Dec.{eqb}
use borrow.Author.Tests.{eq-eqb, ne_eqb}
use Rattle.sha256.specs.Digest.{sha256}
use Rattle.protocol.specs.Bytes.{Bytes}
use Rattle.protocol.specs.State.{decode, book_heights}
use Rattle.protocol.specs.Observer.{observer_state}
use Rattle.protocol.specs.View.{View, is_finalized}
use Rattle.protocol.proofs.Laws.CodecLaws.{last_decode}
use Rattle.protocol.proofs.Laws.ObserverCodecLaws.{last_observed}
use Rattle.protocol.proofs.Laws.SoundLaws.{not_finalized_past}
use Rattle.book_fields.specs.Book.{view_of}
use Rattle.book_fields.specs.Kinds.{BookKind, ReplicaBook, ObserverBook}

pub none_finalized : (v : View) (g : ℕ) → g ≡ 0 → (eqb g 0 || is_finalized sha256 v g) ≡ true
none_finalized v g e = rw (eq-eqb g 0 e)

pub some_finalized : (v : View) (g : ℕ) → g ≢ 0 → (eqb g 0 || is_finalized sha256 v g) ≡ is_finalized sha256 v g
some_finalized v g f = rw (ne_eqb g 0 f)

not_past : (kind : BookKind) (book : Bytes) (g : ℕ) → book_heights book < g → is_finalized sha256 (view_of kind book) g ≡ false
not_past ReplicaBook book g past = not_finalized_past sha256 (decode book) g (rw (last_decode book) past)
not_past ObserverBook book g past = not_finalized_past sha256 (observer_state book) g (rw (last_observed book) past)

pub past_finalized : (kind : BookKind) (book : Bytes) (g : ℕ) → g ≢ 0 → book_heights book < g →
    (eqb g 0 || is_finalized sha256 (view_of kind book) g) ≡ false
past_finalized kind book g f past = some_finalized (view_of kind book) g f ∙ not_past kind book g past
