-- A memory of zeros knows nothing, so it is one of any book that it has room for.
use Rattle.std.specs.Prelude.{ℕ, ◌+◌, ◌-◌, ◌*◌, ◌≤◌, ◌<◌, ◌≡◌, false, length, leb}
use native.Mathlib.Omega.{arith}
use Rattle.std.proofs.Common.{ap, ◌∙◌, leb-false}
use Rattle.protocol.specs.Bytes.{Bytes, byte_at, word16, zeros}
use Rattle.protocol.specs.Block.{maximum_heights}
use Rattle.protocol.specs.View.{View}
use Rattle.protocol.proofs.Laws.RowLaws.{is_zero_byte, zeros_is_zero}
use Rattle.memory.specs.Memo.{Known}

pub zero_known : (heights : ℕ) (v : View) (known : Bytes) → 36 * (heights + 1) ≤ length known →
    known ≡ zeros (length known) → Known heights v known
zero_known heights v known room e = record {
  room = room;
  each = λ h high. record {
    is_linked_lem = λ seen. let none_seen = unseen (36 * h) in absurd (omega arith);
    not_linked = λ seen. let none_seen = unseen (36 * h) in absurd (omega arith);
    digest = λ seen. let none_seen = unseen (36 * h + 1) in absurd (omega arith);
    run = λ seen. let none_seen = unseen_word (36 * h + 2) in absurd (omega arith);
  };
}
  where
    unseen : (k : ℕ) → byte_at known k ≡ 0
    unseen k = ap (λ (l : Bytes). byte_at l k) e ∙ is_zero_byte (zeros (length known)) k (zeros_is_zero (length known))

    unseen_word : (k : ℕ) → word16 known k ≡ 0
    unseen_word k = unfold word16 in let low = unseen k in let high = unseen (k + 1) in omega arith

-- What a memory lacks of the room for a book's heights: nothing, where it is a large one. So who has a smaller one and
-- goes on with a large one goes on with less to lack.
pub lacks_less : (heights known large : ℕ) {t : ℕ} → heights ≤ maximum_heights →
    leb (36 * (heights + 1)) known ≡ false → large ≡ 36036 → 36 * (heights + 1) - known ≡ t →
    36 * (heights + 1) - large < t
lacks_less heights known large few lacking size is =
    let short : known < 36 * (heights + 1) = leb-false (36 * (heights + 1)) known lacking in omega arith
