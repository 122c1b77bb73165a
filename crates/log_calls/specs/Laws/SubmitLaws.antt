-- What Submit answers, row by row: the first test that fails decides.
use Rattle.std.specs.Prelude.{◌≡◌, true, false, [], ◌∷◌, ◌++◌, length, eqb, ltb}
use Rattle.log_calls.specs.EntryKnown.{is_entry_known}
use Rattle.sha256.specs.Digest.{sha256}
use Rattle.protocol.specs.Bytes.{Bytes}
use Rattle.protocol.specs.Tests.{first_refusal}
use Rattle.protocol.specs.State.{decode, maximum_pending}
use Rattle.protocol.specs.Sound.{sound}
use Rattle.protocol.specs.Answer.{unless_refused}
use Rattle.protocol.specs.Submit.{with_pending, still_pending, submit_rows, submit_call}
use Rattle.answers.proofs.Laws.CallLaws.{refusal, doing}

module _ (book entry : Bytes) where
  pub submit_unsound : sound sha256 book ≡ false → submit_call sha256 book entry ≡ refusal book 1
  unfolding submit_call submit_rows first_refusal unless_refused
  submit_unsound e = rw e

  module _ (e : sound sha256 book ≡ true) where
    pub submit_unfit : eqb (length entry) 16 ≡ false → submit_call sha256 book entry ≡ refusal book 4
    unfolding submit_call submit_rows first_refusal unless_refused
    submit_unfit f = rw (e, f)

    module _ (f : eqb (length entry) 16 ≡ true) where
      pub submit_known : is_entry_known (decode book) entry ≡ true → submit_call sha256 book entry ≡ refusal book 13
      unfolding submit_call submit_rows first_refusal unless_refused
      submit_known g = rw (e, f, g)

      module _ (g : is_entry_known (decode book) entry ≡ false) where
        pub submit_full : ltb (length (still_pending (decode book))) maximum_pending ≡ false →
            submit_call sha256 book entry ≡ refusal book 12
        unfolding submit_call submit_rows first_refusal unless_refused
        submit_full l = rw (e, f, g, l)

        pub submit_done : ltb (length (still_pending (decode book))) maximum_pending ≡ true →
            submit_call sha256 book entry ≡ doing (with_pending (decode book)
            (still_pending (decode book) ++ (entry ∷ [])))
        unfolding submit_call submit_rows first_refusal unless_refused
        submit_done l = rw (e, f, g, l)
