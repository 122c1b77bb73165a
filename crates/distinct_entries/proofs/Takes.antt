-- Entries gone through one by one: one that is a repeat, one that is new, and none at all.
use Rattle.std.proofs.Common.{ℕ, ◌+◌, ◌*◌, ◌≤◌, ◌<◌, arith, ◌≡◌, refl, sym, ap, subst, ◌∙◌, true, false, List, []}
use Rattle.std.proofs.Common.{◌∷◌, ◌++◌, length, length-append}
use Rattle.protocol.specs.Every.{Every}
use Rattle.protocol.specs.Bytes.{Bytes, join, holds, over_front, put, Sized}
use Rattle.protocol.specs.Distinct.{distinct_after, distinct}
use Rattle.protocol.proofs.Laws.PiecesLaws.{join_more, length_join}
use Rattle.protocol.proofs.Laws.FrontLaws.{goes_on, front_none}
use Rattle.protocol.proofs.Laws.DistinctLaws.{distinct_repeat, distinct_new, every_distinct}
use Rattle.filter.specs.Filter.{Marked}
use Rattle.distinct_entries.specs.Taking.{Taken}
use Rattle.filter.proofs.Filtering.{marked_none}

-- ---- none at all
pub none_taken : (buffer filter : Bytes) → 32 < length filter → Taken [] buffer filter buffer 0
unfolding distinct distinct_after join
none_taken buffer filter some = record {
  counted = refl;
  marked = marked_none filter some;
  same_length = refl;
  copied = λ h. sym (front_none buffer);
}

-- ---- one more
module _ {es : List Bytes} {before filter buffer : Bytes} {count : ℕ} (taken : Taken es before filter buffer count)
    (x : Bytes) {after : Bytes} (marked : Marked after (es ++ (x ∷ []))) where
  pub repeat_taken : holds x es ≡ true → Taken (es ++ (x ∷ [])) before after buffer count
  repeat_taken e =
      let same = distinct_repeat es x e in
      record {
        counted = taken.counted ∙ ap length (sym same);
        marked = marked;
        same_length = taken.same_length;
        copied = λ h. taken.copied h ∙ ap (λ (l : List Bytes). over_front (join l) before) (sym same);
      }

  pub new_taken : Every (Sized 16) es → holds x es ≡ false → {next : Bytes} → length next ≡ length buffer →
      (16 * (count + 1) ≤ length buffer → next ≡ put buffer (16 * count) x) →
      Taken (es ++ (x ∷ [])) before after next (count + 1)
  new_taken sized e {next} size wrote =
      let more = distinct_new es x e in
      let kept = taken.same_length in
      let bytes : length (join (distinct es)) ≡ 16 * count =
      length_join 16 (distinct es) (every_distinct sized) ∙ ap (λ (k : ℕ). 16 * k) (sym taken.counted) in
      record {
        counted = ap (λ (k : ℕ). k + 1) taken.counted ∙ sym (ap length more ∙ length-append (distinct es) (x ∷ []));
        marked = marked;
        same_length = size ∙ taken.same_length;
        copied = λ h.
            goes_on (join (distinct es)) before buffer x next (16 * count) (taken.copied (omega arith)) bytes
            (wrote (omega arith)) ∙
            ap (λ (l : Bytes). over_front l before) (sym (ap join more ∙ join_more (distinct es) x));
      }

-- ---- the same from any place on: what was taken when the walk came there, and what is by now
pub record Going (start es : List Bytes) (filter₀ buffer₀ : Bytes) (count₀ : ℕ)
    (filter buffer : Bytes) (count : ℕ) : Type 0 where
  pub marked : Marked filter es
  pub counted : count ≡ length (distinct es)
  pub same_length : length buffer ≡ length buffer₀
  pub goes : (before : Bytes) → Taken start before filter₀ buffer₀ count₀ → Taken es before filter buffer count

module _ {start es : List Bytes} {filter₀ buffer₀ filter buffer : Bytes} {count₀ count : ℕ}
    (going : Going start es filter₀ buffer₀ count₀ filter buffer count)
    (x : Bytes) {more : List Bytes} (next : more ≡ es ++ (x ∷ [])) {after : Bytes} (marked : Marked after more) where
  knows : Marked after (es ++ (x ∷ []))
  knows = subst (Marked after) next marked

  pub repeat_goes : true ≡ holds x es → Going start more filter₀ buffer₀ count₀ after buffer count
  repeat_goes e =
      subst (λ (l : List Bytes). Going start l filter₀ buffer₀ count₀ after buffer count) (sym next)
      (record {
        marked = knows;
        counted = going.counted ∙ ap length (sym (distinct_repeat es x (sym e)));
        same_length = going.same_length;
        goes = λ before t. repeat_taken (going.goes before t) x knows (sym e);
      })

  pub new_goes : Every (Sized 16) es → false ≡ holds x es → {written : Bytes} → length written ≡ length buffer →
      (16 * (count + 1) ≤ length buffer → written ≡ put buffer (16 * count) x) →
      Going start more filter₀ buffer₀ count₀ after written (count + 1)
  new_goes sized e {written} size wrote =
      subst (λ (l : List Bytes). Going start l filter₀ buffer₀ count₀ after written (count + 1)) (sym next)
      (record {
        marked = knows;
        counted = ap (λ (k : ℕ). k + 1) going.counted
            ∙ sym (ap length (distinct_new es x (sym e)) ∙ length-append (distinct es) (x ∷ []));
        same_length = size ∙ going.same_length;
        goes = λ before t. new_taken (going.goes before t) x knows sized (sym e) size wrote;
      })
