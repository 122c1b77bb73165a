-- A test that code makes in stages, and the part of a byte string to its end.
use Rattle.std.specs.Prelude.{ℕ, ◌-◌, ◌≡◌, Bool, true, false, ◌&&◌, length, take, drop}
use Rattle.std.proofs.Common.{le_refl, ◌∙◌, length-drop, take_all}
use Rattle.protocol.specs.Bytes.{Bytes}

-- ---- a test in stages: the first that fails decides
pub stops_first : {whole first : Bool} (others : Bool) → first ≡ false → whole ≡ (first && others) → whole ≡ false
stops_first others e is = is ∙ rw e

pub stops_second : {whole first second : Bool} (third : Bool) → first ≡ true → second ≡ false →
    whole ≡ (first && (second && third)) → whole ≡ false
stops_second third e f is = is ∙ rw (e, f)

pub goes_through : {whole first second third : Bool} → first ≡ true → second ≡ true →
    whole ≡ (first && (second && third)) → whole ≡ third
goes_through e f is = is ∙ rw (e, f)

-- a part to the end
pub part_from : (bytes : Bytes) (i : ℕ) → take (length bytes - i) (drop i bytes) ≡ drop i bytes
part_from bytes i = take_all (length bytes - i) (drop i bytes) (rw length-drop (le_refl (length bytes - i)))
