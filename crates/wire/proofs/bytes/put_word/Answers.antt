-- `put_word` meets its contract: what is copied is the two bytes of the number, the low one first.
use Rattle.std.proofs.Common.{◌≡◌, ◌/◌, ◌%◌, arith, refl, ◌∙◌}
use Rattle.protocol.specs.Bytes.{le16}
use Rattle.wire.proofs.Writes.{part_put}
use Rattle.wire.proofs.bytes.put_word.Goals as goal

pub returns : goal.returns
unfolding le16
returns c = let args = c.args in
    let high : args.value / 256 % 256 ≡ args.value / 256 = omega arith in
    part_put args.bytes.now (le16 args.value) args.at 2
    (c.copy_from_slice.ensures.after ∙ c.to_le_bytes.ensures ∙ rw high) refl
