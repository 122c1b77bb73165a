-- `clear` meets its contract: the part that is filled has `count` bytes.
use Rattle.std.specs.Prelude.{ℕ, ◌≡◌, ◌+◌, ◌-◌, length, take, drop, replicate}
use Rattle.std.proofs.Common.{arith, ap, length-take, length-drop, ◌∙◌}
use Rattle.protocol.specs.Bytes.{zeros}
use Rattle.protocol.proofs.Laws.BytesLaws.{length_zeros}
use Rattle.wire.proofs.Writes.{part_put}
use Rattle.wire.proofs.bytes.clear.Goals as goal

pub returns : goal.returns
unfolding zeros
returns c = let args = c.args in
    let size : length (take (args.at + args.count - args.at) (drop args.at args.target.now)) ≡ args.count =
    simp (length-take, length-drop) (omega arith) in
    part_put args.target.now (zeros args.count) args.at args.count
    (c.fill.ensures.after (λ y e. e) ∙ ap (λ (n : ℕ). replicate n 0) size) (length_zeros args.count)
