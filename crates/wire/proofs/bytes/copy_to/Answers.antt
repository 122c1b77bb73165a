-- `copy_to` meets its contract: after the last turn all bytes of the source stand in the target.
use Rattle.std.proofs.Common.{◌≡◌, length, refl, arith, ◌∙◌}
use native.Mathlib.Numerals.{add-one}
use lib.ListN.{length-set}
use lib.Seq.{paste-zero, paste-suc}
use Rattle.protocol.proofs.Laws.BytesLaws.{put_paste}
use Rattle.wire.proofs.bytes.copy_to.Goals as goal

pub loop-i-init : goal.loop-i-init
loop-i-init c = (paste-zero c.args.target.now c.args.at c.args.source.now, refl)

pub loop-i-preserved : goal.loop-i-preserved
loop-i-preserved c = let at = c.loop-i in
    let args = c.args in (
      rw (at.invariant.0, add-one) (paste-suc args.target.now args.at args.source.now at.i 0 (omega arith)
          (omega arith)),
      rw length-set at.invariant.1,
    )

pub returns : goal.returns
returns c = let at = c.loop-i in
    let args = c.args in
    let end : at.i ≡ length args.source.now = omega arith in
    at.invariant.0 ∙ rw end (put_paste args.target.now args.source.now args.at)
