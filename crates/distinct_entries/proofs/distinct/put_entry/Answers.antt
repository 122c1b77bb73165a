-- `put_entry` meets its contract: the entry is copied where it fits.
use Rattle.std.proofs.Common.{◌+◌, ◌-◌, ◌*◌, arith, ◌≡◌, refl, ap, ◌∙◌, length, take, drop}
use Rattle.protocol.specs.Bytes.{put}
use Rattle.protocol.proofs.Laws.BytesLaws.{length_part, length_put}
use Rattle.book_fields.proofs.Places.{cut_part}
use Rattle.distinct_entries.proofs.distinct.put_entry.Goals as goal

pub returns-then-count-buffer : goal.returns-then-count-buffer
returns-then-count-buffer c = let from = 48 + 16 * c.args.k in
    let copied : c.copy_to.new.target ≡ put c.args.buffer.now (16 * c.args.count)
    (take (from + 16 - from) (drop from c.args.block.now)) =
    c.copy_to.ensures in
    let cut = cut_part c.args.block.now from 16 in
    let size : length (take (from + 16 - from) (drop from c.args.block.now)) ≡ 16 =
    ap length cut ∙ length_part c.args.block.now from 16 (omega arith) in record {
      size = ap length copied ∙ length_put c.args.buffer.now _ _ (omega arith);
      put = λ h. copied ∙ ap (put c.args.buffer.now (16 * c.args.count)) cut;
    }

pub returns-else-count-buffer : goal.returns-else-count-buffer
returns-else-count-buffer c = record {
  size = refl;
  put = λ h. absurd (omega arith);
}
