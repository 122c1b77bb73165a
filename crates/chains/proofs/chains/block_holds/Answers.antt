-- `block_holds` meets its contract: the chunks that it goes through are the entries.
use Rattle.std.proofs.Common.{◌+◌, ◌-◌, ◌*◌, ◌∙◌, drop, length-drop, rules, tests, arith}
use Rattle.std.proofs.lemmas.Iterator.Search.{any_from_yields_List}
use Rattle.protocol.specs.Bytes.{same}
use Rattle.chains.specs.Entries.{first_entries}
use Rattle.chains.proofs.Looked.{holds_any, chunks_yield}
use Rattle.chains.proofs.chains.block_holds.Goals as goal

pub returns : goal.returns
returns c =
    any_from_yields_List (same c.args.entry.now) _ _ c.any.result c.any.ensures.ran
    (chunks_yield c.chunks_exact.result (drop 48 c.args.block.now) c.args.count (48 + 16 * c.args.count - 48)
    c.chunks_exact.ensures.size c.chunks_exact.ensures.rest (omega arith) (rw length-drop (omega arith)))
    (λ x b q k. search (rules, tests)) ∙ holds_any c.args.entry.now (first_entries c.args.count c.args.block.now)
