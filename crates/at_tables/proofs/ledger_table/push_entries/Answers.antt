use Rattle.std.proofs.Common.{◌<◌, length, arith}
use Rattle.at_tables.proofs.Prelude.{entry_of, entry_text}
use Rattle.at_tables.proofs.LedgerTextLaws.{flat_map-map_item_more}
use Rattle.at_tables.proofs.ledger_table.push_entries.Goals as goal

pub loop-line-preserved : goal.loop-line-preserved
loop-line-preserved c =
    let within : c.loop-line.line-index < length c.args.lines.now = omega arith in
    rw (c.in_ok-push_entry.ensures, c.loop-line.invariant)
    (flat_map-map_item_more (entry_text c.args.names.now) entry_of c.args.out.now.items c.args.lines.now c.loop-line.line-index c.line-item.result within c.line-item.is)
