use Rattle.std.proofs.Common.{◌<◌, length, arith}
use Rattle.at_tables.proofs.Prelude.{TargetPair, Posting, credit, posting_text}
use Rattle.at_tables.proofs.LedgerTextLaws.{flat_map-map_take_more}
use Rattle.at_tables.proofs.entries.push_credits.Goals as goal

pub loop-i-preserved : goal.loop-i-preserved
loop-i-preserved c =
    let credited : TargetPair → Posting = λ t. credit t.0 t.1 in
    let within : c.loop-i.i < length c.args.targets.now = omega arith in
    rw (c.in_ok-push_posting.ensures, c.to.ensures, c.from.ensures, c.amount.ensures, c.loop-i.invariant)
    (flat_map-map_take_more (posting_text c.args.names.now) credited c.args.out.now.items c.args.targets.now c.loop-i.i (0, 0) within)
