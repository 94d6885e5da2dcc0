use Rattle.at_commands.proofs.Laws.Replays.{IsFile-loaded, IsLineOn-loaded, ReportsReplay-lines}
use Rattle.at_commands.proofs.replaying.replayed_text.Goals as goal

pub replay-requires-clause-known : goal.replay-requires-clause-known
replay-requires-clause-known c = IsFile-loaded c.args.loaded c.requires.loaded

pub report-requires-clause-lines : goal.report-requires-clause-lines
report-requires-clause-lines c =
    rw c.as_slice.ensures.value
    (IsLineOn-loaded c.args.loaded c.in_ok-replayed.replayed.lines.items c.requires.loaded c.in_ok-replayed.ensures.whole)

pub returns : goal.returns
returns c =
    let replayed = c.in_ok-replayed.ensures in
    ReportsReplay-lines c.args.loaded c.args.schedule.now c.in_ok-replayed.replayed c.in_ok-text.text.items c.requires.loaded
    replayed.replay replayed.whole replayed.legal (rw c.as_slice.ensures.value at c.in_ok-text.ensures.text)
