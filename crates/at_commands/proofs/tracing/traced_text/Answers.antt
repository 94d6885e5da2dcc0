use Rattle.at_commands.proofs.Laws.Replays.{IsFile-loaded}
use Rattle.at_commands.proofs.tracing.traced_text.Goals as goal

pub replay-requires-clause-known : goal.replay-requires-clause-known
replay-requires-clause-known c = IsFile-loaded c.args.loaded c.requires.loaded

pub trace_text-requires-clause-processes : goal.trace_text-requires-clause-processes
trace_text-requires-clause-processes c = rw c.as_slice.ensures.value c.in_ok-replayed.ensures.processes

pub returns : goal.returns
returns c = record {
  made = c.in_ok-replayed.replayed;
  replay = c.in_ok-replayed.ensures.replay;
  printed = rw c.as_slice.ensures.value at c.in_ok-text.ensures;
}
