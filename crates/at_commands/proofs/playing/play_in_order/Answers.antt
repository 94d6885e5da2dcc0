use Rattle.std.proofs.Common.{◌∙◌, length}
use Rattle.at_commands.proofs.Prelude.{length-map, contents_of}
use Rattle.at_commands.proofs.JobsNoting.{IsPlayed-closed}
use Rattle.at_commands.proofs.JobsRun.{few-calls_in}
use Rattle.at_commands.proofs.playing.play_in_order.Goals as goal

pub calls_in_order-requires-clause-few : goal.calls_in_order-requires-clause-few
calls_in_order-requires-clause-few g c κs lives =
    let run = c.in_ok-closed.ensures in
    few-calls_in (length c.args.book.now.accounts) c.in_ok-closed.closed.closing (rw run.calls_are c.requires.known)

pub returns : goal.returns
returns g c =
    let run = c.in_ok-closed.ensures in
    record {
      played = IsPlayed-closed c.args.book.now (contents_of c.args.files.items) c.in_ok-closed.closed c.known.ensures.checked.begun
          (length-map c.args.files.items (λ file. file.items) ∙ c.requires.count) c.requires.known run;
      known = c.in_ok-calls.ensures.calls;
      few = few-calls_in (length c.args.book.now.accounts) c.in_ok-closed.closed.closing (rw run.calls_are c.requires.known);
      lines_are = c.in_ok-calls.ensures.lines;
    }
