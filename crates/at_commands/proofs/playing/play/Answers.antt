use Rattle.std.proofs.Common.{◌∙◌, length}
use Rattle.at_commands.proofs.Prelude.{length-map, contents_of}
use Rattle.at_commands.proofs.JobsRun.{IsPlayed-journal, few-calls_in}
use Rattle.at_commands.proofs.playing.play.Goals as goal

pub journal-requires-clause-few : goal.journal-requires-clause-few
journal-requires-clause-few g c =
    let run = c.in_ok-closed.ensures.run in
    rw c.closing.ensures.closing (few-calls_in (length c.args.book.now.accounts) c.in_ok-closed.closed.closing (rw run.calls_are c.requires.known))

pub returns : goal.returns
returns g c =
    IsPlayed-journal c.args.book.now (contents_of c.args.files.items) c.in_ok-closed.closed c.in_ok-lines.lines.items c.in_ok-closed.ensures.run
    (length-map c.args.files.items (λ file. file.items) ∙ c.requires.count) c.requires.known
    (rw c.closing.ensures.closing at c.in_ok-lines.ensures.lines) (rw c.closing.ensures.closing at c.in_ok-lines.ensures.whole)
    (rw c.book.ensures at c.in_ok-lines.ensures.legal)

pub journal-requires-clause-coherent : goal.journal-requires-clause-coherent
journal-requires-clause-coherent g c = rw (c.book.ensures, c.closing.ensures.closing) c.in_ok-closed.ensures.run.coherent
