use Rattle.std.proofs.Common.{◌∙◌}
use Rattle.at_commands.proofs.Prelude.{contents_of, IsClosedAfter}
use Rattle.at_commands.proofs.JobsNoting.{IsClosedAfter-whole}
use Rattle.at_commands.proofs.playing.closed_opened.Goals as goal

pub returns : goal.returns
returns g c =
    let files = contents_of c.args.files.items in
    IsClosedAfter-whole c.args.book.now files c.in_ok-closed.closed c.of_whole_book.result
    (rw c.requires.opened.book_is at c.in_ok-closed.ensures.run) (rw c.in_ok-copy.ensures at c.of_whole_book.ensures.closed) c.of_whole_book.ensures.coherent
