use Rattle.std.proofs.Common.{◌∙◌}
use Rattle.at_commands.proofs.Prelude.{length-map, contents_of}
use Rattle.at_commands.proofs.JobsNoting.{IfOk-noting}
use Rattle.at_commands.proofs.playing.play_noting.Goals as goal

pub returns : goal.returns
returns g c =
    IfOk-noting c.args.book.now (contents_of c.args.files.items) c.closed_after.result c.known.ensures.checked.begun
    (length-map c.args.files.items (λ file. file.items) ∙ c.requires.count) c.requires.known c.closed_after.ensures
