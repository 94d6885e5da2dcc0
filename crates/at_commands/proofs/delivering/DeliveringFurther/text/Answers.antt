use Rattle.at_commands.proofs.Prelude.{contents_of, named_book}
use Rattle.at_commands.proofs.Deliveries.{AreSent-spelled}
use Rattle.at_commands.proofs.delivering.DeliveringFurther.text.Goals as goal

pub nodes_given-requires-clause-sent : goal.nodes_given-requires-clause-sent
nodes_given-requires-clause-sent c =
    AreSent-spelled (named_book c.args.loaded.book c.args.loaded.names) (contents_of c.args.loaded.files.items) c.requires.loaded.known
