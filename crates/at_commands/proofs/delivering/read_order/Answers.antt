use Rattle.std.proofs.Common.{[]}
use Rattle.at_commands.proofs.Prelude.{contents_of, named_book}
use Rattle.at_commands.proofs.Deliveries.{few_counted, few_each}
use Rattle.at_commands.proofs.delivering.read_order.Goals as goal

pub counts_of-counts-requires-clause-each : goal.counts_of-counts-requires-clause-each
counts_of-counts-requires-clause-each c =
    let loaded = c.args.loaded.now in
    rw c.as_slice.ensures.value (few_each (named_book loaded.book loaded.names) (contents_of loaded.files.items) c.requires.known)

pub read_deliveries-requires : goal.read_deliveries-requires
read_deliveries-requires c =
    let loaded = c.args.loaded.now in
    let all = contents_of loaded.files.items in
    few_counted all c.counts_of-counts.result (λ k within. few_each (named_book loaded.book loaded.names) all c.requires.known k [] within)
    (rw c.as_slice.ensures.value at c.counts_of-counts.ensures)
