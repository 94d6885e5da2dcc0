-- What the files of `deliver` hold, and what it prints of them.
use Rattle.std.specs.Prelude.{ℕ, List, Result, Ok, Err}
use Rattle.at_commands.specs.Prelude.{Delivers, deliveries_of, file_records, location_of, Delivery, OrderWhy, BadRecord, Message, Status}
use Rattle.at_report.specs.declared.status.Status.TheVariants as status
use Rattle.at_commands.specs.Commands.{KeepingNone, Never}
use Rattle.at_commands.specs.Forms.{FurtherTerms}
use Rattle.at_commands.specs.Nodes.{PrintsNodes, counts_of}

-- the deliveries of a file's bytes
abbrev pub order_read : List ℕ → Result (List Delivery) (BadRecord OrderWhy) → Result (List Delivery) Status
order_read bytes (Ok deliveries) = Ok deliveries
order_read bytes (Err bad) = Err (status.BadOrder (location_of bytes bad.line) bad.why)

-- `deliver`: the text is the output of a node for each process, which is given just the messages that the deliveries name for it
abbrev pub deliver_terms : FurtherTerms Message Delivery
deliver_terms = record {
  given = λ l bytes. order_read bytes (deliveries_of (counts_of l) (file_records bytes));
  spells = λ l bytes deliveries. Delivers (counts_of l) (file_records bytes) deliveries;
  refuses = Never;
  prints = KeepingNone PrintsNodes;
}
