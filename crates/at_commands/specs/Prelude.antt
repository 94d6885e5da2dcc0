-- What this crate's contracts and definitions name of other crates, in one place.
pub use Rattle.std.specs.Global.{Global}
pub use Rattle.std.specs.List.{list_any, range_with_len}
pub use Rattle.std.specs.Option.{is_some, option_map, option_to_list}
pub use Rattle.at_agree.specs.Agreement.{IsAgreement}
pub use Rattle.at_base.specs.Numbers.{number_of}
pub use Rattle.at_board.specs.Knowledge.Seats.{BoardTerms}
pub use Rattle.at_broadcast.specs.LogBook.{singles_of}
pub use Rattle.at_broadcast.specs.Messages.{IsMessageOn, MessageList, message_of}
pub use Rattle.at_broadcast.specs.Node.{IsNode, NodeState, ShowsBalances, starting_state}
pub use Rattle.at_broadcast.specs.Validated.{IsClosed}
pub use Rattle.at_broadcast.specs.declared.message.Message.{Message}
pub use Rattle.at_files.specs.BookFile.{Spells, book_of_records}
pub use Rattle.at_files.specs.BookRecords.{NamedBook}
pub use Rattle.at_files.specs.Deliveries.{Delivers, IsDelivery, deliveries_of}
pub use Rattle.at_files.specs.Limits.{most_messages}
pub use Rattle.at_files.specs.Locations.{location_of}
pub use Rattle.at_files.specs.Messages.{Sends, messages_spelled}
pub use Rattle.at_files.specs.Names.{AreNamesOf, NameList}
pub use Rattle.at_files.specs.Payments.{Pays, payments_of}
pub use Rattle.at_files.specs.Records.{file_records}
pub use Rattle.at_files.specs.ReplayPayments.{PaysReplay, replay_payments_of}
pub use Rattle.at_files.specs.Results.{and_then}
pub use Rattle.at_files.specs.Schedule.{Schedules, schedule_of}
pub use Rattle.at_files.specs.declared.deliveries.Delivery.{Delivery}
pub use Rattle.at_files.specs.declared.deliveries.OrderWhy.{OrderWhy}
pub use Rattle.at_files.specs.declared.messages.MessagesWhy.{MessagesWhy}
pub use Rattle.at_files.specs.declared.schedule.ScheduleWhy.{ScheduleWhy}
pub use Rattle.at_files.specs.declared.spelled.BadRecord.{BadRecord}
pub use Rattle.at_io.specs.Faults.{Rose}
pub use Rattle.at_io.specs.Limits.{most_file_bytes}
pub use Rattle.at_io.specs.Shelf.{SameFiles}
pub use Rattle.at_io.specs.Sink.{TakesPrefix}
pub use Rattle.at_journal.specs.Calls.{AreCallsOf, calls_in, line_at}
pub use Rattle.at_journal.specs.declared.keyed.CallAt.{CallAt}
pub use Rattle.at_ledger.specs.Account.{AccountTerms}
pub use Rattle.at_ledger.specs.Book.{BookTerms, IsBook, account_of, total_of, with_usable_room}
pub use Rattle.at_ledger.specs.Call.{IsCallOn, IsLineOn, amount_of}
pub use Rattle.at_ledger.specs.Draft.{account_fault, is_within, terms_with, with_account}
pub use Rattle.at_ledger.specs.Files.{IsPlayable, contents_of}
pub use Rattle.at_ledger.specs.Limits.{most_calls}
pub use Rattle.at_ledger.specs.Run.{Legal, Whole, last_state}
pub use Rattle.at_ledger.specs.State.{LedgerState, opening_state}
pub use Rattle.at_ledger.specs.declared.call.Call.{Call}
pub use Rattle.at_ledger.specs.declared.call.Call.TheVariants.{Pay, Read, Transfer}
pub use Rattle.at_ledger.specs.declared.call.Line.{Line}
pub use Rattle.at_log.specs.ClosingTerms.{receipts_of}
pub use Rattle.at_log.specs.Coherent.{Coherent}
pub use Rattle.at_log.specs.JournalOrder.{journal_lines}
pub use Rattle.at_log.specs.Receipts.{calls_of}
pub use Rattle.at_log.specs.declared.receipt.Receipt.{Receipt}
pub use Rattle.at_object.specs.Closings.{AreAccountedFor, ClosedTerms}
pub use Rattle.at_object.specs.Passes.{AreNewPasses, IsNewPass, PassTerms, Stands, cost_so_far, past_costs}
pub use Rattle.at_object.specs.PastCalls.{CostTerms}
pub use Rattle.at_orders.specs.Covered.{OpeningsCover}
pub use Rattle.at_orders.specs.Orders.{AreAnswers}
pub use Rattle.at_orders.specs.Settled.{IsSettled}
pub use Rattle.at_orders.specs.Stages.{HasMoreStages}
pub use Rattle.at_orders.specs.declared.replies.Replies.{Replies}
pub use Rattle.at_orders.specs.declared.walk.TheConstants.{STAGES_MAX}
pub use Rattle.at_pages.specs.PageText.{page_text}
pub use Rattle.at_report.specs.FaultText.{fault_lines}
pub use Rattle.at_report.specs.Lines.{Word, line_shown}
pub use Rattle.at_report.specs.Nodes.{nodes_text}
pub use Rattle.at_report.specs.Pieces.{joined}
pub use Rattle.at_report.specs.Report.{agreed_line, checked_line, report_text, verified_line}
pub use Rattle.at_report.specs.Summary.{is_read, summary_of, summary_text}
pub use Rattle.at_report.specs.declared.report_line.ReportLine.{ReportLine}
pub use Rattle.at_report.specs.declared.status.Status.{Status}
pub use Rattle.at_report.specs.declared.status.Status.TheVariants.{BadBook, BadMessages, BadOrder, BadPayments, BadSchedule, Done, NoMemory, NotLegal, ReadFault, TooLong, TooManyOrders, Usage, WriteFault}
pub use Rattle.at_report.specs.declared.status.UsageFault.TheVariants.{Words}
pub use Rattle.at_stepper.specs.InTurns.{IsReplayBy}
pub use Rattle.at_stepper.specs.declared.replaying.Replayed.{Replayed}
pub use Rattle.at_tables.specs.Bounds.{AreCostsWithin}
pub use Rattle.at_tables.specs.CostsText.{costs_text}
pub use Rattle.at_tables.specs.Groups.{AreGroups, groups_of}
pub use Rattle.at_tables.specs.KindsText.{kinds_text}
pub use Rattle.at_tables.specs.NeedsText.{needs_text, owner_asks}
pub use Rattle.at_tables.specs.LedgerText.{ledger_text}
pub use Rattle.at_tables.specs.OrdersText.{orders_text}
pub use Rattle.at_tables.specs.TraceText.{trace_text}
pub use Rattle.at_verify.specs.Right.{IsExpected, IsFirstWrong, IsReport, IsReportOf}
pub use Rattle.at_workers.specs.Costs.{TakeCalls, sum_of_costs}
pub use Rattle.at_workers.specs.Jobs.{IsReady, JobTerms}
