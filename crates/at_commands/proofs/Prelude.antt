-- What this crate's proofs name of other crates and of its definitions, in one place.
pub use Rattle.std.proofs.Crossing.{crosses}
pub use Rattle.std.proofs.Math.ListN.{get_or-append}
pub use Rattle.std.proofs.Math.Nat.{add-mod-mod, add_comm, eq-or-lt_of_le, mul-le-mul, mul_comm, suc-mul}
pub use Rattle.std.proofs.Math.Seq.{drop-cons, get_or-append_seam, take-append-add, take-append_seam}
pub use Rattle.std.proofs.lemmas.Bool.{and_right, cases_eq, cases_order, cond_both, eq-eqb, eqb-true, le-ltb, lt-leb, ltb-false, ne_eqb, or_from}
pub use Rattle.std.proofs.lemmas.Bool.Decides.{nat_tests}
pub use Rattle.std.proofs.lemmas.Grind.{common_steps, flat_map-append, replicate_next}
pub use Rattle.std.proofs.lemmas.List.{ext_get_or, get_or-map, get_or-replicate, get_or-set_other, get_or-set_same, length-append, length-map, map-append, length-replicate, length-set, length-take-le, length_push, take-append-drop, take-append-le, take_all, take_more}
pub use Rattle.std.proofs.lemmas.List.Elements.{All-cons, All-head, All-map, All-nil, All-push, All-tail, All-weaker, AllZip-get_or}
pub use Rattle.std.proofs.lemmas.List.Folds.{list_any-append}
pub use Rattle.std.proofs.lemmas.List.FromFn.{fill_by_all, get_or-map-range_with_len, get_or-range_with_len, length-map-range_with_len, length-range_with_len, map-range_with_len_more}
pub use Rattle.std.proofs.lemmas.List.Sums.{length-filter, sum-map, sum_by-cons, sum_by-le, sum_by-set, sum_by_more}
pub use Rattle.std.proofs.lemmas.Nat.{mod_below, mul-add-lt, same_from_place}
pub use Rattle.std.proofs.lemmas.Result.{IfErr-weaker, IfOk-weaker}
pub use Rattle.std.proofs.lemmas.Slice.Zip.{AllZip-long}
pub use Rattle.std.specs.Global.{Global}
pub use Rattle.std.specs.List.{AllZip, list_any, range_with_len}
pub use Rattle.std.specs.Option.{is_some}
pub use Rattle.std.specs.Result.{IfErr, IfOk}
pub use Rattle.std.specs.declared.alloc.AllocError.{AllocError}
pub use denote.Param.Send.{sendable}
pub use denote.Param.SendFields.{declared_send}
pub use Rattle.at_base.specs.Numbers.{number_of}
pub use Rattle.at_board.specs.Knowledge.Seats.{BoardTerms}
pub use Rattle.at_broadcast.proofs.MessageLaws.{message_of-new, message_of-other}
pub use Rattle.at_broadcast.proofs.NodeLaws.{IsClosed-IsNode, ShowsBalances-IsNode}
pub use Rattle.at_broadcast.proofs.StartLaws.{none-start}
pub use Rattle.at_broadcast.specs.LogBook.{LogTerms, single_of, singles_of}
pub use Rattle.at_broadcast.specs.Messages.{IsMessageOn, MessageList, message_of, no_messages, with_message}
pub use Rattle.at_broadcast.specs.Node.{IsNode, NodeState, starting_state}
pub use Rattle.at_broadcast.specs.declared.message.Message.{Message}
pub use Rattle.at_commands.specs.Asking.{AreAsked, MayBeAsked, job_asked}
pub use Rattle.at_commands.specs.Counting.{CountsBytes, CountsRead, IsCount, call_count, counted_given}
pub use Rattle.at_commands.specs.Faults.{HasFileNumbers, HasFurtherNumbers, IsBrought, IsFaultless, IsUnfetched, IsUnread, IsWritten, Kind, MayRefuse, MayRefuseOf, RefusesFile}
pub use Rattle.at_commands.specs.Faults.Kind.{messages, payments, scheduled}
pub use Rattle.at_commands.specs.Generator.{account_drawn, amount_drawn, book_made, book_of_own_accounts, calls_drawn, drawn, files_made, joint_terms, kind_drawn, own_terms, source_drawn}
unfoldable pub use Rattle.at_commands.specs.Generator.{call_drawn, next_state, state_after_call, state_after_calls}
pub use Rattle.at_commands.specs.Limits.{MayMake}
pub use Rattle.at_commands.specs.Loading.{EachSpells, Giving, HoldsFile, IsFileReached, IsReached, IsSpelled, Loaded, LoadedOf, MayReach, MayReachOf, PaysBytes, PaysReplayBytes, SendsBytes, Spelled, SpelledOf, Spelling, SpellsBook, SpellsFile, all_loaded, book_loaded, calls_given, fetched, file_first, file_loaded, files_beside, loaded, loaded_shown, messages_given, named_book, replay_calls_given, with_book}
unfoldable pub use Rattle.at_commands.specs.Loading.{files_loaded}
pub use Rattle.at_commands.specs.Made.{AllDone, AllSum, balance_settled, call_credit, call_debit, over_files, reads_in, state_settled, transfers_in}
unfoldable pub use Rattle.at_commands.specs.Made.{made}
pub use Rattle.at_commands.specs.Nodes.{AreNodesOf, AreSent, IsNodeOf, all_sent, counts_of, gives, message_given}
pub use Rattle.at_commands.specs.Outcome.{Found, Outcome}
pub use Rattle.at_commands.specs.Replaying.{ReportsReplay}
pub use Rattle.at_commands.specs.Running.{AreCosts, AreJobsFor, HaveCosted, IsClosedAfter, IsClosedNoting, IsPlayed, IsPlayedNoting, TakesNewPass, costs_in, journal_of}
pub use Rattle.at_commands.specs.Words.{Form, before_values, form_shown, small, values_named, words_of}
pub use Rattle.at_commands.specs.Writing.{Ends, Wrote}
pub use Rattle.at_commands.specs.declared.ending.Printed.{Printed}
pub use Rattle.at_commands.specs.declared.playing.Asked.{Asked}
pub use Rattle.at_commands.specs.declared.playing.Left.{Left}
pub use Rattle.at_files.proofs.BookAccepted.{book_of_records-records_of_book}
pub use Rattle.at_files.proofs.DeliveryLaws.{deliveries_of-Delivers}
pub use Rattle.at_files.proofs.FieldLaws.{both_tests}
pub use Rattle.at_files.proofs.MessageLaws.{counts_of-set, messages_spelled-Sends}
pub use Rattle.at_files.proofs.PaymentsAccepted.{payments_of-Pays}
pub use Rattle.at_files.proofs.ReplayLaws.{replay_payments_of-PaysReplay}
pub use Rattle.at_files.proofs.ScheduleLaws.{schedule_of-Schedules}
pub use Rattle.at_files.specs.BookFile.{book_of_records}
pub use Rattle.at_files.specs.BookRecords.{NamedBook}
pub use Rattle.at_files.specs.Deliveries.{IsDelivery}
pub use Rattle.at_files.specs.Limits.{most_messages}
pub use Rattle.at_files.specs.Messages.{messages_spelled}
pub use Rattle.at_files.specs.Names.{AreNamesOf, NameList, plain_names}
pub use Rattle.at_files.specs.Payments.{payments_of}
pub use Rattle.at_files.specs.Records.{file_records}
pub use Rattle.at_files.specs.ReplayPayments.{replay_payments_of}
pub use Rattle.at_files.specs.Results.{and_then}
pub use Rattle.at_files.specs.declared.book_fault.BookWhy.{BookWhy}
pub use Rattle.at_files.specs.declared.deliveries.Delivery.{Delivery}
pub use Rattle.at_files.specs.declared.location.Location.{Location}
pub use Rattle.at_history.proofs.Laws.Payments.{length-credited, sum-credited}
pub use Rattle.at_io.specs.Faults.{Rose}
pub use Rattle.at_io.specs.Limits.{most_file_bytes}
pub use Rattle.at_io.specs.Shelf.{SameFiles}
pub use Rattle.at_io.specs.Sink.{TakesPrefix}
pub use Rattle.at_journal.proofs.JournalRuns.{Legal-journal_lines}
pub use Rattle.at_journal.proofs.WholeLaws.{Whole-journal_lines}
pub use Rattle.at_journal.specs.Calls.{calls_in, line_at}
pub use Rattle.at_ledger.proofs.FileLists.{contents_of-nil, contents_of-push, contents_of-pushed, get_or-contents_of, length-contents_of}
pub use Rattle.at_ledger.proofs.Run.{book-run_from, run_from-cons, run_from-nil}
pub use Rattle.at_ledger.proofs.Slots.{slot_in-owner}
pub use Rattle.at_ledger.specs.Account.{AccountTerms, is_shared, no_account, rounds_room}
pub use Rattle.at_ledger.specs.Book.{BookTerms, IsBegun, account_of, has_single, is_owner, rounds_of, total_of, with_usable_room}
pub use Rattle.at_ledger.specs.Call.{AreTargetsOn, IsCallOn, IsLineOn, TargetPair, amount_of}
pub use Rattle.at_ledger.specs.Draft.{account_fault, owner_fault, with_account}
unfoldable pub use Rattle.at_ledger.specs.Draft.{owners_fault}
pub use Rattle.at_ledger.specs.Files.{IsPlayable, contents_of}
pub use Rattle.at_ledger.specs.Limits.{most_accounts, most_owners, most_rounds}
pub use Rattle.at_ledger.specs.Run.{Legal, Run, Whole, asked_in, last_state, lines_of, run_after}
unfoldable pub use Rattle.at_ledger.specs.Run.{run_from}
pub use Rattle.at_ledger.specs.State.{LedgerState, Step, after_done, after_short, asked_of, asked_position, balance_of, is_full, moved, opening_state, pay, sent_of, step, with_asked, with_sent}
unfoldable pub use Rattle.at_ledger.specs.State.{credited}
pub use Rattle.at_ledger.specs.declared.call.Call.{Call}
pub use Rattle.at_ledger.specs.declared.call.Call.TheVariants.{Pay, Read, Transfer}
pub use Rattle.at_ledger.specs.declared.call.Line.{Line}
pub use Rattle.at_ledger.specs.declared.call.Reply.TheVariants.{Full, NotOwner, Short}
pub use Rattle.at_log.proofs.Sharing.{call_send}
pub use Rattle.at_log.specs.ClosingTerms.{ClosingTerms}
pub use Rattle.at_log.specs.Coherent.{Coherent}
pub use Rattle.at_log.specs.Receipts.{calls_of}
pub use Rattle.at_log.specs.declared.receipt.Receipt.{Receipt}
pub use Rattle.at_object.proofs.Sharing.{pass_send}
pub use Rattle.at_object.specs.Closings.{AreAccountedFor, ClosedTerms, IsAccountedFor}
pub use Rattle.at_object.specs.Passes.{AreNewPasses, IsNewPass, PassTerms, cost_so_far, others_counted, past_call, past_costs}
pub use Rattle.at_object.specs.PastCalls.{CostTerms, PastCall}
pub use Rattle.at_orders.proofs.Laws.Owners.{owners-cover}
pub use Rattle.at_orders.proofs.Laws.Settled.{covered-settled}
pub use Rattle.at_pages.specs.PageText.{page_text}
pub use Rattle.at_report.specs.Lines.{Word, lines_text}
pub use Rattle.at_report.specs.Pieces.{joined}
pub use Rattle.at_report.specs.Report.{audit_lines, report_text}
pub use Rattle.at_report.specs.Summary.{done_in, is_done_reply, is_read, made_lines, read_in}
pub use Rattle.at_report.specs.declared.status.Status.{Status}
pub use Rattle.at_report.specs.declared.status.Status.TheVariants.{BadBook, BadMessages, BadOrder, BadPayments, BadSchedule, NoMemory, NotLegal, ReadFault, TooLong, TooManyOrders, Usage, WriteFault}
pub use Rattle.at_report.specs.declared.status.UsageFault.{UsageFault}
pub use Rattle.at_report.specs.declared.status.UsageFault.TheVariants.{Words}
pub use Rattle.at_stepper.specs.Callers.{IsFile}
pub use Rattle.at_stepper.specs.InTurns.{IsReplayBy}
pub use Rattle.at_stepper.specs.declared.replaying.Replayed.{Replayed}
pub use Rattle.at_tables.specs.CostsText.{HaveCosts}
pub use Rattle.at_workers.proofs.Sharing.{job_send}
pub use Rattle.at_workers.proofs.CostLaws.{AddUp, AddUp-TakeCalls, length-TakeCalls}
unfoldable pub use Rattle.at_workers.specs.Costs.{TakeCalls}
pub use Rattle.at_workers.specs.Costs.{sum_of_costs}
pub use Rattle.at_workers.specs.Jobs.{JobTerms, Ran}
pub use Rattle.at_workers.specs.declared.job.JobRefused.{JobRefused}
