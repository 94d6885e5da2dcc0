-- What this crate's proofs name of other crates and of its definitions, in one place.
pub use Rattle.std.proofs.Math.Seq.{get_or-append_seam}
pub use Rattle.std.proofs.lemmas.Bool.{cases_eq, cases_lt, eq-eqb, le-leb, lt-ltb, ltb-false, ltb-true, ne_eqb}
pub use Rattle.std.proofs.lemmas.Bool.Decides.{nat_tests}
pub use Rattle.std.proofs.lemmas.Grind.{common_steps, flat_map-append}
pub use Rattle.std.proofs.lemmas.Int.{ints}
pub use Rattle.std.proofs.lemmas.List.{get_or-map, get_or-replicate, get_or-set_other, get_or-set_same, get_or_append_left, get_or_past, get_or_read, length-append, length-map, length-set, map-append, map-id, take_more, with_items_is}
pub use Rattle.std.proofs.lemmas.List.Elements.{All-cons, All-head, All-nil, All-tail, filter-append}
pub use Rattle.std.proofs.lemmas.List.FromFn.{fill_by_all, map-range_with_len_more, sum_by-map-range_with_len_more}
pub use Rattle.std.proofs.lemmas.List.Sums.{count_by-le-length, fold_push, sum-map, sum_by-append, sum_by-cons, sum_by_push}
pub use Rattle.std.proofs.lemmas.Map.Lookups.{CmpEqualImpliesEq, exact_bytes, exact_unsigned}
pub use Rattle.std.proofs.lemmas.Map.Text.{is_eq-slice_cmp}
pub use Rattle.std.proofs.lemmas.Map.Views.{All-insert_key}
pub use Rattle.std.proofs.lemmas.Slice.Eq.{bytes_eq-Decides}
pub use Rattle.std.specs.BTreeMap.{get_by}
pub use Rattle.std.specs.BTreeSet.{btree_set_len, insert_key}
pub use Rattle.std.specs.Cmp.Lexicographic.{slice_cmp}
pub use Rattle.std.specs.Global.{Global}
pub use Rattle.std.specs.List.{AllByRecursion, join_with_byte, range_with_len}
unfoldable pub use Rattle.std.specs.List.Sorted.{IsStrictlySortedBy}
pub use Rattle.std.specs.Ordering.{is_eq, match_ordering, nat_cmp, ordering_then}
pub use Rattle.std.specs.declared.cmp.Ordering.{Ordering}
pub use Rattle.std.specs.declared.cmp.Ordering.TheVariants.{Equal, Greater, Less}
pub use Rattle.std.specs.Vec.{with_items}
pub use Rattle.at_board.specs.Counting.{raised}
pub use Rattle.at_board.specs.Knowledge.Seats.{BoardTerms}
pub use Rattle.at_files.specs.Names.{NameList, account_name}
pub use Rattle.at_history.proofs.Laws.Payments.{get_or-credited, length-credited}
pub use Rattle.at_history.specs.Balances.{amount_for}
pub use Rattle.at_ledger.proofs.FileLists.{contents_of-pushed, get_or-contents_of, length-contents_of}
pub use Rattle.at_ledger.specs.Account.{AccountTerms, is_owner_in, is_shared, no_account}
pub use Rattle.at_ledger.specs.Book.{BookTerms, IsAccount, account_of, is_owner, total_of}
pub use Rattle.at_ledger.specs.Call.{AreTargetsOn, IsCallOn, IsLineOn, TargetPair, amount_of, first_account}
pub use Rattle.at_ledger.specs.Files.{IsPlayable, contents_of}
pub use Rattle.at_ledger.specs.Run.{Legal, asked_in, last_state}
unfoldable pub use Rattle.at_ledger.specs.Run.{run_from}
pub use Rattle.at_ledger.specs.State.{LedgerState, Step, after_done, after_short, balance_of, is_full, moved, opening_state, pay, step, with_asked, with_sent}
pub use Rattle.at_ledger.specs.declared.call.Call.{Call}
pub use Rattle.at_ledger.specs.declared.call.Line.{Line}
pub use Rattle.at_ledger.specs.declared.call.Call.TheVariants.{Pay, Read, Transfer}
pub use Rattle.at_ledger.specs.declared.call.Reply.{Reply}
pub use Rattle.at_ledger.specs.declared.call.Reply.TheVariants.{Balance, Done, Full, NotOwner, Short}
pub use Rattle.at_log.specs.Receipts.{receipt_at}
pub use Rattle.at_log.specs.declared.receipt.Receipt.{Receipt}
pub use Rattle.at_object.specs.Calls.{CallMade, may_exchange}
pub use Rattle.at_object.specs.Passes.{PassTerms, cost_of}
pub use Rattle.at_object.specs.PastCalls.{CostTerms}
pub use Rattle.at_object.specs.Payments.{IsRefused}
pub use Rattle.at_orders.specs.Covered.{asked_in_file}
pub use Rattle.at_orders.specs.declared.replies.Replies.{Replies}
pub use Rattle.at_report.proofs.LineLaws.{join_with_byte-spaced, line_text-spaced, lines_text-map_more}
pub use Rattle.at_report.proofs.NodeTexts.{line_text-words, lines_text-append}
pub use Rattle.at_report.proofs.RecordLaws.{record_text-three, records_text-flat_map_more, records_text-map_more}
pub use Rattle.at_report.specs.Lines.{Word, Words, line_text, lines_text, reply_word, spaced}
pub use Rattle.at_report.specs.Records.{comma_led, record_text, records_text}
pub use Rattle.at_stepper.specs.InTurns.{turn_at}
pub use Rattle.at_stepper.specs.Schedules.{answered_by}
pub use Rattle.at_stepper.specs.declared.replaying.TurnMade.{TurnMade}
pub use Rattle.at_tables.specs.AddingUp.{AddUp, AreAsserted, IsAsserted, MakeBalances, is_posted_to, made_of, postings_in, transactions_in, worth}
unfoldable pub use Rattle.at_tables.specs.AddingUp.{total_posted}
pub use Rattle.at_tables.specs.Asking.{AreAddedUp, AreSumRows, HaveSums, row_number}
pub use Rattle.at_tables.specs.Bounds.{IsCostWithin, is_refusal, most_exchanges, most_steps}
unfoldable pub use Rattle.at_tables.specs.Bounds.{AreCostsWithin}
pub use Rattle.at_tables.specs.CallFields.{call_fields}
pub use Rattle.at_tables.specs.CostsText.{HaveCosts, cost_at, cost_fields, costs_records, process_costs}
pub use Rattle.at_tables.specs.Counting.{AreCounted, AreCounts, HasRoomToCount}
pub use Rattle.at_tables.specs.Entries.{CallOf, Comments, Enters, JournalEntry, Posting, Posts, TakesRest, Transaction, assertion, assertions, balance_read, credit, entries_of, entry_of, entry_with, first_transaction, last_transaction, opening_credits, paid, posted, target_credits}
pub use Rattle.at_tables.specs.GroupKeys.{AreKnown, group_terms, groups_in}
pub use Rattle.at_tables.specs.Groups.{AreGroups, GroupTerms, group_cmp, group_of_owners, groups_among, groups_of, is_agreed_by, with_group}
pub use Rattle.at_tables.specs.Kinds.{count_first, count_in, count_in_file, has_kind, is_agreed_kind, is_alone_kind, is_by_owner_of, is_owner_kind, is_payment_kind, is_refused_kind, kind_of}
pub use Rattle.at_tables.specs.KindsText.{account_lines, account_words, count_words, group_lines, group_words, head_lines, owner_words, use_word}
pub use Rattle.at_tables.specs.LedgerText.{amount_text, asserted_text, declaration_text, declarations_text, entry_text, posting_text, postings_text, title_text}
pub use Rattle.at_tables.specs.NeedsText.{account_fields, needs_head, needs_of_account, needs_records, owner_asks, owner_fields, owner_records}
pub use Rattle.at_tables.specs.OrdersText.{call_at, process_replies, replies_at, replies_fields, replies_records, replies_words, word_if}
pub use Rattle.at_tables.specs.Parted.{parted}
pub use Rattle.at_tables.specs.Sentence.{agreement_text, counted_text, payments_text}
pub use Rattle.at_tables.specs.Totals.{AreTotals, Totals, is_shared_by, part_of, sum_first, total_in}
pub use Rattle.at_tables.specs.TraceText.{turn_fields}
pub use Rattle.at_tables.specs.declared.counts.Counts.{Counts}
pub use Rattle.at_tables.specs.declared.groups.Group.{Group}
pub use Rattle.at_tables.specs.declared.kind.Kind.{Kind}
pub use Rattle.at_tables.specs.declared.posting.Amount.{Amount}
pub use Rattle.at_tables.specs.declared.posting.Amount.TheVariants.{Minus, Plus}
pub use Rattle.at_workers.specs.Costs.{TakesCall}
unfoldable pub use Rattle.at_workers.specs.Costs.{TakeCalls}
