-- What this crate's proofs name of other crates and of its definitions, in one place.
pub use Rattle.std.proofs.lemmas.Bool.{cases_eq, eq-eqb, ne_eqb}
pub use Rattle.std.proofs.lemmas.Grind.{flat_map-append}
pub use Rattle.std.proofs.lemmas.List.{get_or_default, get_or_past, length-map, map-append, map-id, take-take, take_more}
pub use Rattle.std.proofs.lemmas.List.Elements.{All-append, All-map, All-nil, All-push, filter-append}
pub use Rattle.std.proofs.lemmas.List.FromFn.{get_or-map-range_with_len, length-range_with_len, map-range_with_len_more}
pub use Rattle.std.proofs.lemmas.List.Sums.{sum_by-take-le, sum_by_push}
pub use Rattle.std.proofs.lemmas.Option.{slice_get_past, slice_get_read}
pub use Rattle.std.specs.List.{range_with_len}
pub use Rattle.at_board.specs.declared.step.BoardStep.{BoardStep}
pub use Rattle.at_files.specs.Names.{NameList, account_name, process_name}
pub use Rattle.at_ledger.proofs.FileLists.{get_or-contents_of, length-contents_of}
pub use Rattle.at_ledger.specs.Account.{AccountTerms, no_account}
pub use Rattle.at_ledger.specs.Book.{BookTerms, account_of}
pub use Rattle.at_ledger.specs.Call.{IsCallOn, first_account}
pub use Rattle.at_ledger.specs.Files.{IsPlayable, contents_of}
pub use Rattle.at_ledger.specs.declared.call.Call.{Call}
pub use Rattle.at_ledger.specs.declared.call.Line.{Line}
pub use Rattle.at_pages.specs.Arrows.{arrow_path, arrow_text, arrow_words, arrows_from, arrows_text, asker_loaded, decided_for, decides_at, unless_own}
pub use Rattle.at_pages.specs.Bars.{answer_text, bar_text, bars_text, begins_next, label_if, lane_text, lanes_text, rect_text, span_in, spanned_call, words_text}
pub use Rattle.at_pages.specs.Curves.{curve_path, curve_text, curve_to, curves_from, curves_text, is_publication_of, publishing_turn, publishing_turns}
pub use Rattle.at_pages.specs.Deciding.{AreExchanged}
pub use Rattle.at_pages.specs.Loading.{AreLoads}
pub use Rattle.at_pages.specs.Making.{IsFew, after_turn, ended, ended_by, not_begun, with_turn}
pub use Rattle.at_pages.specs.Marks.{mark_text, marks_text}
pub use Rattle.at_pages.specs.PageText.{picture_text, size_text}
pub use Rattle.at_pages.specs.Places.{bar_left, bar_top, bar_width, borrow_line, caption_line, caption_place, facing_edge, lane_place, lane_width, middle_of, name_line, place_text, time_place}
pub use Rattle.at_pages.specs.Spans.{all_spans, answers, counts_record, makes_exchange, makes_step, span_at, spans_of, turns_before}
pub use Rattle.at_pages.specs.Tables.{bound_cells, call_cells, cells_text, count_cells, item_text, items_text, rows_text}
pub use Rattle.at_pages.specs.Turns.{own_step, own_turn, own_turns}
pub use Rattle.at_pages.specs.declared.loads.LoadNumbers.{LoadNumbers}
pub use Rattle.at_pages.specs.declared.parts.TheConstants.{CALLS, END, HEAD, JOURNAL, KEY, PICTURE, SHAPES}
pub use Rattle.at_pages.specs.declared.spans.Making.{Making}
pub use Rattle.at_pages.specs.declared.spans.Span.{Span}
pub use Rattle.at_stepper.specs.InTurns.{is_turn_of, turn_at}
pub use Rattle.at_stepper.specs.Schedules.{answered_by}
pub use Rattle.at_stepper.specs.declared.replaying.TurnMade.{TurnMade}
pub use Rattle.at_tables.proofs.TurnCountLaws.{answered_by-more, other-added}
pub use Rattle.at_tables.specs.Bounds.{most_exchanges, most_steps}
pub use Rattle.at_tables.specs.CallFields.{call_word, kind_word}
pub use Rattle.at_tables.specs.Kinds.{kind_of}
pub use Rattle.at_tables.specs.Sentence.{sentence_text}
pub use Rattle.at_tables.specs.TraceText.{reply_field}
