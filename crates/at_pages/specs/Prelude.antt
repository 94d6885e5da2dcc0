-- What this crate's contracts and definitions name of other crates, in one place.
pub use Rattle.std.specs.HashSet.{HashSet}
pub use Rattle.std.specs.List.{list_any, range_with_len}
pub use Rattle.at_board.specs.declared.step.BoardStep.{BoardStep}
pub use Rattle.at_board.specs.declared.step.BoardStep.TheVariants.{Exchange, Load, Store}
pub use Rattle.at_board.specs.declared.step.BoardWord.{BoardWord}
pub use Rattle.at_board.specs.declared.step.BoardWord.TheVariants.{Announced, Cell, Length, Record, Request}
pub use Rattle.at_board.specs.declared.words.TheConstants.{RECORD_WORDS}
pub use Rattle.at_files.specs.Names.{AreNamesOf, NameList, account_name, process_name}
pub use Rattle.at_ledger.specs.Book.{BookTerms, account_of}
pub use Rattle.at_ledger.specs.Call.{IsCallOn, IsLineOn, amount_of}
pub use Rattle.at_ledger.specs.Files.{IsPlayable, contents_of}
pub use Rattle.at_ledger.specs.declared.call.Call.{Call}
pub use Rattle.at_ledger.specs.declared.call.Call.TheVariants.{Pay, Read, Transfer}
pub use Rattle.at_ledger.specs.declared.call.Line.{Line}
pub use Rattle.at_ledger.specs.declared.call.Reply.{Reply}
pub use Rattle.at_report.specs.Lines.{Word, Words, journal_words, line_text}
pub use Rattle.at_stepper.specs.InTurns.{is_turn_of, turn_at}
pub use Rattle.at_stepper.specs.Schedules.{answered_by}
pub use Rattle.at_stepper.specs.declared.replaying.Replayed.{Replayed}
pub use Rattle.at_stepper.specs.declared.replaying.TurnMade.{TurnMade}
pub use Rattle.at_tables.specs.Bounds.{most_exchanges, most_steps}
pub use Rattle.at_tables.specs.CallFields.{call_fields}
pub use Rattle.at_tables.specs.Sentence.{sentence_text}
pub use Rattle.at_tables.specs.TraceText.{reply_field, step_address, step_word}
