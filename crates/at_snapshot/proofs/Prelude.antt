-- What this crate's proofs name of other crates and of its definitions, in one place.
pub use Rattle.std.proofs.lemmas.Bool.{cases_eq, cases_lt, eq-eqb, ne_eqb}
pub use Rattle.std.proofs.lemmas.List.{ext_get_or, get_or-map, get_or-set_other, get_or-set_same, length-map, length-set, set-set}
pub use Rattle.std.proofs.lemmas.Nat.{mul-le}
pub use Rattle.std.specs.List.{sum}
pub use Rattle.std.specs.Option.{IfSome}
pub use Rattle.at_board.specs.Counting.{raised}
pub use Rattle.at_board.specs.Knowledge.Parts.{loads_of, no_part, own_part, with_part}
pub use Rattle.at_board.specs.Knowledge.Seats.{IsOf, SeatTerms}
pub use Rattle.at_board.specs.Steps.LoadLength.{LoadsLength, with_load}
pub use Rattle.at_board.specs.declared.knowledge.Knowledge.{Knowledge}
pub use Rattle.at_board.specs.declared.knowledge.Loads.{Loads}
pub use Rattle.at_board.specs.declared.knowledge.Part.{Part}
pub use Rattle.at_history.proofs.Laws.Counts.{IsPosition, count_of-take-le, count_of-take_mono, get_or-counts, get_or-publications_of, length-counts, position_of, sum-counts}
pub use Rattle.at_history.proofs.Laws.Cuts.{IsCut-IsPrefix, IsCut-counts, IsPrefix-prefix_of, IsPrefix-prefix_of_from_le, get_or-IsCut}
pub use Rattle.at_history.proofs.Laws.Histories.{ArePublishedBy-IsHistory}
pub use Rattle.at_history.proofs.Laws.Prefixes.{ArePublishedBy-IsPrefix, ArePublishedBy-take, IsPrefix-count_of, IsPrefix-length, IsPrefix-refl, IsPrefix-take, IsPrefix-trans, take-IsPrefix}
pub use Rattle.at_history.specs.BoardState.{publication_at}
pub use Rattle.at_history.specs.Cuts.{IsCut, place, prefix_of}
pub use Rattle.at_history.specs.Publications.{IsPrefix, count_of, counts, no_publication, publications_of}
pub use Rattle.at_history.specs.Sound.{HasView}
pub use Rattle.at_history.specs.declared.publication.Publication.{Publication}
pub use Rattle.at_ledger.specs.Book.{BookTerms, IsBook}
pub use Rattle.at_snapshot.specs.Collected.{HasLoaded, IsCollect, IsCollecting, collect_of}
pub use Rattle.at_snapshot.specs.Scans.{AreCollects, IsScanOf, ScanTerms, SeesOwnRecords, collects_after, loads_at_least, scan_after, starting_scan}
pub use Rattle.at_snapshot.specs.Snapping.{IsSnapping, turns_left}
unfoldable pub use Rattle.at_snapshot.specs.Snapping.{one_if_same, unmoved}
pub use Rattle.at_snapshot.specs.Snapshots.{HasCollected, IsSnapshot, OnCounts, snapshot_steps}
pub use Rattle.at_snapshot.specs.Turns.{HasRisen, IsAnswer, IsLent, IsVerdict, LeavesUndecided, view_steps}
pub use Rattle.at_snapshot.specs.Verdicts.{IsVerdictBy, IsVerdictOn, answer_of}
pub use Rattle.at_snapshot.specs.declared.collects.Collects.{Collects}
pub use Rattle.at_snapshot.specs.declared.collects.Verdict.{Verdict}
pub use Rattle.at_snapshot.specs.declared.collects.Verdict.TheVariants.{Lent, Repeated, Undecided}
pub use Rattle.at_snapshot.specs.declared.scan.Turn.{Turn}
pub use Rattle.at_snapshot.specs.declared.scan.Turn.TheVariants.{Again, Borrowed, Clean}
