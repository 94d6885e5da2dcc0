use Rattle.std.proofs.Common.{◌≡◌, true, Ok, take, length, All}
use Rattle.at_commands.proofs.Prelude.{contents_of, SameFiles, words_of, EachSpells, IsSpelled, files_loaded, named_book}
use Rattle.at_commands.proofs.loading.load_files.Given as goal

abbrev pub invariant-loop-process : goal.invariant-loop-process
invariant-loop-process g l = record {
  same : SameFiles (g.F.Shelf.tells l.fn.shelf) (g.F.Shelf.tells l.shelf) (g.F.Shelf.file l.fn.shelf) (g.F.Shelf.file l.shelf);
  kept : g.F.Shelf.faults l.shelf ≡ g.F.Shelf.faults l.fn.shelf;
  prefix : g.F.Shelf.tells l.fn.shelf ≡ true
      → files_loaded (g.P.FileForm.given (named_book l.book l.names)) (g.F.Shelf.file l.fn.shelf) 0 (take l.process (words_of l.words)) ≡ Ok (contents_of l.files.items);
  spelled : g.F.Shelf.tells l.fn.shelf ≡ true
      → EachSpells (g.P.FileForm.spells (named_book l.book l.names)) (g.F.Shelf.file l.fn.shelf) (words_of l.words) (contents_of l.files.items);
  known : All (IsSpelled (g.P.FileForm.spells (named_book l.book l.names))) (contents_of l.files.items);
  count : length l.files.items ≡ l.process;
}
