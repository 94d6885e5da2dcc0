use Rattle.std.proofs.Common.{◌∙◌, List, Vec, ap, length, sym}
use Rattle.at_commands.proofs.Prelude.{Global, length-map, contents_of, BookTerms, Call}
use Rattle.at_commands.proofs.DrawnCalls.{IsPlayable-files_made, length-files_made}
use Rattle.at_commands.proofs.GeneratedRuns.{AllDone-made, AllSum-made, length-book_made}
use Rattle.at_commands.proofs.generating.generate.Goals as goal

pub returns-clause-count : goal.returns-clause-count
returns-clause-count c =
    sym (length-map c.in_ok-files.files.items (λ (file : Vec Call Global). file.items)) ∙ ap (λ (files : List (List Call)). length files) c.in_ok-files.ensures
    ∙ length-files_made c.args.first c.args.processes c.args.calls ∙ sym (ap (λ (b : BookTerms). b.processes) c.in_ok-book.ensures.book)

pub returns-clause-known : goal.returns-clause-known
returns-clause-known c =
    rw (c.in_ok-files.ensures, c.in_ok-book.ensures.book, length-book_made c.args.processes c.args.calls)
    (IsPlayable-files_made c.args.first c.args.processes c.args.calls c.requires)

pub returns-clause-all_done : goal.returns-clause-all_done
returns-clause-all_done c =
    AllDone-made c.args.first c.args.processes c.args.calls c.in_ok-book.book (contents_of c.in_ok-files.files.items)
    c.in_ok-book.ensures.book c.in_ok-files.ensures c.in_ok-book.ensures.checked.begun

pub returns-clause-all_sum : goal.returns-clause-all_sum
returns-clause-all_sum c =
    AllSum-made c.args.first c.args.processes c.args.calls c.in_ok-book.book (contents_of c.in_ok-files.files.items)
    c.in_ok-book.ensures.book c.in_ok-files.ensures c.in_ok-book.ensures.checked.begun
