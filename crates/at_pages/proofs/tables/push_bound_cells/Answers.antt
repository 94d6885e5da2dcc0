use Rattle.std.proofs.Common.{◌≡◌, ◌<◌, ◌++◌, List, Option, OnOk, append-nil, arith, length, subst, sym}
use Rattle.at_pages.proofs.Prelude.{contents_of, Call, length-contents_of, bound_cells, cells_text}
use Rattle.at_pages.proofs.FileLaws.{call-known, call-none, call-some}
use Rattle.at_pages.proofs.tables.push_bound_cells.Goals as goal

pub push_bounds_if-requires : goal.push_bounds_if-requires
push_bounds_if-requires c =
    let files : List (List Call) = contents_of c.args.files.now in
    let within : c.args.span.now.process < length files = omega (arith, c.requires.process, length-contents_of c.args.files.now) in
    call-known (length c.args.book.now.accounts) files c.args.span.now.process c.args.span.now.number c.file_of-file.result.now c.index-file-number.result
    c.requires.files within c.file_of-file.ensures c.if-number-file.true c.index-file-number.is

pub returns-then-number-file : goal.returns-then-number-file
returns-then-number-file c =
    let files : List (List Call) = contents_of c.args.files.now in
    subst (λ (o : Option Call). OnOk c.push_bounds_if.result (c.push_bounds_if.new.out.items ≡ c.args.out.now.items ++ cells_text (bound_cells c.args.book.now o c.args.span.now.new_records c.args.span.now.reply)))
    (sym (call-some files c.args.span.now.process c.args.span.now.number c.file_of-file.result.now c.index-file-number.result c.file_of-file.ensures c.if-number-file.true c.index-file-number.is))
    c.push_bounds_if.ensures

pub returns-else-number-file : goal.returns-else-number-file
returns-else-number-file c =
    let files : List (List Call) = contents_of c.args.files.now in
    subst (λ (o : Option Call). c.args.out.now.items ≡ c.args.out.now.items ++ cells_text (bound_cells c.args.book.now o c.args.span.now.new_records c.args.span.now.reply))
    (sym (call-none files c.args.span.now.process c.args.span.now.number c.file_of-file.result.now c.file_of-file.ensures c.if-number-file.false))
    (sym (append-nil c.args.out.now.items))
