use Rattle.std.proofs.Common.{◌≡◌, ◌∙◌, ap, length, refl, sym, string_bytes, Err}
use Rattle.at_commands.proofs.Prelude.{length-map, length-contents_of, loaded_shown, named_book, form_shown}
use Rattle.at_commands.proofs.CountLaws.{All-IsCount, CountsRead-counted, MayReach-counted, MayRefuse-counted}
use Rattle.at_commands.proofs.Laws.MayRefuse.{refusal_of}
use Rattle.at_commands.proofs.counting.count.Goals as goal

pub returns-in-Err-clause-err : goal.returns-in-Err-clause-err
returns-in-Err-clause-err g c =
    MayRefuse-counted (g.F.Shelf.tells c.args.shelf.now) (g.F.Shelf.file c.args.shelf.now) (form_shown c.args.form.now) _ _ c.in-Err.refusal c.in-Err.ensures.err

pub returns-in-Err-clause-reached : goal.returns-in-Err-clause-reached
returns-in-Err-clause-reached g c = λ file is.
    MayReach-counted (g.F.Shelf.tells c.args.shelf.now) (g.F.Shelf.file c.args.shelf.now) (form_shown c.args.form.now) file
    (c.in-Err.ensures.reached file (ap Err (refusal_of _ _ _ _ is refl refl)))

pub total-calls-requires-clause-counts : goal.total-calls-requires-clause-counts
total-calls-requires-clause-counts g c =
    rw c.as_slice.ensures.value (All-IsCount (named_book c.in-Ok.loaded.book c.in-Ok.loaded.names) _ c.in-Ok.ensures.known)

pub returns-clause-counts : goal.returns-clause-counts
returns-clause-counts g c =
    let loads = c.in-Ok.ensures in
    let count : length c.in-Ok.loaded.files.items ≡ length (form_shown c.args.form.now).files =
    loads.count ∙ sym loads.given ∙ sym (length-map c.args.form.now.files.now string_bytes) in
    rw (c.total-calls.ensures, c.as_slice.ensures.value)
    (CountsRead-counted (g.F.Shelf.tells c.args.shelf.now) (g.F.Shelf.file c.args.shelf.now) (form_shown c.args.form.now) (loaded_shown c.in-Ok.loaded)
    (record {
      book = loads.book;
      names = loads.names;
      given = length-map c.args.form.now.files.now string_bytes ∙ loads.given;
      count = length-contents_of c.in-Ok.loaded.files.items ∙ count;
    }) loads.spelled loads.known)
