use Rattle.std.proofs.Common.{◌≡◌, ◌∙◌, ap, refl, arith, length, sym, Err}
use Rattle.at_commands.proofs.Prelude.{length-map, length-contents_of, payments, calls_given, loaded, named_book, form_shown, words_of}
use Rattle.std.specs.Prelude.{string_bytes}
use Rattle.at_commands.proofs.Laws.FilesLoaded.{MayReach-file, loaded-files, loaded-refused}
use Rattle.at_commands.proofs.Laws.MayRefuse.{MayRefuse-whole, made-refused, refusal_of}
use Rattle.at_commands.proofs.loading.load_payments.Goals as goal

pub load_files-requires-clause-few : goal.load_files-requires-clause-few
load_files-requires-clause-few g c =
    let enough = c.requires.enough in
    let few = c.known.ensures.checked.begun.few_processes in
    omega (arith, enough, few, length-map c.args.form.now.files.now string_bytes)

pub load_files-requires-clause-enough : goal.load_files-requires-clause-enough
load_files-requires-clause-enough g c = sym (length-map c.args.form.now.files.now string_bytes) ∙ c.requires.enough

pub returns-in-Ok : goal.returns-in-Ok
returns-in-Ok g c =
    let loads = c.in-Ok.ensures in
    let words = words_of c.args.form.now.files.now in
    let enough : length c.args.form.now.files.now ≡ c.args.book.now.processes = sym (length-map c.args.form.now.files.now string_bytes) ∙ c.requires.enough in
    record {
      files = loads.files;
      later = loads.later;
      kept = loads.kept;
      ok = λ told.
          loaded-files calls_given (g.F.Shelf.file c.args.shelf.now) c.args.form.now.book.now words (named_book c.args.book.now c.args.names.now) _ (c.requires.read told)
          c.requires.enough (loads.ok told);
      spelled = λ told. record {
        book = c.requires.spelled told;
        files = record {
          enough = c.requires.enough;
          count = length-contents_of c.in-Ok.files.items ∙ loads.count ∙ enough;
          each = loads.spelled told;
        };
      };
      known = loads.known;
      count = loads.count ∙ enough;
      err = tt;
      reached = λ file is. absurd (made-refused _ _ is);
      numbered = tt;
    }

pub returns-in-Err : goal.returns-in-Err
returns-in-Err g c =
    let refused = c.in-Err.ensures in
    let words = words_of c.args.form.now.files.now in
    record {
      files = refused.files;
      later = refused.later;
      kept = tt;
      ok = λ told. tt;
      spelled = λ told. tt;
      known = tt;
      count = tt;
      err =
          MayRefuse-whole payments _ _ (loaded (g.F.Shelf.file c.args.shelf.now) (form_shown c.args.form.now)) _ _ c.in-Err.refusal
          (λ told refusal. loaded-refused calls_given (g.F.Shelf.file c.args.shelf.now) c.args.form.now.book.now words (named_book c.args.book.now c.args.names.now) c.in-Err.refusal
          (c.requires.read told) c.requires.enough refusal)
          refused.err;
      reached = λ file is.
          MayReach-file calls_given _ (g.F.Shelf.file c.args.shelf.now) c.args.form.now.book.now words (named_book c.args.book.now c.args.names.now) file c.requires.read
          c.requires.enough (refused.file file (ap Err (refusal_of _ _ _ _ is refl refl)));
      numbered = refused.numbered;
    }
