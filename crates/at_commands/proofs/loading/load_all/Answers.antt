use Rattle.std.proofs.Common.{◌≡◌, ◌∙◌, ap, refl, arith, length, sym, Err}
use Rattle.at_commands.proofs.Prelude.{length-map, length-contents_of, words_of, all_loaded, named_book}
use Rattle.std.specs.Prelude.{string_bytes}
use Rattle.at_commands.proofs.Laws.FilesLoaded.{MayReach-file, loaded-files, loaded-refused}
use Rattle.at_commands.proofs.Laws.MayRefuse.{MayRefuse-whole, later-then, made-refused, refusal_of}
use Rattle.at_commands.proofs.loading.load_all.Goals as goal

pub returns-in-Err : goal.returns-in-Err
returns-in-Err g c =
    let refused = c.in-Err.ensures in
    record {
      files = refused.files;
      later = refused.later;
      kept = tt;
      ok = λ told. tt;
      spelled = λ told. tt;
      book = tt;
      names = tt;
      known = tt;
      count = tt;
      given = tt;
      err = refused.err;
      reached = λ file is. refused.reached file (ap Err (refusal_of _ _ _ _ is refl refl));
      numbered = refused.numbered;
    }

pub load_files-requires-clause-few : goal.load_files-requires-clause-few
load_files-requires-clause-few g c =
    let enough = c.in-Ok.ensures.read.enough in
    let few = c.known.ensures.checked.begun.few_processes in
    omega (arith, enough, few, length-map c.args.words.now string_bytes)

pub load_files-requires-clause-enough : goal.load_files-requires-clause-enough
load_files-requires-clause-enough g c = sym (length-map c.args.words.now string_bytes) ∙ c.in-Ok.ensures.read.enough

pub returns-in-Ok-load_files : goal.returns-in-Ok-load_files
returns-in-Ok-load_files g c =
    let done = c.in-Ok.ensures in
    let loads = c.in-Ok-load_files.ensures in
    let words = done.read.enough in
    let enough : length c.args.words.now ≡ c.in-Ok.read.0.processes = sym (length-map c.args.words.now string_bytes) ∙ words in
    record {
      files = record { as_told = loads.files.as_told ∙ done.files.as_told; files = loads.files.files ∙ done.files.files };
      later = later-then _ _ _ done.later loads.later;
      kept = loads.kept ∙ done.kept;
      ok = λ told.
          loaded-files g.P.FileForm.given (g.F.Shelf.file c.args.shelf.now) c.args.name.now (words_of c.args.words.now) (named_book c.in-Ok.read.0 c.in-Ok.read.1) _ (done.read.read told)
          words (rw (done.files.files) at (loads.ok (done.files.as_told ∙ told)));
      spelled = λ told. record {
        book = done.read.spelled told;
        files = record {
          enough = words;
          count = length-contents_of c.in-Ok-load_files.files.items ∙ loads.count ∙ enough;
          each = rw (done.files.files) at (loads.spelled (done.files.as_told ∙ told));
        };
      };
      book = c.known.ensures.checked;
      names = done.read.names;
      known = loads.known;
      count = loads.count ∙ enough;
      given = enough;
      err = tt;
      reached = λ file is. absurd (made-refused _ _ is);
      numbered = tt;
    }

pub returns-in-Err-load_files : goal.returns-in-Err-load_files
returns-in-Err-load_files g c =
    let done = c.in-Ok.ensures in
    let refused = c.in-Err-load_files.ensures in
    let words = done.read.enough in
    record {
      files = record { as_told = refused.files.as_told ∙ done.files.as_told; files = refused.files.files ∙ done.files.files };
      later = later-then _ _ _ done.later refused.later;
      kept = tt;
      ok = λ told. tt;
      spelled = λ told. tt;
      book = tt;
      names = tt;
      known = tt;
      count = tt;
      given = tt;
      err =
          MayRefuse-whole _ _ _ (all_loaded g.P.FileForm.given (g.F.Shelf.file c.args.shelf.now) c.args.name.now (words_of c.args.words.now)) _ _ c.in-Err-load_files.refusal
          (λ told refusal. loaded-refused g.P.FileForm.given (g.F.Shelf.file c.args.shelf.now) c.args.name.now (words_of c.args.words.now) (named_book c.in-Ok.read.0 c.in-Ok.read.1) c.in-Err-load_files.refusal
          (done.read.read told) words refusal)
          (rw (done.files.as_told, done.files.files, done.kept) at refused.err);
      reached = λ file is.
          MayReach-file g.P.FileForm.given _ (g.F.Shelf.file c.args.shelf.now) c.args.name.now (words_of c.args.words.now) (named_book c.in-Ok.read.0 c.in-Ok.read.1) file done.read.read
          words ((rw (done.files.as_told, done.files.files) at refused.file file) (ap Err (refusal_of _ _ _ _ is refl refl)));
      numbered = refused.numbered;
    }
