use Rattle.std.proofs.Common.{Err, ap, refl, arith}
use Rattle.at_commands.proofs.Prelude.{common_steps, book_loaded, fetched}
use Rattle.at_commands.proofs.Laws.MayRefuse.{MayRefuse-whole, book-read_fault, made-refused, memory-read_fault, refusal_of}
use Rattle.at_commands.proofs.loading.fetch_book.Goals as goal

pub returns-in-Err : goal.returns-in-Err
returns-in-Err g c =
    let refused = c.in-Err.ensures in
    record {
      files = refused.files;
      later = refused.later;
      kept = tt;
      ok = λ told. tt;
      spelled = λ told. tt;
      names = tt;
      err = λ kind.
          MayRefuse-whole kind _ (fetched (g.F.Shelf.file c.args.shelf.now c.args.name.now) 0) (book_loaded (g.F.Shelf.file c.args.shelf.now) c.args.name.now) _ _ c.in-Err.refusal
          (λ told refusal. rw refusal refl) (refused.err kind);
      file = λ file is. refused.file file (ap Err (refusal_of _ _ _ _ is refl refl));
      numbered = λ files. refused.numbered files (omega arith);
    }

pub returns-in-Ok-read_book : goal.returns-in-Ok-read_book
returns-in-Ok-read_book g c =
    let fetches = c.in-Ok.ensures in
    record {
      files = fetches.files;
      later = fetches.later;
      kept = fetches.kept;
      ok = grind (arith, common_steps);
      spelled = grind (arith, common_steps);
      names = grind (arith, common_steps);
      err = λ kind. tt;
      file = λ file is. absurd (made-refused _ _ is);
      numbered = λ files. tt;
    }

pub returns-in-Err-Bad : goal.returns-in-Err-Bad
returns-in-Err-Bad g c =
    let fetches = c.in-Ok.ensures in
    record {
      files = fetches.files;
      later = fetches.later;
      kept = tt;
      ok = λ told. tt;
      spelled = λ told. tt;
      names = tt;
      err = λ kind. grind (arith, common_steps);
      file = λ file is. absurd (book-read_fault _ _ file _ refl is);
      numbered = λ files. tt;
    }

pub returns : goal.returns
returns g c =
    let fetches = c.in-Ok.ensures in
    record {
      files = fetches.files;
      later = fetches.later;
      kept = tt;
      ok = λ told. tt;
      spelled = λ told. tt;
      names = tt;
      err = λ kind. tt;
      file = λ file is. absurd (memory-read_fault file _ refl is);
      numbered = λ files. tt;
    }
