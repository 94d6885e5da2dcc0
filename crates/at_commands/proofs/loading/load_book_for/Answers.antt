use Rattle.std.proofs.Common.{◌≡◌, ◌∙◌, ap, refl, arith, length, Err}
use Rattle.at_commands.proofs.Prelude.{length-map, words_of, all_loaded, book_loaded, named_book}
use Rattle.std.specs.Prelude.{string_bytes}
use Rattle.at_commands.proofs.Laws.FilesLoaded.{MayReach-book, loaded-count}
use Rattle.at_commands.proofs.Laws.MayRefuse.{MayRefuse-whole, made-refused, refusal_of, usage-read_fault}
use Rattle.at_commands.proofs.loading.load_book_for.Goals as goal

pub returns-in-Err : goal.returns-in-Err
returns-in-Err g c =
    let refused = c.in-Err.ensures in
    record {
      files = refused.files;
      later = refused.later;
      kept = tt;
      read = tt;
      err = MayRefuse-whole g.P.FileForm.kind _ (book_loaded (g.F.Shelf.file c.args.shelf.now) c.args.name.now)
          (all_loaded g.P.FileForm.given (g.F.Shelf.file c.args.shelf.now) c.args.name.now (words_of c.args.words.now)) _ _ c.in-Err.refusal
          (λ told refusal. rw refusal refl) (refused.err g.P.FileForm.kind);
      reached = λ file is. MayReach-book g.P.FileForm.given _ (g.F.Shelf.file c.args.shelf.now) c.args.name.now (words_of c.args.words.now) file (refused.file file (ap Err (refusal_of _ _ _ _ is refl refl)));
      numbered = refused.numbered (length c.args.words.now);
    }

pub returns-then-given-from : goal.returns-then-given-from
returns-then-given-from g c =
    let done = c.in-Ok.ensures in
    record {
      files = done.files;
      later = done.later;
      kept = tt;
      read = tt;
      err = (
        done.kept,
        λ told. loaded-count g.P.FileForm.given (g.F.Shelf.file c.args.shelf.now) c.args.name.now (words_of c.args.words.now) (named_book c.in-Ok.read.0 c.in-Ok.read.1) c.processes-wanted.result _
            (done.ok told) (length-map c.args.words.now string_bytes) (omega arith) (λ same. c.if-given-from.true (omega arith)),
      );
      reached = λ file is. absurd (usage-read_fault _ file _ refl is);
      numbered = (omega arith, λ same. c.if-given-from.true (omega arith));
    }

pub returns : goal.returns
returns g c =
    let done = c.in-Ok.ensures in
    let enough : length c.args.words.now ≡ c.in-Ok.read.0.processes = omega arith in
    record {
      files = done.files;
      later = done.later;
      kept = done.kept;
      read = record {
        names = done.names;
        enough = length-map c.args.words.now string_bytes ∙ enough;
        read = done.ok;
        spelled = done.spelled;
      };
      err = tt;
      reached = λ file is. absurd (made-refused _ _ is);
      numbered = tt;
    }
