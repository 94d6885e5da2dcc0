use Rattle.at_commands.proofs.Prelude.{common_steps, length-map, take_all, All-push, contents_of, contents_of-nil, contents_of-pushed, length-contents_of, words_of, IsSpelled, named_book}
use Rattle.std.proofs.Common.{◌≡◌, ◌∙◌, ◌<◌, [], ◌∷◌, Err, ap, get_or, length, refl, string_bytes, sym, take, arith, length-append}
use Rattle.at_commands.proofs.Laws.FilesLoaded.{EachSpells-push, files_loaded-nil, files_loaded-refused_at, files_loaded-take_more, get_or-words_of, same_length}
use Rattle.at_commands.proofs.Laws.MayRefuse.{MayRefuse-whole, later-kept, made-refused, memory-read_fault, refusal_of}
use Rattle.at_commands.proofs.loading.load_files.Goals as goal

pub loop-process-init : goal.loop-process-init
loop-process-init g c =
    let none = contents_of-nil c.new-files.result.items c.new-files.ensures.items in
    let empty = same_length _ _ none in
    record {
      same = record { as_told = refl; files = refl };
      kept = refl;
      prefix = λ told. rw none (files_loaded-nil (g.P.FileForm.given (named_book c.args.book.now c.args.names.now)) (g.F.Shelf.file c.args.shelf.now));
      spelled = λ told p below. absurd (omega (arith, empty));
      known = λ k d below. absurd (omega (arith, empty));
      count = same_length _ _ c.new-files.ensures.items;
    }

pub loop-process-preserved : goal.loop-process-preserved
loop-process-preserved g c =
    let before = c.loop-process.invariant in
    let words = words_of c.args.words.now in
    let given = g.P.FileForm.given (named_book c.args.book.now c.args.names.now) in
    let items = c.in-Ok.items.items in
    let spells = g.P.FileForm.spells (named_book c.args.book.now c.args.names.now) in
    let within : c.loop-process.process < length c.args.words.now = omega arith in
    let within_words : c.loop-process.process < length words = rw length-map within in
    let name : get_or words c.loop-process.process [] ≡ c.as_str.result.now =
    get_or-words_of c.args.words.now c.loop-process.process c.index-words-process.result within c.index-words-process.is ∙ sym c.as_str.ensures.value in
    let done = c.in-Ok.ensures in
    let pushed = contents_of-pushed c.push.new.self.items c.loop-process.files.items c.in-Ok.items c.in-Ok-push.ensures.items in
    let count : length (contents_of c.loop-process.files.items) ≡ c.loop-process.process = length-contents_of c.loop-process.files.items ∙ before.count in
    record {
      same = record { as_told = done.files.as_told ∙ before.same.as_told; files = done.files.files ∙ before.same.files };
      kept = done.kept ∙ before.kept;
      prefix = λ told. rw pushed
          (files_loaded-take_more given (g.F.Shelf.file c.args.shelf.now) words c.loop-process.process (contents_of c.loop-process.files.items) items within_words
          (before.prefix told) (rw (before.same.files, ← name) at (done.ok (before.same.as_told ∙ told))));
      spelled = λ told. rw pushed
          (EachSpells-push spells (g.F.Shelf.file c.args.shelf.now) words (contents_of c.loop-process.files.items) items
          (before.spelled told) (rw (count, name, ← before.same.files) (done.spelled (before.same.as_told ∙ told))));
      known = rw pushed (All-push (IsSpelled spells) (contents_of c.loop-process.files.items) items before.known done.known);
      count = same_length _ _ c.in-Ok-push.ensures.items
          ∙ length-append c.loop-process.files.items (c.in-Ok.items ∷ []) ∙ omega (arith, before.count);
    }

pub returns-in-Err : goal.returns-in-Err
returns-in-Err g c =
    let before = c.loop-process.invariant in
    let refused = c.in-Err.ensures in
    let words = words_of c.args.words.now in
    let given = g.P.FileForm.given (named_book c.args.book.now c.args.names.now) in
    let within : c.loop-process.process < length c.args.words.now = omega arith in
    let within_words : c.loop-process.process < length words = rw length-map within in
    let name : get_or words c.loop-process.process [] ≡ c.as_str.result.now =
    get_or-words_of c.args.words.now c.loop-process.process c.index-words-process.result within c.index-words-process.is ∙ sym c.as_str.ensures.value in
    record {
      files = record { as_told = refused.files.as_told ∙ before.same.as_told; files = refused.files.files ∙ before.same.files };
      later = rw before.kept at refused.later;
      kept = tt;
      ok = λ told. tt;
      count = tt;
      spelled = λ told. tt;
      known = tt;
      err =
          MayRefuse-whole _ _ _ _ _ _ c.in-Err.refusal
          (λ told refusal. files_loaded-refused_at given (g.F.Shelf.file c.args.shelf.now) words c.loop-process.process _ c.in-Err.refusal within_words (before.prefix told) refusal)
          (rw (before.same.as_told, before.same.files, before.kept, ← name) at refused.err);
      file = λ file is. (
        c.loop-process.process,
        (
          refused.file file (ap Err (refusal_of _ _ _ _ is refl refl)),
          within_words,
          λ told. record { there = within_words; first = contents_of c.loop-process.files.items; good = before.prefix told },
        ),
      );
      numbered = refused.numbered (length c.args.words.now) within;
    }

pub returns-in_default : goal.returns-in_default
returns-in_default g c =
    let before = c.loop-process.invariant in
    let done = c.in-Ok.ensures in
    record {
      files = record { as_told = done.files.as_told ∙ before.same.as_told; files = done.files.files ∙ before.same.files };
      later = rw before.kept at done.later;
      kept = tt;
      ok = λ told. tt;
      count = tt;
      spelled = λ told. tt;
      known = tt;
      err = tt;
      file = λ file is. absurd (memory-read_fault file _ refl is);
      numbered = tt;
    }

pub returns : goal.returns
returns g c =
    let all = c.loop-process.invariant in
    let whole : c.loop-process.process ≡ length c.args.words.now = omega arith in
    let words : take c.loop-process.process (words_of c.args.words.now) ≡ words_of c.args.words.now =
    take_all c.loop-process.process (words_of c.args.words.now) (let size = length-map c.args.words.now string_bytes in omega (arith, size, whole)) in
    record {
      files = all.same;
      later = later-kept _ _ all.kept;
      kept = all.kept;
      ok = λ told. rw words at (all.prefix told);
      count = all.count ∙ whole;
      spelled = all.spelled;
      known = all.known;
      err = tt;
      file = λ file is. absurd (made-refused _ _ is);
      numbered = tt;
    }

pub load_file-requires-clause-of : goal.load_file-requires-clause-of
load_file-requires-clause-of g c = omega (arith, c.requires.enough)

pub load_file-requires-clause-process : goal.load_file-requires-clause-process
load_file-requires-clause-process g c = grind (arith, common_steps)

pub bounds-words-process : goal.bounds-words-process
bounds-words-process g c = grind (arith, common_steps)

pub overflow_cast-process : goal.overflow_cast-process
overflow_cast-process g c = grind (arith, common_steps)
