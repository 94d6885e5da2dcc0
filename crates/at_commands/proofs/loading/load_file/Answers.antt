use Rattle.std.proofs.Common.{◌+◌, ◌≡◌, ℕ, Err, List, Ok, OnOk, Result, ap, refl, arith}
use Rattle.at_commands.proofs.Prelude.{IfErr-weaker, IfOk-weaker, Status, Word, Giving, fetched, file_loaded, named_book}
use Rattle.at_commands.specs.Loading.{Files}
use Rattle.at_commands.proofs.Laws.MayRefuse.{HasFileNumbers-file, MayRefuse-file, MayRefuse-whole, refusal_of}
use Rattle.at_commands.proofs.loading.load_file.Goals as goal

on_any : {A E : Type 0} (r : Result A E) (P : Type 0) → P → OnOk r P
on_any (Ok x) P p = p
on_any (Err e) P p = tt

file_loaded-fetched : {T : Type 0} (given : Giving T) (files : Files) (process : ℕ) (name : Word) (bytes : List ℕ) (same : Result (List T) Status)
    → fetched (files name) (process + 1) ≡ Ok bytes → given process bytes ≡ same → file_loaded given files process name ≡ same
file_loaded-fetched given files process name bytes same fetch is = rw fetch is

pub returns-in-Err : goal.returns-in-Err
returns-in-Err g c =
    let refused = c.in-Err.ensures in
    record {
      files = refused.files;
      later = refused.later;
      kept = tt;
      ok = λ told. tt;
      spelled = λ told. tt;
      known = tt;
      err =
          MayRefuse-whole g.P.FileForm.kind _ (fetched (g.F.Shelf.file c.args.shelf.now c.args.name.now) (c.args.process + 1))
          (file_loaded (g.P.FileForm.given (named_book c.args.book.now c.args.names.now)) (g.F.Shelf.file c.args.shelf.now) c.args.process c.args.name.now) _ _ c.in-Err.refusal
          (λ told refusal. rw refusal refl) (refused.err g.P.FileForm.kind);
      file = λ file is. refused.file file (ap Err (refusal_of _ _ _ _ is refl refl));
      numbered = λ files below. refused.numbered files (omega (arith, below));
    }

pub returns : goal.returns
returns g c =
    let fetches = c.in-Ok.ensures in
    let reads = c.read.ensures in
    let book = named_book c.args.book.now c.args.names.now in
    let given = g.P.FileForm.given book in
    let files = g.F.Shelf.file c.args.shelf.now in
    let loads = file_loaded-fetched given files c.args.process c.args.name.now c.in-Ok.bytes.items in
    record {
      files = fetches.files;
      later = fetches.later;
      kept = on_any c.read.result _ fetches.kept;
      ok = λ told. IfOk-weaker c.read.result _ _ (λ items is. loads (Ok items.items) (fetches.ok told) is) (rw c.as_slice.ensures.value at reads.ok);
      spelled = λ told. IfOk-weaker c.read.result _ _ (λ items is. record { bytes = c.in-Ok.bytes.items; held = fetches.held told; spelled = is }) (rw c.as_slice.ensures.value at reads.spelled);
      known = IfOk-weaker c.read.result _ _ (λ items is. (c.args.process, c.as_slice.result.now, is)) reads.spelled;
      err = IfErr-weaker c.read.result _ _
          (λ refusal is. MayRefuse-file g.P.FileForm.kind _ (given c.args.process c.in-Ok.bytes.items) _ c.args.process _ _ refusal fetches.kept (λ told refused. loads (Err refusal) (fetches.ok told) refused) is)
          (rw c.as_slice.ensures.value at reads.err);
      file = λ file is. absurd (rw is at reads.err);
      numbered = λ count below. IfErr-weaker c.read.result _ _ (λ refusal is. HasFileNumbers-file g.P.FileForm.kind _ c.args.process count refusal below is) reads.err;
    }
