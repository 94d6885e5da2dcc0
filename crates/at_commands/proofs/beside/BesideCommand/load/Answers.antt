use Rattle.std.proofs.Common.{◌≡◌, ◌∙◌, ◌+◌, ℕ, Err, ap, arith, inr, string_bytes, subst, sym}
use Rattle.at_commands.proofs.Prelude.{length-map, MayRefuseOf, fetched, loaded_shown}
use Rattle.at_commands.specs.Forms.{further_loaded, further_number}
use Rattle.at_commands.specs.Words.{FurtherForm, further_shown}
use Rattle.at_commands.proofs.Laws.Forms.{further-unfetched, further-unread}
use Rattle.at_commands.proofs.Laws.MayRefuse.{HasFurtherNumbers-unfetched, MayRefuse-whole}
use Rattle.at_commands.proofs.beside.BesideCommand.load.Goals as goal

pub returns-in-Err-fetch_file-clause-err : goal.returns-in-Err-fetch_file-clause-err
returns-in-Err-fetch_file-clause-err g c =
    let loads = c.in-Ok.ensures in
    let refused = c.in-Err-fetch_file.ensures in
    let files = g.F.Shelf.file c.args.shelf.now in
    let form : FurtherForm = further_shown c.args.self.now.form in
    let number = c.processes-number.result + 1 in
    let words = length-map c.args.self.now.form.files.now string_bytes in
    let last : number ≡ further_number form = omega (arith, c.processes-number.ensures, loads.given, words) in
    record {
      may = MayRefuse-whole g.X.Files.FileForm.kind _ (fetched (files form.further) number) (further_loaded g.X.Files.FileForm.given g.X.Further.terms.given files form) _ _ c.in-Err-fetch_file.refusal
          (λ told refusal. further-unfetched g.X.Files.FileForm.given g.X.Further.terms.given files form (loaded_shown c.in-Ok.loaded) c.in-Err-fetch_file.refusal number last (loads.ok told) refusal)
          (rw (loads.files.as_told, loads.files.files, loads.kept) at (refused.err g.X.Files.FileForm.kind));
      reached = λ file is. inr (record {
        named = refused.file file (ap Err is) ∙ last;
        reached = λ told. (loaded_shown c.in-Ok.loaded, loads.ok told);
      });
      numbered = HasFurtherNumbers-unfetched _ _ c.in-Err-fetch_file.refusal (omega (arith, c.processes-number.ensures, loads.given, words)) refused.why;
    }

pub returns-in-Err-read-clause-err : goal.returns-in-Err-read-clause-err
returns-in-Err-read-clause-err g c =
    let loads = c.in-Ok.ensures in
    let fetches = c.in-Ok-fetch_file.ensures in
    let reads = c.in-Err-read.ensures.err in
    let files = g.F.Shelf.file c.args.shelf.now in
    let form : FurtherForm = further_shown c.args.self.now.form in
    let number = c.processes-number.result + 1 in
    let words = length-map c.args.self.now.form.files.now string_bytes in
    let last : number ≡ further_number form = omega (arith, c.processes-number.ensures, loads.given, words) in
    let kept = fetches.kept ∙ loads.kept in
    let read = g.X.Further.terms.given (loaded_shown c.in-Ok.loaded) c.in-Ok-fetch_file.bytes.items in
    record {
      may = MayRefuse-whole g.X.Files.FileForm.kind (g.F.Shelf.tells c.args.shelf.now) read (further_loaded g.X.Files.FileForm.given g.X.Further.terms.given files form) _ _ c.in-Err-read.refusal
          (λ told bad. further-unread g.X.Files.FileForm.given g.X.Further.terms.given files form (loaded_shown c.in-Ok.loaded) c.in-Ok-fetch_file.bytes.items c.in-Err-read.refusal number last (loads.ok told)
          (rw loads.files.files at (fetches.ok (loads.files.as_told ∙ told))) bad)
          (subst (λ (n : ℕ). MayRefuseOf g.X.Files.FileForm.kind (g.F.Shelf.tells c.args.shelf.now) read (g.F.Shelf.faults c.args.shelf.now) n c.in-Err-read.refusal)
          (sym kept) (reads.may (g.F.Shelf.tells c.args.shelf.now) (g.F.Shelf.faults c.args.shelf.now)));
      reached = λ file is. absurd (reads.read file is);
      numbered = reads.numbered _;
    }
