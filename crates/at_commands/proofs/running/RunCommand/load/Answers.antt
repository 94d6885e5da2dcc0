use Rattle.std.proofs.Common.{◌≡◌, ◌∙◌, ⊎_elim, ap, length, string_bytes, sym, subst, Result, Ok, Err, IfErr}
use Rattle.at_commands.proofs.Prelude.{length-contents_of, length-map}
use Rattle.at_commands.proofs.running.RunCommand.load.Goals as goal

-- what is so of every refusal is so of this one
at_refusal : {A E : Type 0} (r : Result A E) (P : E → Type 0) (refusal : E) → r ≡ Err refusal → IfErr r P → P refusal
at_refusal (Ok x) P refusal is each = absurd (cc)
at_refusal (Err x) P refusal is each = let same : x ≡ refusal = cc in subst P same each

pub returns-in-Err-files_first-clause-err : goal.returns-in-Err-files_first-clause-err
returns-in-Err-files_first-clause-err g c =
    let first = c.in-Ok.ensures in
    let refused = c.open_and_load-opened.ensures in
    let refusal = c.in-Err-files_first.refusal in
    ⊎_elim
    (λ is.
    let may = at_refusal c.open_and_load-opened.result.1 _ refusal is refused.err in
    let numbered = at_refusal c.open_and_load-opened.result.1 _ refusal is refused.numbered in
    record {
      may = rw (first.files.as_told, first.files.files, first.kept) at may;
      reached = λ file same. rw (first.files.as_told, first.files.files) at (refused.reached file (is ∙ ap Err same));
      numbered = rw (length-map c.args.self.now.form.files.now string_bytes) numbered;
    })
    (λ none. rw none.2 (record { may = tt; reached = λ file same. absurd (cc); numbered = tt }))
    c.in-Err-files_first.ensures.refused

pub returns-clause-loads : goal.returns-clause-loads
returns-clause-loads g c =
    let first = c.in-Ok.ensures in
    let read = c.open_and_load-opened.ensures in
    let is = c.in-Ok-files_first.ensures.both.1 in
    let files = c.in-Ok-files_first.both.1 in
    let count : length files.items ≡ c.in-Ok.read.0.processes = rw is at read.count in
    record {
      faultless = (rw is at read.kept) ∙ first.kept;
      holds = record {
        book = c.known.ensures.checked;
        names = first.read.names;
        given = first.read.enough;
        count = length-contents_of files.items ∙ count ∙ sym first.read.enough;
        known = rw is at read.known;
      };
      spelled = λ told. rw (is, first.files.files) at (read.spelled (first.files.as_told ∙ told));
    }
