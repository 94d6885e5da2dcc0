use Rattle.std.proofs.Common.{Ok, ap, inr}
use Rattle.at_commands.proofs.Prelude.{contents_of, named_book}
use Rattle.at_commands.proofs.Laws.SpelledLoaded.{IsPlayable-each}
use Rattle.at_commands.proofs.verifying.VerifyingFurther.text.Goals as goal

pub verify-requires-clause-files : goal.verify-requires-clause-files
verify-requires-clause-files c =
    let loaded = c.args.loaded in
    rw c.as_slice-files.ensures.value (IsPlayable-each (named_book loaded.book loaded.names) (contents_of loaded.files.items) c.requires.loaded.known)

pub count_calls-requires-clause-calls : goal.count_calls-requires-clause-calls
count_calls-requires-clause-calls c =
    let loaded = c.args.loaded in
    let playable = IsPlayable-each (named_book loaded.book loaded.names) (contents_of loaded.files.items) c.requires.loaded.known in
    rw c.as_slice-files.ensures.value (λ k d below. (playable k d below).few)

pub returns-in-No-clause-err : goal.returns-in-No-clause-err
returns-in-No-clause-err c =
    let is = ap Ok c.in-No.is in
    inr (
      tt,
      (
        rw (c.as_slice-files.ensures.value, c.as_slice.ensures.value) at (c.in_ok-line.ensures.first c.in-No.line c.in-No.expected is),
        rw (c.as_slice-files.ensures.value, c.as_slice.ensures.value) at (c.in_ok-line.ensures.expected c.in-No.line c.in-No.expected is),
      ),
    )
