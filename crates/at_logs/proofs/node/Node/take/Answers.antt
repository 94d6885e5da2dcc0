use Rattle.std.proofs.Common.{◌≡◌, ℕ, List, Result, subst}
use Rattle.std.specs.Prelude.{IfOk, IfErr}
use Rattle.at_logs.proofs.Prelude.{Answer, Taken, EntryTerms, Fits, IsAnswerAt, NodeTerms, SpellsEntry, entry_book, shown, tail_of}
use Rattle.at_logs.proofs.AnswerLaws.{IsOneAnswer-IsAnswerAt}
use Rattle.at_logs.proofs.CallLaws.{HasAnswered-passed, HasAnswered-taken}
use Rattle.at_logs.proofs.node.Node.take.Goals.{in-NotAnEntry, in_default}
use Rattle.at_logs.proofs.node.Node.take.Goals as goal

pub returns-in_ok-read-in-Ok-clause-left : goal.returns-in_ok-read-in-Ok-clause-left
returns-in_ok-read-in-Ok-clause-left c = λ messages history.
    let n : NodeTerms = c.args.self.now in
    let log : ℕ = c.args.log in
    let bytes : List ℕ = c.args.bytes.now in
    let e : EntryTerms = c.in-Ok.entry in
    let fits : Fits (entry_book (shown n)) (tail_of (shown n) log) log c.args.place bytes e =
    subst (λ (r : Result EntryTerms Answer). IfOk r (Fits (entry_book (shown n)) (tail_of (shown n) log) log c.args.place bytes)) c.in-Ok.is c.in_ok-entry.ensures.fits in
    let only : (other : EntryTerms) → SpellsEntry (entry_book (shown n)) log bytes other → other ≡ e =
    subst (λ (r : Result EntryTerms Answer). IfOk r (λ e. (other : EntryTerms) → SpellsEntry (entry_book (shown n)) log bytes other → other ≡ e)) c.in-Ok.is c.in_ok-entry.ensures.only in
    HasAnswered-taken n c.read.new.self log c.args.place bytes e messages c.requires.log_in (IsOneAnswer-IsAnswerAt (shown n) log c.args.place bytes Taken (e, fits)) only
    (c.in_ok-read-in-Ok.ensures.ok messages history)

pub returns-then-matches-clause-left : goal.returns-then-matches-clause-left
returns-then-matches-clause-left c = λ messages history.
    let n : NodeTerms = c.args.self.now in
    let at : IsAnswerAt (shown n) c.args.log c.args.place c.args.bytes.now c.in-Err.answer =
    subst (λ (r : Result EntryTerms Answer). IfErr r (IsAnswerAt (shown n) c.args.log c.args.place c.args.bytes.now)) c.in-Err.is c.in_ok-entry.ensures.answer in
    elim c.match-matches.branch [
      | in-NotAnEntry w ↦
          HasAnswered-passed n c.pass_over.new.self c.args.log c.args.place c.args.bytes.now c.in-Err.answer messages c.requires.log_in w.in-NotAnEntry.is at c.pass_over.ensures.passed
          (c.pass_over.ensures.history messages history)
      | in_default w ↦ cc
    ]
