-- The journal of a run that is closed.
use Rattle.std.proofs.Common.{◌≡◌, ℕ, ◌<◌, List, length, get_or, map, ap, subst, ◌∙◌, arith}
use Rattle.at_stepper.proofs.Prelude.{get_or-map, length-map, Publication, IsPrefix, publications_of, calls_in, AreTimed, CallTimes, IsLinearizable, BookTerms, Call, Line, BoardTerms, log_published, Coherent, KeepsTime, journal_lines, Receipt, ClosedTerms, HasAllLogs, PassTerms, CallerTerms, IsJournalOf, RunsTo, times_of, goes_on, starts, caller_passes, StepperTerms, files_of, TurnMade}
use Rattle.at_stepper.proofs.CountedTurns.{IsMadeByTurns-RunsTo}
use Rattle.at_stepper.proofs.TimedLaws.{AreTimed-RunsTo}

-- a run is of the book and the files of the new one that led to it
pub book-RunsTo : (b : BookTerms) (files : List (List Call)) (turns : List TurnMade) (s : StepperTerms) → RunsTo b files turns s → s.ledger.book ≡ b
book-RunsTo b files turns s (starts new is) = is.book_is
book-RunsTo b files turns s (goes_on earlier before after t turned runs one made) =
    ap (λ (l : BoardTerms). l.book) one.ledger ∙ book-RunsTo b files earlier before runs

pub files-RunsTo : (b : BookTerms) (files : List (List Call)) (turns : List TurnMade) (s : StepperTerms) → RunsTo b files turns s → files_of s ≡ files
files-RunsTo b files turns s (starts new is) = is.callers.calls
files-RunsTo b files turns s (goes_on earlier before after t turned runs one made) = one.files ∙ files-RunsTo b files earlier before runs

module _ (s : StepperTerms) (closed : ClosedTerms) (lines : List Line) (logs : HasAllLogs (caller_passes s.callers) closed)
    (coherent : Coherent closed.book closed.closing) (book_is : closed.book ≡ s.ledger.book)
    (receipts_are : closed.closing.receipts ≡ map (λ (c : CallerTerms). c.receipts) s.callers) (made : calls_in closed.closing ≡ files_of s)
    (lines_are : lines ≡ journal_lines closed.closing) (published_is : logs.state.published ≡ s.published)
    (linearizable : (times : CallTimes) → AreTimed closed.closing times → IsLinearizable closed.book (calls_in closed.closing) times lines) where
  seen_in_list : (p : ℕ) (d : CallerTerms) → p < length s.callers → IsPrefix (get_or s.callers p d).pass.knows.seen logs.state.published
  seen_in_list p d within =
      subst (λ (pass : PassTerms). IsPrefix pass.knows.seen logs.state.published)
      (get_or-map (λ (c : CallerTerms). c.pass) s.callers p d d.pass within)
      (logs.seen p d.pass (omega (arith, within, length-map s.callers (λ (c : CallerTerms). c.pass))))

  timed_turns : (b : BookTerms) (files : List (List Call)) (turns : List TurnMade) → RunsTo b files turns s → AreTimed closed.closing (times_of turns)
  timed_turns b files turns runs = AreTimed-RunsTo b files turns s closed.closing logs.state.published runs receipts_are seen_in_list logs.in_time

  logs_published : (p : ℕ) → p < length s.callers → log_published closed.closing p ≡ publications_of p s.published
  logs_published p within =
      logs.logs p (omega (
        arith,
        within,
        coherent.receipts,
        ap (λ (rs : List (List Receipt)). length rs) receipts_are,
        length-map s.callers (λ (c : CallerTerms). c.receipts),
      ))
      ∙ ap (publications_of p) published_is

  pub IsJournalOf-closed : IsJournalOf s lines
  IsJournalOf-closed = record {
    closing = closed.closing;
    coherent = subst (λ (b : BookTerms). Coherent b closed.closing) book_is coherent;
    receipts = receipts_are;
    logs = logs_published;
    in_time = subst (λ (list : List Publication). KeepsTime list closed.closing) published_is logs.in_time;
    lines_are = lines_are;
    scheduled = λ b files turns runs. IsMadeByTurns-RunsTo b files turns s closed.closing runs receipts_are;
    timed = timed_turns;
    linearizable = λ b files turns runs.
        subst (λ (x : BookTerms). IsLinearizable x files (times_of turns) lines) (book_is ∙ book-RunsTo b files turns s runs)
        (subst (λ (fs : List (List Call)). IsLinearizable closed.book fs (times_of turns) lines) (made ∙ files-RunsTo b files turns s runs)
        (linearizable (times_of turns) (timed_turns b files turns runs)));
  }
