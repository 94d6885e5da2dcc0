-- With what some report goes on where a text parts from the reports, and the line that was expected there.
use Rattle.std.proofs.Common.{◌≡◌, ℕ, ◌+◌, ◌-◌, ◌<◌, ◌≤◌, List, [], ◌∷◌, ◌++◌, length, take, drop, sum, sum_by, sym, ap, subst, ◌∙◌, arith, append_assoc}
use Rattle.at_verify.proofs.Prelude.{append-nil, append_cancel_left, take-add, take-append-drop, BookTerms, LedgerState, opening_state, step, Call, Line, NameList, ReportLine, journal_words, line_text, lines_text, audit_lines, heading_words, IsFirstWord, IsExpected, IsReport, first_lines, newlines, ArePartedAt, GoesOnWith, IsUnmatched, IsUnmatchedAt, IsAcross, IsNextOfProcess, with_made, AreWithinFiles-none, AreWithinFiles-next, all_made, completes, continues-from_cons, continues-from_nil, none_made}
use Rattle.at_verify.proofs.FirstLines.{IsEnded, first_lines-within, newlines-append}
use Rattle.at_verify.proofs.Walking.{IsWalked, ended-line, line-ends, reports_begin, took, tail-cons, tail-nil, tail_text}

-- what a report goes on with where the text has only the first of the expected bytes
goes_on : (b : BookTerms) (names : NameList) (files : List (List Call)) (text expected behind : List ℕ) (at n : ℕ) → IsReport b names files (take at text ++ (expected ++ behind))
    → take n (drop at text) ≡ take n expected → 0 < newlines (take at text) + newlines expected → GoesOnWith b names files text (at + n) (drop n expected)
goes_on b names files text expected behind at n is same lines =
    let cut : take (at + n) text ≡ take at text ++ take n expected = take-add at n text ∙ ap (λ (t : List ℕ). take at text ++ t) same in
    let whole : take n expected ++ drop n expected ≡ expected = take-append-drop n expected in
    let before = ap newlines cut in
    let parts = newlines-append (take at text) (take n expected) in
    let both = newlines-append (take n expected) (drop n expected) in
    let all = ap newlines whole in
    record {
      behind = behind;
      is = subst (IsReport b names files)
          (ap (λ (t : List ℕ). take at text ++ (t ++ behind)) (sym whole) ∙ ap (λ (t : List ℕ). take at text ++ t) (append_assoc (take n expected) (drop n expected) behind)
          ∙ sym (append_assoc (take at text) (take n expected) (drop n expected ++ behind)) ∙ ap (λ (t : List ℕ). t ++ (drop n expected ++ behind)) (sym cut)) is;
      lines = omega arith;
    }

-- the heading, with which every report begins
pub heading-goes_on : (b : BookTerms) (names : NameList) (files : List (List Call)) (text heading : List ℕ) (total n : ℕ) → total ≡ sum_by (length {A = Call}) files
    → heading ≡ line_text (heading_words total) → ArePartedAt text heading n → GoesOnWith b names files text n (drop n heading)
heading-goes_on b names files text heading total n total_is heading_is are =
    let whole = completes files (opening_state b) (none_made files) (AreWithinFiles-none files) in
    let lines : 0 < newlines heading = rw heading_is (line-ends (heading_words total)) in
    let none : 0 + n ≡ n = omega arith in
    subst (λ (k : ℕ). GoesOnWith b names files text k (drop n heading)) none
    (goes_on b names files text heading (tail_text names (opening_state b) whole.lines) 0 n
    (reports_begin b names files heading total total_is heading_is whole.lines whole.continues) are.same (omega arith))

-- the heading has a line that ends
pub heading-lines : (text heading : List ℕ) (total n : ℕ) → heading ≡ line_text (heading_words total) → take n text ≡ heading → 0 < newlines (take n text)
heading-lines text heading total n heading_is cut = rw (cut, heading_is) (line-ends (heading_words total))

-- more of a text has no fewer lines
pub lines-more : (text : List ℕ) (at n : ℕ) → 0 < newlines (take at text) → 0 < newlines (take (at + n) text)
lines-more text at n lines =
    let cut = ap newlines (take-add at n text) in
    let parts = newlines-append (take at text) (take n (drop at text)) in
    omega arith

-- where the text names no process that has a call left: nothing
pub missing-goes_on : (b : BookTerms) (names : NameList) (files : List (List Call)) (text : List ℕ) (at : ℕ) (s : LedgerState) (made : List ℕ)
    → IsWalked b names files text at s made → 0 < newlines (take at text) → GoesOnWith b names files text at []
missing-goes_on b names files text at s made walked lines =
    let whole = completes files s made walked.are in
    record { behind = tail_text names s whole.lines; is = walked.reports whole.lines whole.continues; lines = omega arith }

-- the line of the process that the text names
pub line-goes_on : (b : BookTerms) (names : NameList) (files : List (List Call)) (text expected : List ℕ) (at n : ℕ) (s : LedgerState) (made : List ℕ) (l : Line)
    → IsWalked b names files text at s made → IsNextOfProcess files s made l → expected ≡ line_text (journal_words names l)
    → ArePartedAt (drop at text) expected n → 0 < newlines (take at text) → GoesOnWith b names files text (at + n) (drop n expected)
line-goes_on b names files text expected at n s made l walked next expected_is are lines =
    let whole = completes files (step s l.process l.call).ledger (with_made made l.process) (AreWithinFiles-next files s made l walked.are next) in
    let after : List ℕ = tail_text names (step s l.process l.call).ledger whole.lines in
    goes_on b names files text expected (tail_text names (step s l.process l.call).ledger whole.lines) at n
    (subst (IsReport b names files)
    (ap (λ (t : List ℕ). take at text ++ t)
    (tail-cons names s l whole.lines ∙ ap (λ (t : List ℕ). t ++ tail_text names (step s l.process l.call).ledger whole.lines) (sym expected_is)))
    (walked.reports (l ∷ whole.lines) (continues-from_cons files s made l whole.lines next whole.continues)))
    are.same (omega arith)

-- the audit, with which every report ends
pub audit-goes_on : (b : BookTerms) (names : NameList) (files : List (List Call)) (text audit : List ℕ) (at n : ℕ) (s : LedgerState) (made : List ℕ)
    → IsWalked b names files text at s made → sum made ≡ sum_by (length {A = Call}) files → audit ≡ lines_text (audit_lines names s)
    → ArePartedAt (drop at text) audit n → 0 < newlines (take at text) → GoesOnWith b names files text (at + n) (drop n audit)
audit-goes_on b names files text audit at n s made walked all audit_is are lines =
    let continues = continues-from_nil files s made (all_made files made walked.are all) in
    goes_on b names files text audit [] at n
    (subst (IsReport b names files) (ap (λ (t : List ℕ). take at text ++ t) (tail-nil names s ∙ sym audit_is ∙ sym (append-nil audit))) (walked.reports [] continues))
    are.same (omega arith)

-- the line that was expected
pub expected-line : (b : BookTerms) (names : NameList) (files : List (List Call)) (text rest : List ℕ) (n line : ℕ) (e : ReportLine) → GoesOnWith b names files text n rest
    → line ≡ newlines (take n text) + 1 → IsAcross (take n text) rest e → IsExpected b names files text line e
expected-line b names files text rest n line e goes line_is across =
    let before : line - 1 ≡ newlines (take n text) = omega arith in
    let same : first_lines (newlines (take n text)) text ≡ first_lines (newlines (take n text)) (take n text) =
    ap (first_lines (newlines (take n text))) (sym (take-append-drop n text)) ∙ first_lines-within (take n text) (drop n text) (newlines (take n text)) (omega arith) in
    record {
      report = take n text ++ (rest ++ goes.behind);
      is = goes.is;
      bytes = across.bytes;
      line_is = ap (λ (k : ℕ). first_lines k (take n text ++ (rest ++ goes.behind))) line_is ∙ across.line_is goes.behind
          ∙ ap (λ (t : List ℕ). t ++ across.bytes ++ 10 ∷ []) (sym same ∙ ap (λ (k : ℕ). first_lines k text) (sym before));
      kept = across.kept;
    }

-- whole lines of a text, one more at a time
pub ended-heading : (text heading : List ℕ) (total n : ℕ) → heading ≡ line_text (heading_words total) → take n text ≡ heading → IsEnded (take n text)
ended-heading text heading total n heading_is cut = subst IsEnded (sym (cut ∙ heading_is)) (ended-line [] (heading_words total))

pub ended-more : (text expected : List ℕ) (at n : ℕ) (words : List (List ℕ)) → at ≤ length text → ArePartedAt (drop at text) expected n → length expected ≤ n
    → expected ≡ line_text words → IsEnded (take (at + n) text)
ended-more text expected at n words within are all is =
    subst IsEnded (sym (took text expected at n within are all ∙ ap (λ (t : List ℕ). take at text ++ t) is)) (ended-line (take at text) words)

-- where no line is told, no report goes on with the text's next word
pub unmatched : (b : BookTerms) (names : NameList) (files : List (List Call)) (text : List ℕ) (n line : ℕ) → IsUnmatchedAt b names files text n
    → line ≡ newlines (take n text) + 1 → IsUnmatched b names files text line
unmatched b names files text n line at line_is =
    let before : line - 1 ≡ newlines (take n text) = omega arith in
    let whole : first_lines (line - 1) text ≡ take n text =
    ap (λ (k : ℕ). first_lines k text) before ∙ ap (first_lines (newlines (take n text))) (sym (take-append-drop n text))
    ∙ first_lines-within (take n text) (drop n text) (newlines (take n text)) (omega arith) ∙ at.ended in
    record {
      none = λ report own rest word is text_is report_is is_word first other.
          let here : own ≡ drop n text =
          append_cancel_left (take n text) own (drop n text) (ap (λ (t : List ℕ). t ++ own) (sym whole) ∙ sym text_is ∙ sym (take-append-drop n text)) in
          at.none report rest word is (report_is ∙ ap (λ (t : List ℕ). t ++ rest) whole) is_word
          (subst (λ (t : List ℕ). IsFirstWord word t) here first) other;
    }
