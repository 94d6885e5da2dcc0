-- The walk over a text: what every report goes on with, and where the text does otherwise.
use Rattle.std.proofs.Common.{◌≡◌, ◌==◌, cond, inl, inr, ℕ, suc, ◌+◌, ◌<◌, ◌≤◌, ◌⊎◌, ⊎_elim, List, [], ◌∷◌, ◌++◌, length, take, drop, get_or, map, sum, sum_by, Some, decimal, refl, sym, ap, subst, ◌∙◌, arith, append_assoc, zero-add}
use Rattle.std.specs.Prelude.{slice_get}
use Rattle.at_verify.proofs.Prelude.{append-nil, first_word-only, join_with_byte, cases_lt, flat_map-append, append_cancel_left, get_or_append_left, length-append, length-drop, length-take-le, take-append-drop, take-append-le, take_all, drop_all, sum_by-append, drop-cons, take-add, take-append-add, BookTerms, LedgerState, opening_state, step, Run, asked_in, last_state, run_from, Call, Line, run_from-cons, run_from-nil, NameList, process_name, IsFirstWord, IsWord, call_words, journal_words, line_text, lines_text, reply_word, audit_lines, heading_words, report_text, IsReport, IsFirstWrong, first_lines, newlines, ArePartedAt, DifferAt, IsUnmatchedAt, PartsAt, AreWithinFiles, IsNextOfProcess, with_made, AreWithinFiles-none, Continues, completes, continues-cons, continues-from_cons, continues-from_nil, continues-whole, length-continues, none_made, sum-none, whole-continues, AreWithinFiles-next, all_made}
use Rattle.at_verify.proofs.FirstLines.{IsEnded, ended, first_byte, first_lines-begin, newlines-append, rest-ends, first_lines-after, first_lines-fewer, first_lines-within, first_word}

-- two next lines of one process are the same

same_line : (l m : Line) → l.process ≡ m.process → l.number ≡ m.number → l.call ≡ m.call → l.reply ≡ m.reply → l ≡ m
same_line l m process number call reply = λ i. record { process = process i; number = number i; call = call i; reply = reply i }

pub next_line-only : (files : List (List Call)) (s : LedgerState) (made : List ℕ) (l m : Line) → IsNextOfProcess files s made l → IsNextOfProcess files s made m → l.process ≡ m.process → l ≡ m
next_line-only files s made l m is other same =
    let number : l.number ≡ m.number = is.number ∙ ap (λ (p : ℕ). get_or made p 0 + 1) same ∙ sym other.number in
    let calls : Some l.call ≡ Some m.call = sym is.call ∙ ap (λ (p : ℕ). slice_get (get_or files p []) (get_or made p 0)) same ∙ other.call in
    let call : l.call ≡ m.call = cc in
    let reply : l.reply ≡ m.reply = is.reply ∙ (let both : (step s l.process l.call).reply ≡ (step s m.process m.call).reply = cc in both) ∙ sym other.reply in
    same_line l m same number call reply

-- the parts of a report

-- what follows the first lines of a journal: its other lines, and the audit of the last state
abbrev pub tail_text : NameList → LedgerState → List Line → List ℕ
tail_text names s more = lines_text (map (journal_words names) more) ++ lines_text (audit_lines names (run_from s (asked_in more)).last)

pub tail-nil : (names : NameList) (s : LedgerState) → tail_text names s [] ≡ lines_text (audit_lines names s)
tail-nil names s = ap (λ (r : Run). lines_text (audit_lines names r.last)) (run_from-nil s)

pub tail-cons : (names : NameList) (s : LedgerState) (l : Line) (more : List Line)
    → tail_text names s (l ∷ more) ≡ line_text (journal_words names l) ++ tail_text names (step s l.process l.call).ledger more
tail-cons names s l more =
    append_assoc (line_text (journal_words names l)) (lines_text (map (journal_words names) more)) (lines_text (audit_lines names (run_from s (asked_in (l ∷ more))).last))
    ∙ ap (λ (r : Run). line_text (journal_words names l) ++ (lines_text (map (journal_words names) more) ++ lines_text (audit_lines names r.last)))
    (run_from-cons s (l.process, l.call) (asked_in more))

report-parts : (b : BookTerms) (names : NameList) (lines : List Line)
    → report_text b names lines ≡ line_text (heading_words (length lines)) ++ tail_text names (opening_state b) lines
report-parts b names lines =
    ap (λ (t : List ℕ). line_text (heading_words (length lines)) ++ t) (flat_map-append line_text (map (journal_words names) lines) (audit_lines names (last_state b lines)))

-- a line of a journal has the name of its process first
journal-word : (names : NameList) (l : Line) (after : List ℕ) → IsFirstWord (process_name names l.process) (line_text (journal_words names l) ++ after)
journal-word names l after =
    let number : List ℕ = join_with_byte 32 (decimal l.number ∷ (call_words names l.call ++ reply_word l.reply ∷ [])) in (
      (number ++ 10 ∷ []) ++ after,
      ap (λ (t : List ℕ). t ++ after) (append_assoc (process_name names l.process) (32 ∷ number) (10 ∷ [])) ∙ append_assoc (process_name names l.process) (32 ∷ (number ++ 10 ∷ [])) after,
    )

-- where a text parts from what a report goes on with

parted : (x y : List ℕ) (n : ℕ) → ArePartedAt x y n → (n < length x) ⊎ (n < length y) → first_lines 1 (drop n x) ≡ first_lines 1 (drop n y) → ⊥
parted x y n are some same = by (split (length x)) (split (length y))
  where
    split : (most : ℕ) → (n < most) ⊎ (most ≤ n)
    split most = grind arith

    first : take 1 (drop n x) ≡ take 1 (drop n y)
    first = first_byte (drop n x) (drop n y) same

    by : (n < length x) ⊎ (length x ≤ n) → (n < length y) ⊎ (length y ≤ n) → ⊥
    by (inl hx) (inl hy) =
        let ex = drop-cons x n 0 hx in
        let ey = drop-cons y n 0 hy in
        let heads : take 1 (get_or x n 0 ∷ drop (suc n) x) ≡ take 1 (get_or y n 0 ∷ drop (suc n) y) = rw (ex, ey) at first in
        are.part hx hy (let bytes : get_or x n 0 ≡ get_or y n 0 = cc in bytes)
    by (inl hx) (inr hy) =
        let ex = drop-cons x n 0 hx in
        let ey = drop_all n y hy in
        let heads : take 1 (get_or x n 0 ∷ drop (suc n) x) ≡ take 1 [] = rw (ex, ey) at first in
        cc
    by (inr hx) (inl hy) =
        let ex = drop_all n x hx in
        let ey = drop-cons y n 0 hy in
        let heads : take 1 [] ≡ take 1 (get_or y n 0 ∷ drop (suc n) y) = rw (ex, ey) at first in
        cc
    by (inr hx) (inr hy) = ⊎_elim (λ h. absurd (omega arith)) (λ h. absurd (omega arith)) some

parted-append : (x e z : List ℕ) (n : ℕ) → ArePartedAt x e n → n < length e → ArePartedAt x (e ++ z) n
parted-append x e z n are h = record {
  left = are.left;
  right = let most = length-append e z in omega arith;
  same = are.same ∙ sym (take-append-le n e z (omega arith));
  part = λ hx hy wrong. are.part hx h (wrong ∙ get_or_append_left e z 0 n h);
}

-- another text has these bytes too, goes on as the rest does for a while, and then differs in that line
record GoesOn (c rest : List ℕ) (n : ℕ) (other : List ℕ) : Type 0 where
  after : List ℕ
  is : other ≡ c ++ after
  same : take n after ≡ take n rest
  differ : first_lines 1 (drop n rest) ≡ first_lines 1 (drop n after) → ⊥

goes_on-parted : (c rest after other : List ℕ) (n : ℕ) → other ≡ c ++ after → ArePartedAt rest after n → (n < length rest) ⊎ (n < length after) → GoesOn c rest n other
goes_on-parted c rest after other n is are some = record { after = after; is = is; same = sym are.same; differ = parted rest after n are some }

-- where texts differ, one of them goes on
in_one : (x y : List ℕ) (n : ℕ) → DifferAt x y n → (n < length x) ⊎ (n < length y)
in_one x y n differ =
    elim (cases_lt n (length x)) as (λ _. (n < length x) ⊎ (n < length y)) [
      | inl below ↦ inl below
      | inr past ↦ inr (let more = differ.more in omega arith)
    ]

-- bytes, some more, and then the others
after_more : (c rest after other : List ℕ) (n : ℕ) → other ≡ c ++ after → take n after ≡ take n rest → other ≡ (c ++ take n rest) ++ drop n after
after_more c rest after other n is same =
    is ∙ ap (λ (t : List ℕ). c ++ t) (sym (take-append-drop n after) ∙ ap (λ (t : List ℕ). t ++ drop n after) same) ∙ sym (append_assoc c (take n rest) (drop n after))

-- where each report that has these lines differs, no report goes on
parts : (b : BookTerms) (names : NameList) (files : List (List Call)) (text : List ℕ) (at n : ℕ) → at ≤ length text → n ≤ length (drop at text)
    → (report : List ℕ) → IsReport b names files report → GoesOn (take at text) (drop at text) n report
    → ((other : List ℕ) → IsReport b names files other → first_lines (newlines (take at text) + 1) text ≡ first_lines (newlines (take at text) + 1) other
    → GoesOn (take at text) (drop at text) n other)
    → PartsAt b names files text (at + n)
parts b names files text at n within few report is goes only =
    let c : List ℕ = take at text in
    let rest : List ℕ = drop at text in
    let len : length (take at text) ≡ at = length-take-le at text within in
    let cut : take (at + n) text ≡ take at text ++ take n (drop at text) = take-add at n text in
    record {
      within = let most = length-drop at text in omega arith;
      report = report;
      is = is;
      same =
          ap (take (at + n)) goes.is ∙ ap (λ (k : ℕ). take (k + n) (take at text ++ goes.after)) (sym len) ∙ take-append-add (take at text) goes.after n
          ∙ ap (λ (t : List ℕ). take at text ++ t) goes.same ∙ sym cut;
      only = λ other is_other agrees. differs b names files text at n only (take at text ++ take n (drop at text)) refl other is_other (rw cut at agrees);
    }
  where
    differs : (b : BookTerms) (names : NameList) (files : List (List Call)) (text : List ℕ) (at n : ℕ)
        → ((other : List ℕ) → IsReport b names files other → first_lines (newlines (take at text) + 1) text ≡ first_lines (newlines (take at text) + 1) other
        → GoesOn (take at text) (drop at text) n other)
        → (more : List ℕ) → more ≡ take at text ++ take n (drop at text)
        → (other : List ℕ) → IsReport b names files other
        → first_lines (newlines (take at text ++ take n (drop at text)) + 1) text ≡ first_lines (newlines (take at text ++ take n (drop at text)) + 1) other → ⊥
    differs b names files text at n only more more_is other is agrees =
        let counts = sum_by-append (λ (byte : ℕ). cond (byte == 10) 1 0) (take at text) (take n (drop at text)) in
        let fewer = first_lines-fewer (newlines (take at text) + 1) (newlines (take at text ++ take n (drop at text)) + 1) text other (omega arith) agrees in
        let goes = only other is fewer in
        let whole : text ≡ (take at text ++ take n (drop at text)) ++ drop n (drop at text) =
        after_more (take at text) (drop at text) (drop at text) text n (sym (take-append-drop at text)) refl in
        let others : other ≡ (take at text ++ take n (drop at text)) ++ drop n goes.after = after_more (take at text) (drop at text) goes.after other n goes.is goes.same in
        let here = first_lines-after (take at text ++ take n (drop at text)) (drop n (drop at text)) in
        let there = first_lines-after (take at text ++ take n (drop at text)) (drop n goes.after) in
        goes.differ (append_cancel_left (take at text ++ take n (drop at text)) _ _
        (sym here ∙ ap (first_lines (newlines (take at text ++ take n (drop at text)) + 1)) (sym whole) ∙ agrees
        ∙ ap (first_lines (newlines (take at text ++ take n (drop at text)) + 1)) others ∙ there))

-- the walk so far

-- a report that goes on from a state
pub record IsTail (names : NameList) (files : List (List Call)) (s : LedgerState) (made c other : List ℕ) : Type 0 where
  pub more : List Line
  pub continues : Continues files s made more
  pub is : other ≡ c ++ tail_text names s more

-- the reports that have the text's lines so far are those that go on from the state
pub record IsWalked (b : BookTerms) (names : NameList) (files : List (List Call)) (text : List ℕ) (at : ℕ) (s : LedgerState) (made : List ℕ) : Type 0 where
  pub within : at ≤ length text
  pub are : AreWithinFiles files made
  pub reports : (more : List Line) → Continues files s made more → IsReport b names files (take at text ++ tail_text names s more)
  pub only : (other : List ℕ) → IsReport b names files other → first_lines (newlines (take at text)) text ≡ first_lines (newlines (take at text)) other
      → IsTail names files s made (take at text) other

-- with a line more there is each line before it
one_less : (c x y : List ℕ) → first_lines (newlines c + 1) x ≡ first_lines (newlines c + 1) y → first_lines (newlines c) x ≡ first_lines (newlines c) y
one_less c x y same = first_lines-fewer (newlines c) (newlines c + 1) x y (omega arith) same

-- a line ends
pub line-ends : (words : List (List ℕ)) → 0 < newlines (line_text words)
line-ends words = let count = newlines-append (join_with_byte 32 words) (10 ∷ []) in omega arith

pub ended-line : (c : List ℕ) (words : List (List ℕ)) → IsEnded (c ++ line_text words)
ended-line c words = subst IsEnded (append_assoc c (join_with_byte 32 words) (10 ∷ [])) (ended (c ++ join_with_byte 32 words))

-- the bytes of the text that are the same up to the end of those expected
pub took : (text expected : List ℕ) (at n : ℕ) → at ≤ length text → ArePartedAt (drop at text) expected n → length expected ≤ n → take (at + n) text ≡ take at text ++ expected
took text expected at n within are all =
    take-add at n text ∙ ap (λ (t : List ℕ). take at text ++ t) (are.same ∙ take_all n expected all)

fits : (text expected : List ℕ) (at n : ℕ) → at ≤ length text → ArePartedAt (drop at text) expected n → at + n ≤ length text
fits text expected at n within are = let most = length-drop at text in let left = are.left in omega arith

-- a report has as many lines as the files have calls
pub length-report : (b : BookTerms) (names : NameList) (files : List (List Call)) (text : List ℕ) (is : IsReport b names files text)
    → length is.lines ≡ sum_by (length {A = Call}) files
length-report b names files text is =
    let count = length-continues files (opening_state b) (none_made files) is.lines (AreWithinFiles-none files) (continues-whole b files is.lines is.legal is.whole) in
    let none = sum-none files in
    omega arith

-- the heading: a report has as many lines as the files have calls
begins_report : (b : BookTerms) (names : NameList) (files : List (List Call)) (heading : List ℕ) (total : ℕ) → total ≡ sum_by (length {A = Call}) files
    → heading ≡ line_text (heading_words total) → (other : List ℕ) → IsReport b names files other → IsTail names files (opening_state b) (none_made files) heading other
begins_report b names files heading total total_is heading_is other is =
    let same : length is.lines ≡ total = length-report b names files other is ∙ sym total_is in
    record {
      more = is.lines;
      continues = continues-whole b files is.lines is.legal is.whole;
      is = is.spelled ∙ report-parts b names is.lines
          ∙ ap (λ (t : List ℕ). t ++ tail_text names (opening_state b) is.lines) (ap (λ (k : ℕ). line_text (heading_words k)) same ∙ sym heading_is);
    }

pub reports_begin : (b : BookTerms) (names : NameList) (files : List (List Call)) (heading : List ℕ) (total : ℕ) → total ≡ sum_by (length {A = Call}) files
    → heading ≡ line_text (heading_words total) → (more : List Line) → Continues files (opening_state b) (none_made files) more
    → IsReport b names files (heading ++ tail_text names (opening_state b) more)
reports_begin b names files heading total total_is heading_is more continues =
    let parts = whole-continues b files more continues in
    let count = length-continues files (opening_state b) (none_made files) more (AreWithinFiles-none files) continues in
    let none = sum-none files in
    let same : total ≡ length more = omega arith in
    record {
      lines = more;
      legal = parts.0;
      whole = parts.1;
      spelled = ap (λ (t : List ℕ). t ++ tail_text names (opening_state b) more) (heading_is ∙ ap (λ (k : ℕ). line_text (heading_words k)) same) ∙ sym (report-parts b names more);
    }

pub heading-parts : (b : BookTerms) (names : NameList) (files : List (List Call)) (text heading : List ℕ) (total n : ℕ) → total ≡ sum_by (length {A = Call}) files
    → heading ≡ line_text (heading_words total) → ArePartedAt text heading n → n < length heading → PartsAt b names files text n
heading-parts b names files text heading total n total_is heading_is are short =
    let whole = completes files (opening_state b) (none_made files) (AreWithinFiles-none files) in
    let report : List ℕ = heading ++ tail_text names (opening_state b) whole.lines in
    subst (PartsAt b names files text) (zero-add n)
    (parts b names files text 0 n (omega arith) are.left report (reports_begin b names files heading total total_is heading_is whole.lines whole.continues)
    (goes report (tail_text names (opening_state b) whole.lines) refl)
    (λ other is same. let tail = begins_report b names files heading total total_is heading_is other is in goes other (tail_text names (opening_state b) tail.more) tail.is))
  where
    goes : (other after : List ℕ) → other ≡ heading ++ after → GoesOn [] text n other
    goes other after is =
        goes_on-parted [] text (heading ++ after) other n is (parted-append text heading after n are short) (inr (let most = length-append heading after in omega arith))

pub heading-walked : (b : BookTerms) (names : NameList) (files : List (List Call)) (text heading : List ℕ) (total n : ℕ) → total ≡ sum_by (length {A = Call}) files
    → heading ≡ line_text (heading_words total) → ArePartedAt text heading n → length heading ≤ n → IsWalked b names files text n (opening_state b) (none_made files)
heading-walked b names files text heading total n total_is heading_is are all =
    let cut : take n text ≡ heading = are.same ∙ take_all n heading all in
    record {
      within = are.left;
      are = AreWithinFiles-none files;
      reports = λ more continues. rw cut (reports_begin b names files heading total total_is heading_is more continues);
      only = λ other is same. rw cut (begins_report b names files heading total total_is heading_is other is);
    }

-- a report whose next line is the text's goes on with a line whose process the text names
record GoesWith (names : NameList) (files : List (List Call)) (s : LedgerState) (made c rest other : List ℕ) : Type 0 where
  line : Line
  more : List Line
  next : IsNextOfProcess files s made line
  continues : Continues files (step s line.process line.call).ledger (with_made made line.process) more
  is : other ≡ c ++ (line_text (journal_words names line) ++ tail_text names (step s line.process line.call).ledger more)
  named : first_lines 1 rest ≡ first_lines 1 (line_text (journal_words names line) ++ tail_text names (step s line.process line.call).ledger more)
      → IsFirstWord (process_name names line.process) rest

goes_with : (names : NameList) (files : List (List Call)) (s : LedgerState) (made c rest other : List ℕ) → AreWithinFiles files made → sum made < sum_by (length {A = Call}) files
    → ((p : ℕ) → p < length files → IsWord (process_name names p)) → (more : List Line) → Continues files s made more → other ≡ c ++ tail_text names s more
    → GoesWith names files s made c rest other
goes_with names files s made c rest other are left words [] continues is = absurd (let all = length-continues files s made [] are continues in omega arith)
goes_with names files s made c rest other are left words (l ∷ more) continues is =
    let both = continues-cons files s made l more continues in
    let after : List ℕ = tail_text names (step s l.process l.call).ledger more in
    let word = journal-word names l after in
    record {
      line = l;
      more = more;
      next = both.0;
      continues = both.1;
      is = is ∙ ap (λ (t : List ℕ). c ++ t) (tail-cons names s l more);
      named = λ same. first_word (process_name names l.process) rest word.0 (words l.process both.0.process) (same ∙ ap (first_lines 1) word.1);
    }

-- the rest of a text, and of a report with the same lines
same_rest : (text other after : List ℕ) (at : ℕ) → other ≡ take at text ++ after → first_lines (newlines (take at text) + 1) text ≡ first_lines (newlines (take at text) + 1) other
    → first_lines 1 (drop at text) ≡ first_lines 1 after
same_rest text other after at is agrees =
    append_cancel_left (take at text) _ _
    (sym (first_lines-after (take at text) (drop at text)) ∙ ap (first_lines (newlines (take at text) + 1)) (take-append-drop at text) ∙ agrees
    ∙ ap (first_lines (newlines (take at text) + 1)) is ∙ first_lines-after (take at text) after)

-- the text has no next line
pub line-missing : (b : BookTerms) (names : NameList) (files : List (List Call)) (text : List ℕ) (at : ℕ) (s : LedgerState) (made : List ℕ)
    → IsWalked b names files text at s made → sum made < sum_by (length {A = Call}) files → ((p : ℕ) → p < length files → IsWord (process_name names p))
    → ((m : Line) → IsNextOfProcess files s made m → IsFirstWord (process_name names m.process) (drop at text) → ⊥) → PartsAt b names files text at
line-missing b names files text at s made walked left words none =
    let whole = completes files s made walked.are in
    let report : List ℕ = take at text ++ tail_text names s whole.lines in
    subst (PartsAt b names files text) (let same : at + 0 ≡ at = omega arith in same)
    (parts b names files text at 0 walked.within (omega arith) report (walked.reports whole.lines whole.continues)
    (goes report whole.lines whole.continues refl)
    (λ other is same. let tail = walked.only other is (one_less (take at text) text other same) in goes other tail.more tail.continues tail.is))
  where
    goes : (other : List ℕ) (more : List Line) → Continues files s made more → other ≡ take at text ++ tail_text names s more → GoesOn (take at text) (drop at text) 0 other
    goes other more continues is =
        let with = goes_with names files s made (take at text) (drop at text) other walked.are left words more continues is in
        record {
          after = line_text (journal_words names with.line) ++ tail_text names (step s with.line.process with.line.call).ledger with.more;
          is = with.is;
          same = refl;
          differ = λ same. none with.line with.next (with.named same);
        }

-- and no report goes on with the text's next word
pub missing-unmatched : (b : BookTerms) (names : NameList) (files : List (List Call)) (text : List ℕ) (at : ℕ) (s : LedgerState) (made : List ℕ)
    → IsWalked b names files text at s made → sum made < sum_by (length {A = Call}) files → ((p : ℕ) → p < length files → IsWord (process_name names p))
    → ((m : Line) → IsNextOfProcess files s made m → IsFirstWord (process_name names m.process) (drop at text) → ⊥) → IsEnded (take at text) → IsUnmatchedAt b names files text at
missing-unmatched b names files text at s made walked left words none ended = record {
  ended = ended;
  none = λ report rest word is report_is is_word own first.
      let tail = walked.only report is (first_lines-begin text report rest at report_is) in
      let with = goes_with names files s made (take at text) (drop at text) report walked.are left words tail.more tail.continues tail.is in
      let same : line_text (journal_words names with.line) ++ tail_text names (step s with.line.process with.line.call).ledger with.more ≡ rest =
      append_cancel_left (take at text) _ _ (sym with.is ∙ report_is) in
      let theirs : IsFirstWord (process_name names with.line.process) rest =
      subst (λ (t : List ℕ). IsFirstWord (process_name names with.line.process) t) same
      (journal-word names with.line (tail_text names (step s with.line.process with.line.call).ledger with.more)) in
      let named : word ≡ process_name names with.line.process =
      first_word-only word (process_name names with.line.process) rest is_word (words with.line.process with.next.process) first theirs in
      none with.line with.next (subst (λ (w : List ℕ). IsFirstWord w (drop at text)) named own);
}

-- a report with the text's next line goes on with this one
record GoesWithThis (names : NameList) (files : List (List Call)) (s : LedgerState) (made c : List ℕ) (l : Line) (other : List ℕ) : Type 0 where
  more : List Line
  continues : Continues files (step s l.process l.call).ledger (with_made made l.process) more
  is : other ≡ c ++ (line_text (journal_words names l) ++ tail_text names (step s l.process l.call).ledger more)

goes_with_this : (names : NameList) (files : List (List Call)) (s : LedgerState) (made c rest other : List ℕ) (l : Line)
    → (with : GoesWith names files s made c rest other) → with.line ≡ l → GoesWithThis names files s made c l other
goes_with_this names files s made c rest other l with same = record {
  more = with.more;
  continues = subst (λ (m : Line). Continues files (step s m.process m.call).ledger (with_made made m.process) with.more) same with.continues;
  is = with.is ∙ ap (λ (m : Line). c ++ (line_text (journal_words names m) ++ tail_text names (step s m.process m.call).ledger with.more)) same;
}

this_line : (b : BookTerms) (names : NameList) (files : List (List Call)) (text : List ℕ) (at : ℕ) (s : LedgerState) (made : List ℕ) (l : Line)
    → IsWalked b names files text at s made → sum made < sum_by (length {A = Call}) files → ((p : ℕ) → p < length files → IsWord (process_name names p))
    → ((m : Line) → IsNextOfProcess files s made m → IsFirstWord (process_name names m.process) (drop at text) → m ≡ l)
    → (other : List ℕ) → IsReport b names files other → first_lines (newlines (take at text) + 1) text ≡ first_lines (newlines (take at text) + 1) other
    → GoesWithThis names files s made (take at text) l other
this_line b names files text at s made l walked left words only other is agrees =
    let tail = walked.only other is (one_less (take at text) text other agrees) in
    let with = goes_with names files s made (take at text) (drop at text) other walked.are left words tail.more tail.continues tail.is in
    let same = same_rest text other (line_text (journal_words names with.line) ++ tail_text names (step s with.line.process with.line.call).ledger with.more) at with.is agrees in
    goes_with_this names files s made (take at text) (drop at text) other l with (only with.line with.next (with.named same))

-- the text's next line is another one
pub line-parts : (b : BookTerms) (names : NameList) (files : List (List Call)) (text expected : List ℕ) (at n : ℕ) (s : LedgerState) (made : List ℕ) (l : Line)
    → IsWalked b names files text at s made → sum made < sum_by (length {A = Call}) files → ((p : ℕ) → p < length files → IsWord (process_name names p))
    → IsNextOfProcess files s made l → ((m : Line) → IsNextOfProcess files s made m → IsFirstWord (process_name names m.process) (drop at text) → m ≡ l)
    → expected ≡ line_text (journal_words names l) → ArePartedAt (drop at text) expected n → n < length expected → PartsAt b names files text (at + n)
line-parts b names files text expected at n s made l walked left words next only expected_is are short =
    let whole = completes files (step s l.process l.call).ledger (with_made made l.process) (AreWithinFiles-next files s made l walked.are next) in
    let after : List ℕ = tail_text names (step s l.process l.call).ledger whole.lines in
    let report : List ℕ = take at text ++ tail_text names s (l ∷ whole.lines) in
    parts b names files text at n walked.within are.left report (walked.reports (l ∷ whole.lines) (continues-from_cons files s made l whole.lines next whole.continues))
    (goes report after (ap (λ (t : List ℕ). take at text ++ t) (tail-cons names s l whole.lines)))
    (λ other is same.
    let this = this_line b names files text at s made l walked left words only other is same in
    goes other (tail_text names (step s l.process l.call).ledger this.more) this.is)
  where
    goes : (other after : List ℕ) → other ≡ take at text ++ (line_text (journal_words names l) ++ after) → GoesOn (take at text) (drop at text) n other
    goes other after is =
        goes_on-parted (take at text) (drop at text) (expected ++ after) other n (is ∙ ap (λ (t : List ℕ). take at text ++ (t ++ after)) (sym expected_is))
        (parted-append (drop at text) expected after n are short) (inr (let most = length-append expected after in omega arith))

-- the text's next line is this one
pub line-walked : (b : BookTerms) (names : NameList) (files : List (List Call)) (text expected : List ℕ) (at n : ℕ) (s : LedgerState) (made : List ℕ) (l : Line)
    → IsWalked b names files text at s made → sum made < sum_by (length {A = Call}) files → ((p : ℕ) → p < length files → IsWord (process_name names p))
    → IsNextOfProcess files s made l → ((m : Line) → IsNextOfProcess files s made m → IsFirstWord (process_name names m.process) (drop at text) → m ≡ l)
    → expected ≡ line_text (journal_words names l) → ArePartedAt (drop at text) expected n → length expected ≤ n
    → IsWalked b names files text (at + n) (step s l.process l.call).ledger (with_made made l.process)
line-walked b names files text expected at n s made l walked left words next only expected_is are all =
    let cut : take (at + n) text ≡ take at text ++ line_text (journal_words names l) = took text expected at n walked.within are all ∙ ap (λ (t : List ℕ). take at text ++ t) expected_is in
    let counts = sum_by-append (λ (byte : ℕ). cond (byte == 10) 1 0) (take at text) (line_text (journal_words names l)) in
    let line : List ℕ = line_text (journal_words names l) in
    record {
      within = fits text expected at n walked.within are;
      are = AreWithinFiles-next files s made l walked.are next;
      reports = λ more continues.
          subst (IsReport b names files) (whole cut more) (walked.reports (l ∷ more) (continues-from_cons files s made l more next continues));
      only = λ other is agrees. rw cut (tail other is (rw cut at agrees));
    }
  where
    whole : take (at + n) text ≡ take at text ++ line_text (journal_words names l) → (more : List Line)
        → take at text ++ tail_text names s (l ∷ more) ≡ take (at + n) text ++ tail_text names (step s l.process l.call).ledger more
    whole cut more =
        ap (λ (t : List ℕ). take at text ++ t) (tail-cons names s l more)
        ∙ sym (append_assoc (take at text) (line_text (journal_words names l)) (tail_text names (step s l.process l.call).ledger more))
        ∙ ap (λ (t : List ℕ). t ++ tail_text names (step s l.process l.call).ledger more) (sym cut)

    tail : (other : List ℕ) → IsReport b names files other
        → first_lines (newlines (take at text ++ line_text (journal_words names l))) text ≡ first_lines (newlines (take at text ++ line_text (journal_words names l))) other
        → IsTail names files (step s l.process l.call).ledger (with_made made l.process) (take at text ++ line_text (journal_words names l)) other
    tail other is agrees =
        let counts = sum_by-append (λ (byte : ℕ). cond (byte == 10) 1 0) (take at text) (line_text (journal_words names l)) in
        let ends = line-ends (journal_words names l) in
        let fewer = first_lines-fewer (newlines (take at text) + 1) (newlines (take at text ++ line_text (journal_words names l))) text other (omega arith) agrees in
        let this = this_line b names files text at s made l walked left words only other is fewer in
        record {
          more = this.more;
          continues = this.continues;
          is = this.is ∙ sym (append_assoc (take at text) (line_text (journal_words names l)) (tail_text names (step s l.process l.call).ledger this.more));
        }

-- all calls are made

-- every report ends with this audit
audit_only : (names : NameList) (files : List (List Call)) (s : LedgerState) (made c other audit : List ℕ) → AreWithinFiles files made → sum made ≡ sum_by (length {A = Call}) files
    → audit ≡ lines_text (audit_lines names s) → (more : List Line) → Continues files s made more → other ≡ c ++ tail_text names s more → other ≡ c ++ audit
audit_only names files s made c other audit are all audit_is [] continues is = is ∙ ap (λ (t : List ℕ). c ++ t) (tail-nil names s ∙ sym audit_is)
audit_only names files s made c other audit are all audit_is (l ∷ more) continues is = absurd (let count = length-continues files s made (l ∷ more) are continues in omega arith)

pub audit-parts : (b : BookTerms) (names : NameList) (files : List (List Call)) (text audit : List ℕ) (at n : ℕ) (s : LedgerState) (made : List ℕ)
    → IsWalked b names files text at s made → sum made ≡ sum_by (length {A = Call}) files → audit ≡ lines_text (audit_lines names s)
    → DifferAt (drop at text) audit n → PartsAt b names files text (at + n)
audit-parts b names files text audit at n s made walked all audit_is differ =
    let continues = continues-from_nil files s made (all_made files made walked.are all) in
    let report : List ℕ = take at text ++ tail_text names s [] in
    parts b names files text at n walked.within differ.parted.left report (walked.reports [] continues)
    (goes report (audit_only names files s made (take at text) report audit walked.are all audit_is [] continues refl))
    (λ other is same.
    let tail = walked.only other is (one_less (take at text) text other same) in
    goes other (audit_only names files s made (take at text) other audit walked.are all audit_is tail.more tail.continues tail.is))
  where
    goes : (other : List ℕ) → other ≡ take at text ++ audit → GoesOn (take at text) (drop at text) n other
    goes other is = goes_on-parted (take at text) (drop at text) audit other n is differ.parted (in_one (drop at text) audit n differ)

-- lines end with a newline
lines-end : (lines : List (List (List ℕ))) → 0 < length lines → (c : List ℕ) × (lines_text lines ≡ c ++ 10 ∷ [])
lines-end [] some = absurd (omega arith)
lines-end (words ∷ []) some = (join_with_byte 32 words, append-nil (line_text words))
lines-end (words ∷ (next ∷ more)) some =
    let later = lines-end (next ∷ more) (omega arith) in
    (line_text words ++ later.0, ap (λ (t : List ℕ). line_text words ++ t) later.1 ∙ sym (append_assoc (line_text words) later.0 (10 ∷ [])))

-- what a report ends with isn't followed by a word
nothing-more : (audit rest word : List ℕ) → audit ++ rest ≡ audit → IsFirstWord word rest → ⊥
nothing-more audit rest word same first =
    let all = length-append audit rest in
    let both = ap length same in
    let some = ap length first.1 in
    let word_first = length-append word (32 ∷ first.0) in
    absurd (omega arith)

-- all of the audit is there: no report goes on
pub audit-unmatched : (b : BookTerms) (names : NameList) (files : List (List Call)) (text audit : List ℕ) (at n : ℕ) (s : LedgerState) (made : List ℕ)
    → IsWalked b names files text at s made → sum made ≡ sum_by (length {A = Call}) files → audit ≡ lines_text (audit_lines names s)
    → ArePartedAt (drop at text) audit n → newlines (drop n audit) ≡ 0 → IsUnmatchedAt b names files text (at + n)
audit-unmatched b names files text audit at n s made walked all audit_is are none =
    let end = lines-end (audit_lines names s) (omega arith) in
    let audit_end : audit ≡ end.0 ++ 10 ∷ [] = audit_is ∙ end.1 in
    let long : length audit ≤ n =
    elim (cases_lt n (length audit)) as (λ _. length audit ≤ n) [
      | inl short ↦ absurd (rest-ends audit end.0 n audit_end short none)
      | inr long ↦ long
    ] in
    let cut : take (at + n) text ≡ take at text ++ audit = took text audit at n walked.within are long in
    record {
      ended = subst IsEnded (sym (cut ∙ ap (λ (t : List ℕ). take at text ++ t) audit_end ∙ sym (append_assoc (take at text) end.0 (10 ∷ [])))) (ended (take at text ++ end.0));
      none = λ report rest word is report_is is_word own first.
          let whole : report ≡ take at text ++ (audit ++ rest) = report_is ∙ ap (λ (t : List ℕ). t ++ rest) cut ∙ append_assoc (take at text) audit rest in
          let tail = walked.only report is (first_lines-begin text report (audit ++ rest) at whole) in
          let just = audit_only names files s made (take at text) report audit walked.are all audit_is tail.more tail.continues tail.is in
          nothing-more audit rest word (append_cancel_left (take at text) (audit ++ rest) audit (sym whole ∙ just)) first;
    }

pub audit-whole : (b : BookTerms) (names : NameList) (files : List (List Call)) (text audit : List ℕ) (at : ℕ) (s : LedgerState) (made : List ℕ)
    → IsWalked b names files text at s made → sum made ≡ sum_by (length {A = Call}) files → audit ≡ lines_text (audit_lines names s)
    → drop at text ≡ audit → IsReport b names files text
audit-whole b names files text audit at s made walked all audit_is same =
    let continues = continues-from_nil files s made (all_made files made walked.are all) in
    let whole : take at text ++ tail_text names s [] ≡ text =
    ap (λ (t : List ℕ). take at text ++ t) (tail-nil names s ∙ sym audit_is ∙ sym same) ∙ take-append-drop at text in
    subst (IsReport b names files) whole (walked.reports [] continues)

-- the first wrong line

pub first_wrong : (b : BookTerms) (names : NameList) (files : List (List Call)) (text : List ℕ) (n line : ℕ) → PartsAt b names files text n → line ≡ newlines (take n text) + 1
    → IsFirstWrong b names files text line
first_wrong b names files text n line parts line_is = record {
  right = λ m below. record {
    report = parts.report;
    is = parts.is;
    same =
        ap (first_lines m) (sym (take-append-drop n text)) ∙ first_lines-within (take n text) (drop n text) m (omega arith)
        ∙ ap (first_lines m) (sym parts.same)
        ∙ sym (first_lines-within (take n parts.report) (drop n parts.report) m (let count = ap newlines parts.same in omega arith))
        ∙ ap (first_lines m) (take-append-drop n parts.report);
  };
  wrong = λ right. parts.only right.report right.is (rw line_is at right.same);
}

pub not_report : (b : BookTerms) (names : NameList) (files : List (List Call)) (text : List ℕ) (n : ℕ) → PartsAt b names files text n → IsReport b names files text → ⊥
not_report b names files text n parts is = parts.only text is refl
