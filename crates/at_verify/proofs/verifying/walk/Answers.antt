use Rattle.at_verify.proofs.Prelude.{common_steps, contents_of, length-contents_of, LedgerState, opening_state, Call, Line, take_all, take_rest, journal_words, line_text, lines_text, audit_lines, heading_words, ArePartedAt, DifferAt, PartsAt, GoesOnWith, IsUnmatchedAt, Place, join_with_byte, newlines, none_made, sum-none, call_known, sum-le, sum-with_made}
use Rattle.std.proofs.Common.{◌≡◌, ℕ, ◌+◌, ◌<◌, ◌≤◌, List, drop, length, replicate, sum, sum_by, Option, None, Some, Ok, Result, refl, sym, ap, subst, ◌∙◌, arith}
use Rattle.at_verify.proofs.GoingOn.{audit-goes_on, ended-heading, ended-more, heading-goes_on, heading-lines, line-goes_on, lines-more, missing-goes_on}
use Rattle.at_verify.proofs.FirstLines.{rest-ends}
use Rattle.at_verify.proofs.Walking.{audit-parts, audit-unmatched, missing-unmatched, audit-whole, heading-parts, heading-walked, line-missing, line-parts, line-walked}
use Rattle.at_verify.proofs.verifying.walk.Goals as goal

-- an answer has one place
same_answer : {E : Type 0} (a b : Place) → ◌≡◌ {A = Result (Option Place) E} (Ok (Some a)) (Ok (Some b)) → a ≡ b
same_answer a b is = cc

same_place : {E : Type 0} (a : Place) (b : Place) → ◌≡◌ {A = Result (Option Place) E} (Ok (Some a)) (Ok (Some b)) → a.at ≡ b.at
same_place a b is = ap (λ (p : Place). p.at) (same_answer a b is)

-- where nothing is left of what was expected
no_rest : (a p : Place) (slice items : List ℕ) → a ≡ p → slice ≡ items → newlines (drop p.rest items) ≡ 0 → newlines (drop a.rest slice) ≡ 0
no_rest a p slice items same value none = ap (λ (t : List ℕ). newlines (drop a.rest t)) value ∙ ap (λ (q : Place). newlines (drop q.rest items)) same ∙ none

-- and a line that is found is one
same_line : (l m : Line) → Some l ≡ Some m → m ≡ l
same_line l m is = cc

no_line : (m : Line) → ◌≡◌ {A = Option Line} None (Some m) → ⊥
no_line m is = cc

pub returns-then-at-len-clause-parts : goal.returns-then-at-len-clause-parts
returns-then-at-len-clause-parts c p is =
    let heading : c.as_slice.result.now ≡ line_text (heading_words c.count_calls-calls.result) =
    c.as_slice.ensures.value ∙ rw (c.in_ok-push_heading.ensures.text, c.requires.expected, c.from.ensures) refl in
    let short : c.common-at.result < length c.as_slice.result.now = rw c.as_slice.ensures.value (omega (arith, c.len.ensures)) in
    let same : c.common-at.result ≡ p.at = same_place (record { at = c.common-at.result; rest = c.common-at.result }) p is in
    subst (PartsAt c.args.book.now c.args.names.now (contents_of c.args.files.now) c.args.text.now) same
    (heading-parts c.args.book.now c.args.names.now (contents_of c.args.files.now) c.args.text.now c.as_slice.result.now c.count_calls-calls.result c.common-at.result
    c.count_calls-calls.ensures heading c.common-at.ensures short)

pub loop-turn-init : goal.loop-turn-init
loop-turn-init c =
    let heading : c.as_slice.result.now ≡ line_text (heading_words c.count_calls-calls.result) =
    c.as_slice.ensures.value ∙ rw (c.in_ok-push_heading.ensures.text, c.requires.expected, c.from.ensures) refl in
    let long : length c.as_slice.result.now ≤ c.common-at.result = rw c.as_slice.ensures.value (omega (arith, c.len.ensures)) in
    let count : c.args.book.now.processes ≡ length (contents_of c.args.files.now) = let files = length-contents_of c.args.files.now in omega arith in
    let made : c.args.made.now ≡ none_made (contents_of c.args.files.now) = c.requires.made ∙ ap (λ (n : ℕ). replicate n 0) count in
    let state : c.args.state.now ≡ opening_state c.args.book.now = c.requires.state in
    record {
      walked = rw (state, made)
          (heading-walked c.args.book.now c.args.names.now (contents_of c.args.files.now) c.args.text.now c.as_slice.result.now c.count_calls-calls.result c.common-at.result
          c.count_calls-calls.ensures heading c.common-at.ensures long);
      count = rw made (sum-none (contents_of c.args.files.now));
      book = ap (λ (s : LedgerState). s.book) state;
      ended = ended-heading c.args.text.now c.as_slice.result.now c.count_calls-calls.result c.common-at.result heading
          (let are = c.common-at.ensures in are.same ∙ take_all c.common-at.result c.as_slice.result.now long);
      lines = heading-lines c.args.text.now c.as_slice.result.now c.count_calls-calls.result c.common-at.result heading
          (let are = c.common-at.ensures in are.same ∙ take_all c.common-at.result c.as_slice.result.now long);
    }

pub returns-in_default-clause-parts : goal.returns-in_default-clause-parts
returns-in_default-clause-parts c p is =
    let files = length-contents_of c.args.files.now in
    let left : sum c.loop-turn.made < sum_by (length {A = Call}) (contents_of c.args.files.now) = omega (arith, c.loop-turn.invariant.count, c.loop-turn-test.true, c.count_calls-calls.ensures) in
    let same : c.loop-turn.at ≡ p.at = same_place (record { at = c.loop-turn.at; rest = 0 }) p is in
    subst (PartsAt c.args.book.now c.args.names.now (contents_of c.args.files.now) c.args.text.now) same
    (line-missing c.args.book.now c.args.names.now (contents_of c.args.files.now) c.args.text.now c.loop-turn.at c.loop-turn.state c.loop-turn.made
    c.loop-turn.invariant.walked left (λ p h. c.in_default.ensures.words p (omega arith))
    (λ m next first. no_line m (c.in_default.ensures.only m next (rw (take_rest c.args.text.now c.loop-turn.at) first))))

pub push_line-requires : goal.push_line-requires
push_line-requires c =
    let files = length-contents_of c.args.files.now in
    let next = c.in-Some.ensures.next in
    let inside = next.process in
    let accounts = c.requires.names.accounts in
    (omega arith, rw accounts (call_known (length c.args.book.now.accounts) (contents_of c.args.files.now) c.loop-turn.state c.loop-turn.made c.in-Some.line c.requires.files next))

pub returns-then-same-len-clause-parts : goal.returns-then-same-len-clause-parts
returns-then-same-len-clause-parts c p is =
    let files = length-contents_of c.args.files.now in
    let left : sum c.loop-turn.made < sum_by (length {A = Call}) (contents_of c.args.files.now) = omega (arith, c.loop-turn.invariant.count, c.loop-turn-test.true, c.count_calls-calls.ensures) in
    let line : c.as_slice-in-loop-turn.result.now ≡ line_text (journal_words c.args.names.now c.in-Some.line) =
    c.as_slice-in-loop-turn.ensures.value ∙ rw (c.in_ok-push_line.ensures.text, c.clear-in-loop-turn.ensures.items) refl in
    let short : c.common-same.result < length c.as_slice-in-loop-turn.result.now = rw c.as_slice-in-loop-turn.ensures.value (omega (arith, c.len-in-loop-turn.ensures)) in
    let same : c.loop-turn.at + c.common-same.result ≡ p.at = same_place (record { at = c.loop-turn.at + c.common-same.result; rest = c.common-same.result }) p is in
    subst (PartsAt c.args.book.now c.args.names.now (contents_of c.args.files.now) c.args.text.now) same
    (line-parts c.args.book.now c.args.names.now (contents_of c.args.files.now) c.args.text.now c.as_slice-in-loop-turn.result.now c.loop-turn.at c.common-same.result
    c.loop-turn.state c.loop-turn.made c.in-Some.line c.loop-turn.invariant.walked left (λ p h. c.in-Some.ensures.words p (omega arith)) c.in-Some.ensures.next
    (λ m next first. same_line c.in-Some.line m (c.in-Some.ensures.only m next (rw (take_rest c.args.text.now c.loop-turn.at) first))) line (subst (λ (t : List ℕ). ArePartedAt t c.as_slice-in-loop-turn.result.now c.common-same.result) (take_rest c.args.text.now c.loop-turn.at) c.common-same.ensures) short)

pub loop-turn-preserved : goal.loop-turn-preserved
loop-turn-preserved c =
    let files = length-contents_of c.args.files.now in
    let left : sum c.loop-turn.made < sum_by (length {A = Call}) (contents_of c.args.files.now) = omega (arith, c.loop-turn.invariant.count, c.loop-turn-test.true, c.count_calls-calls.ensures) in
    let line : c.as_slice-in-loop-turn.result.now ≡ line_text (journal_words c.args.names.now c.in-Some.line) =
    c.as_slice-in-loop-turn.ensures.value ∙ rw (c.in_ok-push_line.ensures.text, c.clear-in-loop-turn.ensures.items) refl in
    let long : length c.as_slice-in-loop-turn.result.now ≤ c.common-same.result = rw c.as_slice-in-loop-turn.ensures.value (omega (arith, c.len-in-loop-turn.ensures)) in
    let next = c.in-Some.ensures.next in
    let each = c.loop-turn.invariant.walked.are.each in
    let inside = next.process in
    let state = c.in-Some.ensures.state in
    let made = c.in-Some.ensures.made in
    record {
      walked = rw (state, made)
          (line-walked c.args.book.now c.args.names.now (contents_of c.args.files.now) c.args.text.now c.as_slice-in-loop-turn.result.now c.loop-turn.at c.common-same.result
          c.loop-turn.state c.loop-turn.made c.in-Some.line c.loop-turn.invariant.walked left (λ p h. c.in-Some.ensures.words p (omega arith)) next
          (λ m other first. same_line c.in-Some.line m (c.in-Some.ensures.only m other (rw (take_rest c.args.text.now c.loop-turn.at) first))) line (subst (λ (t : List ℕ). ArePartedAt t c.as_slice-in-loop-turn.result.now c.common-same.result) (take_rest c.args.text.now c.loop-turn.at) c.common-same.ensures) long);
      count = rw made (sum-with_made c.loop-turn.made c.in-Some.line.process (omega arith) ∙ ap (λ (k : ℕ). k + 1) c.loop-turn.invariant.count);
      book = c.in-Some.ensures.book;
      ended = let walked = c.loop-turn.invariant.walked in ended-more c.args.text.now c.as_slice-in-loop-turn.result.now c.loop-turn.at c.common-same.result (journal_words c.args.names.now c.in-Some.line) walked.within
          (subst (λ (t : List ℕ). ArePartedAt t c.as_slice-in-loop-turn.result.now c.common-same.result) (take_rest c.args.text.now c.loop-turn.at) c.common-same.ensures) long line;
      lines = lines-more c.args.text.now c.loop-turn.at c.common-same.result c.loop-turn.invariant.lines;
    }

pub returns-in-Some-difference-clause-parts : goal.returns-in-Some-difference-clause-parts
returns-in-Some-difference-clause-parts c p is =
    let most = sum-le (contents_of c.args.files.now) c.loop-turn.made c.loop-turn.invariant.walked.are in
    let all : sum c.loop-turn.made ≡ sum_by (length {A = Call}) (contents_of c.args.files.now) = omega (arith, c.loop-turn.invariant.count, c.loop-turn-test.false, c.count_calls-calls.ensures) in
    let audit : c.as_slice-2.result.now ≡ lines_text (audit_lines c.args.names.now c.loop-turn.state) = c.as_slice-2.ensures.value ∙ rw (c.in_ok-push_audit.ensures.text, c.clear-2.ensures.items) refl in
    let same : c.loop-turn.at + c.in-Some-difference.same ≡ p.at = same_place (record { at = c.loop-turn.at + c.in-Some-difference.same; rest = c.in-Some-difference.same }) p is in
    subst (PartsAt c.args.book.now c.args.names.now (contents_of c.args.files.now) c.args.text.now) same
    (audit-parts c.args.book.now c.args.names.now (contents_of c.args.files.now) c.args.text.now c.as_slice-2.result.now c.loop-turn.at c.in-Some-difference.same
    c.loop-turn.state c.loop-turn.made c.loop-turn.invariant.walked all audit
    (subst (λ (t : List ℕ). DifferAt t c.as_slice-2.result.now c.in-Some-difference.same) (take_rest c.args.text.now c.loop-turn.at) c.in-Some-difference.ensures.differ))

pub returns-in-None-clause-report : goal.returns-in-None-clause-report
returns-in-None-clause-report c is =
    let most = sum-le (contents_of c.args.files.now) c.loop-turn.made c.loop-turn.invariant.walked.are in
    let all : sum c.loop-turn.made ≡ sum_by (length {A = Call}) (contents_of c.args.files.now) = omega (arith, c.loop-turn.invariant.count, c.loop-turn-test.false, c.count_calls-calls.ensures) in
    let audit : c.as_slice-2.result.now ≡ lines_text (audit_lines c.args.names.now c.loop-turn.state) = c.as_slice-2.ensures.value ∙ rw (c.in_ok-push_audit.ensures.text, c.clear-2.ensures.items) refl in
    audit-whole c.args.book.now c.args.names.now (contents_of c.args.files.now) c.args.text.now c.as_slice-2.result.now c.loop-turn.at
    c.loop-turn.state c.loop-turn.made c.loop-turn.invariant.walked all audit (sym (take_rest c.args.text.now c.loop-turn.at) ∙ c.difference.ensures.same c.in-None.is)

pub next_line-requires-clause-made : goal.next_line-requires-clause-made
next_line-requires-clause-made c = grind (arith, common_steps)

pub returns-in-None-clause-parts : goal.returns-in-None-clause-parts
returns-in-None-clause-parts c = grind (arith, common_steps)

pub returns-in-Some-difference-clause-report : goal.returns-in-Some-difference-clause-report
returns-in-Some-difference-clause-report c = grind (arith, common_steps)

pub returns-then-same-len-clause-report : goal.returns-then-same-len-clause-report
returns-then-same-len-clause-report c = grind (arith, common_steps)

pub returns-in_default-clause-report : goal.returns-in_default-clause-report
returns-in_default-clause-report c = grind (arith, common_steps)

pub returns-then-at-len-clause-goes_on : goal.returns-then-at-len-clause-goes_on
returns-then-at-len-clause-goes_on c p is =
    let heading : c.as_slice.result.now ≡ line_text (heading_words c.count_calls-calls.result) =
    c.as_slice.ensures.value ∙ rw (c.in_ok-push_heading.ensures.text, c.requires.expected, c.from.ensures) refl in
    subst (λ (q : Place). GoesOnWith c.args.book.now c.args.names.now (contents_of c.args.files.now) c.args.text.now q.at (drop q.rest c.push_heading.new.out.items)) (same_answer (record { at = c.common-at.result; rest = c.common-at.result }) p is)
    (subst (λ (t : List ℕ). GoesOnWith c.args.book.now c.args.names.now (contents_of c.args.files.now) c.args.text.now c.common-at.result (drop c.common-at.result t)) c.as_slice.ensures.value
    (heading-goes_on c.args.book.now c.args.names.now (contents_of c.args.files.now) c.args.text.now c.as_slice.result.now c.count_calls-calls.result c.common-at.result
    c.count_calls-calls.ensures heading c.common-at.ensures))

pub returns-in_default-clause-goes_on : goal.returns-in_default-clause-goes_on
returns-in_default-clause-goes_on c p is =
    subst (λ (q : Place). GoesOnWith c.args.book.now c.args.names.now (contents_of c.args.files.now) c.args.text.now q.at (drop q.rest c.clear.new.self.items)) (same_answer (record { at = c.loop-turn.at; rest = 0 }) p is)
    (subst (λ (t : List ℕ). GoesOnWith c.args.book.now c.args.names.now (contents_of c.args.files.now) c.args.text.now c.loop-turn.at t) (sym c.clear.ensures.items)
    (missing-goes_on c.args.book.now c.args.names.now (contents_of c.args.files.now) c.args.text.now c.loop-turn.at c.loop-turn.state c.loop-turn.made c.loop-turn.invariant.walked c.loop-turn.invariant.lines))

pub returns-then-same-len-clause-goes_on : goal.returns-then-same-len-clause-goes_on
returns-then-same-len-clause-goes_on c p is =
    let line : c.as_slice-in-loop-turn.result.now ≡ line_text (journal_words c.args.names.now c.in-Some.line) =
    c.as_slice-in-loop-turn.ensures.value ∙ rw (c.in_ok-push_line.ensures.text, c.clear-in-loop-turn.ensures.items) refl in
    subst (λ (q : Place). GoesOnWith c.args.book.now c.args.names.now (contents_of c.args.files.now) c.args.text.now q.at (drop q.rest c.push_line.new.out.items)) (same_answer (record { at = c.loop-turn.at + c.common-same.result; rest = c.common-same.result }) p is)
    (subst (λ (t : List ℕ). GoesOnWith c.args.book.now c.args.names.now (contents_of c.args.files.now) c.args.text.now (c.loop-turn.at + c.common-same.result) (drop c.common-same.result t)) c.as_slice-in-loop-turn.ensures.value
    (line-goes_on c.args.book.now c.args.names.now (contents_of c.args.files.now) c.args.text.now c.as_slice-in-loop-turn.result.now c.loop-turn.at c.common-same.result
    c.loop-turn.state c.loop-turn.made c.in-Some.line c.loop-turn.invariant.walked c.in-Some.ensures.next line
    (subst (λ (t : List ℕ). ArePartedAt t c.as_slice-in-loop-turn.result.now c.common-same.result) (take_rest c.args.text.now c.loop-turn.at) c.common-same.ensures)
    c.loop-turn.invariant.lines))

pub returns-in-Some-difference-clause-goes_on : goal.returns-in-Some-difference-clause-goes_on
returns-in-Some-difference-clause-goes_on c p is =
    let most = sum-le (contents_of c.args.files.now) c.loop-turn.made c.loop-turn.invariant.walked.are in
    let all : sum c.loop-turn.made ≡ sum_by (length {A = Call}) (contents_of c.args.files.now) = omega (arith, c.loop-turn.invariant.count, c.loop-turn-test.false, c.count_calls-calls.ensures) in
    let audit : c.as_slice-2.result.now ≡ lines_text (audit_lines c.args.names.now c.loop-turn.state) = c.as_slice-2.ensures.value ∙ rw (c.in_ok-push_audit.ensures.text, c.clear-2.ensures.items) refl in
    let differ : DifferAt (drop c.loop-turn.at c.args.text.now) c.as_slice-2.result.now c.in-Some-difference.same =
    subst (λ (t : List ℕ). DifferAt t c.as_slice-2.result.now c.in-Some-difference.same) (take_rest c.args.text.now c.loop-turn.at) c.in-Some-difference.ensures.differ in
    subst (λ (q : Place). GoesOnWith c.args.book.now c.args.names.now (contents_of c.args.files.now) c.args.text.now q.at (drop q.rest c.push_audit.new.out.items)) (same_answer (record { at = c.loop-turn.at + c.in-Some-difference.same; rest = c.in-Some-difference.same }) p is)
    (subst (λ (t : List ℕ). GoesOnWith c.args.book.now c.args.names.now (contents_of c.args.files.now) c.args.text.now (c.loop-turn.at + c.in-Some-difference.same) (drop c.in-Some-difference.same t)) c.as_slice-2.ensures.value
    (audit-goes_on c.args.book.now c.args.names.now (contents_of c.args.files.now) c.args.text.now c.as_slice-2.result.now c.loop-turn.at c.in-Some-difference.same
    c.loop-turn.state c.loop-turn.made c.loop-turn.invariant.walked all audit differ.parted c.loop-turn.invariant.lines))

pub returns-then-at-len-clause-unmatched : goal.returns-then-at-len-clause-unmatched
returns-then-at-len-clause-unmatched c p is none =
    let heading : c.as_slice.result.now ≡ line_text (heading_words c.count_calls-calls.result) =
    c.as_slice.ensures.value ∙ rw (c.in_ok-push_heading.ensures.text, c.requires.expected, c.from.ensures) refl in
    let short : c.common-at.result < length c.as_slice.result.now = rw c.as_slice.ensures.value (omega (arith, c.len.ensures)) in
    absurd
    (rest-ends c.as_slice.result.now (join_with_byte 32 (heading_words c.count_calls-calls.result)) c.common-at.result heading short
    (no_rest (record { at = c.common-at.result; rest = c.common-at.result }) p c.as_slice.result.now c.push_heading.new.out.items (same_answer _ p is) c.as_slice.ensures.value none))

pub returns-then-same-len-clause-unmatched : goal.returns-then-same-len-clause-unmatched
returns-then-same-len-clause-unmatched c p is none =
    let line : c.as_slice-in-loop-turn.result.now ≡ line_text (journal_words c.args.names.now c.in-Some.line) =
    c.as_slice-in-loop-turn.ensures.value ∙ rw (c.in_ok-push_line.ensures.text, c.clear-in-loop-turn.ensures.items) refl in
    let short : c.common-same.result < length c.as_slice-in-loop-turn.result.now = rw c.as_slice-in-loop-turn.ensures.value (omega (arith, c.len-in-loop-turn.ensures)) in
    absurd
    (rest-ends c.as_slice-in-loop-turn.result.now (join_with_byte 32 (journal_words c.args.names.now c.in-Some.line)) c.common-same.result line short
    (no_rest (record { at = c.loop-turn.at + c.common-same.result; rest = c.common-same.result }) p c.as_slice-in-loop-turn.result.now c.push_line.new.out.items (same_answer _ p is)
    c.as_slice-in-loop-turn.ensures.value none))

pub returns-in_default-clause-unmatched : goal.returns-in_default-clause-unmatched
returns-in_default-clause-unmatched c p is none =
    let files = length-contents_of c.args.files.now in
    let left : sum c.loop-turn.made < sum_by (length {A = Call}) (contents_of c.args.files.now) = omega (arith, c.loop-turn.invariant.count, c.loop-turn-test.true, c.count_calls-calls.ensures) in
    let same : c.loop-turn.at ≡ p.at = same_place (record { at = c.loop-turn.at; rest = 0 }) p is in
    subst (IsUnmatchedAt c.args.book.now c.args.names.now (contents_of c.args.files.now) c.args.text.now) same
    (missing-unmatched c.args.book.now c.args.names.now (contents_of c.args.files.now) c.args.text.now c.loop-turn.at c.loop-turn.state c.loop-turn.made
    c.loop-turn.invariant.walked left (λ q h. c.in_default.ensures.words q (omega arith))
    (λ m next first. no_line m (c.in_default.ensures.only m next (rw (take_rest c.args.text.now c.loop-turn.at) first))) c.loop-turn.invariant.ended)

pub returns-in-Some-difference-clause-unmatched : goal.returns-in-Some-difference-clause-unmatched
returns-in-Some-difference-clause-unmatched c p is none =
    let most = sum-le (contents_of c.args.files.now) c.loop-turn.made c.loop-turn.invariant.walked.are in
    let all : sum c.loop-turn.made ≡ sum_by (length {A = Call}) (contents_of c.args.files.now) = omega (arith, c.loop-turn.invariant.count, c.loop-turn-test.false, c.count_calls-calls.ensures) in
    let audit : c.as_slice-2.result.now ≡ lines_text (audit_lines c.args.names.now c.loop-turn.state) = c.as_slice-2.ensures.value ∙ rw (c.in_ok-push_audit.ensures.text, c.clear-2.ensures.items) refl in
    let differ : DifferAt (drop c.loop-turn.at c.args.text.now) c.as_slice-2.result.now c.in-Some-difference.same =
    subst (λ (t : List ℕ). DifferAt t c.as_slice-2.result.now c.in-Some-difference.same) (take_rest c.args.text.now c.loop-turn.at) c.in-Some-difference.ensures.differ in
    let same : c.loop-turn.at + c.in-Some-difference.same ≡ p.at = same_place (record { at = c.loop-turn.at + c.in-Some-difference.same; rest = c.in-Some-difference.same }) p is in
    subst (IsUnmatchedAt c.args.book.now c.args.names.now (contents_of c.args.files.now) c.args.text.now) same
    (audit-unmatched c.args.book.now c.args.names.now (contents_of c.args.files.now) c.args.text.now c.as_slice-2.result.now c.loop-turn.at c.in-Some-difference.same
    c.loop-turn.state c.loop-turn.made c.loop-turn.invariant.walked all audit differ.parted
    (no_rest (record { at = c.loop-turn.at + c.in-Some-difference.same; rest = c.in-Some-difference.same }) p c.as_slice-2.result.now c.push_audit.new.out.items (same_answer _ p is) c.as_slice-2.ensures.value none))
