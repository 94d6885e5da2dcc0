use Rattle.std.proofs.Common.{◌≡◌, ℕ, ◌+◌, ◌-◌, List, length, Option, None, Some, Ok, refl, Result, take, drop, sym, ap, subst, ◌∙◌}
use Rattle.std.specs.Prelude.{IfSome}
use Rattle.at_verify.proofs.Prelude.{IsAcross, IsExpected, newlines, length-take-le, take_rest, contents_of, ReportLine, Verdict, No, Yes}
use Rattle.at_verify.proofs.GoingOn.{expected-line, unmatched}
use Rattle.at_verify.proofs.Walking.{first_wrong, length-report, not_report}
use Rattle.at_verify.proofs.verifying.verify.Goals as goal

-- a verdict has one line, and one line that was expected
one_line : {E : Type 0} (a b : ℕ) (d e : Option ReportLine) → ◌≡◌ {A = Result Verdict E} (Ok (No a d)) (Ok (No b e)) → a ≡ b
one_line a b d e is = cc

one_expected : {E : Type 0} (a b : ℕ) (d e : Option ReportLine) → ◌≡◌ {A = Result Verdict E} (Ok (No a d)) (Ok (No b e)) → d ≡ e
one_expected a b d e is = cc

expected_of : (P : ReportLine → Type 0) (e : Option ReportLine) → ((x : ReportLine) → e ≡ Some x → P x) → IfSome e P
expected_of P None each = tt
expected_of P (Some x) each = each x refl

yes_no : {E : Type 0} (a : ℕ) (e : Option ReportLine) → ◌≡◌ {A = Result Verdict E} (Ok Yes) (Ok (No a e)) → ⊥
yes_no a e is = cc

pub slice_bounds-newlines-end : goal.slice_bounds-newlines-end
slice_bounds-newlines-end c = let parts = c.in_ok-parts.ensures.parts c.in-Some.place (ap Ok c.in-Some.is) in sym (length-take-le c.in-Some.place.at c.args.text.now parts.within)

pub returns-in-None-clause-lines : goal.returns-in-None-clause-lines
returns-in-None-clause-lines c is_yes =
    let is = c.in_ok-parts.ensures.report (ap Ok c.in-None.is) in
    record { is = is; lines = length-report c.args.book.now c.args.names.now (contents_of c.args.files.now) c.args.text.now is }

pub returns-in-None-clause-complete : goal.returns-in-None-clause-complete
returns-in-None-clause-complete c report line e is = absurd (yes_no line e is)

pub returns-in-None-clause-first : goal.returns-in-None-clause-first
returns-in-None-clause-first c line e is = absurd (yes_no line e is)

pub slice_bounds-expected_line-end : goal.slice_bounds-expected_line-end
slice_bounds-expected_line-end c = let parts = c.in_ok-parts.ensures.parts c.in-Some.place (ap Ok c.in-Some.is) in sym (length-take-le c.in-Some.place.at c.args.text.now parts.within)

pub returns-clause-complete : goal.returns-clause-complete
returns-clause-complete c report line e is =
    not_report c.args.book.now c.args.names.now (contents_of c.args.files.now) c.args.text.now c.in-Some.place.at (c.in_ok-parts.ensures.parts c.in-Some.place (ap Ok c.in-Some.is)) report

pub returns-clause-first : goal.returns-clause-first
returns-clause-first c line e is =
    let same : c.newlines.result + 1 ≡ line = one_line (c.newlines.result + 1) line c.expected_line.result e is in
    first_wrong c.args.book.now c.args.names.now (contents_of c.args.files.now) c.args.text.now c.in-Some.place.at line (c.in_ok-parts.ensures.parts c.in-Some.place (ap Ok c.in-Some.is))
    (sym same ∙ ap (λ (n : ℕ). n + 1) c.newlines.ensures)

pub returns-in-None-clause-expected : goal.returns-in-None-clause-expected
returns-in-None-clause-expected c line e is = absurd (yes_no line e is)

pub returns-clause-expected : goal.returns-clause-expected
returns-clause-expected c line e is =
    let same : c.newlines.result + 1 ≡ line = one_line (c.newlines.result + 1) line c.expected_line.result e is in
    let told : c.expected_line.result ≡ e = one_expected (c.newlines.result + 1) line c.expected_line.result e is in
    expected_of (IsExpected c.args.book.now c.args.names.now (contents_of c.args.files.now) c.args.text.now line) e
    (λ x found.
    let across : IsAcross (take c.in-Some.place.at c.args.text.now) (drop c.in-Some.place.rest c.parting.new.expected.items) x =
    subst (λ (t : List ℕ). IsAcross (take c.in-Some.place.at c.args.text.now) t x)
    (take_rest c.as_slice.result.now c.in-Some.place.rest ∙ ap (drop c.in-Some.place.rest) c.as_slice.ensures.value)
    (subst
    (λ (o : Option ReportLine). IfSome o (λ (y : ReportLine). IsAcross (take c.in-Some.place.at c.args.text.now) (take (length c.as_slice.result.now - c.in-Some.place.rest) (drop c.in-Some.place.rest c.as_slice.result.now)) y))
    (told ∙ found) c.expected_line.ensures.line) in
    expected-line c.args.book.now c.args.names.now (contents_of c.args.files.now) c.args.text.now (drop c.in-Some.place.rest c.parting.new.expected.items) c.in-Some.place.at line x
    (c.in_ok-parts.ensures.goes_on c.in-Some.place (ap Ok c.in-Some.is)) (sym same ∙ ap (λ (n : ℕ). n + 1) c.newlines.ensures) across)

pub returns-clause-unmatched : goal.returns-clause-unmatched
returns-clause-unmatched c line is =
    let same : c.newlines.result + 1 ≡ line = one_line (c.newlines.result + 1) line c.expected_line.result None is in
    let told : c.expected_line.result ≡ None = one_expected (c.newlines.result + 1) line c.expected_line.result None is in
    let left : newlines (drop c.in-Some.place.rest c.parting.new.expected.items) ≡ 0 =
    ap newlines (sym (take_rest c.as_slice.result.now c.in-Some.place.rest ∙ ap (drop c.in-Some.place.rest) c.as_slice.ensures.value)) ∙ c.expected_line.ensures.none told in
    unmatched c.args.book.now c.args.names.now (contents_of c.args.files.now) c.args.text.now c.in-Some.place.at line (c.in_ok-parts.ensures.unmatched c.in-Some.place (ap Ok c.in-Some.is) left)
    (sym same ∙ ap (λ (n : ℕ). n + 1) c.newlines.ensures)
