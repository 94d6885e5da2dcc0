use Rattle.std.proofs.Common.{◌≡◌, ◌==◌, ℕ, ◌<◌, true, List, ◌++◌, take, drop, length, subst, ap, ◌∙◌, arith}
use Rattle.at_verify.proofs.Prelude.{get_or-take, length-take-le, newlines, take_rest}
use Rattle.at_verify.proofs.FirstLines.{line_across, newlines-none}
use Rattle.at_verify.proofs.expecting.expected_line.Goals as goal

pub returns-in_err-end-clause-none : goal.returns-in_err-end-clause-none
returns-in_err-end-clause-none c is = newlines-none c.args.rest.now (λ k below ends. c.in_err-end.ensures k (omega arith) below ends)

pub returns-clause-line : goal.returns-clause-line
returns-clause-line c =
    let inside : c.in_ok-end.end < length c.args.rest.now = c.in_ok-end.ensures.0.high in
    let on : newlines (take c.in_ok-end.end c.args.rest.now) ≡ 0 =
    newlines-none (take c.in_ok-end.end c.args.rest.now)
    (λ k below ends.
    let most = length-take-le c.in_ok-end.end c.args.rest.now (omega arith) in
    let before : k < c.in_ok-end.end = omega arith in
    c.in_ok-end.ensures.0.before k (omega arith) (omega arith)
    (subst (λ (byte : ℕ). (byte == 10) ≡ true) (get_or-take c.in_ok-end.end c.args.rest.now k 0 before) ends)) in
    record {
      bytes = drop c.last_line.result c.args.text.now ++ take c.in_ok-end.end c.args.rest.now;
      kept = c.of.ensures ∙ ap (λ (t : List ℕ). take 256 (t ++ take c.in_ok-end.end c.args.rest.now)) (take_rest c.args.text.now c.last_line.result);
      line_is = λ behind. line_across c.args.text.now c.args.rest.now behind c.last_line.result c.in_ok-end.end c.last_line.ensures.lines inside c.in_ok-end.ensures.1 on;
    }
