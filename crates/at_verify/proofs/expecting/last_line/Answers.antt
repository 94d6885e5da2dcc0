use Rattle.std.proofs.Common.{◌≡◌, ◌==◌, ℕ, ◌+◌, true, drop, subst, ap, ◌∙◌, arith}
use Rattle.at_verify.proofs.Prelude.{get_or-drop, length-drop, first_lines}
use Rattle.at_verify.proofs.FirstLines.{first_lines-zero, lines_up_to, newlines-none}
use Rattle.at_verify.proofs.expecting.last_line.Goals as goal

pub returns-in-Some-clause-line : goal.returns-in-Some-clause-line
returns-in-Some-clause-line c =
    newlines-none (drop (c.in-Some.last + 1) c.args.text.now)
    (λ k below ends.
    let most = length-drop (c.in-Some.last + 1) c.args.text.now in
    c.in-Some.ensures.0.after (c.in-Some.last + 1 + k) (omega arith) (omega arith)
    (subst (λ (byte : ℕ). (byte == 10) ≡ true) (get_or-drop (c.in-Some.last + 1) c.args.text.now k 0) ends))

pub returns-in-Some-clause-lines : goal.returns-in-Some-clause-lines
returns-in-Some-clause-lines c =
    lines_up_to c.args.text.now c.in-Some.last c.in-Some.ensures.0.high c.in-Some.ensures.1 (returns-in-Some-clause-line c)

pub returns-in-None-clause-line : goal.returns-in-None-clause-line
returns-in-None-clause-line c = newlines-none c.args.text.now (λ k below ends. c.in-None.ensures k (omega arith) below ends)

pub returns-in-None-clause-lines : goal.returns-in-None-clause-lines
returns-in-None-clause-lines c =
    ap (λ (n : ℕ). first_lines n c.args.text.now) (returns-in-None-clause-line c) ∙ first_lines-zero c.args.text.now
