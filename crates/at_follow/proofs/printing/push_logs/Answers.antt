use Rattle.std.proofs.Common.{◌≡◌, ℕ, ◌++◌, ◌∷◌, [], List, ap, codes, decimal, map, sym, ◌∙◌, arith}
use Rattle.at_follow.proofs.Prelude.{LogTerms, Words, length-range_with_len, line_text, lines_text, lines_text-map_more, log_line, logs_of, range_with_len}
use Rattle.at_follow.proofs.TextLaws.{section-map}
use Rattle.at_follow.proofs.printing.push_logs.Goals as goal

pub loop-log-preserved : goal.loop-log-preserved
loop-log-preserved c =
    let f : ℕ → Words = log_line c.args.book.now c.args.names.now c.args.node.now in
    c.in_ok-push_log.ensures
    ∙ (ap (λ (l : List ℕ). l ++ line_text (f c.loop-log.log)) c.loop-log.invariant ∙ lines_text-map_more f c.push_numbered.new.out.items c.loop-log.log)

pub returns : goal.returns
returns c =
    let f : ℕ → Words = log_line c.args.book.now c.args.names.now c.args.node.now in
    let out : List ℕ = c.args.out.now.items in
    let many : ℕ = (logs_of c.args.book.now).logs in
    let logs : c.args.node.now.core.book.logs ≡ many = ap (λ (n : LogTerms). n.logs) c.requires.logs in
    let all : c.loop-log.log ≡ many = omega (arith, c.loop-log-test.false, c.loop-log.auto.log-end, c.logs-log-end.ensures, logs) in
    let count : c.from.result ≡ many = c.from.ensures ∙ (c.logs.ensures ∙ logs) in
    c.loop-log.invariant
    ∙ (ap (λ n. c.push_numbered.new.out.items ++ lines_text (map f (range_with_len 0 n))) all
    ∙ (ap (λ (l : List ℕ). l ++ lines_text (map f (range_with_len 0 many))) (c.in_ok-push_numbered.ensures.text ∙ ap (λ n. out ++ line_text (codes "logs" ∷ decimal n ∷ [])) count)
    ∙ section-map (codes "logs") out f (range_with_len 0 many) many (sym (length-range_with_len 0 many))))
