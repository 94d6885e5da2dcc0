use Rattle.std.proofs.Common.{◌≡◌, ℕ, ◌++◌, ◌∷◌, [], List, ap, codes, decimal, length, map, sym, ◌∙◌, arith}
use Rattle.at_follow.proofs.Prelude.{Words, length-range_with_len, line_text, lines_text, lines_text-map_more, node_account_words, range_with_len}
use Rattle.at_follow.proofs.TextLaws.{section-map}
use Rattle.at_follow.proofs.printing.push_balances.Goals as goal

pub loop-account-preserved : goal.loop-account-preserved
loop-account-preserved c =
    let f : ℕ → Words = node_account_words c.args.names.now c.args.node.now in
    let a : ℕ = c.loop-account.account in
    let line : c.push_numbered-in-loop-account.new.out.items ≡ c.loop-account.out.items ++ line_text (f a) =
    rw (← c.account.ensures.name, ← c.balance.ensures) c.in_ok-push_numbered-2.ensures.text in
    line ∙ (ap (λ (l : List ℕ). l ++ line_text (f a)) c.loop-account.invariant ∙ lines_text-map_more f c.push_numbered.new.out.items a)

pub returns : goal.returns
returns c =
    let f : ℕ → Words = node_account_words c.args.names.now c.args.node.now in
    let out : List ℕ = c.args.out.now.items in
    let many : ℕ = length c.args.book.now.accounts in
    let all : c.loop-account.account ≡ many = omega (arith, c.loop-account-test.false, c.loop-account.auto.account-end, c.accounts-account-end.ensures.count) in
    let count : c.from.result ≡ many = c.from.ensures ∙ c.accounts.ensures.count in
    c.loop-account.invariant
    ∙ (ap (λ n. c.push_numbered.new.out.items ++ lines_text (map f (range_with_len 0 n))) all
    ∙ (ap (λ (l : List ℕ). l ++ lines_text (map f (range_with_len 0 many))) (c.in_ok-push_numbered.ensures.text ∙ ap (λ n. out ++ line_text (codes "balances" ∷ decimal n ∷ [])) count)
    ∙ section-map (codes "balances") out f (range_with_len 0 many) many (sym (length-range_with_len 0 many))))
