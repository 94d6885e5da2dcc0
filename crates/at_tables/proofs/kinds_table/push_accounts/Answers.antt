use Rattle.at_tables.proofs.Prelude.{common_steps, get_or_read, account_name, account_of, line_text, lines_text-map_more, count_in, is_by_owner_of, account_words, owner_words, use_word}
use Rattle.std.proofs.Common.{◌≡◌, ℕ, ◌<◌, ◌∙◌, ◌++◌, ◌∷◌, ap, decimal, length, arith}
use Rattle.at_tables.proofs.kinds_table.push_accounts.Goals as goal

pub loop-account-preserved : goal.loop-account-preserved
loop-account-preserved c = λ files counts.
    let b = c.args.book.now in
    let names = c.args.names.now in
    let a : ℕ = c.loop-account.account in
    let t = account_of b a in
    let within : a < length c.args.counts.now.by_owners.items = omega arith in
    let same : c.index-payments.result.now ≡ count_in (is_by_owner_of a b) files =
    get_or_read c.args.counts.now.by_owners.items a _ within c.index-payments.ensures 0 ∙ counts.by_owners a in
    let line : c.push_account.new.out.items ≡ c.loop-account.out.items ++ line_text (account_words b names files a) =
    c.in_ok-push_account.ensures ∙ ap (λ (n : ℕ). c.loop-account.out.items ++ line_text (account_name names a ∷ use_word t ∷ decimal n ∷ owner_words names t.owners)) same in
    line ∙ rw (c.loop-account.invariant files counts) (lines_text-map_more (account_words b names files) c.args.out.now.items a)

pub push_account-requires-clause-processes : goal.push_account-requires-clause-processes
push_account-requires-clause-processes c = grind (arith, common_steps)

pub push_account-requires-clause-accounts : goal.push_account-requires-clause-accounts
push_account-requires-clause-accounts c = grind (arith, common_steps)

pub push_account-requires-clause-account_in : goal.push_account-requires-clause-account_in
push_account-requires-clause-account_in c = grind (arith, common_steps)

pub loop-account-init : goal.loop-account-init
loop-account-init c = grind (arith, common_steps)
