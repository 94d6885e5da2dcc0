use Rattle.std.proofs.Common.{◌≡◌, ℕ, ◌<◌, ◌≤◌, Bool, true, false, cond, List, [], ◌∷◌, ◌++◌, length, map, sum_by, ap, sym, ◌∙◌, arith}
use Rattle.at_logs.proofs.Prelude.{range_with_len, length-map, take_all, length-range_with_len, map-range_with_len_more, sum_by-append, sum_by-cons, sum_by_more, AccountTerms, is_shared, no_account, BookTerms, account_of, LogAccount, log_account}
use Rattle.at_logs.proofs.logs.logs_of.Goals as goal

le_one : (t : Bool) → cond t 1 0 ≤ 1
le_one true = omega arith
le_one false = omega arith

pub loop-account-preserved : goal.loop-account-preserved
loop-account-preserved c =
    let b : BookTerms = c.args.book.now in
    let a : ℕ = c.loop-account.account in
    let is = c.loop-account.invariant in
    let within : a < length b.accounts = omega (arith, c.loop-account-test.true, c.loop-account.auto.account-end, c.accounts-account-end.ensures.count) in
    let x : LogAccount = record { opening = c.opening.result; log = c.log_in-log.result } in
    let x_is : x ≡ log_account b a =
    ap (λ o. record { opening = o; log = c.log_in-log.result }) c.opening.ensures ∙ ap (λ l. record { opening = (account_of b a).opening; log = l }) c.log_in-log.ensures in
    let pushed = c.in_ok-push.ensures.items in
    record {
      counted = omega (arith, is.counted, c.shared_count-logs.ensures, sum_by_more (λ (t : AccountTerms). cond (is_shared t) 1 0) b.accounts a no_account within);
      few = omega (arith, is.few, c.shared_count-logs.ensures, le_one (is_shared (account_of b a)));
      accounts = pushed
          ∙ (ap (λ (l : List LogAccount). l ++ x ∷ []) is.accounts
          ∙ (ap (λ (y : LogAccount). map (log_account b) (range_with_len 0 a) ++ y ∷ []) x_is ∙ sym (map-range_with_len_more (log_account b) 0 a a (omega arith))));
      total = omega (
        arith,
        is.total,
        c.opening.ensures,
        ap (λ (l : List LogAccount). sum_by (λ t. t.opening) l) pushed,
        sum_by-append (λ (t : LogAccount). t.opening) c.loop-account.accounts.items (x ∷ []),
        sum_by-cons (λ (t : LogAccount). t.opening) x [],
        sum_by_more (λ (t : AccountTerms). t.opening) b.accounts a no_account within,
      );
    }

pub new-requires : goal.new-requires
new-requires c =
    let b : BookTerms = c.args.book.now in
    let a : ℕ = c.loop-account.account in
    let is = c.loop-account.invariant in
    let book = c.accounts-account-end.ensures.checked in
    let all : length b.accounts ≤ a = omega (arith, c.loop-account-test.false, c.loop-account.auto.account-end, c.accounts-account-end.ensures.count) in
    record {
      some_log = omega (arith, is.counted, book.begun.some_process);
      few_logs = omega (arith, c.if-logs-gt-LOGS_MAX.false);
      few_accounts = omega (
        arith,
        ap (λ (l : List LogAccount). length l) is.accounts,
        length-map (range_with_len 0 a) (log_account b),
        length-range_with_len 0 a,
        c.loop-account.auto.account-end,
        c.accounts-account-end.ensures.count,
        book.begun.few_accounts,
      );
      total = omega (arith, is.total, ap (λ (l : List AccountTerms). sum_by (λ t. t.opening) l) (take_all a b.accounts all), book.begun.total);
    }
