-- The logs of a book keep what its accounts open with.
use Rattle.std.proofs.Common.{◌≡◌, ℕ, zero, suc, ◌+◌, ◌≤◌, List, length, map, take, sum_by, refl, add-one, ap, sym, ◌∙◌, arith}
use Rattle.at_logs.proofs.Prelude.{range_with_len, sum_by-map-range_with_len_more, sum_by_more, take_all, AccountTerms, no_account, BookTerms, LogAccount, LogTerms, log_account, logs_of, total_of, total_on_logs}

-- of the first accounts
total-first : (b : BookTerms) (n : ℕ) → n ≤ length b.accounts
    → sum_by (λ (t : LogAccount). t.opening) (map (log_account b) (range_with_len 0 n)) ≡ sum_by (λ (t : AccountTerms). t.opening) (take n b.accounts)
total-first b zero within = refl
total-first b (suc n) within =
    let more : sum_by (λ (t : LogAccount). t.opening) (map (log_account b) (range_with_len 0 (n + 1))) ≡ sum_by (λ (t : AccountTerms). t.opening) (take (n + 1) b.accounts) =
    omega (
      arith,
      total-first b n (omega (arith, within)),
      sum_by-map-range_with_len_more (λ (t : LogAccount). t.opening) (log_account b) 0 n n (omega arith),
      sum_by_more (λ (t : AccountTerms). t.opening) b.accounts n no_account (omega (arith, within)),
    ) in
    ap (λ k. sum_by (λ (t : LogAccount). t.opening) (map (log_account b) (range_with_len 0 k))) (sym (add-one n))
    ∙ (more ∙ ap (λ k. sum_by (λ (t : AccountTerms). t.opening) (take k b.accounts)) (add-one n))

-- so their total is that of the book
pub total-logs_of : (logs : LogTerms) (b : BookTerms) → logs ≡ logs_of b → total_on_logs logs ≡ total_of b
total-logs_of logs b is =
    ap total_on_logs is
    ∙ (total-first b (length b.accounts) (omega arith)
    ∙ ap (λ (l : List AccountTerms). sum_by (λ t. t.opening) l) (take_all (length b.accounts) b.accounts (omega arith)))
