use Rattle.std.proofs.Common.{◌≡◌, ℕ, List, map, replicate, ap, sym, subst, ◌∙◌}
use Rattle.at_logs.proofs.Prelude.{BacklogState, LogAccount, LogTerms, RoomyBacklog, kept_of, new_backlog, new_state, state_of}
use Rattle.at_logs.proofs.StateLaws.{IsKept, IsKept-new, kept_of-replicate}
use Rattle.at_logs.proofs.compact.Compact.new.Goals as goal

pub invariant_of-result : goal.invariant_of-result
invariant_of-result c =
    let b : LogTerms = c.args.book in
    let all : List RoomyBacklog = c.in_ok-backlogs.backlogs.items in
    let settled : List ℕ = c.in_ok-settled.settled.items in
    let balances : List ℕ = c.in_ok-balances.balances.items in
    let zeros : c.zeros.result ≡ replicate b.logs 0 = c.zeros.ensures ∙ ap (λ n. replicate n 0) c.logs-logs.ensures in
    let zeros_too : c.zeros-2.result ≡ replicate b.logs 0 = c.zeros-2.ensures ∙ ap (λ n. replicate n 0) c.logs-logs.ensures in
    let all_are : all ≡ replicate b.logs (record { kept = new_backlog b.logs; room = 0 }) =
    c.in_ok-backlogs.ensures ∙ ap (λ n. replicate n (record { kept = new_backlog n; room = 0 })) c.logs-logs.ensures in
    subst (λ (l : List ℕ). IsKept b l c.zeros-2.result settled balances all) (sym zeros)
    (subst (λ (l : List ℕ). IsKept b (replicate b.logs 0) l settled balances all) (sym zeros_too)
    (subst (λ (l : List ℕ). IsKept b (replicate b.logs 0) (replicate b.logs 0) l balances all) (sym c.in_ok-settled.ensures.openings)
    (subst (λ (l : List ℕ). IsKept b (replicate b.logs 0) (replicate b.logs 0) (map (λ (t : LogAccount). t.opening) b.accounts) l all) (sym c.in_ok-balances.ensures.openings)
    (subst (IsKept b (replicate b.logs 0) (replicate b.logs 0) (map (λ (t : LogAccount). t.opening) b.accounts) (map (λ (t : LogAccount). t.opening) b.accounts)) (sym all_are)
    (IsKept-new b c.in_ok-settled.ensures.checked)))))

pub returns : goal.returns
returns c =
    let b : LogTerms = c.args.book in
    ap (λ (l : List ℕ). state_of b l c.zeros-2.result c.in_ok-settled.settled.items c.in_ok-balances.balances.items c.in_ok-backlogs.backlogs.items) (c.zeros.ensures ∙ ap (λ n. replicate n 0) c.logs-logs.ensures)
    ∙ (ap (λ (l : List ℕ). state_of b (replicate b.logs 0) l c.in_ok-settled.settled.items c.in_ok-balances.balances.items c.in_ok-backlogs.backlogs.items)
    (c.zeros-2.ensures ∙ ap (λ n. replicate n 0) c.logs-logs.ensures)
    ∙ (ap (λ (l : List ℕ). state_of b (replicate b.logs 0) (replicate b.logs 0) l c.in_ok-balances.balances.items c.in_ok-backlogs.backlogs.items) c.in_ok-settled.ensures.openings
    ∙ (ap (λ (l : List ℕ). state_of b (replicate b.logs 0) (replicate b.logs 0) (new_state b).settled l c.in_ok-backlogs.backlogs.items) c.in_ok-balances.ensures.openings
    ∙ ap (λ (l : List BacklogState). record (new_state b) { backlogs = l })
    (ap kept_of (c.in_ok-backlogs.ensures ∙ ap (λ n. replicate n (record { kept = new_backlog n; room = 0 })) c.logs-logs.ensures)
    ∙ kept_of-replicate b.logs (record { kept = new_backlog b.logs; room = 0 })))))
