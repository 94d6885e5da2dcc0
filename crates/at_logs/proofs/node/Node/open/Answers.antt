use Rattle.std.proofs.Common.{◌≡◌, replicate, ap, sym, subst, ◌∙◌}
use Rattle.std.specs.Prelude.{nat_le}
use Rattle.at_logs.proofs.Prelude.{cond_some, BookTerms, HasReadLogs, IsHistoryOf, IsLogBook, IsRecord, LogTerms, NodeTerms, logs_of, most_logs, new_state, no_tail, opened, opened_terms, read_state, nothing_read}
use Rattle.at_logs.proofs.HistoryLaws.{IsHistoryOf-opened, IsRecord-opened}
use Rattle.at_logs.proofs.node.Node.open.Goals.{After-known}
use Rattle.at_logs.proofs.node.Node.open.Goals as goal

-- the logs are those of the book
logs_are : (c : After-known) → c.in-Some.logs ≡ logs_of c.args.book.now
logs_are c =
    let b : BookTerms = c.args.book.now in
    sym (cond_some (nat_le (logs_of b).logs most_logs) (logs_of b) c.in-Some.logs (sym c.in_ok-logs.ensures ∙ c.in-Some.is)).1

core_is : (c : After-known) → c.in_ok-core.core ≡ new_state (logs_of c.args.book.now)
core_is c = c.in_ok-core.ensures ∙ ap new_state (logs_are c)

-- the node that is made
abbrev made : After-known → NodeTerms
made c = record { book = c.in_ok-copy.copy; hash = c.args.hash.now; core = c.in_ok-core.core; tails = c.in_ok-tails.tails.items }

is_opened : (c : After-known) → made c ≡ opened_terms c.args.book.now c.args.hash.now
is_opened c =
    let b : BookTerms = c.args.book.now in
    let tails : c.in_ok-tails.tails.items ≡ replicate (logs_of b).logs (no_tail (logs_of b).logs) =
    c.in_ok-tails.ensures ∙ ap (λ n. replicate n (no_tail n)) (c.logs-2.ensures ∙ ap (λ (n : LogTerms). n.logs) (logs_are c)) in
    rw (c.in_ok-copy.ensures, core_is c, tails)

history : (c : After-known) → IsHistoryOf (nothing_read c.args.book.now) (opened_terms c.args.book.now c.args.hash.now)
history c = IsHistoryOf-opened c.args.book.now c.args.hash.now (subst IsLogBook (ap (λ x. x.book) (core_is c)) c.known.ensures.book)

pub invariant_of-result : goal.invariant_of-result
invariant_of-result c =
    let at = (goal.at.invariant_of-result c).After-known in
    subst IsRecord (sym (is_opened at)) (IsRecord-opened c.args.book.now c.args.hash.now)

pub returns-clause-history : goal.returns-clause-history
returns-clause-history c =
    let at = (goal.at.returns-clause-history c).After-known in
    subst (IsHistoryOf (nothing_read c.args.book.now)) (sym (is_opened at)) (history at)

pub returns-clause-read : goal.returns-clause-read
returns-clause-read c = λ logs.
    let at = (goal.at.returns-clause-read c).After-known in
    subst (λ (n : NodeTerms). HasReadLogs c.args.book.now c.args.hash.now logs (read_state n (nothing_read c.args.book.now))) (sym (is_opened at)) (opened (history at).reading)
