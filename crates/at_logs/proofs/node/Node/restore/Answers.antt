use Rattle.std.proofs.Common.{◌≡◌, ◌↔◌, None, Some, cond, leb, ap, sym, ◌∙◌, arith}
use Rattle.std.proofs.lemmas.Bool.{false≢true}
use Rattle.at_logs.proofs.Prelude.{BookTerms, IsSaved, SavedTerms, logs_of, most_logs, saved_bytes}
use Rattle.at_logs.proofs.ReadingLaws.{accounts-logs_of}
use Rattle.at_logs.proofs.RestoreLaws.{logs_found, none_writes-read, none_writes-test, one_writes, refused, same_terms}
use Rattle.at_logs.proofs.node.Node.restore.Goals as goal

pub read_saved-requires : goal.read_saved-requires
read_saved-requires c =
    let b : BookTerms = c.args.book.now in
    let found : Some c.in-Some.logs ≡ cond (leb (logs_of b).logs most_logs) (Some (logs_of b)) None = rw c.in-Some.is at c.in_ok-logs.ensures in
    omega (arith, accounts-logs_of c.in-Some.logs b (logs_found b c.in-Some.logs found), c.known.ensures.checked.begun.few_accounts)

pub returns-in_default-2 : goal.returns-in_default-2
returns-in_default-2 c =
    let b : BookTerms = c.args.book.now in
    let found : Some c.in-Some.logs ≡ cond (leb (logs_of b).logs most_logs) (Some (logs_of b)) None = rw c.in-Some.is at c.in_ok-logs.ensures in
    let read : (s : SavedTerms) → (None ≡ Some s) ↔ (IsSaved c.in-Some.logs s × (c.args.bytes.now ≡ saved_bytes s)) = rw c.in_default-2.is at c.in_ok-saved.ensures in
    refused b c.args.hash.now c.args.bytes.now (none_writes-read b c.args.hash.now c.args.bytes.now c.in-Some.logs (logs_found b c.in-Some.logs found) read)

pub returns-then-not-branch : goal.returns-then-not-branch
returns-then-not-branch c =
    let b : BookTerms = c.args.book.now in
    let s : SavedTerms = c.in-Some-2.saved in
    let found : Some c.in-Some.logs ≡ cond (leb (logs_of b).logs most_logs) (Some (logs_of b)) None = rw c.in-Some.is at c.in_ok-logs.ensures in
    let read : (t : SavedTerms) → (Some s ≡ Some t) ↔ (IsSaved c.in-Some.logs t × (c.args.bytes.now ≡ saved_bytes t)) = rw c.in-Some-2.is at c.in_ok-saved.ensures in
    refused b c.args.hash.now c.args.bytes.now (none_writes-test b c.args.hash.now c.args.bytes.now c.in-Some.logs s (logs_found b c.in-Some.logs found) read
    (λ holds. false≢true (sym c.if-not-branch.true ∙ c.in_ok-is_node_of.ensures.1 holds)))

pub returns : goal.returns
returns c =
    let b : BookTerms = c.args.book.now in
    let s : SavedTerms = c.in-Some-2.saved in
    let found : Some c.in-Some.logs ≡ cond (leb (logs_of b).logs most_logs) (Some (logs_of b)) None = rw c.in-Some.is at c.in_ok-logs.ensures in
    let read : (t : SavedTerms) → (Some s ≡ Some t) ↔ (IsSaved c.in-Some.logs t × (c.args.bytes.now ≡ saved_bytes t)) = rw c.in-Some-2.is at c.in_ok-saved.ensures in
    let holds = c.in_ok-is_node_of.ensures.0 c.if-not-branch.false in
    let view = c.saved.view_is in
    one_writes b c.args.hash.now c.args.bytes.now c.in-Some.logs s (record { book = c.in_ok-copy.copy; hash = c.args.hash.now; core = c.in_ok-core.core; tails = c.saved.inside.tails.items })
    (logs_found b c.in-Some.logs found) read holds
    (same_terms _ b s c.in_ok-copy.ensures (sym holds.0) (c.in_ok-core.ensures ∙ ap (λ (s : SavedTerms). s.core) view) (ap (λ (s : SavedTerms). s.tails) view))
