use Rattle.std.proofs.Common.{◌≡◌, ◌+◌, [], Option, ap, length, refl, sym, subst, ◌∙◌, arith}
use Rattle.std.specs.Prelude.{IfSome, nat_le}
use Rattle.at_follow.proofs.Prelude.{All, BookTerms, IsFollowing, IsHistoryOf, IsToldOn, LogBytes, LogTerms, NodeState, NodeTerms, ReadingState, accounts-logs_of, cond_some, log_bytes, logs_of, most_logs, nothing_read, opened_terms, read_state, total_of}
use Rattle.at_follow.proofs.GivingLaws.{HasReadLogs-GoesThrough, IsFollowing-opened, IsFollowing-own, book-GoesThrough, faults-GoesThrough, length-log_bytes, own-IsFollowing, reading-GoesThrough}
use Rattle.at_follow.proofs.TellingEach.{on-TellsEach, same-TellsEach}
use Rattle.at_follow.proofs.following.follow.Goals.{After-known, After-logs-log-end}
use Rattle.at_follow.proofs.following.follow.Goals as goal

is_opened : (c : After-logs-log-end) → c.in-Some.node ≡ opened_terms c.args.book.now c.args.hash.now
is_opened c =
    let b : BookTerms = c.args.book.now in
    sym (cond_some (nat_le (logs_of b).logs most_logs) (opened_terms b c.args.hash.now) c.in-Some.node (sym c.in_ok-node.ensures.opened ∙ c.in-Some.is)).1

pub loop-log-init : goal.loop-log-init
loop-log-init c =
    let b : BookTerms = c.args.book.now in
    IsFollowing-opened b c.args.hash.now (log_bytes c.args.logs.now) c.in-Some.node c.new-faults.result.items (is_opened c)
    (subst (λ (o : Option NodeTerms). IfSome o (IsHistoryOf (nothing_read b))) c.in-Some.is c.in_ok-node.ensures.history) c.new-faults.ensures.items

pub follow_log-requires-clause-before : goal.follow_log-requires-clause-before
follow_log-requires-clause-before c =
    let b : BookTerms = c.args.book.now in
    let n : NodeTerms = c.loop-log.node in
    let logs : LogBytes = log_bytes c.args.logs.now in
    let own = own-IsFollowing b c.args.hash.now logs c.loop-log.log 0 n c.loop-log.faults.items c.loop-log.invariant in
    IsFollowing-own b n.book c.args.hash.now n.hash logs c.loop-log.log 0 n c.loop-log.faults.items (sym own.0) (sym own.1) c.loop-log.invariant

pub follow_log-requires-clause-count : goal.follow_log-requires-clause-count
follow_log-requires-clause-count c =
    c.requires.count
    ∙ ap (λ (b : BookTerms). (logs_of b).logs)
    (sym (own-IsFollowing c.args.book.now c.args.hash.now (log_bytes c.args.logs.now) c.loop-log.log 0 c.loop-log.node c.loop-log.faults.items c.loop-log.invariant).0)

-- how many logs there are
end_is : (c : After-logs-log-end) → c.logs-log-end.result ≡ (logs_of c.args.book.now).logs
end_is c = c.logs-log-end.ensures ∙ ap (λ (n : NodeTerms). n.core.book.logs) (is_opened c)

pub follow_log-requires-clause-few : goal.follow_log-requires-clause-few
follow_log-requires-clause-few c =
    let at = (goal.at.follow_log-requires-clause-few c).After-logs-log-end in
    c.requires.few c.loop-log.log [] (omega (arith, c.loop-log-test.true, end_is at, c.requires.count, length-log_bytes c.args.logs.now))

pub loop-log-preserved : goal.loop-log-preserved
loop-log-preserved c =
    let b : BookTerms = c.args.book.now in
    let n : NodeTerms = c.loop-log.node in
    let logs : LogBytes = log_bytes c.args.logs.now in
    let own = own-IsFollowing b c.args.hash.now logs c.loop-log.log 0 n c.loop-log.faults.items c.loop-log.invariant in
    IsFollowing-own n.book b n.hash c.args.hash.now logs (c.loop-log.log + 1) 0 c.follow_log.new.node c.follow_log.new.faults.items own.0 own.1 c.in_ok-follow_log.ensures

-- the node after the last log
all_logs : (c : After-known) → IsFollowing c.args.book.now c.args.hash.now (log_bytes c.args.logs.now) (logs_of c.args.book.now).logs 0 c.loop-log.node c.loop-log.faults.items
all_logs c =
    let b : BookTerms = c.args.book.now in
    let at = (goal.at.returns-clause-followed c).After-logs-log-end in
    let end : c.loop-log.log ≡ (logs_of b).logs = omega (arith, c.loop-log-test.false, c.loop-log.auto.log-end, end_is at) in
    subst (λ k. IsFollowing b c.args.hash.now (log_bytes c.args.logs.now) k 0 c.loop-log.node c.loop-log.faults.items) end c.loop-log.invariant

pub returns-clause-followed : goal.returns-clause-followed
returns-clause-followed c =
    let b : BookTerms = c.args.book.now in
    let logs : LogBytes = log_bytes c.args.logs.now in
    let is = all_logs c in
    let told = c.in_ok-told.ensures is.messages is.history in
    record {
      read = read_state c.loop-log.node is.messages;
      end = read_state c.tell_all.new.node is.messages;
      goes = is.goes;
      tells = told.tells;
      all = told.all;
      node = refl;
      history = told.history;
      of_logs = told.of_logs b c.args.hash.now logs (HasReadLogs-GoesThrough b c.args.hash.now logs (logs_of b).logs 0 (read_state c.loop-log.node is.messages) c.loop-log.faults.items is.goes);
      promises = c.known.ensures is.messages told.history;
    }

pub returns-clause-on : goal.returns-clause-on
returns-clause-on c =
    let b : BookTerms = c.args.book.now in
    let logs : LogBytes = log_bytes c.args.logs.now in
    let is = all_logs c in
    let s : ReadingState = read_state c.loop-log.node is.messages in
    let m : NodeTerms = c.tell_all.new.node in
    let told = c.in_ok-told.ensures is.messages is.history in
    let of = book-GoesThrough b c.args.hash.now logs (logs_of b).logs 0 s c.loop-log.faults.items is.goes in
    let same = same-TellsEach s c.in_ok-told.told.items (read_state m is.messages) told.tells in
    let book : m.book ≡ b = same.book ∙ of.book in
    let logs_are : m.core.book ≡ logs_of b = ap (λ (n : NodeState). n.book) same.node ∙ of.logs in
    let accounts : length m.core.book.accounts ≡ length b.accounts = accounts-logs_of m.core.book b logs_are in
    let reading = reading-GoesThrough b c.args.hash.now logs (logs_of b).logs 0 s c.loop-log.faults.items is.goes in
    let steady = told.history.reading.node.steady in
    record {
      book = book;
      logs = logs_are;
      told = subst (λ n. All (IsToldOn (logs_of b).logs n) c.in_ok-told.told.items) (accounts-logs_of s.node.book b of.logs)
          (subst (λ n. All (IsToldOn n (length s.node.book.accounts)) c.in_ok-told.told.items) (ap (λ (n : LogTerms). n.logs) of.logs) (on-TellsEach s c.in_ok-told.told.items (read_state m is.messages) reading told.tells));
      faults = faults-GoesThrough b c.args.hash.now logs (logs_of b).logs 0 s c.loop-log.faults.items is.goes;
      counts = steady.counted ∙ ap (λ (n : LogTerms). n.logs) logs_are;
      balances = steady.balanced ∙ accounts;
      total = (c.known.ensures is.messages told.history).book_total ∙ ap total_of book;
    }
