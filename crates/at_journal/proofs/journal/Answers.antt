use Rattle.std.proofs.Common.{◌≡◌, ◌<◌, ℕ, ap, length, map, subst, sym, ◌∙◌}
use Rattle.at_journal.proofs.Prelude.{IfOk-weaker, Legal, Whole, last_state, balance_of, balance_after, journal_lines, journal_order, AreCallsOf, calls_in, line_at, AreTimed, CallTimes, IsLinearizable}
use Rattle.at_journal.proofs.JournalRuns.{Legal-journal_lines, balances-journal_lines}
use Rattle.at_journal.proofs.TimedOrder.{IsLinearizable-journal_lines}
use Rattle.at_journal.proofs.WholeLaws.{Whole-journal_lines}
use Rattle.at_journal.proofs.journal.Goals as goal

pub returns-clause-lines : goal.returns-clause-lines
returns-clause-lines c =
    let closing = c.args.closing.now in
    IfOk-weaker c.lines.result (λ lines. lines.items ≡ map (line_at closing) c.as_slice.result.now) (λ lines. lines.items ≡ journal_lines closing)
    (λ lines is. is ∙ (ap (map (line_at closing)) c.as_slice.ensures.value ∙ c.in_ok-calls.ensures.lines)) c.lines.ensures

pub returns-clause-whole : goal.returns-clause-whole
returns-clause-whole c =
    let closing = c.args.closing.now in
    IfOk-weaker c.lines.result (λ lines. lines.items ≡ journal_lines closing) (λ lines. Whole (calls_in closing) lines.items)
    (λ lines is. subst (Whole (calls_in closing)) (sym is) (Whole-journal_lines c.args.book.now closing c.requires.coherent)) (returns-clause-lines c)

pub returns-clause-legal : goal.returns-clause-legal
returns-clause-legal c =
    let book = c.args.book.now in
    let closing = c.args.closing.now in
    IfOk-weaker c.lines.result (λ lines. lines.items ≡ journal_lines closing) (λ lines. Legal book lines.items)
    (λ lines is. subst (Legal book) (sym is) (Legal-journal_lines book closing c.requires.coherent c.known.ensures.checked.begun)) (returns-clause-lines c)

pub returns-clause-balances : goal.returns-clause-balances
returns-clause-balances c =
    let book = c.args.book.now in
    let closing = c.args.closing.now in
    IfOk-weaker c.lines.result (λ lines. lines.items ≡ journal_lines closing)
    (λ lines. (a : ℕ) → a < length book.accounts → balance_of (last_state book lines.items) a ≡ balance_after book (journal_order closing) a)
    (λ lines is a known.
    ap (λ ls. balance_of (last_state book ls) a) is ∙ balances-journal_lines book closing a c.requires.coherent c.known.ensures.checked.begun known)
    (returns-clause-lines c)

pub returns-clause-linearizable : goal.returns-clause-linearizable
returns-clause-linearizable c =
    let book = c.args.book.now in
    let closing = c.args.closing.now in
    IfOk-weaker c.lines.result (λ lines. lines.items ≡ journal_lines closing)
    (λ lines. (times : CallTimes) → AreTimed closing times → IsLinearizable book (calls_in closing) times lines.items)
    (λ lines is times timed.
    subst (IsLinearizable book (calls_in closing) times) (sym is)
    (IsLinearizable-journal_lines book closing times c.requires.coherent c.known.ensures.checked.begun timed))
    (returns-clause-lines c)

pub lines-requires-clause-calls : goal.lines-requires-clause-calls
lines-requires-clause-calls c = subst (AreCallsOf c.args.closing.now) (sym c.as_slice.ensures.value) c.in_ok-calls.ensures.calls
