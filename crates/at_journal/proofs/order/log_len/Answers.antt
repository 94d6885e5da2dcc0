use Rattle.std.proofs.Common.{◌≡◌, ◌==◌, ℕ, false, sym, ◌∙◌, ◌-◌, ◌<◌, ap, arith, length}
use Rattle.at_journal.proofs.Prelude.{nat_tests, log_of}
use Rattle.at_journal.proofs.LogViews.{get_or-view, length-view}
use Rattle.at_journal.proofs.order.log_len.Goals as goal

not_empty : (n : ℕ) → n == 0 ≡ false → 0 < n
not_empty n some = grind (arith, nat_tests)

pub get-requires : goal.get-requires
get-requires c =
    let log = c.log-log.result.now in
    let some : length log - 1 < length (log_of c.args.closing.now c.args.p) = omega (arith, ap length c.log-log.ensures, not_empty (length log) (sym c.is_empty.ensures ∙ c.if-is_empty.false)) in
    omega (arith, length-view c.args.closing.now c.args.p (length log - 1) log c.index-log-log.result c.log-log.ensures c.requires.within c.requires.known some)

pub returns-clause-length : goal.returns-clause-length
returns-clause-length c =
    let log = c.log-log.result.now in
    let some : length log - 1 < length (log_of c.args.closing.now c.args.p) = omega (arith, ap length c.log-log.ensures, not_empty (length log) (sym c.is_empty.ensures ∙ c.if-is_empty.false)) in
    let is = get_or-view c.args.closing.now c.args.p (length log - 1) log c.index-log-log.result c.log-log.ensures c.requires.numbered some in
    omega (arith, is, ap length c.log-log.ensures, some, c.get.ensures)
