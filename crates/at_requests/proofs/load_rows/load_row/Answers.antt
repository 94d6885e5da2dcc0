use Rattle.std.proofs.Common.{◌-◌, Some, length, sym, ap, subst, arith}
use Rattle.at_requests.proofs.Prelude.{BookTerms, LoadsRow}
use Rattle.at_requests.proofs.Laws.Accounts.{HasAccount}
use Rattle.at_requests.proofs.Laws.Rows.{KnowsOf-LoadsAnnounced, LoadsRow-none, LoadsRow-other, LoadsRow-own}
use Rattle.at_requests.proofs.load_rows.load_row.Goals.{After-known}
use Rattle.at_requests.proofs.load_rows.load_row.Goals as goal

-- the seat has something on the account
has : (c : After-known) → HasAccount c.args.seat.now.knows c.args.account
has c =
    let seat = c.known.ensures.seat in
    let same = ap (λ (t : BookTerms). length t.accounts) c.requires.board.book in
    record { part = omega (arith, seat.one_part); inside = omega (arith, seat.accounts, c.requires.account, same) }

pub returns-then-slot-own-clause-row : goal.returns-then-slot-own-clause-row
returns-then-slot-own-clause-row c =
    subst (λ x. LoadsRow c.args.seat.now.knows c.load_announced-count.new.seat.knows c.args.account c.args.slot c.args.own.now (Some x)) (sym c.copy.ensures)
    (LoadsRow-own c.args.board.now.book c.args.seat.now.knows c.load_announced-count.new.seat.knows c.args.account c.args.slot c.load_announced-count.result
    c.args.own.now c.if-slot-own.true c.requires.own c.load_announced-count.ensures.told)

pub returns-then-count-eq0-clause-row : goal.returns-then-count-eq0-clause-row
returns-then-count-eq0-clause-row c =
    LoadsRow-none c.args.board.now.book c.args.seat.now.knows c.load_announced-count.new.seat.knows c.args.account c.args.slot c.load_announced-count.result
    c.args.own.now c.if-slot-own.false (omega arith) c.load_announced-count.ensures.told

pub load_request-last-requires-clause-request : goal.load_request-last-requires-clause-request
load_request-last-requires-clause-request c =
    KnowsOf-LoadsAnnounced c.args.board.now.book c.args.seat.now.knows c.load_announced-count.new.seat.knows c.args.account c.args.slot c.load_announced-count.result
    (c.load_announced-count.result - 1) (omega arith) c.load_announced-count.ensures.told

pub returns-clause-row : goal.returns-clause-row
returns-clause-row c =
    LoadsRow-other c.args.board.now.book c.args.seat.now.knows c.load_announced-count.new.seat.knows c.load_request-last.new.seat.knows c.args.account c.args.slot
    c.load_announced-count.result (c.load_announced-count.result - 1) c.args.own.now c.load_request-last.result (has (goal.at.returns-clause-row c).After-known) c.if-slot-own.false (omega arith)
    c.load_announced-count.ensures.told c.load_request-last.ensures.loaded
