use Rattle.at_journal.proofs.Prelude.{common_steps, receipts_of, journal_order, is_success, receipt_at, first_account}
use Rattle.std.proofs.Common.{◌≡◌, ◌<◌, [], ap, arith, length, map, get_or, subst, sym, ◌∙◌}
use Rattle.at_journal.proofs.LinePositions.{first_of_round-small, receipt_at-is}
use Rattle.at_journal.proofs.lines.key_of.Goals.{After-first_of_round, In-Round}
use Rattle.at_journal.proofs.lines.key_of.Goals as goal

pub bounds-own-number : goal.bounds-own-number
bounds-own-number c =
    let same = receipt_at-is c.args.closing.now c.args.p c.args.i c.receipts.result.now c.index-receipts-i.result c.receipts.ensures c.requires.within c.index-receipts-i.is in
    (c.requires.starts.own_at c.in-Own.number (ap (λ r. r.at) same ∙ c.in-Own.is)).0

-- the receipt that was read
same : (c : In-Round) → receipt_at (receipts_of c.args.closing.now c.args.p) c.args.i ≡ c.index-receipts-i.result
same c = receipt_at-is c.args.closing.now c.args.p c.args.i c.receipts.result.now c.index-receipts-i.result c.receipts.ensures c.requires.within c.index-receipts-i.is

pub first_of_round-requires-clause-round_in : goal.first_of_round-requires-clause-round_in
first_of_round-requires-clause-round_in c =
    let read = same (goal.at.first_of_round-requires-clause-round_in c).In-Round in
    subst (λ a. c.in-Round.round < length (get_or (map (λ v. v.items) c.args.starts.now) a [])) (ap (λ r. first_account r.call) read ∙ sym c.first_account.ensures)
    (c.requires.starts.round_at c.in-Round.round c.in-Round.place (ap (λ r. r.at) read ∙ c.in-Round.is)
    (ap (λ r. is_success r.reply) read ∙ (sym c.is_success.ensures ∙ c.if-is_success.true))).0

within : (c : After-first_of_round) → c.first_of_round.result < length (journal_order c.args.closing.now)
within c =
    let read = same (goal.at.After-first_of_round c).In-Round in
    first_of_round-small c.args.p (journal_order c.args.closing.now) c.args.own.now (map (λ v. v.items) c.args.starts.now)
    (receipt_at (receipts_of c.args.closing.now c.args.p) c.args.i) c.in-Round.round c.in-Round.place c.first_account.result c.first_of_round.result c.requires.starts
    (ap (λ r. r.at) read ∙ c.in-Round.is) (ap (λ r. is_success r.reply) read ∙ (sym c.is_success.ensures ∙ c.if-is_success.true))
    (c.first_account.ensures ∙ ap (λ r. first_account r.call) (sym read)) c.first_of_round.ensures

pub overflow_mul-result-then-is_success : goal.overflow_mul-result-then-is_success
overflow_mul-result-then-is_success c = omega (arith, c.requires.small, within (goal.at.overflow_mul-result-then-is_success c).After-first_of_round)

pub overflow_add-result-then-is_success : goal.overflow_add-result-then-is_success
overflow_add-result-then-is_success c = omega (arith, c.requires.small, within (goal.at.overflow_add-result-then-is_success c).After-first_of_round)

pub overflow_mul-result-in-Own : goal.overflow_mul-result-in-Own
overflow_mul-result-in-Own c = grind (arith, common_steps)

pub first_of_round-requires-clause-account_in : goal.first_of_round-requires-clause-account_in
first_of_round-requires-clause-account_in c = grind (arith, common_steps)

pub overflow_add-result : goal.overflow_add-result
overflow_add-result c = grind (arith, common_steps)
