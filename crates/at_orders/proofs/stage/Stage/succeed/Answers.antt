use Rattle.at_orders.proofs.Prelude.{common_steps, is_shared, slots_of, BookTerms, account_of, LedgerState, moved, with_sent, ledger_at, HasNumbers}
use Rattle.std.proofs.Common.{◌≡◌, ℕ, cond, false, get_or, sym, ap, subst, ◌∙◌, arith}
use Rattle.at_orders.proofs.Crediting.{has-all}
use Rattle.at_orders.proofs.Requests.{own_room-left, slots-single}
use Rattle.at_orders.proofs.stage.Stage.succeed.Goals as goal

pub count_sent-requires-clause-room : goal.count_sent-requires-clause-room
count_sent-requires-clause-room c =
    let g = c.args.ground.now in
    let p : ℕ = c.args.process in
    let standing = c.requires.standing in
    let l : LedgerState = ledger_at g c.args.self.now standing.all in
    let has = has-all g c.args.self.now standing in
    let none : slots_of (account_of g.book c.args.from) ≡ 0 =
    sym (c.slot_count.ensures.count ∙ ap (λ (b : BookTerms). slots_of (account_of b c.args.from)) c.book.ensures.book) ∙ c.if-slot_count-eq0.true in
    let counts = standing.sent in
    let known = c.requires.process_in in
    let most = standing.sent_room p 0 (omega arith) in
    let left = own_room-left l p c.args.from c.args.targets.now (c.requires.done l has) none most in
    let same : get_or c.move_amounts.new.self.sent.items p 0 ≡ get_or c.args.self.now.sent.items p 0 = ap (λ (x : LedgerState). get_or x.sent p 0) (c.move_amounts.ensures.moved l has).is in
    omega (arith, left, same)

pub returns-then-slot_count-eq0-clause-ledger : goal.returns-then-slot_count-eq0-clause-ledger
returns-then-slot_count-eq0-clause-ledger c l has =
    let g = c.args.ground.now in
    let none : slots_of (account_of g.book c.args.from) ≡ 0 =
    sym (c.slot_count.ensures.count ∙ ap (λ (b : BookTerms). slots_of (account_of b c.args.from)) c.book.ensures.book) ∙ c.if-slot_count-eq0.true in
    let single : is_shared (account_of l.book c.args.from) ≡ false = ap (λ (x : LedgerState). is_shared (account_of x.book c.args.from)) (sym has.is) ∙ slots-single (account_of g.book c.args.from) none in
    let paid : LedgerState = moved l c.args.from c.args.targets.now in
    let own : LedgerState = with_sent paid c.args.process in
    subst (HasNumbers g c.count_sent.new.self) (sym (ap (λ t. cond t paid own) single)) (c.count_sent.ensures.counted paid (c.move_amounts.ensures.moved l has))

pub slot_count-requires : goal.slot_count-requires
slot_count-requires c = grind (arith, common_steps)

pub move_amounts-requires-clause-covered : goal.move_amounts-requires-clause-covered
move_amounts-requires-clause-covered c = grind (arith, common_steps)

pub move_amounts-requires-clause-targets_in : goal.move_amounts-requires-clause-targets_in
move_amounts-requires-clause-targets_in c = grind (arith, common_steps)

pub count_sent-requires-clause-process_in : goal.count_sent-requires-clause-process_in
count_sent-requires-clause-process_in c = grind (arith, common_steps)
