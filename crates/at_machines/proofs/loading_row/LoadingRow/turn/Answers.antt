use Rattle.std.proofs.Common.{◌≡◌, ◌-◌, Some, ap, subst, sym, ◌∙◌, arith}
use Rattle.at_machines.proofs.Prelude.{common_steps, LoadsAnnounced, Knowledge, KnowsOf-LoadsAnnounced, LoadsRow, OpenRequest, IsLoadingRowSo, LoadingRowTerms, RowStage, Announced, Last}
use Rattle.at_machines.proofs.LoadingRowLaws.{LoadsRow-IsLoadingRowSo-other, LoadsRow-IsLoadingRowSo-own}
use Rattle.at_machines.proofs.loading_row.LoadingRow.turn.Goals.{After-load_announced-count, After-self}
use Rattle.at_machines.proofs.loading_row.LoadingRow.turn.Goals as goal

-- the row before the turn
before : (c : After-self) (stage : RowStage) → c.self.inside.stage ≡ stage → IsLoadingRowSo c.args.self.now stage
before c stage is =
    subst (IsLoadingRowSo c.args.self.now) is (subst (λ (r : LoadingRowTerms). IsLoadingRowSo r c.self.inside.stage) c.self.view_is c.self.invariant)

-- its seat is the board's
book : (c : After-self) → c.args.self.now.mark.book ≡ c.args.board.now.book
book c = ap (λ (v : Knowledge). v.book) (sym c.requires.mark) ∙ c.requires.board.book

-- what the announced word has told
told : (c : After-load_announced-count)
    → LoadsAnnounced c.args.board.now.book c.args.self.now.mark c.load_announced-count.new.seat.knows c.args.self.now.account c.args.self.now.slot
    c.load_announced-count.result
told c =
    let b = c.args.board.now.book in
    let r : LoadingRowTerms = c.args.self.now in
    let w : Knowledge = c.load_announced-count.new.seat.knows in
    let n = c.load_announced-count.result in
    subst (λ (v : Knowledge). LoadsAnnounced b v w r.account r.slot n) c.requires.mark
    (subst (λ (t : LoadingRowTerms). LoadsAnnounced b c.args.seat.now.knows w t.account t.slot n) c.self.view_is c.load_announced-count.ensures.told)

pub returns-then-slot-self-clause-row : goal.returns-then-slot-self-clause-row
returns-then-slot-self-clause-row c =
    let at = (goal.at.returns-then-slot-self-clause-row c).After-load_announced-count in
    let first = (goal.at.After-load_announced-count at).After-self in
    let r : LoadingRowTerms = c.args.self.now in
    let w : Knowledge = c.load_announced-count.new.seat.knows in
    let own : r.slot ≡ r.own.slot = subst (λ (t : LoadingRowTerms). t.slot ≡ t.own.slot) c.self.view_is c.if-slot-self.true in
    let copy : c.copy.result ≡ r.own = c.copy.ensures ∙ ap (λ (t : LoadingRowTerms). t.own) c.self.view_is in
    subst (λ (x : OpenRequest). LoadsRow r.start w r.account r.slot r.own (Some x)) (sym copy)
    (LoadsRow-IsLoadingRowSo-own c.args.board.now.book r w c.load_announced-count.result (book first) (before first Announced c.in-Announced.is) own (told at))

pub start-requires : goal.start-requires
start-requires c =
    let w : Knowledge = c.load_announced-count.new.seat.knows in
    let n = c.load_announced-count.result in
    KnowsOf-LoadsAnnounced c.args.board.now.book c.args.seat.now.knows w c.self.inside.account c.self.inside.slot n (n - 1) (omega (arith, c.if-count-eq0.false))
    c.load_announced-count.ensures.told

pub returns-in_ok-found-in-Last-clause-row : goal.returns-in_ok-found-in-Last-clause-row
returns-in_ok-found-in-Last-clause-row c =
    let first = (goal.at.returns-in_ok-found-in-Last-clause-row c).After-self in
    LoadsRow-IsLoadingRowSo-other c.args.board.now.book c.args.self.now c.in-Last.loading c.turn-last.new.seat.knows c.in_ok-found-in-Last.found (book first)
    (before first (Last c.in-Last.loading) c.in-Last.is) c.in_ok-found-in-Last.ensures.request

pub returns-then-count-eq0-clause-turns : goal.returns-then-count-eq0-clause-turns
returns-then-count-eq0-clause-turns c = grind (arith, common_steps)

pub invariant_of-self-in-Last : goal.invariant_of-self-in-Last
invariant_of-self-in-Last c = grind (arith, common_steps)

pub returns-then-slot-self-clause-turns : goal.returns-then-slot-self-clause-turns
returns-then-slot-self-clause-turns c = grind (arith, common_steps)

pub returns-else-count-eq0-clause-after : goal.returns-else-count-eq0-clause-after
returns-else-count-eq0-clause-after c = grind (arith, common_steps)

pub invariant_of-self : goal.invariant_of-self
invariant_of-self c = grind (arith, common_steps)

pub returns-in_ok-found-in-Last-clause-after : goal.returns-in_ok-found-in-Last-clause-after
returns-in_ok-found-in-Last-clause-after c = grind (arith, common_steps)

pub returns-in_err-found-in-Last-clause-after : goal.returns-in_err-found-in-Last-clause-after
returns-in_err-found-in-Last-clause-after c = grind (arith, common_steps)

pub returns-then-count-eq0-clause-after : goal.returns-then-count-eq0-clause-after
returns-then-count-eq0-clause-after c = grind (arith, common_steps)

pub returns-then-slot-self-clause-after : goal.returns-then-slot-self-clause-after
returns-then-slot-self-clause-after c = grind (arith, common_steps)

pub invariant_of-self-then-count-eq0 : goal.invariant_of-self-then-count-eq0
invariant_of-self-then-count-eq0 c = grind (arith, common_steps)

pub returns-in_err-found-in-Last-clause-turns : goal.returns-in_err-found-in-Last-clause-turns
returns-in_err-found-in-Last-clause-turns c = grind (arith, common_steps)

pub returns-then-slot-self-clause-load : goal.returns-then-slot-self-clause-load
returns-then-slot-self-clause-load c = grind (arith, common_steps)

pub returns-else-count-eq0-clause-board : goal.returns-else-count-eq0-clause-board
returns-else-count-eq0-clause-board c = grind (arith, common_steps)

pub returns-in_err-found-in-Last-clause-row : goal.returns-in_err-found-in-Last-clause-row
returns-in_err-found-in-Last-clause-row c = grind (arith, common_steps)

pub turn-last-requires-clause-mark : goal.turn-last-requires-clause-mark
turn-last-requires-clause-mark c = grind (arith, common_steps)

pub load_announced-count-requires-clause-account : goal.load_announced-count-requires-clause-account
load_announced-count-requires-clause-account c = grind (arith, common_steps)
