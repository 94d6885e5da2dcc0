use Rattle.std.proofs.Common.{◌≡◌, ◌+◌, ℕ, set, ap, subst, sym, ◌∙◌, arith}
use Rattle.at_machines.proofs.Prelude.{common_steps, BookTerms, IsBook, SeatTerms, LoadsLength, Knowledge, IsCollect, collect_of, IsCollectingSo, collecting_of, CollectingTerms, collecting_after}
use Rattle.at_machines.proofs.CollectingLaws.{IsCollect-IsCollectingSo, IsCollectingSo-turn}
use Rattle.at_machines.proofs.collecting.Collecting.turn.Goals.{After-copy, After-load_after-count, After-of}
use Rattle.at_machines.proofs.collecting.Collecting.turn.Goals as goal

-- the collect after the load
kept : (c : After-load_after-count)
    → IsCollectingSo (collecting_after c.args.self.now c.load_after-count.new.seat.knows)
    (set c.self.inside.counts c.args.self.now.loaded c.load_after-count.result)
kept c =
    let b : BookTerms = c.args.board.now.book in
    let before : CollectingTerms = c.args.self.now in
    let w : Knowledge = c.load_after-count.new.seat.knows in
    let n : ℕ = c.load_after-count.result in
    let so = subst (λ (t : CollectingTerms). IsCollectingSo t c.self.inside.counts) c.self.view_is c.self.invariant in
    let loaded : c.self.inside.loaded ≡ before.loaded = ap (λ (t : CollectingTerms). t.loaded) c.self.view_is in
    let told = subst (λ (v : Knowledge). LoadsLength b v w before.loaded n) c.requires.mark
    (subst (λ p. LoadsLength b c.args.seat.now.knows w p n) loaded c.load_after-count.ensures.told) in
    IsCollectingSo-turn b before c.self.inside.counts w n (ap (λ (v : Knowledge). v.book) (sym c.requires.mark) ∙ c.requires.board.book) c.requires.left so told

-- the seat is the board's after the load
book-IsCollectingSo-turn : (c : After-load_after-count) → c.load_after-count.new.seat.knows.book ≡ c.args.board.now.book
book-IsCollectingSo-turn c = ap (λ (v : Knowledge). v.book) c.load_after-count.ensures.told.same ∙ c.requires.board.book

-- it is what the fields say
closes : (c : After-of)
    → IsCollectingSo (record { start = c.self.inside.start.value.knows; mark = c.of.result.value.knows; loaded = c.self.inside.loaded + 1 }) c.set.new.self
closes c =
    let before : CollectingTerms = c.args.self.now in
    let is = c.self.view_is in
    let set_to : c.set.new.self ≡ set c.self.inside.counts before.loaded c.load_after-count.result =
    c.set.ensures ∙ ap (λ (t : CollectingTerms). set c.self.inside.counts t.loaded c.load_after-count.result) is in
    subst (λ (s : SeatTerms). IsCollectingSo (record { start = c.self.inside.start.value.knows; mark = s.knows; loaded = c.self.inside.loaded + 1 }) c.set.new.self)
    (sym c.of.ensures)
    (subst (λ xs. IsCollectingSo (record { start = c.self.inside.start.value.knows; mark = c.load_after-count.new.seat.knows; loaded = c.self.inside.loaded + 1 }) xs) (sym set_to)
    (subst (λ (t : CollectingTerms). IsCollectingSo (collecting_after t c.load_after-count.new.seat.knows) (set c.self.inside.counts before.loaded c.load_after-count.result)) (sym is)
    (kept (goal.at.After-of c).After-load_after-count)))

-- what holds after the last turn
collected : (c : After-copy)
    → IsCollect c.args.board.now.book c.args.self.now.start c.load_after-count.new.seat.knows × (c.copy.result ≡ collect_of c.load_after-count.new.seat.knows)
collected c =
    let b : BookTerms = c.args.board.now.book in
    let before : CollectingTerms = c.args.self.now in
    let w : Knowledge = c.load_after-count.new.seat.knows in
    let loaded : c.self.inside.loaded ≡ before.loaded = ap (λ (t : CollectingTerms). t.loaded) c.self.view_is in
    let checked : IsBook b = subst IsBook c.book.ensures c.known.ensures.checked in
    let count : c.processes.result ≡ b.processes = c.processes.ensures ∙ ap (λ (t : BookTerms). t.processes) c.book-2.ensures in
    let all : before.loaded + 1 ≡ b.processes = omega (arith, loaded, count, c.if-self-processes.false, c.requires.left) in
    let kept_so = kept (goal.at.After-copy c).After-load_after-count in
    let same : w.book ≡ b = book-IsCollectingSo-turn (goal.at.After-copy c).After-load_after-count in
    let told = IsCollect-IsCollectingSo b (collecting_after before w) _ same checked.begun.some_process all kept_so in
    (told.0, c.copy.ensures ∙ (c.set.ensures ∙ (ap (λ p. set c.self.inside.counts p c.load_after-count.result) loaded ∙ told.1)))

pub invariant_of-self : goal.invariant_of-self
invariant_of-self c = closes (goal.at.invariant_of-self c).After-of

pub invariant_of-self-2 : goal.invariant_of-self-2
invariant_of-self-2 c = closes (goal.at.invariant_of-self-2 c).After-of

pub returns-clause-collect : goal.returns-clause-collect
returns-clause-collect c = (collected c).0

pub returns-clause-counts : goal.returns-clause-counts
returns-clause-counts c = (collected c).1

-- one load more
after : (c : After-of) → collecting_after (collecting_of c.self.inside) c.of.result.value.knows ≡ collecting_after c.args.self.now c.load_after-count.new.seat.knows
after c =
    let inside : CollectingTerms = (collecting_of c.self.inside) in
    ap (λ (s : SeatTerms). collecting_after inside s.knows) c.of.ensures
    ∙ ap (λ (t : CollectingTerms). collecting_after t c.load_after-count.new.seat.knows) c.self.view_is

pub returns-then-self-processes-clause-after : goal.returns-then-self-processes-clause-after
returns-then-self-processes-clause-after c = after (goal.at.returns-then-self-processes-clause-after c).After-of

pub returns-clause-after : goal.returns-clause-after
returns-clause-after c = after (goal.at.returns-clause-after c).After-of

pub returns-then-self-processes-clause-steps : goal.returns-then-self-processes-clause-steps
returns-then-self-processes-clause-steps c = c.load_after-count.ensures.steps

pub returns-then-self-processes-clause-told : goal.returns-then-self-processes-clause-told
returns-then-self-processes-clause-told c = c.load_after-count.ensures.more

pub returns-clause-told : goal.returns-clause-told
returns-clause-told c = c.load_after-count.ensures.more

pub returns-clause-steps : goal.returns-clause-steps
returns-clause-steps c = c.load_after-count.ensures.steps

pub returns-then-self-processes-clause-load : goal.returns-then-self-processes-clause-load
returns-then-self-processes-clause-load c = grind (arith, common_steps)

pub returns-clause-load : goal.returns-clause-load
returns-clause-load c = grind (arith, common_steps)

pub set-requires-clause-process : goal.set-requires-clause-process
set-requires-clause-process c = grind (arith, common_steps)

pub overflow_add-self : goal.overflow_add-self
overflow_add-self c = grind (arith, common_steps)

pub load_after-count-requires-clause-process : goal.load_after-count-requires-clause-process
load_after-count-requires-clause-process c = grind (arith, common_steps)
