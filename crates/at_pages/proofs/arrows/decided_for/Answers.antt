use Rattle.std.proofs.Common.{ℕ, ◌∙◌, Option, ap, arith, get_or, sym}
use Rattle.at_pages.proofs.Prelude.{BoardStep, asker_loaded, decides_at, unless_own}
use Rattle.at_pages.proofs.TurnLaws.{decided_for-by, decides_at-read, length-decided, own_turn-read}
use Rattle.at_pages.proofs.arrows.decided_for.Goals as goal

pub bounds-decided-own : goal.bounds-decided-own
bounds-decided-own c =
    omega (arith, c.requires.within c.args.place 0 c.requires.place, length-decided c.args.turns.now c.args.decided.now c.requires.decided)

pub returns-then-decided-own-clause-owner : goal.returns-then-decided-own-clause-owner
returns-then-decided-own-clause-owner c =
    let b = c.args.book.now in
    let turns = c.args.turns.now in
    let p : ℕ = c.args.process in
    let m : ℕ = get_or c.args.own.now c.args.place 0 in
    let decides =
    sym c.if-decided-own.true
    ∙ (decides_at-read turns m c.args.decided.now c.requires.decided (c.requires.within c.args.place 0 c.requires.place)
    ∙ ap (decides_at turns) (own_turn-read turns p c.args.place c.args.own.now c.requires.own c.requires.place)) in
    c.other_asker.ensures.asker
    ∙ (ap (λ (step : Option BoardStep). unless_own p (asker_loaded b step)) (c.own_step.ensures p c.requires.own)
    ∙ sym (decided_for-by b turns p c.args.place _ decides))

pub returns-else-decided-own-clause-owner : goal.returns-else-decided-own-clause-owner
returns-else-decided-own-clause-owner c =
    let b = c.args.book.now in
    let turns = c.args.turns.now in
    let p : ℕ = c.args.process in
    let m : ℕ = get_or c.args.own.now c.args.place 0 in
    let decides =
    sym c.if-decided-own.false
    ∙ (decides_at-read turns m c.args.decided.now c.requires.decided (c.requires.within c.args.place 0 c.requires.place)
    ∙ ap (decides_at turns) (own_turn-read turns p c.args.place c.args.own.now c.requires.own c.requires.place)) in
    sym (decided_for-by b turns p c.args.place _ decides)
