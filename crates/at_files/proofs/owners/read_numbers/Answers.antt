use Rattle.std.proofs.Common.{◌≡◌, ◌==◌, [], ◌∷◌, ◌++◌, refl, sym, ◌∙◌, rules, tests, arith}
use Rattle.at_files.proofs.Prelude.{length_push, YieldsList-from_slice_split, YieldsList-at, YieldsList-turn, YieldsList-end}
use Rattle.at_files.proofs.OwnerLaws.{AreRead-start, AreRead-more, AreRead-bad, AreRead-end}
use Rattle.at_files.proofs.owners.read_numbers.Goals as goal

pub loop-piece-init : goal.loop-piece-init
loop-piece-init c = rw c.new-numbers.ensures.items (AreRead-start _)

pub loop-piece-preserved : goal.loop-piece-preserved
loop-piece-preserved c =
    let turn = YieldsList-turn
    (YieldsList-at c.into_iter-piece-iterator.ensures.into_iter_gives
    (YieldsList-from_slice_split _ (λ byte. byte == 32) c.args.text.now c.split-piece-items.ensures.rest c.split-piece-items.ensures.done c.split-piece-items.ensures.closure
    (λ x r q k. search (rules, tests))))
    c.loop-piece.yielded _ c.loop-piece.yielded_by _ _ c.in-Some.piece c.in-Some.is c.next.ensures.steps in
    let pushed : c.push.new.self.items ≡ c.loop-piece.numbers.items ++ c.in-Some-parse_number.number ∷ [] =
    c.push.ensures.items ∙ rw (c.is_err.ensures.negation, c.if-is_err.false) refl in
    rw (pushed, length_push c.loop-piece.yielded c.in-Some.piece)
    (AreRead-more _ _ _ c.in-Some.piece.now _ c.loop-piece.invariant turn (sym c.parse_number.ensures.value ∙ c.in-Some-parse_number.is))

pub returns-in_default : goal.returns-in_default
returns-in_default c =
    let turn = YieldsList-turn
    (YieldsList-at c.into_iter-piece-iterator.ensures.into_iter_gives
    (YieldsList-from_slice_split _ (λ byte. byte == 32) c.args.text.now c.split-piece-items.ensures.rest c.split-piece-items.ensures.done c.split-piece-items.ensures.closure
    (λ x r q k. search (rules, tests))))
    c.loop-piece.yielded _ c.loop-piece.yielded_by _ _ c.in-Some.piece c.in-Some.is c.next.ensures.steps in
    sym (AreRead-bad _ _ _ c.in-Some.piece.now c.loop-piece.invariant turn (sym c.parse_number.ensures.value ∙ c.in_default.is))

pub returns : goal.returns
returns c =
    let end = YieldsList-end
    (YieldsList-at c.into_iter-piece-iterator.ensures.into_iter_gives
    (YieldsList-from_slice_split _ (λ byte. byte == 32) c.args.text.now c.split-piece-items.ensures.rest c.split-piece-items.ensures.done c.split-piece-items.ensures.closure
    (λ x r q k. search (rules, tests))))
    c.loop-piece.yielded _ c.loop-piece.yielded_by _ _ c.in-None.is c.next.ensures.steps in
    sym (AreRead-end _ _ _ c.loop-piece.invariant (omega (arith, end.1)))
