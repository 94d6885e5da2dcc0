use Rattle.std.proofs.Common.{◌≡◌, ◌+◌, ◌==◌, [], ◌∷◌, ◌++◌, Err, refl, sym, ◌∙◌, ap, rules, tests, arith}
use Rattle.at_files.proofs.Prelude.{common_steps, length_push, YieldsList-from_slice_split, YieldsList-at, YieldsList-turn, YieldsList-end, at_line}
use Rattle.at_files.proofs.Faults.{Bad-same}
use Rattle.at_files.proofs.OwnerNames.{AreNamed-more, AreNamed-bad, AreNamed-end}
use Rattle.at_files.proofs.owners.pieces_named.Goals as goal

pub loop-piece-preserved : goal.loop-piece-preserved
loop-piece-preserved c =
    let turn = YieldsList-turn
    (YieldsList-at c.into_iter-piece-iterator.ensures.into_iter_gives
    (YieldsList-from_slice_split _ (λ byte. byte == 32) c.args.text.now c.split-piece-items.ensures.rest c.split-piece-items.ensures.done c.split-piece-items.ensures.closure
    (λ x r q k. search (rules, tests))))
    c.loop-piece.yielded _ c.loop-piece.yielded_by _ _ c.in-Some.piece c.in-Some.is c.next.ensures.steps in
    let pushed : c.push.new.self.items ≡ c.loop-piece.owners.items ++ c.in-Ok.owner ∷ [] =
    c.push.ensures.items ∙ rw (c.is_err.ensures.negation, c.if-is_err.false) refl in
    rw (pushed, length_push c.loop-piece.yielded c.in-Some.piece)
    (AreNamed-more _ _ _ _ _ _ c.in-Some.piece.now _ c.loop-piece.invariant turn (rw (c.len.ensures, c.loop-piece.owners.ok.0, c.position.ensures.position) at (sym c.owner_known.ensures.known ∙ c.in-Ok.is)))

pub returns-in-Err-clause-bad : goal.returns-in-Err-clause-bad
returns-in-Err-clause-bad c = λ b same.
    let turn = YieldsList-turn
    (YieldsList-at c.into_iter-piece-iterator.ensures.into_iter_gives
    (YieldsList-from_slice_split _ (λ byte. byte == 32) c.args.text.now c.split-piece-items.ensures.rest c.split-piece-items.ensures.done c.split-piece-items.ensures.closure
    (λ x r q k. search (rules, tests))))
    c.loop-piece.yielded _ c.loop-piece.yielded_by _ _ c.in-Some.piece c.in-Some.is c.next.ensures.steps in
    ap (at_line (c.args.account + 4)) (AreNamed-bad _ _ _ _ _ _ c.in-Some.piece.now c.in-Err.why c.loop-piece.invariant turn (rw (c.len.ensures, c.loop-piece.owners.ok.0, c.position.ensures.position) at (sym c.owner_known.ensures.known ∙ c.in-Err.is)))
    ∙ ap Err (Bad-same _ b (ap Err (sym c.bad_book.ensures) ∙ same))

pub returns-clause-ok : goal.returns-clause-ok
returns-clause-ok c =
    let end = YieldsList-end
    (YieldsList-at c.into_iter-piece-iterator.ensures.into_iter_gives
    (YieldsList-from_slice_split _ (λ byte. byte == 32) c.args.text.now c.split-piece-items.ensures.rest c.split-piece-items.ensures.done c.split-piece-items.ensures.closure
    (λ x r q k. search (rules, tests))))
    c.loop-piece.yielded _ c.loop-piece.yielded_by _ _ c.in-None.is c.next.ensures.steps in
    AreNamed-end _ _ _ _ _ _ c.loop-piece.invariant (omega (arith, end.1))

pub overflow_add-least : goal.overflow_add-least
overflow_add-least c = grind (arith, common_steps)

pub overflow_add-account : goal.overflow_add-account
overflow_add-account c = grind (arith, common_steps)

pub loop-piece-init : goal.loop-piece-init
loop-piece-init c = grind (arith, common_steps)

pub returns-clause-bad : goal.returns-clause-bad
returns-clause-bad c = grind (arith, common_steps)

pub returns-then-is_err-clause-bad : goal.returns-then-is_err-clause-bad
returns-then-is_err-clause-bad c = grind (arith, common_steps)
