use Rattle.std.proofs.Common.{◌≡◌, ℕ, ◌+◌, ◌==◌, not, true, List, [], ◌∷◌, ◌++◌, length, Vec, Ok, Err, refl, ap, sym, subst, ◌∙◌, rules, tests}
use Rattle.std.specs.Prelude.{IsErr}
use Rattle.at_follow.proofs.Prelude.{Global, YieldsList-at, YieldsList-end, YieldsList-from_slice_split, YieldsList-turn, decode_of, eqb-true, is_written, length_push, map-append, nil_from_length}
use Rattle.at_follow.proofs.LogFileLaws.{Err-same, IsFirstBadLine-turn, IsReadTo-blank, IsReadTo-entry, IsReadTo-none, SpellsEntries-end, log_read-bad, log_read-end}
use Rattle.at_follow.specs.LogFile.{IsFirstBadLine}
use Rattle.at_follow.proofs.log_file.read_log.Goals as goal

pub loop-text-init : goal.loop-text-init
loop-text-init c = rw c.new-entries.ensures.items (IsReadTo-none c.args.bytes.now)

pub loop-text-preserved : goal.loop-text-preserved
loop-text-preserved c =
    let turn = YieldsList-turn
    (YieldsList-at c.into_iter-text-iterator.ensures.into_iter_gives
    (YieldsList-from_slice_split _ (λ byte. byte == 10) c.args.bytes.now c.split-text-items.ensures.rest c.split-text-items.ensures.done c.split-text-items.ensures.closure
    (λ x r q k. search (rules, tests))))
    c.loop-text.yielded _ c.loop-text.yielded_by _ _ c.in-Some.text c.in-Some.is c.next.ensures.steps in
    rw (length_push c.loop-text.yielded c.in-Some.text)
    (IsReadTo-blank c.args.bytes.now (length c.loop-text.yielded) c.loop-text.line _ c.in-Some.text.now turn.0 turn.1 c.loop-text.invariant
    (sym c.without_return-text.ensures ∙ nil_from_length _ (eqb-true _ 0 (sym c.is_empty.ensures ∙ c.if-not-is_empty.false))))

pub loop-text-preserved-else-is_err : goal.loop-text-preserved-else-is_err
loop-text-preserved-else-is_err c =
    let turn = YieldsList-turn
    (YieldsList-at c.into_iter-text-iterator.ensures.into_iter_gives
    (YieldsList-from_slice_split _ (λ byte. byte == 10) c.args.bytes.now c.split-text-items.ensures.rest c.split-text-items.ensures.done c.split-text-items.ensures.closure
    (λ x r q k. search (rules, tests))))
    c.loop-text.yielded _ c.loop-text.yielded_by _ _ c.in-Some.text c.in-Some.is c.next.ensures.steps in
    let pushed : c.push.new.self.items ≡ c.loop-text.entries.items ++ c.in-Ok.entry ∷ [] =
    c.push.ensures.items ∙ rw (c.is_err.ensures.negation, c.if-is_err.false) refl in
    let line = c.without_return-text.ensures in
    rw (length_push c.loop-text.yielded c.in-Some.text, pushed, map-append (λ (entry : Vec ℕ Global). entry.items) c.loop-text.entries.items (c.in-Ok.entry ∷ []))
    (IsReadTo-entry c.args.bytes.now (length c.loop-text.yielded) c.loop-text.line _ c.in-Some.text.now c.in-Ok.entry.items turn.0 turn.1 c.loop-text.invariant
    (subst (λ (l : List ℕ). is_written l ≡ true) line (ap not (sym c.is_empty.ensures ∙ c.if-not-is_empty.true)))
    (subst (λ (l : List ℕ). decode_of l ≡ Ok c.in-Ok.entry.items) line c.in-Ok.ensures.ok))

pub returns-in-Err-clause-bad : goal.returns-in-Err-clause-bad
returns-in-Err-clause-bad c = λ line is.
    let turn = YieldsList-turn
    (YieldsList-at c.into_iter-text-iterator.ensures.into_iter_gives
    (YieldsList-from_slice_split _ (λ byte. byte == 10) c.args.bytes.now c.split-text-items.ensures.rest c.split-text-items.ensures.done c.split-text-items.ensures.closure
    (λ x r q k. search (rules, tests))))
    c.loop-text.yielded _ c.loop-text.yielded_by _ _ c.in-Some.text c.in-Some.is c.next.ensures.steps in
    let bad = c.in-Err.ensures.bad line (Err-same _ _ is) in
    subst (IsFirstBadLine c.args.bytes.now) (sym bad.0)
    (IsFirstBadLine-turn c.args.bytes.now (length c.loop-text.yielded) c.loop-text.line _ c.in-Some.text.now turn.0 turn.1 c.loop-text.invariant
    (subst (λ (l : List ℕ). IsErr (decode_of l)) c.without_return-text.ensures bad.1))

pub returns-in-Err-clause-err : goal.returns-in-Err-clause-err
returns-in-Err-clause-err c = λ line is.
    let turn = YieldsList-turn
    (YieldsList-at c.into_iter-text-iterator.ensures.into_iter_gives
    (YieldsList-from_slice_split _ (λ byte. byte == 10) c.args.bytes.now c.split-text-items.ensures.rest c.split-text-items.ensures.done c.split-text-items.ensures.closure
    (λ x r q k. search (rules, tests))))
    c.loop-text.yielded _ c.loop-text.yielded_by _ _ c.in-Some.text c.in-Some.is c.next.ensures.steps in
    let bad = c.in-Err.ensures.bad line (Err-same _ _ is) in
    log_read-bad c.args.bytes.now (length c.loop-text.yielded) c.loop-text.line _ c.in-Some.text.now turn.0 turn.1 c.loop-text.invariant
    (subst (λ (l : List ℕ). IsErr (decode_of l)) c.without_return-text.ensures bad.1) ∙ ap Err (sym bad.0)

pub returns-clause-entries : goal.returns-clause-entries
returns-clause-entries c =
    let end = YieldsList-end
    (YieldsList-at c.into_iter-text-iterator.ensures.into_iter_gives
    (YieldsList-from_slice_split _ (λ byte. byte == 10) c.args.bytes.now c.split-text-items.ensures.rest c.split-text-items.ensures.done c.split-text-items.ensures.closure
    (λ x r q k. search (rules, tests))))
    c.loop-text.yielded _ c.loop-text.yielded_by _ _ c.in-None.is c.next.ensures.steps in
    SpellsEntries-end c.args.bytes.now (length c.loop-text.yielded) c.loop-text.line _ end.1 c.loop-text.invariant

pub returns-clause-ok : goal.returns-clause-ok
returns-clause-ok c =
    let end = YieldsList-end
    (YieldsList-at c.into_iter-text-iterator.ensures.into_iter_gives
    (YieldsList-from_slice_split _ (λ byte. byte == 10) c.args.bytes.now c.split-text-items.ensures.rest c.split-text-items.ensures.done c.split-text-items.ensures.closure
    (λ x r q k. search (rules, tests))))
    c.loop-text.yielded _ c.loop-text.yielded_by _ _ c.in-None.is c.next.ensures.steps in
    log_read-end c.args.bytes.now (length c.loop-text.yielded) c.loop-text.line _ end.1 c.loop-text.invariant
