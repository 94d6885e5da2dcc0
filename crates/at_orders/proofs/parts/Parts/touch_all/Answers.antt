use Rattle.std.proofs.Common.{◌≡◌, ℕ, ◌<◌, ◌≤◌, length, get_or, sym, subst, ◌∙◌, arith}
use Rattle.at_orders.proofs.Prelude.{Touch}
use Rattle.at_orders.proofs.Joining.{IsTargetBefore, joining-on, target-all, target-is, targets-more, touched-empty}
use Rattle.at_orders.proofs.parts.Parts.touch_all.Goals as goal

pub loop-i-init : goal.loop-i-init
loop-i-init c files joining touches =
    touched-empty c.args.book.now files c.args.left.now c.args.process (IsTargetBefore c.args.targets.now 0) c.args.self.now joining (λ a target. let h = target.before in omega arith)

pub touch-requires-clause-joining : goal.touch-requires-clause-joining
touch-requires-clause-joining c =
    let b = c.args.book.now in
    let can = c.requires.joining in
    let ts = c.args.targets.now in
    let i : ℕ = c.loop-i.i in
    let count = c.len-i-end.ensures.count in
    let less = c.loop-i-test.true in
    let within : i < length ts = omega arith in
    let one = c.loop-i.invariant can.files can.joining (λ a target. can.touches a (target-is ts i a target)) in
    record {
      files = can.files;
      joining = joining-on b can.files c.args.left.now c.args.process (IsTargetBefore ts i) c.args.self.now c.loop-i.self can.joining one;
      touches = λ a same. can.touches a (record { at = i; within = within; is = sym c.to.ensures ∙ same });
    }

pub loop-i-preserved : goal.loop-i-preserved
loop-i-preserved c files joining touches =
    let count = c.len-i-end.ensures.count in
    let less = c.loop-i-test.true in
    let next : Touch c.args.book.now c.args.left.now c.args.process (λ a. (get_or c.args.targets.now c.loop-i.i (0, 0)).0 ≡ a) c.loop-i.self c.touch.new.self =
    subst (λ (x : ℕ). Touch c.args.book.now c.args.left.now c.args.process (λ a. x ≡ a) c.loop-i.self c.touch.new.self) c.to.ensures c.touch.ensures in
    targets-more c.args.book.now files c.args.left.now c.args.process c.args.targets.now c.loop-i.i c.args.self.now c.loop-i.self c.touch.new.self (omega arith) c.loop-i.invariant next joining touches

pub returns : goal.returns
returns c files joining touches =
    let ts = c.args.targets.now in
    let i : ℕ = c.loop-i.i in
    let count = c.len-i-end.ensures.count in
    let past = c.loop-i-test.false in
    let long : length ts ≤ i = omega arith in
    let all = c.loop-i.invariant files joining (λ a target. touches a (target-is ts i a target)) in
    record { joined = all.joined; keeps = all.keeps; found = λ a a_in target uncovered. all.found a a_in (target-all ts i a long target) uncovered }
