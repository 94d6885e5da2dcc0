use Rattle.std.proofs.Common.{◌≡◌, ℕ, List, [], take, refl, subst, arith}
use Rattle.at_orders.proofs.Prelude.{take_all, AreLeft, Call, asked_in_file}
use Rattle.at_orders.proofs.Leaving.{left-call, left-same}
use Rattle.at_orders.proofs.covered.take_all.Goals as goal

pub loop-call-init : goal.loop-call-init
loop-call-init c = left-same c.args.book.now (λ (a : ℕ). asked_in_file c.args.book.now c.args.process a []) c.args.left.now (λ a. refl)

pub loop-call-preserved : goal.loop-call-preserved
loop-call-preserved c =
    left-call c.args.book.now c.args.process c.args.file.now c.loop-call.call-index c.call-item.result c.args.left.now c.loop-call.left c.take.new.left c.loop-call-test.true c.call-item.is
    c.loop-call.invariant c.take.ensures

pub returns : goal.returns
returns c =
    let whole : take c.loop-call.call-index c.args.file.now ≡ c.args.file.now = take_all c.loop-call.call-index c.args.file.now (let past = c.loop-call-test.false in omega arith) in
    subst (λ (calls : List Call). AreLeft c.args.book.now (λ a. asked_in_file c.args.book.now c.args.process a calls) c.args.left.now c.loop-call.left) whole c.loop-call.invariant
