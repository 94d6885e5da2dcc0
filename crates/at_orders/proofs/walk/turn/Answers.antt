use Rattle.std.proofs.Common.{◌<◌, ℕ, length, get_or, subst, arith}
use Rattle.at_orders.proofs.Prelude.{IsNextCall, Stage}
use Rattle.at_orders.proofs.Looking.{led-from, looks-none, looks-one}
use Rattle.at_orders.proofs.Trails.{led-seen, same-next, same-seen, same-sym, same-trans}
use Rattle.at_orders.proofs.walk.turn.Goals as goal

pub go_on-requires-clause-seen : goal.go_on-requires-clause-seen
go_on-requires-clause-seen c = same-seen c.args.ground.now c.set.new.self c.args.stage.now c.in_ok-set.ensures c.requires.seen

pub add-requires-clause-seen : goal.add-requires-clause-seen
add-requires-clause-seen c =
    let g = c.args.ground.now in
    let known : c.args.process < length g.files = let within = c.requires.process_in in let count = c.book-known.ensures.known.processes in omega arith in
    led-seen g c.set.new.self c.go_on.new.self c.args.process known (same-seen g c.set.new.self c.args.stage.now c.in_ok-set.ensures c.requires.seen) (c.go_on.ensures.led c.if-go_on.true)

pub returns-in_ok-add : goal.returns-in_ok-add
returns-in_ok-add c stages trail at =
    let g = c.args.ground.now in
    let s : Stage = c.args.stage.now in
    let x : Stage = c.set.new.self in
    let led = c.go_on.ensures.led c.if-go_on.true in
    looks-one g c.args.trail.now c.add.new.self stages s x c.go_on.new.self c.args.process c.book-known.ensures.known c.requires.process_in trail c.requires.seen c.in_ok-set.ensures led
    (c.in_ok-add.ensures stages trail (
      at.within,
      λ d. led-from g x (get_or stages c.args.at d) c.go_on.new.self c.args.process
          (same-trans x s (get_or stages c.args.at d) c.in_ok-set.ensures (same-sym (get_or stages c.args.at d) s (at.same d))) led,
    ))

pub returns-else-go_on : goal.returns-else-go_on
returns-else-go_on c stages trail at =
    looks-none c.args.ground.now c.args.trail.now stages c.args.stage.now _ trail
    (λ q call is next. c.go_on.ensures.last c.if-go_on.false call
    (same-next c.args.ground.now c.set.new.self c.args.stage.now c.args.process call c.in_ok-set.ensures (subst (λ (n : ℕ). IsNextCall c.args.ground.now c.args.stage.now n call) is next)))
