use Rattle.std.proofs.Common.{List, arith, get_or}
use Rattle.at_orders.proofs.Prelude.{Link, Stage}
use Rattle.at_orders.proofs.Trails.{link-at, recall-next, same-seen}
use Rattle.at_orders.proofs.trail.Trail.+recall.Goals as goal

pub go_on-led-requires-clause-seen : goal.go_on-led-requires-clause-seen
go_on-led-requires-clause-seen t c =
    let stages : List Stage = c.requires.trail.0 in
    let trail = c.requires.trail.1 in
    let l : Link = c.index-link.result.now in
    let size = trail.size in
    let within = c.requires.within in
    let link = link-at c.args.ground.now c.args.self.now stages c.args.i c.len-2.result l trail (omega arith) (let past = c.if-i-len.false in let one = c.len.ensures in let two = c.len-2.ensures in omega arith) within c.index-link.ensures in
    let from = link.from in
    same-seen c.args.ground.now c.recall.new.stage (get_or stages l.from c.args.stage.now) (c.in_ok-recall.ensures stages c.args.stage.now trail) (trail.seen l.from c.args.stage.now (omega arith))

pub returns : goal.returns
returns t c stages d trail =
    let l : Link = c.index-link.result.now in
    let size = trail.size in
    let within = c.requires.within in
    let link = link-at c.args.ground.now c.args.self.now stages c.args.i c.len-2.result l trail (omega arith) (let past = c.if-i-len.false in let one = c.len.ensures in let two = c.len-2.ensures in omega arith) within c.index-link.ensures in
    recall-next c.args.ground.now c.args.self.now stages c.args.i l c.recall.new.stage c.go_on-led.new.self d c.go_on-led.result c.book-known.ensures.known trail link (omega arith)
    (c.in_ok-recall.ensures stages d trail) c.go_on-led.ensures.led c.go_on-led.ensures.last

pub go_on-led-requires-clause-process_in : goal.go_on-led-requires-clause-process_in
go_on-led-requires-clause-process_in t c =
    let trail = c.requires.trail.1 in
    let l : Link = c.index-link.result.now in
    (link-at c.args.ground.now c.args.self.now c.requires.trail.0 c.args.i c.len-2.result l trail (omega arith) (let past = c.if-i-len.false in let one = c.len.ensures in let two = c.len-2.ensures in omega arith) c.requires.within c.index-link.ensures).process
