use Rattle.std.proofs.Common.{◌≡◌, ◌<◌, List, Ok, ap}
use Rattle.at_orders.proofs.Prelude.{on_ok_weaker, GroundTerms, Adds, AreLed, IsPushed, IsSeen, IsTrail, Stage}
use Rattle.at_orders.specs.Trail.{hash_of}
use Rattle.at_orders.proofs.Trails.{adds-none, adds-one}
use Rattle.at_orders.proofs.trail.Trail.add.Goals as goal

come : (c : goal.After-push) → ((g : GroundTerms) (stages : List Stage) (s : Stage) → IsTrail g c.args.self.now stages → IsSeen g s → c.hash-hash.result ≡ hash_of s → c.args.process < g.book.processes
    → AreLed g stages c.args.from c.args.process s → IsPushed g c.args.self.now c.push.new.self stages s)
    → (stages : List Stage) → IsTrail c.args.ground.now c.args.self.now stages → AreLed c.args.ground.now stages c.args.from c.args.process c.args.stage.now
    → Adds c.args.ground.now c.args.self.now c.push.new.self stages c.args.stage.now
come c all stages trail led =
    adds-one c.args.ground.now c.args.self.now c.push.new.self stages c.args.stage.now trail
    (all c.args.ground.now stages c.args.stage.now trail c.requires.seen c.hash-hash.ensures c.requires.process_in led)
    (c.in_ok-has.ensures.none (ap Ok c.if-has.false) stages trail)

pub returns : goal.returns
returns c = on_ok_weaker c.push.result (come c) c.push.ensures

pub returns-then-has : goal.returns-then-has
returns-then-has c stages trail led =
    adds-none c.args.ground.now c.args.self.now stages c.args.stage.now trail (c.in_ok-has.ensures.found (ap Ok c.if-has.true) stages trail)
