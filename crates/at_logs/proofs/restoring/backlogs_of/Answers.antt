use Rattle.std.proofs.Common.{◌≡◌, ◌∷◌, ◌++◌, [], None, Some, ap, ◌∙◌}
use Rattle.at_logs.proofs.Prelude.{RoomyBacklog, kept_of, map-append, read_backlog, read_items}
use Rattle.at_logs.proofs.ReaderLoops.{ends, goes_on, is_done}
use Rattle.at_logs.proofs.restoring.backlogs_of.Goals as goal

pub returns-in_default : goal.returns-in_default
returns-in_default c =
    let one = read_backlog c.args.logs c.args.accounts in
    let none : None ≡ one c.loop.rest.now = rw c.in_default.is at c.in_ok-backlog.ensures in
    ends one (kept_of c.loop.backlogs.items) c.args.logs c.loop.counter c.loop.rest.now (read_items one c.args.logs c.args.bytes.now) c.loop-test.true none c.loop.invariant

pub loop-preserved : goal.loop-preserved
loop-preserved c =
    let one = read_backlog c.args.logs c.args.accounts in
    let here : Some (c.in-Some.backlog.kept, c.in-Some.after.now) ≡ one c.loop.rest.now = rw c.in-Some.is at c.in_ok-backlog.ensures in
    let more : kept_of c.push.new.self.items ≡ kept_of c.loop.backlogs.items ++ c.in-Some.backlog.kept ∷ [] =
    ap kept_of c.in_ok-push.ensures.items ∙ map-append (λ (l : RoomyBacklog). l.kept) c.loop.backlogs.items (c.in-Some.backlog ∷ []) in
    rw more (goes_on one (kept_of c.loop.backlogs.items) c.args.logs c.loop.counter c.loop.rest.now c.in-Some.backlog.kept c.in-Some.after.now
    (read_items one c.args.logs c.args.bytes.now) c.loop-test.true here c.loop.invariant)

pub returns : goal.returns
returns c =
    let one = read_backlog c.args.logs c.args.accounts in
    is_done one (kept_of c.loop.backlogs.items) c.args.logs c.loop.counter c.loop.rest.now (read_items one c.args.logs c.args.bytes.now) c.loop-test.false c.loop.invariant
