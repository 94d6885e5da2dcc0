use Rattle.at_orders.proofs.Prelude.{ltb-false}
use Rattle.std.proofs.Common.{[], length, get_or, sym, arith}
use Rattle.at_orders.proofs.Seen.{call-known, call-placed, next-call, next-none}
use Rattle.at_orders.proofs.stage.Stage.go_on.Goals as goal

pub advance-requires-clause-next : goal.advance-requires-clause-next
advance-requires-clause-next c =
    let lookup = c.in-Some.ensures.lookup.3 in
    next-call c.args.ground.now c.args.self.now c.args.process c.file.result.now c.made.result c.in-Some.call.now c.file.ensures.calls c.made.ensures lookup.0 (lookup.1 c.in-Some.call.now)

pub advance-requires-clause-placed : goal.advance-requires-clause-placed
advance-requires-clause-placed c =
    let lookup = c.in-Some.ensures.lookup.3 in
    call-placed c.args.ground.now c.args.self.now c.args.process c.in-Some.call.now c.file.ensures.known c.requires.process_in
    (next-call c.args.ground.now c.args.self.now c.args.process c.file.result.now c.made.result c.in-Some.call.now c.file.ensures.calls c.made.ensures lookup.0 (lookup.1 c.in-Some.call.now))

pub advance-requires-clause-call_in : goal.advance-requires-clause-call_in
advance-requires-clause-call_in c =
    let g = c.args.ground.now in
    let count = c.file.ensures.known.processes in
    let lookup = c.in-Some.ensures.lookup.3 in
    let playable = c.file.ensures.known.files c.args.process [] (let within = c.requires.process_in in omega arith) in
    call-known (length g.book.accounts) (get_or g.files c.args.process []) (get_or c.args.self.now.made.items c.args.process 0) c.in-Some.call.now playable.known
    (next-call g c.args.self.now c.args.process c.file.result.now c.made.result c.in-Some.call.now c.file.ensures.calls c.made.ensures lookup.0 (lookup.1 c.in-Some.call.now))

pub returns-clause-led : goal.returns-clause-led
returns-clause-led c is =
    let lookup = c.in-Some.ensures.lookup.3 in
    record {
      call = c.in-Some.call.now;
      next = next-call c.args.ground.now c.args.self.now c.args.process c.file.result.now c.made.result c.in-Some.call.now c.file.ensures.calls c.made.ensures lookup.0 (lookup.1 c.in-Some.call.now);
      stands = c.advance.ensures.stage;
      standing = c.advance.ensures.standing;
    }

pub returns-in_default-clause-last : goal.returns-in_default-clause-last
returns-in_default-clause-last c is call next =
    next-none c.args.ground.now c.args.self.now c.args.process c.file.result.now c.made.result call c.file.ensures.calls c.made.ensures (ltb-false c.made.result (length c.file.result.now) (sym c.in_default.ensures.lookup.0)) next
