use Rattle.at_commands.proofs.Prelude.{sendable, declared_send, crosses, contents_of, call_send, pass_send, job_send}
use Rattle.std.proofs.Common.{arith}
use Rattle.at_commands.proofs.JobsAsked.{IfOk-asked, MayBeAsked-at}
use Rattle.at_commands.proofs.playing.jobs_for.Goals as goal

-- a pass and its calls are moved to the thread that makes their job, and the job is moved back
pub map_vec-requires-send-J : goal.map_vec-requires-send-J
map_vec-requires-send-J g c κs within = search (sendable, crosses, declared_send, pass_send, call_send) depth 20

pub map_vec-requires-send-X : goal.map_vec-requires-send-X
map_vec-requires-send-X g c κs within = search (sendable, crosses, declared_send, pass_send, call_send, job_send) depth 20

pub map_vec-requires-after_bounds : goal.map_vec-requires-after_bounds
map_vec-requires-after_bounds g c κs lives = λ i one within is.
    MayBeAsked-at c.args.ledger.now c.args.passes.items (contents_of c.args.files.items) c.in_ok-asked.asked.items i one c.requires.passes c.requires.known
    c.in_ok-asked.ensures within is

pub returns : goal.returns
returns g c =
    IfOk-asked c.args.ledger.now c.args.passes.items (contents_of c.args.files.items) c.args.notes c.in_ok-asked.asked.items c.in_ok-made.made.items
    c.all_made.result c.requires.passes c.in_ok-asked.ensures (omega (arith, c.in_ok-made.ensures.len, c.in_ok-made.made.ok, c.in_ok-asked.asked.ok))
    (λ i d within. let given = (c.in_ok-made.ensures.each i d within).1 in (given.job, given.job_is, given.call.met)) c.all_made.ensures
