use Rattle.std.proofs.Common.{◌<◌, ◌++◌, ◌∷◌, [], length, ap, sym, ◌∙◌, arith}
use Rattle.at_logs.proofs.Prelude.{get_or_default, RoomyBacklog}
use Rattle.at_logs.proofs.RoomLaws.{kept_credit, no_roomy}
use Rattle.at_logs.proofs.compact.keep_credit.Goals as goal

pub returns-then-log-logs-clause-kept : goal.returns-then-log-logs-clause-kept
returns-then-log-logs-clause-kept c p known =
    let within : c.in-Some.log < length c.args.backlogs.now = omega (arith, c.if-log-logs.true, c.logs.ensures, c.requires.sized) in
    let read = get_or_default c.args.backlogs.now c.in-Some.log c.index-backlogs-log.result no_roomy within in
    kept_credit c.args.book.now c.args.backlogs.now c.in-Some.log c.args.credit c.push.new.self within (sym c.log_of.ensures ∙ c.in-Some.is)
    (c.push.ensures.kept ∙ ap (λ (l : RoomyBacklog). record l.kept { credits = l.kept.credits ++ c.args.credit ∷ [] }) read) p
