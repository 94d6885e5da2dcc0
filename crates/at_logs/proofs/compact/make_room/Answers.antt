use Rattle.std.proofs.Common.{◌+◌, ◌<◌, length, get_or, ap, refl, ◌∙◌, arith}
use Rattle.at_logs.proofs.Prelude.{get_or_default, RoomyBacklog}
use Rattle.at_logs.proofs.RoomLaws.{kept_either, kept_of-same, no_roomy}
use Rattle.at_logs.proofs.compact.make_room.Goals as goal

pub returns-clause-kept : goal.returns-clause-kept
returns-clause-kept c =
    let within : c.in-Some.log < length c.args.backlogs.now = omega (arith, c.if-log-logs.false, c.logs.ensures, c.requires.sized) in
    let old : RoomyBacklog = get_or c.args.backlogs.now c.in-Some.log c.index-backlogs-log.result in
    kept_of-same c.args.backlogs.now c.in-Some.log c.make_room.new.self
    (kept_either c.make_room.result old (record old { room = old.room + 1 }) c.make_room.new.self refl c.make_room.ensures.ok c.make_room.ensures.err
    ∙ ap (λ (l : RoomyBacklog). l.kept) (get_or_default c.args.backlogs.now c.in-Some.log c.index-backlogs-log.result no_roomy within))
