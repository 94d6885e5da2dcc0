use Rattle.std.proofs.Common.{◌+◌, List, sym, subst, arith}
use Rattle.at_follow.proofs.Prelude.{Again, EntryFault, Forked, Gap, IsFollowing, NotAnEntry, Taken, log_bytes}
use Rattle.at_follow.proofs.GivingLaws.{IsAnswered-take, IsFollowing-forked, IsFollowing-passed, IsFollowing-taken, length-entries_at, not-again, not-gap}
use Rattle.at_follow.proofs.following.give_entry.Goals as goal

pub index-requires : goal.index-requires
index-requires c = omega (
  arith,
  c.requires.place_in,
  length-entries_at c.args.logs.now c.args.log c.index-logs-log.result c.requires.log_in c.index-logs-log.is,
  c.index-logs-log.result.ok,
)

pub returns-in-Taken : goal.returns-in-Taken
returns-in-Taken c =
    let is = IsAnswered-take c.args.logs.now c.args.log c.args.place c.index-logs-log.result c.index.result.now c.as_slice.result.now c.args.node.now c.args.faults.now.items c.in_ok-answer.answer Taken
    c.take.new.self c.requires.before c.requires.log_in c.requires.count c.requires.place_in c.index-logs-log.is c.index.ensures c.as_slice.ensures.value c.in_ok-answer.ensures.answer
    c.in_ok-answer.ensures.left c.in-Taken.is in
    IsFollowing-taken (log_bytes c.args.logs.now) c.args.log c.args.place c.as_slice.result.now c.args.node.now c.args.faults.now.items c.take.new.self is

pub returns-in_ok-push-in-NotAnEntry : goal.returns-in_ok-push-in-NotAnEntry
returns-in_ok-push-in-NotAnEntry c =
    let is = IsAnswered-take c.args.logs.now c.args.log c.args.place c.index-logs-log.result c.index.result.now c.as_slice.result.now c.args.node.now c.args.faults.now.items c.in_ok-answer.answer NotAnEntry
    c.take.new.self c.requires.before c.requires.log_in c.requires.count c.requires.place_in c.index-logs-log.is c.index.ensures c.as_slice.ensures.value c.in_ok-answer.ensures.answer
    c.in_ok-answer.ensures.left c.in-NotAnEntry.is in
    subst (λ (l : List EntryFault). IsFollowing c.args.node.now.book c.args.node.now.hash (log_bytes c.args.logs.now) c.args.log (c.args.place + 1) c.take.new.self l)
    (sym c.in_ok-push-in-NotAnEntry.ensures.items) (IsFollowing-passed (log_bytes c.args.logs.now) c.args.log c.args.place c.as_slice.result.now c.args.node.now c.args.faults.now.items c.take.new.self is)

pub returns-in_ok-push-in-Forked : goal.returns-in_ok-push-in-Forked
returns-in_ok-push-in-Forked c =
    let is = IsAnswered-take c.args.logs.now c.args.log c.args.place c.index-logs-log.result c.index.result.now c.as_slice.result.now c.args.node.now c.args.faults.now.items c.in_ok-answer.answer Forked
    c.take.new.self c.requires.before c.requires.log_in c.requires.count c.requires.place_in c.index-logs-log.is c.index.ensures c.as_slice.ensures.value c.in_ok-answer.ensures.answer
    c.in_ok-answer.ensures.left c.in-Forked.is in
    subst (λ (l : List EntryFault). IsFollowing c.args.node.now.book c.args.node.now.hash (log_bytes c.args.logs.now) (c.args.log + 1) 0 c.take.new.self l)
    (sym c.in_ok-push-in-Forked.ensures.items) (IsFollowing-forked (log_bytes c.args.logs.now) c.args.log c.args.place c.as_slice.result.now c.args.node.now c.args.faults.now.items c.take.new.self is)

pub returns-in-Gap : goal.returns-in-Gap
returns-in-Gap c =
    let is = IsAnswered-take c.args.logs.now c.args.log c.args.place c.index-logs-log.result c.index.result.now c.as_slice.result.now c.args.node.now c.args.faults.now.items c.in_ok-answer.answer Gap
    c.take.new.self c.requires.before c.requires.log_in c.requires.count c.requires.place_in c.index-logs-log.is c.index.ensures c.as_slice.ensures.value c.in_ok-answer.ensures.answer
    c.in_ok-answer.ensures.left c.in-Gap.is in
    absurd (not-gap (log_bytes c.args.logs.now) c.args.log c.args.place c.as_slice.result.now c.args.node.now c.args.faults.now.items c.take.new.self is)

pub returns-in-Again : goal.returns-in-Again
returns-in-Again c =
    let is = IsAnswered-take c.args.logs.now c.args.log c.args.place c.index-logs-log.result c.index.result.now c.as_slice.result.now c.args.node.now c.args.faults.now.items c.in_ok-answer.answer Again
    c.take.new.self c.requires.before c.requires.log_in c.requires.count c.requires.place_in c.index-logs-log.is c.index.ensures c.as_slice.ensures.value c.in_ok-answer.ensures.answer
    c.in_ok-answer.ensures.left c.in-Again.is in
    absurd (not-again (log_bytes c.args.logs.now) c.args.log c.args.place c.as_slice.result.now c.args.node.now c.args.faults.now.items c.take.new.self is)
