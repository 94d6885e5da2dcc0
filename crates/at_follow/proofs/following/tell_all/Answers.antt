use Rattle.std.proofs.Common.{List, sym, subst, arith}
use Rattle.at_follow.proofs.Prelude.{HasToldAll, ReadingState, Told, read_state}
use Rattle.at_follow.proofs.TellingEach.{HasToldSome, HasToldSome-more, HasToldSome-none, left-told}
use Rattle.at_follow.proofs.following.tell_all.Goals as goal

pub loop-told-init : goal.loop-told-init
loop-told-init c = λ messages history.
    subst (λ (l : List Told). HasToldSome (read_state c.args.node.now messages) l c.args.node.now) (sym c.new-list.ensures.items) (HasToldSome-none c.args.node.now messages history)

pub loop-told-preserved : goal.loop-told-preserved
loop-told-preserved c = λ messages history.
    let s : ReadingState = read_state c.args.node.now messages in
    let some = c.loop-told.invariant messages history in
    subst (λ (l : List Told). HasToldSome s l c.next_validated.new.self) (sym c.in_ok-push.ensures.items)
    (HasToldSome-more s c.loop-told.list.items c.in-Some.told c.loop-told.node c.next_validated.new.self some (c.in-Some.ensures.some messages some.history))

pub loop-told-smaller : goal.loop-told-smaller
loop-told-smaller c =
    let messages = c.requires.history.0 in
    let some = c.loop-told.invariant messages c.requires.history.1 in
    omega (arith, left-told c.loop-told.node c.next_validated.new.self messages c.in-Some.told some.history (c.in-Some.ensures.some messages some.history))

pub returns : goal.returns
returns c = λ messages history.
    let s : ReadingState = read_state c.args.node.now messages in
    let some = c.loop-told.invariant messages history in
    let told : HasToldAll s c.loop-told.list.items c.loop-told.node =
    record { history = some.history; tells = some.tells; all = c.in_default.ensures.all messages some.history; of_logs = some.of_logs } in
    subst (HasToldAll s c.loop-told.list.items) (sym c.in_default.ensures.none) told
