use Rattle.std.proofs.Common.{◌≡◌, ◌+◌, ◌<◌, ◌≤◌, ◌++◌, List, length, drop, set, get_or, sym, ap, subst, ◌∙◌, take, arith}
use Rattle.at_logs.proofs.Prelude.{All, get_or_read, length-map, CompactState, IsMessageOn, MESSAGES_MAX, OnErr, OnOk, RoomyBacklog, backlog_of, backlog_with, kept_of, room_of, state_of}
use Rattle.at_logs.proofs.RoomLaws.{no_roomy}
use Rattle.at_logs.proofs.StateLaws.{IsKept, IsKept-extended, extended_view, roomier, unextended_view, written}
use Rattle.at_logs.proofs.compact.Compact.extend.Goals.{After-from_residual, After-self-2-1}
use Rattle.at_logs.proofs.compact.Compact.extend.Goals as goal

-- as many backlogs as before
many : (new old : List RoomyBacklog) → kept_of new ≡ kept_of old → length new ≡ length old
many new old same = omega (arith, ap length same, length-map new (λ (l : RoomyBacklog). l.kept), length-map old (λ (l : RoomyBacklog). l.kept))

pub invariant_of-self : goal.invariant_of-self
invariant_of-self c =
    let old : List RoomyBacklog = c.self.inside.backlogs.items in
    let new : List RoomyBacklog = c.make_room_for.new.backlogs in
    let same : kept_of new ≡ kept_of old = c.make_room_for.ensures.kept ∙ ap kept_of c.deref_mut.ensures.value in
    subst (IsKept c.self.inside.book c.self.inside.validated c.self.inside.told c.self.inside.settled.items c.self.inside.balances.items)
    (sym (written c.self.inside.backlogs.len new old (many new old same) (sym c.self.inside.backlogs.ok.0)))
    (roomier c.self.inside.book c.self.inside.validated c.self.inside.told c.self.inside.settled.items c.self.inside.balances.items old new same
    (λ p. omega (arith, c.make_room_for.ensures.more p, ap (λ (l : List RoomyBacklog). room_of l p) c.deref_mut.ensures.value)) c.self.invariant)

-- the backlogs with more room
unfoldable all_of : After-self-2-1 → List RoomyBacklog
all_of c = take c.self.inside.backlogs.len (c.make_room_for.new.backlogs ++ drop (length c.make_room_for.new.backlogs) c.self.inside.backlogs.items)

same_new : (c : After-self-2-1) → kept_of c.make_room_for.new.backlogs ≡ kept_of c.self.inside.backlogs.items
same_new c = c.make_room_for.ensures.kept ∙ ap kept_of c.deref_mut.ensures.value

all_is : (c : After-self-2-1) → all_of c ≡ c.make_room_for.new.backlogs
unfolding all_of
all_is c =
    written c.self.inside.backlogs.len c.make_room_for.new.backlogs c.self.inside.backlogs.items (many c.make_room_for.new.backlogs c.self.inside.backlogs.items (same_new c)) (sym c.self.inside.backlogs.ok.0)

same_all : (c : After-self-2-1) → kept_of (all_of c) ≡ kept_of c.self.inside.backlogs.items
same_all c = ap kept_of (all_is c) ∙ same_new c

log_in : (c : After-self-2-1) → c.args.log < length (all_of c)
log_in c =
    omega (
      arith,
      c.requires.log_in,
      ap (λ (x : CompactState). x.book.logs) c.self.view_is,
      c.self.invariant.0.sized,
      many (all_of c) c.self.inside.backlogs.items (same_all c),
      length-map c.self.inside.backlogs.items (λ (l : RoomyBacklog). l.kept),
    )

read : (c : After-self-2-1) → c.index_mut.result.now ≡ get_or (all_of c) c.args.log no_roomy
unfolding all_of
read c = get_or_read (all_of c) c.args.log c.index_mut.result.now (log_in c) c.index_mut.ensures.value no_roomy

kept_ok : (c : After-self-2-1) → OnOk c.extend.result (c.extend.new.self ≡ record (get_or (all_of c) c.args.log no_roomy) { kept = backlog_with (get_or (all_of c) c.args.log no_roomy).kept c.args.messages.now })
kept_ok c = subst (λ (l : RoomyBacklog). OnOk c.extend.result (c.extend.new.self ≡ record l { kept = backlog_with l.kept c.args.messages.now })) (read c) c.extend.ensures.ok

kept_err : (c : After-self-2-1) → OnErr c.extend.result (c.extend.new.self ≡ get_or (all_of c) c.args.log no_roomy)
kept_err c = subst (λ (l : RoomyBacklog). OnErr c.extend.result (c.extend.new.self ≡ l)) (read c) c.extend.ensures.err

pub invariant_of-self-2 : goal.invariant_of-self-2
unfolding all_of
invariant_of-self-2 c =
    let old : List RoomyBacklog = c.self.inside.backlogs.items in
    let view = c.self.view_is in
    IsKept-extended c.extend.result c.self.inside.book c.self.inside.validated c.self.inside.told c.self.inside.settled.items c.self.inside.balances.items old (all_of c) c.args.log c.args.messages.now
    c.extend.new.self c.self.invariant (omega (arith, c.requires.log_in, ap (λ (x : CompactState). x.book.logs) view)) (many (all_of c) old (same_all c))
    (subst (λ (x : CompactState). All (IsMessageOn x.book.logs (length x.book.accounts)) c.args.messages.now) (sym view) c.requires.known)
    (subst (λ (x : CompactState). get_or x.told c.args.log 0 + length (backlog_of x.backlogs c.args.log).messages + length c.args.messages.now ≤ MESSAGES_MAX) (sym view) c.requires.few)
    (same_all c)
    (λ q. omega (arith, c.make_room_for.ensures.more q, ap (λ (l : List RoomyBacklog). room_of l q) c.deref_mut.ensures.value, ap (λ (l : List RoomyBacklog). room_of l q) (all_is c)))
    (λ q known. omega (arith, c.in_ok-make_room_for.ensures.ok q known, ap (λ (l : List RoomyBacklog). room_of l q) c.deref_mut.ensures.value, ap (λ (l : List RoomyBacklog). room_of l q) (all_is c)))
    (kept_ok c) (kept_err c)

pub returns-clause-ok : goal.returns-clause-ok
unfolding all_of
returns-clause-ok c =
    subst (λ (x : CompactState). OnOk c.extend.result (state_of c.self.inside.book c.self.inside.validated c.self.inside.told c.self.inside.settled.items c.self.inside.balances.items (set (all_of c) c.args.log c.extend.new.self)
    ≡ record x { backlogs = set x.backlogs c.args.log (backlog_with (backlog_of x.backlogs c.args.log) c.args.messages.now) })) c.self.view_is
    (extended_view c.extend.result c.self.inside.book c.self.inside.validated c.self.inside.told c.self.inside.settled.items c.self.inside.balances.items c.self.inside.backlogs.items (all_of c) c.args.log
    c.args.messages.now c.extend.new.self (same_all c) (kept_ok c))

pub returns-clause-err : goal.returns-clause-err
unfolding all_of
returns-clause-err c =
    subst (λ (x : CompactState). OnErr c.extend.result (state_of c.self.inside.book c.self.inside.validated c.self.inside.told c.self.inside.settled.items c.self.inside.balances.items (set (all_of c) c.args.log c.extend.new.self) ≡ x))
    c.self.view_is
    (unextended_view c.extend.result c.self.inside.book c.self.inside.validated c.self.inside.told c.self.inside.settled.items c.self.inside.balances.items c.self.inside.backlogs.items (all_of c) c.args.log
    c.extend.new.self (same_all c) (kept_err c))
