use Rattle.std.proofs.Common.{◌≡◌, ℕ, ◌+◌, ◌<◌, List, get_or, set, slice_get, sym, ap, subst, ◌∙◌, arith}
use Rattle.at_logs.proofs.Prelude.{get_or_read, length-map, BacklogState, CompactState, RoomyBacklog, backlog_of, backlog_told, kept_of, one_more_of, state_of}
use Rattle.at_logs.proofs.RoomLaws.{backlog_of-kept_of, kept_of-set, no_roomy}
use Rattle.at_logs.proofs.StateLaws.{IsKept, IsKept-told}
use Rattle.at_logs.proofs.compact.Compact.tell.Goals.{After-let_go}
use Rattle.at_logs.proofs.compact.Compact.tell.Goals as goal

log_in : (c : After-let_go) → c.args.p < c.self.inside.book.logs
log_in c = omega (arith, c.requires.log_in, ap (λ (x : CompactState). x.book.logs) c.self.view_is)

read : (c : After-let_go) → c.index_mut.result.now ≡ get_or c.self.inside.backlogs.items c.args.p no_roomy
read c =
    get_or_read c.self.inside.backlogs.items c.args.p c.index_mut.result.now
    (omega (arith, log_in c, c.self.invariant.0.sized, length-map c.self.inside.backlogs.items (λ (l : RoomyBacklog). l.kept))) c.index_mut.ensures.value no_roomy

told_is : (c : After-let_go) → c.set.new.self ≡ one_more_of c.self.inside.told c.args.p
told_is c = c.set.ensures ∙ ap (λ n. set c.self.inside.told c.args.p (n + 1)) c.get-number.ensures

new_is : (c : After-let_go) → c.let_go.new.self ≡ record (get_or c.self.inside.backlogs.items c.args.p no_roomy) { kept = backlog_told (get_or c.self.inside.backlogs.items c.args.p no_roomy).kept 1 }
new_is c = c.let_go.ensures.rest ∙ ap (λ (l : RoomyBacklog). record l { kept = backlog_told l.kept 1 }) (read c)

pub invariant_of-self : goal.invariant_of-self
invariant_of-self c =
    let at = (goal.at.invariant_of-self c).After-let_go in
    let all : List RoomyBacklog = set c.self.inside.backlogs.items c.args.p c.let_go.new.self in
    subst (λ (l : List ℕ). IsKept c.self.inside.book c.self.inside.validated l c.self.inside.settled.items c.self.inside.balances.items all) (sym (told_is at))
    (IsKept-told c.self.inside.book c.self.inside.validated c.self.inside.told c.self.inside.settled.items c.self.inside.balances.items c.self.inside.backlogs.items c.args.p c.let_go.new.self c.self.invariant
    (log_in at)
    (omega (
      arith,
      c.requires.validated,
      ap (λ (x : CompactState). get_or x.told c.args.p 0) c.self.view_is,
      ap (λ (x : CompactState). get_or x.validated c.args.p 0) c.self.view_is,
    )) (new_is at))

pub returns-clause-told : goal.returns-clause-told
returns-clause-told c =
    let at = (goal.at.returns-clause-told c).After-let_go in
    let old : List RoomyBacklog = c.self.inside.backlogs.items in
    let all : List RoomyBacklog = set old c.args.p c.let_go.new.self in
    subst (λ (x : CompactState). state_of c.self.inside.book c.self.inside.validated c.set.new.self c.self.inside.settled.items c.self.inside.balances.items all
    ≡ record x { told = one_more_of x.told c.args.p; backlogs = set x.backlogs c.args.p (backlog_told (backlog_of x.backlogs c.args.p) 1) }) c.self.view_is
    (ap (λ (l : List ℕ). state_of c.self.inside.book c.self.inside.validated l c.self.inside.settled.items c.self.inside.balances.items all) (told_is at)
    ∙ ap (λ (l : List BacklogState). record {
      book = c.self.inside.book;
      validated = c.self.inside.validated;
      told = one_more_of c.self.inside.told c.args.p;
      settled = c.self.inside.settled.items;
      balances = c.self.inside.balances.items;
      backlogs = l;
    })
    (kept_of-set old c.args.p c.let_go.new.self
    ∙ ap (set (kept_of old) c.args.p) (ap (λ (l : RoomyBacklog). l.kept) (new_is at) ∙ ap (λ (l : BacklogState). backlog_told l 1) (sym (backlog_of-kept_of old c.args.p)))))

pub returns-clause-first : goal.returns-clause-first
returns-clause-first c =
    let at = (goal.at.returns-clause-first c).After-let_go in
    c.let_go.ensures.first
    ∙ (ap (λ (l : RoomyBacklog). slice_get l.kept.messages 0) (read at)
    ∙ (ap (λ (l : BacklogState). slice_get l.messages 0) (sym (backlog_of-kept_of c.self.inside.backlogs.items c.args.p))
    ∙ ap (λ (x : CompactState). slice_get (backlog_of x.backlogs c.args.p).messages 0) c.self.view_is))
