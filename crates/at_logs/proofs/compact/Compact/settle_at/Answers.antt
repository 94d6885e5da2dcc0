use Rattle.std.proofs.Common.{◌≡◌, ℕ, ◌+◌, ◌<◌, ◌^◌, ◌++◌, List, length, drop, get_or, set, take, sum_by, refl, sym, ap, subst, ◌∙◌, arith}
use Rattle.at_logs.proofs.Prelude.{All, get_or-le-sum_by, get_or_read, length-map, BacklogState, CompactState, Covers, Credit, IsNextMade, Payout, RoomyBacklog, SettlesFrom, backlog_of, backlog_settled, credit_below, credit_to, kept_of, state_of}
use Rattle.at_logs.proofs.RoomLaws.{backlog_of-kept_of, kept_of-set, no_roomy}
use Rattle.at_logs.proofs.KeptLaws.{backlog-same}
use Rattle.at_logs.proofs.StateLaws.{IsKept-settled, rewritten, settled_from}
use Rattle.at_logs.proofs.compact.Compact.settle_at.Goals.{After-self-2-1, After-deref_mut}
use Rattle.at_logs.proofs.compact.Compact.settle_at.Goals as goal

log_in : (c : After-deref_mut) → c.args.p < c.self.inside.book.logs
log_in c = omega (arith, c.requires.log_in, ap (λ (x : CompactState). x.book.logs) c.self.view_is)

in_all : (c : After-deref_mut) → c.args.p < length c.self.inside.backlogs.items
in_all c = omega (arith, log_in c, c.self.invariant.0.sized, length-map c.self.inside.backlogs.items (λ (l : RoomyBacklog). l.kept))

read : (c : After-deref_mut) → c.index_mut.result.now ≡ get_or c.self.inside.backlogs.items c.args.p no_roomy
read c = get_or_read c.self.inside.backlogs.items c.args.p c.index_mut.result.now (in_all c) c.index_mut.ensures.value no_roomy

kept : (c : After-deref_mut) → c.index_mut.result.now.kept ≡ backlog_of (kept_of c.self.inside.backlogs.items) c.args.p
kept c = ap (λ (l : RoomyBacklog). l.kept) (read c) ∙ sym (backlog_of-kept_of c.self.inside.backlogs.items c.args.p)

pub settle-requires-clause-accounts : goal.settle-requires-clause-accounts
settle-requires-clause-accounts c =
    subst (λ (l : BacklogState). All (λ (x : Credit). x.account < length c.deref_mut.result.now) l.credits) (sym (kept c)) (λ k d w.
    omega (arith, ((c.self.invariant.0.backlogs c.args.p (log_in c)).credits k d w).account, ap (λ (l : List ℕ). length l) c.deref_mut.ensures.value, c.self.invariant.0.settled_sized))

pub settle-requires-clause-fits : goal.settle-requires-clause-fits
settle-requires-clause-fits c =
    subst (λ (l : BacklogState). All (λ (x : Credit). get_or c.deref_mut.result.now x.account 0 + sum_by (credit_to x.account) l.credits < 2 ^ 64) l.credits) (sym (kept c)) (λ k d w.
    let x : Credit = get_or (backlog_of (kept_of c.self.inside.backlogs.items) c.args.p).credits k d in
    let of = (c.self.invariant.0.backlogs c.args.p (log_in c)).credits k d w in
    omega (
      arith,
      c.self.invariant.0.split c.args.p x.account (log_in c) of.account of.owner,
      ap (λ (l : List ℕ). get_or l x.account 0) c.deref_mut.ensures.value,
      get_or-le-sum_by (λ n. n) c.self.inside.balances.items x.account 0 (omega (arith, of.account, c.self.invariant.0.balanced)),
      c.self.invariant.0.total,
      c.self.invariant.0.book.total,
    ))

-- the accounts as they are settled
unfoldable settled_of : After-self-2-1 → List ℕ
settled_of c = take c.self.inside.settled.len (c.settle.new.settled ++ drop (length c.settle.new.settled) c.self.inside.settled.items)

long : (c : After-self-2-1) → length c.settle.new.settled ≡ length c.self.inside.settled.items
long c = omega (arith, c.settle.auto.settled, ap (λ (l : List ℕ). length l) c.deref_mut.ensures.value)

settled_is : (c : After-self-2-1) → settled_of c ≡ c.settle.new.settled
unfolding settled_of
settled_is c = rewritten c.self.inside.settled.len c.settle.new.settled c.self.inside.settled.items (long c) (sym c.self.inside.settled.ok.0)

-- each with what was settled
added : (c : After-self-2-1) (at : After-deref_mut) → c.index_mut.result.now.kept ≡ backlog_of (kept_of c.self.inside.backlogs.items) c.args.p → (a : ℕ) → a < length c.self.inside.settled.items
    → get_or (settled_of c) a 0 ≡ get_or c.self.inside.settled.items a 0 + sum_by (credit_below a c.args.deps.now) (backlog_of (kept_of c.self.inside.backlogs.items) c.args.p).credits
added c at same a known =
    omega (
      arith,
      ap (λ (l : List ℕ). get_or l a 0) (settled_is c),
      c.settle.ensures.settled a (omega (arith, known, ap (λ (l : List ℕ). length l) c.deref_mut.ensures.value)),
      ap (λ (l : List ℕ). get_or l a 0) c.deref_mut.ensures.value,
      ap (λ (l : BacklogState). sum_by (credit_below a c.args.deps.now) l.credits) same,
    )

sized : (c : After-self-2-1) → length c.args.deps.now ≡ c.self.inside.book.logs
sized c = c.requires.sized ∙ sym (ap (λ (x : CompactState). x.book.logs) c.self.view_is)

pub invariant_of-self : goal.invariant_of-self
unfolding settled_of
invariant_of-self c =
    let at = (goal.at.invariant_of-self c).After-deref_mut in
    IsKept-settled c.self.inside.book c.self.inside.validated c.self.inside.told c.self.inside.settled.items c.self.inside.balances.items c.self.inside.backlogs.items c.args.p c.args.deps.now (settled_of c)
    c.settle.new.self c.self.invariant (log_in at) (sized c) (ap (λ (l : List ℕ). length l) (settled_is c) ∙ long c) (added c at (kept at))
    (c.settle.ensures.kept ∙ ap (λ (l : RoomyBacklog). record l { kept = backlog_settled l.kept c.args.deps.now }) (read at))

-- the backlogs that are shown
shown : (c : After-self-2-1) (at : After-deref_mut) → c.index_mut.result.now.kept ≡ backlog_of (kept_of c.self.inside.backlogs.items) c.args.p
    → kept_of (set c.self.inside.backlogs.items c.args.p c.settle.new.self)
    ≡ set (kept_of c.self.inside.backlogs.items) c.args.p (backlog_settled (backlog_of (kept_of c.self.inside.backlogs.items) c.args.p) c.args.deps.now)
shown c at same =
    kept_of-set c.self.inside.backlogs.items c.args.p c.settle.new.self
    ∙ ap (set (kept_of c.self.inside.backlogs.items) c.args.p) (ap (λ (l : RoomyBacklog). l.kept) c.settle.ensures.kept ∙ ap (λ (l : BacklogState). backlog_settled l c.args.deps.now) same)

pub returns-clause-settles : goal.returns-clause-settles
unfolding settled_of
returns-clause-settles c =
    let at = (goal.at.returns-clause-settles c).After-deref_mut in
    let all : List RoomyBacklog = set c.self.inside.backlogs.items c.args.p c.settle.new.self in
    let after : CompactState = state_of c.self.inside.book c.self.inside.validated c.self.inside.told (settled_of c) c.self.inside.balances.items all in
    subst (λ (x : CompactState). (t : Payout) → t.log ≡ c.args.p → IsNextMade x t c.args.deps.now → SettlesFrom x after × IsNextMade after t c.args.deps.now) c.self.view_is
    (settled_from (state_of c.self.inside.book c.self.inside.validated c.self.inside.told c.self.inside.settled.items c.self.inside.balances.items c.self.inside.backlogs.items) c.args.p c.args.deps.now
    (settled_of c) (kept_of all) c.self.invariant.0 (log_in at) (sized c) (added c at (kept at)) (shown c at (kept at)))

pub returns-clause-settled : goal.returns-clause-settled
returns-clause-settled c =
    let at = (goal.at.returns-clause-settled c).After-deref_mut in
    let old : List BacklogState = kept_of c.self.inside.backlogs.items in
    let is : backlog_of (kept_of (set c.self.inside.backlogs.items c.args.p c.settle.new.self)) c.args.p ≡ backlog_settled (backlog_of old c.args.p) c.args.deps.now =
    ap (λ (l : List BacklogState). backlog_of l c.args.p) (shown c at (kept at))
    ∙ backlog-same old c.args.p (backlog_settled (backlog_of old c.args.p) c.args.deps.now) (omega (arith, log_in at, c.self.invariant.0.sized)) in
    subst (λ (l : BacklogState). Covers l.settled_at c.args.deps.now) (sym is) (λ i inside. omega arith)

pub returns-then-is_settled_at-clause-settles : goal.returns-then-is_settled_at-clause-settles
returns-then-is_settled_at-clause-settles c t at ready = (record { book = refl; validated = refl; told = refl; messages = λ p. refl; kept = λ messages is. is }, ready)

pub is_settled_at-requires : goal.is_settled_at-requires
is_settled_at-requires c =
    let all : List RoomyBacklog = c.self.inside.backlogs.items in
    let known : c.args.p < c.self.inside.book.logs = omega (arith, c.requires.log_in, ap (λ (x : CompactState). x.book.logs) c.self.view_is) in
    let within : c.args.p < length all = omega (arith, known, c.self.invariant.0.sized, length-map all (λ (l : RoomyBacklog). l.kept)) in
    let read = get_or_read all c.args.p c.index.result.now within c.index.ensures no_roomy in
    ap (λ (l : RoomyBacklog). length l.kept.settled_at) read
    ∙ (ap (λ (l : BacklogState). length l.settled_at) (sym (backlog_of-kept_of all c.args.p))
    ∙ ((c.self.invariant.0.backlogs c.args.p known).sized ∙ (ap (λ (x : CompactState). x.book.logs) c.self.view_is ∙ sym c.requires.sized)))
