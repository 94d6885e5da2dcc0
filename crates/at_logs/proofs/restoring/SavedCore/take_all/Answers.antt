use Rattle.std.proofs.Common.{◌≡◌, ℕ, ◌+◌, ◌<◌, ◌≤◌, List, length, get_or, sum_by, ap, sym, subst, ◌∙◌, arith}
use Rattle.at_logs.proofs.Prelude.{All, length-map, CompactState, Credit, RoomyBacklog, backlog_of, credit_to}
use Rattle.at_logs.proofs.CheckingLaws.{credits_read, names_of, taken_more, unsplit, untaken_less}
use Rattle.at_logs.proofs.restoring.SavedCore.take_all.Goals.{After-credits}
use Rattle.at_logs.proofs.restoring.SavedCore.take_all.Goals as goal

inside : (c : After-credits) → c.loop-p.p < length c.self.inside.backlogs.items
inside c = omega (
  arith,
  c.loop-p-test.true,
  c.loop-p.auto.p-end,
  c.logs-p-end.ensures,
  ap (λ (x : CompactState). x.book.logs) c.self.view_is,
  c.requires.saved.sized,
  ap (λ (x : CompactState). length x.backlogs) c.self.view_is,
  length-map c.self.inside.backlogs.items (λ (l : RoomyBacklog). l.kept),
)

known : (c : After-credits) → c.loop-p.p < c.args.self.now.book.logs
known c = omega (arith, c.loop-p-test.true, c.logs-p-end.ensures, ap (λ (x : CompactState). x.book.logs) c.self.view_is)

same : (c : After-credits) → c.credits.result.now ≡ (backlog_of c.args.self.now.backlogs c.loop-p.p).credits
same c =
    credits_read c.self.inside.backlogs.items c.loop-p.p c.index.result.now c.credits.result.now (inside c) c.index.ensures c.credits.ensures
    ∙ ap (λ (x : CompactState). (backlog_of x.backlogs c.loop-p.p).credits) c.self.view_is

pub take_credits-requires : goal.take_credits-requires
take_credits-requires c =
    let long : length c.loop-p.left ≡ length c.args.self.now.book.accounts =
    omega (arith, c.loop-p.auto.left, ap (λ (l : List ℕ). length l) c.requires.balances, c.requires.saved.balanced) in
    subst (λ (n : ℕ). All (λ (x : Credit). x.account < n) c.credits.result.now) (sym long)
    (subst (λ (xs : List Credit). All (λ (x : Credit). x.account < length c.args.self.now.book.accounts) xs) (sym (same c))
    (names_of c.args.self.now c.loop-p.p c.requires.saved (known c)).targets)

pub returns-then-not-take_credits-clause-short : goal.returns-then-not-take_credits-clause-short
returns-then-not-take_credits-clause-short c =
    let at = (goal.at.returns-then-not-take_credits-clause-short c).After-credits in
    unsplit c.args.self.now c.loop-p.p c.loop-p.left c.requires.backlogs (known at) c.loop-p.invariant.untaken
    (subst (λ (xs : List Credit). ¬ All (λ (x : Credit). sum_by (credit_to x.account) xs ≤ get_or c.loop-p.left x.account 0) xs) (same at) c.if-not-take_credits.ensures.short)

pub loop-p-preserved : goal.loop-p-preserved
loop-p-preserved c =
    let at = (goal.at.loop-p-preserved c).After-credits in
    let moved : (a : ℕ) → get_or c.take_credits.new.left a 0 + sum_by (credit_to a) (backlog_of c.args.self.now.backlogs c.loop-p.p).credits ≡ get_or c.loop-p.left a 0 =
    subst (λ (xs : List Credit). (a : ℕ) → get_or c.take_credits.new.left a 0 + sum_by (credit_to a) xs ≡ get_or c.loop-p.left a 0) (same at) c.if-not-take_credits.ensures.taken in
    record {
      taken = taken_more c.args.self.now c.loop-p.p c.loop-p.left c.take_credits.new.left c.requires.backlogs (known at) c.loop-p.invariant.taken c.loop-p.invariant.untaken moved;
      untaken = untaken_less c.args.self.now c.loop-p.p c.loop-p.left c.take_credits.new.left c.requires.backlogs (known at) c.loop-p.invariant.untaken moved;
    }
