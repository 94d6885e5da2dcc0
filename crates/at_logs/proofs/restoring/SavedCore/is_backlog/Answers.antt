use Rattle.std.proofs.Common.{◌≡◌, ◌<◌, List, length, ap, sym, subst, ◌∙◌, arith}
use Rattle.at_logs.proofs.Prelude.{All, length-map, CompactState, Credit, RoomyBacklog, backlog_of}
use Rattle.at_logs.proofs.CheckingLaws.{credits_read, names_of}
use Rattle.at_logs.proofs.restoring.SavedCore.is_backlog.Goals.{After-credits}
use Rattle.at_logs.proofs.restoring.SavedCore.is_backlog.Goals as goal

inside : (c : After-credits) → c.args.p < length c.self.inside.backlogs.items
inside c = omega (
  arith,
  c.requires.log_in,
  c.requires.saved.sized,
  ap (λ (x : CompactState). length x.backlogs) c.self.view_is,
  length-map c.self.inside.backlogs.items (λ (l : RoomyBacklog). l.kept),
)

same : (c : After-credits) → c.credits.result.now ≡ (backlog_of c.args.self.now.backlogs c.args.p).credits
same c =
    credits_read c.self.inside.backlogs.items c.args.p c.index-backlog.result.now c.credits.result.now (inside c) c.index-backlog.ensures c.credits.ensures
    ∙ ap (λ (x : CompactState). (backlog_of x.backlogs c.args.p).credits) c.self.view_is

pub are_credits_of-requires-clause-accounts : goal.are_credits_of-requires-clause-accounts
are_credits_of-requires-clause-accounts c =
    subst (λ (x : CompactState). All (λ (x' : Credit). x'.account < length x.book.accounts) c.credits.result.now) (sym c.self.view_is)
    (subst (λ (xs : List Credit). All (λ (x : Credit). x.account < length c.args.self.now.book.accounts) xs) (sym (same c))
    (names_of c.args.self.now c.args.p c.requires.saved c.requires.log_in).targets)

pub are_credits_of-requires-clause-logs : goal.are_credits_of-requires-clause-logs
are_credits_of-requires-clause-logs c =
    subst (λ (x : CompactState). All (λ (x' : Credit). x'.log < x.book.logs) c.credits.result.now) (sym c.self.view_is)
    (subst (λ (xs : List Credit). All (λ (x : Credit). x.log < c.args.self.now.book.logs) xs) (sym (same c))
    (names_of c.args.self.now c.args.p c.requires.saved c.requires.log_in).sources)
