use Rattle.std.proofs.Common.{◌≡◌, ℕ, ◌<◌, List, length, get_or, cond, ap, ◌∙◌, arith}
use Rattle.at_logs.proofs.Prelude.{sum_by_more, LogTerms, TargetPair, account_on_logs, backlog_of, is_log, kept_of}
use Rattle.at_logs.proofs.RoomLaws.{credited-more}
use Rattle.at_logs.proofs.compact.keep_credits.Goals as goal

pub loop-i-preserved : goal.loop-i-preserved
loop-i-preserved c =
    let b : LogTerms = c.args.book.now in
    let i : ℕ = c.loop-i.i in
    let targets : List TargetPair = c.args.payout.now.targets in
    let within : i < length targets = omega (arith, c.loop-i-test.true, c.len-i-end.ensures.count) in
    let d : TargetPair = (0, 0) in
    let t : TargetPair = (c.to.result, c.amount.result) in
    let is : t ≡ get_or targets i d = ap (λ (n : ℕ). (n, c.amount.result)) c.to.ensures ∙ ap (λ (n : ℕ). ((get_or targets i d).0, n)) c.amount.ensures in
    record {
      kept = λ p known.
          credited-more b p (backlog_of (kept_of c.args.backlogs.now) p) (backlog_of (kept_of c.loop-i.backlogs) p) (backlog_of (kept_of c.keep_credit.new.backlogs) p) c.args.payout.now.log c.args.number
          targets i t d within is (c.loop-i.invariant.kept p known) (c.keep_credit.ensures.kept p known);
      room = λ p known. omega (
        arith,
        c.loop-i.invariant.room p known,
        c.keep_credit.ensures.room p known,
        sum_by_more (λ (t : TargetPair). cond (is_log p (account_on_logs b t.0).log) 1 0) targets i d within,
        ap {B = ℕ} (λ (t : TargetPair). cond (is_log p (account_on_logs b t.0).log) 1 0) is,
      );
    }
