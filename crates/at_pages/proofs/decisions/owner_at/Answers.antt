use Rattle.std.proofs.Common.{arith, sym}
use Rattle.at_pages.proofs.Prelude.{slice_get_past, account_of}
use Rattle.at_pages.proofs.TurnLaws.{owner-none}
use Rattle.at_pages.proofs.decisions.owner_at.Goals as goal
use Rattle.at_pages.proofs.decisions.owner_at.Goals.{else-account-accounts-via-then-account-accounts+else-slot-owner_count, else-account-accounts-via-else-account-accounts}

pub returns-else-account-accounts-clause-owner : goal.returns-else-account-accounts-clause-owner
returns-else-account-accounts-clause-owner c =
    elim c.else-account-accounts.branch [
      | else-account-accounts-via-then-account-accounts+else-slot-owner_count w ↦
          sym (slice_get_past (account_of c.args.book.now c.args.account).owners c.args.slot (omega (arith, w.owner_count.ensures.count, w.if-slot-owner_count.false)))
      | else-account-accounts-via-else-account-accounts w ↦
          sym (owner-none c.args.book.now c.args.account c.args.slot (omega (arith, c.accounts.ensures.count, w.if-account-accounts.false)))
    ]
