use Rattle.std.proofs.Common.{Err, ◌∙◌, ap, sym, arith}
use Rattle.at_files.proofs.Prelude.{common_steps}
use Rattle.at_files.proofs.BookWalk.{Added-more, Added-bad, Added-end, Added-full}
use Rattle.at_files.proofs.Faults.{Bad-same, Err-same}
use Rattle.at_files.proofs.book.read_accounts.Goals as goal

pub returns-then-not-found-clause-ok : goal.returns-then-not-found-clause-ok
returns-then-not-found-clause-ok c = Added-end _ c.loop-account.begun _ _ _ _ _ c.loop-account.invariant c.in-Ok.ensures.ok c.if-not-found.true

pub returns-clause-ok : goal.returns-clause-ok
returns-clause-ok c = Added-end _ c.loop-account.begun _ _ _ _ _ c.loop-account.invariant c.in-Ok-next.ensures.ok c.if-found.false

pub returns-then-found-clause-bad : goal.returns-then-found-clause-bad
returns-then-found-clause-bad c = λ b same.
    Added-full _ c.loop-account.begun _ _ _ _ _ c.loop-account.invariant c.in-Ok-next.ensures.ok c.if-found.true (omega arith) ∙ ap Err (Bad-same _ b (ap Err (sym c.bad_book.ensures) ∙ same))

pub returns-in-Err-clause-bad : goal.returns-in-Err-clause-bad
returns-in-Err-clause-bad c = λ b same.
    Added-bad _ c.loop-account.begun _ _ _ _ _ b c.loop-account.invariant c.in-Ok.ensures.ok c.if-not-found.false (c.add_record.ensures.bad b (c.in-Err.is ∙ Err-same _ _ same))

pub loop-account-preserved : goal.loop-account-preserved
loop-account-preserved c =
    Added-more _ c.loop-account.begun _ _ _ _ _ c.add_record.new.begun c.loop-account.invariant c.in-Ok.ensures.ok c.if-not-found.false c.in_default-add_record.ensures.ok c.in_default-add_record.ensures.names

pub add_record-requires-clause-room : goal.add_record-requires-clause-room
add_record-requires-clause-room c = c.loop-account-test.true

pub loop-account-init : goal.loop-account-init
loop-account-init c = grind (arith, common_steps)

pub add_record-requires-clause-account : goal.add_record-requires-clause-account
add_record-requires-clause-account c = grind (arith, common_steps)
