use Rattle.std.proofs.Common.{arith}
use Rattle.at_files.proofs.MessageLaws.{Sends-written, Sends-accepted}
use Rattle.at_files.proofs.messages.read_messages.Goals as goal

pub returns-clause-sends : goal.returns-clause-sends
returns-clause-sends c = Sends-written _ _ _ (let few = c.accounts-known.ensures.checked.begun.few_accounts in omega arith) c.read_items.ensures.ok

pub returns-clause-accepts : goal.returns-clause-accepts
returns-clause-accepts c = λ messages sends.
    Sends-accepted _ _ _ messages (let few = c.accounts-known.ensures.checked.begun.few_accounts in omega arith) c.read_items.ensures.bad sends

pub returns-clause-ok : goal.returns-clause-ok
returns-clause-ok c = c.read_items.ensures.ok

pub returns-clause-bad : goal.returns-clause-bad
returns-clause-bad c = c.read_items.ensures.bad
