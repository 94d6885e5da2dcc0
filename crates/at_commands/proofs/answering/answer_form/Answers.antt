use Rattle.at_commands.proofs.answering.answer_form.Goals as goal

pub returns-in-Run : goal.returns-in-Run
returns-in-Run g c = rw c.in-Run.is c.answer_run.ensures

pub returns-in-Check : goal.returns-in-Check
returns-in-Check g c = rw c.in-Check.is c.answer_command.ensures

pub returns-in-Kinds : goal.returns-in-Kinds
returns-in-Kinds g c = rw c.in-Kinds.is c.answer_command-in-Kinds.ensures

pub returns-in-Needs : goal.returns-in-Needs
returns-in-Needs g c = rw c.in-Needs.is c.answer_command-in-Needs.ensures

pub returns-in-Orders : goal.returns-in-Orders
returns-in-Orders g c = rw c.in-Orders.is c.answer_command-in-Orders.ensures

pub returns-in-Costs : goal.returns-in-Costs
returns-in-Costs g c = rw c.in-Costs.is c.answer_costs.ensures

pub returns-in-Ledger : goal.returns-in-Ledger
returns-in-Ledger g c = rw c.in-Ledger.is c.answer_ledger.ensures
