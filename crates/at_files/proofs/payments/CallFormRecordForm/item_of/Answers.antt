use Rattle.at_files.proofs.payments.CallFormRecordForm.item_of.Goals as goal

pub returns : goal.returns
returns c = c.call_of.ensures
