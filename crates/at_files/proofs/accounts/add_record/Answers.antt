use Rattle.std.proofs.Common.{sym, ◌∙◌, arith}
use Rattle.at_files.proofs.Prelude.{common_steps, OnOk-map}
use Rattle.at_files.proofs.AccountLaws.{first_version, with_named_record-adds, with_plain_record-adds}
use Rattle.at_files.proofs.accounts.add_record.Goals as goal

pub returns-then-begun-eq2-clause-names : goal.returns-then-begun-eq2-clause-names
returns-then-begun-eq2-clause-names c = OnOk-map c.add_named_record.result _ _
    (λ is. (with_named_record-adds c.args.begun.now _ c.add_named_record.new.begun (sym c.has_shape.ensures ∙ c.if-not-has_shape.false) c.requires.names
    (rw (← c.begun.view_is) c.if-begun-eq2.true) is).named)
    c.add_named_record.ensures.ok

pub returns-else-begun-eq2-clause-names : goal.returns-else-begun-eq2-clause-names
returns-else-begun-eq2-clause-names c = OnOk-map c.add_plain_record.result _ _
    (λ is. (with_plain_record-adds c.args.begun.now _ c.add_plain_record.new.begun (sym c.has_shape.ensures ∙ c.if-not-has_shape.false) c.requires.names
    (first_version c.args.begun.now c.requires.names (rw (← c.begun.view_is) c.if-begun-eq2.false)) is).named)
    c.add_plain_record.ensures.ok

pub returns-then-begun-eq2-clause-ok : goal.returns-then-begun-eq2-clause-ok
returns-then-begun-eq2-clause-ok c = grind (arith, common_steps)

pub returns-else-begun-eq2-clause-ok : goal.returns-else-begun-eq2-clause-ok
returns-else-begun-eq2-clause-ok c = grind (arith, common_steps)

pub returns-else-begun-eq2-clause-bad : goal.returns-else-begun-eq2-clause-bad
returns-else-begun-eq2-clause-bad c = grind (arith, common_steps)

pub add_plain_record-requires-clause-room : goal.add_plain_record-requires-clause-room
add_plain_record-requires-clause-room c = grind (arith, common_steps)

pub add_named_record-requires-clause-room : goal.add_named_record-requires-clause-room
add_named_record-requires-clause-room c = grind (arith, common_steps)

pub add_plain_record-requires-clause-account : goal.add_plain_record-requires-clause-account
add_plain_record-requires-clause-account c = grind (arith, common_steps)

pub returns-then-not-has_shape-clause-bad : goal.returns-then-not-has_shape-clause-bad
returns-then-not-has_shape-clause-bad c = grind (arith, common_steps)

pub add_plain_record-requires-clause-version : goal.add_plain_record-requires-clause-version
add_plain_record-requires-clause-version c = grind (arith, common_steps)

pub returns-then-begun-eq2-clause-bad : goal.returns-then-begun-eq2-clause-bad
returns-then-begun-eq2-clause-bad c = grind (arith, common_steps)

pub add_named_record-requires-clause-account : goal.add_named_record-requires-clause-account
add_named_record-requires-clause-account c = grind (arith, common_steps)

pub overflow_add-account : goal.overflow_add-account
overflow_add-account c = grind (arith, common_steps)
