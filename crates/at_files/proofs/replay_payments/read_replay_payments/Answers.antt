use Rattle.std.proofs.Common.{◌≡◌, nat_le, length, true, Err, refl, ap, ◌∙◌, arith, sym}
use Rattle.at_files.specs.Records.{file_records}
use Rattle.at_files.proofs.Prelude.{nat_tests}
use Rattle.at_files.proofs.PaymentsAccepted.{Pays-payments_of}
use Rattle.at_files.proofs.ReplayLaws.{Bad-same, PaysReplay-no_fault, fault-same, replay_payments_of-bad, replay_payments_of-many}
use Rattle.at_files.proofs.replay_payments.read_replay_payments.Goals as goal

pub returns-clause-ok : goal.returns-clause-ok
returns-clause-ok c =
    let count = c.len.ensures in
    let few = c.if-len.false in
    let test : nat_le (length c.in-Ok.read.calls.items) 64 ≡ true = grind (arith, nat_tests) in
    rw (c.in-Ok.ensures.ok.1, test) refl

pub returns-clause-pays : goal.returns-clause-pays
returns-clause-pays c =
    record { pays = Pays-payments_of _ _ _ _ _ c.requires.names c.in-Ok.ensures.ok.1; few = omega (arith, sym c.len.ensures, c.if-len.false) }

pub returns-then-len-clause-accepts : goal.returns-then-len-clause-accepts
returns-then-len-clause-accepts c = λ calls pays.
    let many = replay_payments_of-many c.args.names.now c.args.process c.in-Ok.read.skipped (file_records c.args.bytes.now) c.in-Ok.read.calls.items
    c.in-Ok.ensures.ok.0 c.in-Ok.ensures.ok.1 (omega (arith, sym c.len.ensures, c.if-len.true)) in
    PaysReplay-no_fault c.args.book.now c.args.names.now c.args.process (file_records c.args.bytes.now) calls _ c.requires.names pays
    (λ bad same. many ∙ ap Err (Bad-same _ bad same))

pub returns-then-len-clause-bad : goal.returns-then-len-clause-bad
returns-then-len-clause-bad c = λ bad same.
    let many = replay_payments_of-many c.args.names.now c.args.process c.in-Ok.read.skipped (file_records c.args.bytes.now) c.in-Ok.read.calls.items
    c.in-Ok.ensures.ok.0 c.in-Ok.ensures.ok.1 (omega (arith, sym c.len.ensures, c.if-len.true)) in
    many ∙ ap Err (Bad-same _ bad (fault-same _ _ same))

pub returns-in-Err-clause-accepts : goal.returns-in-Err-clause-accepts
returns-in-Err-clause-accepts c = λ calls pays.
    PaysReplay-no_fault c.args.book.now c.args.names.now c.args.process (file_records c.args.bytes.now) calls _ c.requires.names pays
    (λ bad same. replay_payments_of-bad c.args.names.now c.args.process (file_records c.args.bytes.now) bad (c.read_calls.ensures.bad bad (c.in-Err.is ∙ ap Err same)))

pub returns-in-Err-clause-bad : goal.returns-in-Err-clause-bad
returns-in-Err-clause-bad c = λ bad same.
    replay_payments_of-bad c.args.names.now c.args.process (file_records c.args.bytes.now) bad (c.read_calls.ensures.bad bad (c.in-Err.is ∙ ap Err (fault-same _ _ same)))
