use Rattle.std.proofs.Common.{sym, arith}
use Rattle.at_files.proofs.Prelude.{common_steps, IsBetweenRecords}
use Rattle.at_files.proofs.RecordLaws.{records_left-read, IsBetweenRecords-read}
use Rattle.at_files.proofs.csv_records.CsvRecords.next.Goals as goal

pub invariant_of-self-2 : goal.invariant_of-self-2
invariant_of-self-2 c =
    let is : IsBetweenRecords c.self.inside.reader = c.self.invariant c.if-self.false in
    IsBetweenRecords-read c.self.inside.reader c.read_byte_record.new.self _ _ is (c.in-Ok.ensures.reads is.trim is.ready) (c.in-Ok.ensures.ready is.trim)

pub returns-clause-ok : goal.returns-clause-ok
returns-clause-ok c =
    let is : IsBetweenRecords c.self.inside.reader = c.self.invariant c.if-self.false in
    records_left-read _ c.self.inside.reader c.read_byte_record.new.self _ _ _ c.if-self.false (sym c.self.view_is) is (c.in-Ok.ensures.reads is.trim is.ready)

pub invariant_of-self : goal.invariant_of-self
invariant_of-self c = grind (arith, common_steps)
