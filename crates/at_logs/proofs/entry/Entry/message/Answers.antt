use Rattle.std.proofs.Common.{◌≡◌, arith, subst, sym}
use Rattle.std.proofs.lemmas.Grind.{common_steps}
use Rattle.at_logs.proofs.Prelude.{IsMessageOn, Message, message_in_log}
use Rattle.at_logs.proofs.EntryLaws.{IsMessageOn-in_log}
use Rattle.at_logs.proofs.entry.Entry.message.Goals as goal

pub returns-clause-on : goal.returns-clause-on
returns-clause-on c logs accounts processes is =
    let message = c.index-message.result.now in
    let made : Message = record { from = message.from; targets = c.copy.result; reference = message.reference; deps = c.set.new.self } in
    let same : made ≡ message_in_log c.args.self.now c.args.log c.args.i = grind (arith, common_steps) in
    subst (IsMessageOn logs accounts) (sym same) (IsMessageOn-in_log logs accounts processes c.args.self.now c.args.log c.args.i c.requires.message_in is)
