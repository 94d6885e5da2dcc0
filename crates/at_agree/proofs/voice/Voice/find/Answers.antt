use Rattle.std.proofs.Common.{◌<◌, length, rules, subst}
use Rattle.at_agree.proofs.Prelude.{Read, IsPassOf, HasMadeOneMore, HasRead, VoiceTerms}
use Rattle.at_agree.proofs.VoiceCalls.{IsVoice-made}
use Rattle.at_agree.proofs.voice.Voice.find.Goals as goal

pub returns-clause-read : goal.returns-clause-read
returns-clause-read c =
    let council = c.args.ledger.now in
    let before : VoiceTerms = record { pass = c.self.inside.pass; receipts = c.self.inside.receipts.items } in
    let after : VoiceTerms = record { pass = c.read-found.new.pass; receipts = c.push.new.self.items } in
    let made : HasMadeOneMore council before after (Read c.args.account) = record {
      process_is = c.read-found.ensures.made.process_is;
      of_council = c.read-found.ensures.pass;
      begins = c.read-found.ensures.made.begins;
      counted = c.read-found.ensures.made.counted;
      receipt = c.read-found.result;
      receipts = c.push.ensures.items;
      call_is = c.read-found.ensures.made.call_is;
    } in
    subst (λ (v : VoiceTerms). HasRead council v after c.args.account c.in-Balance.balance) c.self.view_is
    (record { made = made; found = c.in-Balance.is })

pub invariant_of-self : goal.invariant_of-self
invariant_of-self c =
    let was : IsPassOf c.self.inside.pass c.args.ledger.now = search rules in
    let more : length c.self.inside.receipts.items < 4 = search rules in
    IsVoice-made c.args.ledger.now c.self.inside.pass c.read-found.new.pass c.self.inside.receipts.items
    c.push.new.self.items c.read-found.result
    was c.read-found.ensures.pass c.self.invariant more c.read-found.ensures.made.stands
    c.read-found.ensures.past c.read-found.ensures.made.process_is c.push.ensures.items
