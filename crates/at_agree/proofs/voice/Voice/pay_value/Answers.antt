use Rattle.std.proofs.Common.{◌≡◌, ◌+◌, ◌<◌, List, [], ap, arith, length, rules, subst, ◌∙◌}
use Rattle.at_agree.proofs.Prelude.{Receipt, IsPassOf, PassTerms, Stands, counted_anew, HasProposed, VoiceTerms, process_of}
use Rattle.at_agree.proofs.VoiceCalls.{HasProposed-paid, IsVoice-made, in_book, is_shared-own, known_in, payment_steps-own}
use Rattle.at_agree.proofs.voice.Voice.pay_value.Goals as goal

pub transfer-paid-requires-clause-to : goal.transfer-paid-requires-clause-to
transfer-paid-requires-clause-to c =
    let voice : VoiceTerms = record { pass = c.self.inside.pass; receipts = c.self.inside.receipts.items } in
    let was : IsPassOf c.self.inside.pass c.args.ledger.now = search rules in
    let known = known_in c.args.ledger.now voice c.args.size c.process-process.result
    c.requires.size c.process-process.ensures was c.self.invariant in
    in_book c.args.ledger.now c.args.size (c.args.size + c.process-process.result) c.requires.council c.requires.size (omega (arith, known))

pub invariant_of-self : goal.invariant_of-self
invariant_of-self c =
    let was : IsPassOf c.self.inside.pass c.args.ledger.now = search rules in
    let none : c.self.inside.receipts.items ≡ [] = search rules in
    let more : length c.self.inside.receipts.items < 4 = omega (arith, ap (λ (rs : List Receipt). length rs) none) in
    IsVoice-made c.args.ledger.now c.self.inside.pass c.transfer-paid.new.pass c.self.inside.receipts.items
    c.push.new.self.items c.transfer-paid.result
    was c.transfer-paid.ensures.pass c.self.invariant more c.transfer-paid.ensures.made.stands
    c.transfer-paid.ensures.past c.transfer-paid.ensures.made.process_is c.push.ensures.items

pub returns-clause-proposed : goal.returns-clause-proposed
returns-clause-proposed c =
    let council = c.args.ledger.now in
    let before : PassTerms = c.self.inside.pass in
    let after : PassTerms = c.transfer-paid.new.pass in
    let r : Receipt = c.transfer-paid.result in
    let voice : VoiceTerms = record { pass = before; receipts = c.self.inside.receipts.items } in
    let was : IsPassOf before council = search rules in
    let none : c.self.inside.receipts.items ≡ [] = search rules in
    let known = known_in council voice c.args.size c.process-process.result
    c.requires.size c.process-process.ensures was c.self.invariant in
    let empty : Stands before [] = subst (λ (rs : List Receipt). Stands before rs) none c.self.invariant.stands in
    let proposed : HasProposed c.args.size after.knows.seen c.process-process.result c.args.value =
    HasProposed-paid council before after c.args.size c.process-process.result r c.args.value c.requires.council c.requires.size known
    c.requires.value c.process-process.ensures c.transfer-paid.ensures.made.process_is c.transfer-paid.ensures.made.call_is
    (c.transfer-paid.ensures.made.placed [] empty) (c.transfer-paid.ensures.made.stands [] empty) c.transfer-paid.ensures.made.alone in
    subst (λ p. HasProposed c.args.size after.knows.seen p c.args.value)
    (c.process-process.ensures ∙ ap (λ (v : VoiceTerms). process_of v) c.self.view_is) proposed

pub returns-clause-steps : goal.returns-clause-steps
returns-clause-steps c =
    let voice : VoiceTerms = record { pass = c.self.inside.pass; receipts = c.self.inside.receipts.items } in
    let was : IsPassOf c.self.inside.pass c.args.ledger.now = search rules in
    let known = known_in c.args.ledger.now voice c.args.size c.process-process.result
    c.requires.size c.process-process.ensures was c.self.invariant in
    let new = ap (λ (v : VoiceTerms). counted_anew v.pass c.transfer-paid.new.pass) c.self.view_is in
    omega (
      arith,
      c.transfer-paid.ensures.within.few,
      ap (λ (v : VoiceTerms). v.pass.steps) c.self.view_is,
      new,
      payment_steps-own c.args.ledger.now c.args.size c.process-process.result c.requires.council c.requires.size known,
    )

pub returns-clause-exchanges : goal.returns-clause-exchanges
returns-clause-exchanges c =
    let voice : VoiceTerms = record { pass = c.self.inside.pass; receipts = c.self.inside.receipts.items } in
    let was : IsPassOf c.self.inside.pass c.args.ledger.now = search rules in
    let known = known_in c.args.ledger.now voice c.args.size c.process-process.result
    c.requires.size c.process-process.ensures was c.self.invariant in
    c.transfer-paid.ensures.within.none
    (is_shared-own c.args.ledger.now c.args.size c.process-process.result c.requires.council c.requires.size known)
    ∙ ap (λ (v : VoiceTerms). v.pass.exchanges) c.self.view_is
