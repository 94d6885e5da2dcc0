use Rattle.std.proofs.Common.{◌≡◌, ◌+◌, ◌*◌, ◌<◌, List, ap, arith, length, rules, subst, ◌∙◌}
use Rattle.at_agree.proofs.Prelude.{Transfer, asks_in, Receipt, IsPassOf, PassTerms, counted_anew, shared_account, spent_account, HasShareDecided, VoiceTerms, process_of}
use Rattle.at_agree.proofs.VoiceCalls.{HasShareDecided-asked, IsVoice-made, in_book, known_in, payment_steps-shared, slots_of-council}
use Rattle.at_agree.proofs.voice.Voice.ask_for_share.Goals as goal

pub transfer-asked-requires-clause-from : goal.transfer-asked-requires-clause-from
transfer-asked-requires-clause-from c =
    in_book c.args.ledger.now c.args.size (2 * c.args.size) c.requires.council c.requires.size (omega arith)

pub transfer-asked-requires-clause-to : goal.transfer-asked-requires-clause-to
transfer-asked-requires-clause-to c =
    in_book c.args.ledger.now c.args.size (2 * c.args.size + 1) c.requires.council c.requires.size (omega arith)

pub invariant_of-self : goal.invariant_of-self
invariant_of-self c =
    let was : IsPassOf c.self.inside.pass c.args.ledger.now = search rules in
    let more : length c.self.inside.receipts.items < 4 = search rules in
    IsVoice-made c.args.ledger.now c.self.inside.pass c.transfer-asked.new.pass c.self.inside.receipts.items
    c.push.new.self.items c.transfer-asked.result
    was c.transfer-asked.ensures.pass c.self.invariant more c.transfer-asked.ensures.made.stands
    c.transfer-asked.ensures.past c.transfer-asked.ensures.made.process_is c.push.ensures.items

pub returns-clause-asked : goal.returns-clause-asked
returns-clause-asked c =
    let council = c.args.ledger.now in
    let before : PassTerms = c.self.inside.pass in
    let after : PassTerms = c.transfer-asked.new.pass in
    let earlier : List Receipt = c.self.inside.receipts.items in
    let r : Receipt = c.transfer-asked.result in
    let voice : VoiceTerms = record { pass = before; receipts = earlier } in
    let was : IsPassOf before council = search rules in
    let unasked : asks_in (shared_account c.args.size) earlier ≡ 0 = search rules in
    let p = c.process.result in
    let known = known_in council voice c.args.size p c.requires.size c.process.ensures was c.self.invariant in
    let asked : HasShareDecided c.args.size after.knows.seen p =
    HasShareDecided-asked council before after c.args.size p r earlier c.requires.council c.requires.size known c.process.ensures
    (c.transfer-asked.ensures.made.call_is ∙ ap (λ n. Transfer (shared_account c.args.size) (spent_account c.args.size) n) c.from-share.ensures) unasked (c.transfer-asked.ensures.made.placed earlier c.self.invariant.stands) in
    subst (HasShareDecided c.args.size after.knows.seen) (c.process.ensures ∙ ap (λ (v : VoiceTerms). process_of v) c.self.view_is) asked

pub returns-clause-steps : goal.returns-clause-steps
returns-clause-steps c =
    let new = ap (λ (v : VoiceTerms). counted_anew v.pass c.transfer-asked.new.pass) c.self.view_is in
    omega (
      arith,
      c.transfer-asked.ensures.within.few,
      ap (λ (v : VoiceTerms). v.pass.steps) c.self.view_is,
      new,
      payment_steps-shared c.args.ledger.now c.args.size c.requires.council c.requires.size,
    )

pub returns-clause-exchanges : goal.returns-clause-exchanges
returns-clause-exchanges c =
    omega (
      arith,
      c.transfer-asked.ensures.within.decided,
      ap (λ (v : VoiceTerms). v.pass.exchanges) c.self.view_is,
      c.transfer-asked.ensures.within.few_decided,
      slots_of-council c.args.ledger.now c.args.size c.requires.council c.requires.size,
    )
