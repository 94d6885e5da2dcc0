use Rattle.std.proofs.Common.{◌≡◌, ◌<◌, List, [], ◌∷◌, ◌++◌, length, map, subst, sym, ap, ◌∙◌, arith}
use Rattle.at_example.proofs.Prelude.{All-cons, All-nil, AreTargetsOn, TargetPair, Receipt, past_receipts-more, PassTerms, PastCall, Stands, past_receipts}
use Rattle.at_example.proofs.deal.Goals as goal

pub pay-paid_out-requires-clause-targets : goal.pay-paid_out-requires-clause-targets
pay-paid_out-requires-clause-targets c =
    let P : TargetPair → Type 0 = λ t. t.0 < length c.args.ledger.now.book.accounts in
    subst (AreTargetsOn (length c.args.ledger.now.book.accounts)) (sym (c.push.ensures ∙ ap (λ ts. ts ++ (3, 5) ∷ []) c.one-targets.ensures))
    (All-cons P (0, 10) ((3, 5) ∷ []) (omega (arith, c.requires.four)) (All-cons P (3, 5) [] (omega (arith, c.requires.four)) (All-nil P)))

-- the receipts of calls
abbrev receipts_in : List PastCall → List Receipt
receipts_in calls = map (λ c. c.receipt) calls

none_made : {calls : List PastCall} → calls ≡ [] → receipts_in calls ≡ []
none_made none = ap receipts_in none

pub returns-clause-zero : goal.returns-clause-zero
returns-clause-zero c =
    let paid : Receipt = c.transfer-paid.result in
    let short : Receipt = c.transfer-short.result in
    let same = c.note-note.ensures.same in
    record {
      of_ledger = c.read-paid_in.ensures.pass;
      process_is = c.read-paid_in.ensures.made.process_is ∙ ap (λ (p : PassTerms). p.knows.first) same ∙ c.transfer-short.ensures.made.process_is
          ∙ c.transfer-paid.ensures.made.process_is ∙ c.requires.zero.process_is;
      stands = c.read-paid_in.ensures.made.stands (paid ∷ short ∷ [])
          (subst (λ p. Stands p (paid ∷ short ∷ [])) (sym same)
          (c.transfer-short.ensures.made.stands (paid ∷ []) (c.transfer-paid.ensures.made.stands [] c.requires.zero.stands)));
      made = past_receipts-more c.note-note.new.pass c.read-paid_in.new.pass c.read-paid_in.result (paid ∷ short ∷ []) c.read-paid_in.ensures.past
          (ap past_receipts same ∙ past_receipts-more c.transfer-paid.new.pass c.transfer-short.new.pass short (paid ∷ []) c.transfer-short.ensures.past
          (past_receipts-more c.args.zero.now c.transfer-paid.new.pass paid [] c.transfer-paid.ensures.past (none_made c.requires.zero.past_none)));
    }

pub returns-clause-one : goal.returns-clause-one
returns-clause-one c =
    let agreed : Receipt = c.transfer-agreed.result in
    let rest : Receipt = c.read-rest.result in
    record {
      of_ledger = c.pay-paid_out.ensures.pass;
      process_is = c.pay-paid_out.ensures.made.process_is ∙ c.read-rest.ensures.made.process_is ∙ c.learn.ensures.process
          ∙ c.transfer-agreed.ensures.made.process_is ∙ c.requires.one.process_is;
      stands = c.pay-paid_out.ensures.made.stands (agreed ∷ rest ∷ [])
          (c.read-rest.ensures.made.stands (agreed ∷ [])
          (c.learn.ensures.stands (agreed ∷ []) (c.transfer-agreed.ensures.made.stands [] c.requires.one.stands)));
      made = past_receipts-more c.read-rest.new.pass c.pay-paid_out.new.pass c.pay-paid_out.result (agreed ∷ rest ∷ []) c.pay-paid_out.ensures.past
          (past_receipts-more c.learn.new.pass c.read-rest.new.pass rest (agreed ∷ []) c.read-rest.ensures.past
          (ap receipts_in c.learn.ensures.past ∙ past_receipts-more c.args.one.now c.transfer-agreed.new.pass agreed [] c.transfer-agreed.ensures.past (none_made c.requires.one.past_none)));
    }
