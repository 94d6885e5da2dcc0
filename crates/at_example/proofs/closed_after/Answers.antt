use Rattle.std.proofs.Common.{◌++◌, ap, ◌∙◌}
use Rattle.at_example.proofs.Prelude.{option_to_list, BookTerms}
use Rattle.at_example.proofs.Accounts.{IsNewPass-two}
use Rattle.at_example.proofs.closed_after.Goals as goal

pub deal-first-requires-clause-zero : goal.deal-first-requires-clause-zero
deal-first-requires-clause-zero c =
    (IsNewPass-two c.in_ok-ledger.ledger c.in_ok-ledger.passes.items c.pop.new.self.items c.pop-2.new.self.items c.unwrap-zero.result c.unwrap-one.result
    c.in_ok-ledger.ensures.passes (ap (λ (b : BookTerms). b.processes) c.in_ok-ledger.ensures.book ∙ c.requires.two)
    (c.pop.ensures.items ∙ ap (λ o. c.pop.new.self.items ++ option_to_list o) c.unwrap-one.ensures)
    (c.pop-2.ensures.items ∙ ap (λ o. c.pop-2.new.self.items ++ option_to_list o) c.unwrap-zero.ensures)).0

pub deal-first-requires-clause-one : goal.deal-first-requires-clause-one
deal-first-requires-clause-one c =
    (IsNewPass-two c.in_ok-ledger.ledger c.in_ok-ledger.passes.items c.pop.new.self.items c.pop-2.new.self.items c.unwrap-zero.result c.unwrap-one.result
    c.in_ok-ledger.ensures.passes (ap (λ (b : BookTerms). b.processes) c.in_ok-ledger.ensures.book ∙ c.requires.two)
    (c.pop.ensures.items ∙ ap (λ o. c.pop.new.self.items ++ option_to_list o) c.unwrap-one.ensures)
    (c.pop-2.ensures.items ∙ ap (λ o. c.pop-2.new.self.items ++ option_to_list o) c.unwrap-zero.ensures)).1
