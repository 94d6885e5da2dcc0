use Rattle.std.proofs.Common.{◌≡◌, ◌++◌, ◌∷◌, [], ap, length, refl, set, subst, sym, take, List, Some, ◌+◌}
use Rattle.std.specs.Prelude.{IfSome}
use Rattle.at_workers.proofs.Prelude.{option_map, Call, calls_of, Receipt, IsPassOf, CostTerms, IsCalled, cost_of, costs_with, HasCosts, JobTerms, MakesNext}
use Rattle.at_workers.proofs.Played.{HasCosts-noted, IsCallOn-next, IsJob-called, MakesNext-called, next-within}
use Rattle.at_workers.proofs.job.Job.make_next.Goals.{in-None, in-Some}
use Rattle.at_workers.proofs.job.Job.make_next.Goals as goal

pub call_told-receipt-requires-clause-accounts : goal.call_told-receipt-requires-clause-accounts
call_told-receipt-requires-clause-accounts g c =
    let inside = c.self.inside in
    rw c.copy-call.ensures
    (IsCallOn-next c.args.ledger.now inside.pass inside.receipts.items inside.made (option_map (λ v. v.items) inside.costs) c.args.self.now c.self.view_is
    c.requires.more c.self.invariant.made_are c.index.result.now c.requires.of_ledger c.self.invariant.calls_on c.index.ensures)

pub call_noted-receipt-requires-clause-accounts : goal.call_noted-receipt-requires-clause-accounts
call_noted-receipt-requires-clause-accounts g c =
    let inside = c.self.inside in
    rw c.copy-call.ensures
    (IsCallOn-next c.args.ledger.now inside.pass inside.receipts.items inside.made (option_map (λ v. v.items) inside.costs) c.args.self.now c.self.view_is
    c.requires.more c.self.invariant.made_are c.index.result.now c.requires.of_ledger c.self.invariant.calls_on c.index.ensures)

pub invariant_of-self : goal.invariant_of-self
invariant_of-self g c =
    let inside = c.self.inside in
    let ledger = c.args.ledger.now in
    let list : List Receipt = inside.receipts.items in
    let waits : Receipt = c.index.result.now in
    let costs = option_map (λ v. v.items) inside.costs in
    let within = next-within ledger inside.pass list inside.made costs c.args.self.now c.self.view_is c.requires.more c.self.invariant.made_are in
    let was : IsPassOf inside.pass ledger = subst (λ (t : JobTerms). IsPassOf t.pass ledger) (sym c.self.view_is) c.requires.of_ledger in
    elim c.match-self.branch [
      | in-None w ↦
          let told = w.call_told-receipt in
          let none = subst (λ n. IfSome n (HasCosts (take inside.made list ++ told.result ∷ []) (length (calls_of list)))) (sym w.in-None.is) tt in
          let called : IsCalled ledger inside.pass told.new.pass waits.call told.result =
          subst (λ (call : Call). IsCalled ledger inside.pass told.new.pass call told.result) c.copy-call.ensures told.ensures.called in
          rw (w.self-inside-is, w.receipt-is)
          (IsJob-called ledger inside.pass told.new.pass list inside.made waits told.result costs costs within c.index.ensures called
          inside.costs inside.costs was c.self.invariant none)
      | in-Some w ↦
          let noted = w.call_noted-receipt in
          let had = rw w.in-Some.is at c.self.invariant.costs_fit in
          let has = HasCosts-noted (take inside.made list) noted.result (length (calls_of list))
          w.in-Some.costs noted.new.costs (cost_of inside.pass noted.new.pass) had noted.ensures.noted noted.ensures.capacity in
          let called : IsCalled ledger inside.pass noted.new.pass waits.call noted.result =
          subst (λ (call : Call). IsCalled ledger inside.pass noted.new.pass call noted.result) c.copy-call.ensures noted.ensures.called in
          rw (w.self-inside-is, w.receipt-is)
          (IsJob-called ledger inside.pass noted.new.pass list inside.made waits noted.result costs (Some noted.new.costs.items) within c.index.ensures called
          inside.costs (Some noted.new.costs) was c.self.invariant has)
    ]

pub returns : goal.returns
returns g c =
    let inside = c.self.inside in
    let ledger = c.args.ledger.now in
    let list : List Receipt = inside.receipts.items in
    let waits : Receipt = c.index.result.now in
    let costs = option_map (λ v. v.items) inside.costs in
    let within = next-within ledger inside.pass list inside.made costs c.args.self.now c.self.view_is c.requires.more c.self.invariant.made_are in
    let left : JobTerms = record {
      pass = c.match-self.self-inside.pass;
      calls = calls_of (set c.match-self.self-inside.receipts.items inside.made c.match-self.receipt);
      receipts = take (c.match-self.self-inside.made + 1) (set c.match-self.self-inside.receipts.items inside.made c.match-self.receipt);
      costs = option_map (λ v. v.items) c.match-self.self-inside.costs;
    } in
    let made : MakesNext ledger (record {
      pass = inside.pass;
      calls = calls_of list;
      receipts = take inside.made list;
      costs = costs;
    }) left =
    elim c.match-self.branch [
      | in-None w ↦
          let told = w.call_told-receipt in
          let none = subst (λ n. option_map (λ v. v.items) n ≡ costs_with (cost_of inside.pass told.new.pass) (option_map (λ v. v.items) n))
          (sym w.in-None.is) refl in
          let called : IsCalled ledger inside.pass told.new.pass waits.call told.result =
          subst (λ (call : Call). IsCalled ledger inside.pass told.new.pass call told.result) c.copy-call.ensures told.ensures.called in
          rw (w.self-inside-is, w.receipt-is)
          (MakesNext-called ledger inside.pass told.new.pass list inside.made waits told.result costs costs within c.index.ensures called
          c.self.invariant.past none)
      | in-Some w ↦
          let noted = w.call_noted-receipt in
          let some = subst (λ n. Some noted.new.costs.items ≡ costs_with (cost_of inside.pass noted.new.pass) (option_map (λ v. v.items) n))
          (sym w.in-Some.is) (ap {A = List CostTerms} Some noted.ensures.noted) in
          let called : IsCalled ledger inside.pass noted.new.pass waits.call noted.result =
          subst (λ (call : Call). IsCalled ledger inside.pass noted.new.pass call noted.result) c.copy-call.ensures noted.ensures.called in
          rw (w.self-inside-is, w.receipt-is)
          (MakesNext-called ledger inside.pass noted.new.pass list inside.made waits noted.result costs (Some noted.new.costs.items) within c.index.ensures called
          c.self.invariant.past some)
    ] in
    subst (λ (t : JobTerms). MakesNext ledger t left) c.self.view_is made
