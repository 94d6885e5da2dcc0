-- A seat and the rest stay of one pass, where its calls are counted on.
use Rattle.std.proofs.Common.{◌≡◌, ℕ, ◌≤◌, List, [], ◌∷◌, ◌++◌, sym, ap, subst, ◌∙◌, arith}
use Rattle.at_object.proofs.Prelude.{loads_of, own_part, SeatTerms, TotalSums, Receipt, CallCountTerms, with_one_call, IsCountOf, IsOfOnePass, IsPass, PastCall, past_call, pass_of, Rest}
use Rattle.at_object.specs.Passes.{cost_of_parts, cost_since}

-- what has just been counted was counted for the seat
IsCountOf-last : (seat : SeatTerms) (now : CallCountTerms) → now.last ≡ seat → IsCountOf now seat
IsCountOf-last seat now last = record {
  board = ap (λ (s : SeatTerms). s.board) last;
  process = ap (λ (s : SeatTerms). s.knows.first) last;
  loads = λ p. omega (arith, ap (λ (s : SeatTerms). (loads_of (own_part s.knows) p).times) last);
  steps = omega (arith, ap (λ (s : SeatTerms). s.steps) last);
  exchanges = omega (arith, ap (λ (s : SeatTerms). s.exchanges) last);
}

pub IsCountOf-counted : (start seat : SeatTerms) (totals : TotalSums) (r : Receipt) (was now : CallCountTerms)
    → now ≡ with_one_call start seat totals r was → IsCountOf now seat
IsCountOf-counted start seat totals r was now calls = IsCountOf-last seat now (ap (λ (n : CallCountTerms). n.last) calls)

-- no call was made, and what was loaded is loaded still
pub IsOfOnePass-same : (before after : SeatTerms) (was rest : Rest) → IsOfOnePass before was → after.board ≡ before.board
    → after.knows.first ≡ before.knows.first
    → ((p : ℕ) → (loads_of (own_part before.knows) p).times ≤ (loads_of (own_part after.knows) p).times)
    → before.steps ≤ after.steps → before.exchanges ≤ after.exchanges → rest.calls ≡ was.calls → rest.totals ≡ was.totals → IsPass after.knows rest.totals rest.sent → IsOfOnePass after rest
IsOfOnePass-same before after was rest pass board process loads steps exchanges calls totals is = record {
  pass = is;
  counted = ap (λ (n : CallCountTerms). n.totals) calls ∙ (pass.counted ∙ sym totals);
  calls = subst (λ (n : CallCountTerms). IsCountOf n after) (sym calls) (record {
    board = pass.calls.board ∙ sym board;
    process = pass.calls.process ∙ sym process;
    loads = λ p. omega (arith, pass.calls.loads p, loads p);
    steps = omega (arith, pass.calls.steps, steps);
    exchanges = omega (arith, pass.calls.exchanges, exchanges);
  });
}

-- one was
pub IsOfOnePass-counted : (start after : SeatTerms) (r : Receipt) (was rest : Rest) → rest.calls ≡ with_one_call start after rest.totals r was.calls
    → IsPass after.knows rest.totals rest.sent → IsOfOnePass after rest
IsOfOnePass-counted start after r was rest calls is = record {
  pass = is;
  calls = IsCountOf-counted start after rest.totals r was.calls rest.calls calls;
  counted = ap (λ (n : CallCountTerms). n.totals) calls;
}

-- none was, and the pass has looked at all balances
pub IsOfOnePass-looked : (after : SeatTerms) (was : CallCountTerms) (rest : Rest) → rest.calls ≡ record was { last = after; totals = rest.totals }
    → IsPass after.knows rest.totals rest.sent → IsOfOnePass after rest
IsOfOnePass-looked after was rest calls is = record {
  pass = is;
  calls = IsCountOf-last after rest.calls (ap (λ (n : CallCountTerms). n.last) calls);
  counted = ap (λ (n : CallCountTerms). n.totals) calls;
}

-- it is among the calls of the pass
pub past-counted : (start after : SeatTerms) (r : Receipt) (was rest : Rest) → was.calls.totals ≡ was.totals
    → rest.calls ≡ with_one_call start after rest.totals r was.calls
    → rest.calls.past ≡ was.calls.past ++ past_call (pass_of start was) (pass_of after rest) r ∷ []
past-counted start after r was rest counted calls =
    ap (λ (n : CallCountTerms). n.past) calls
    ∙ ap (λ (t : TotalSums). let call : PastCall = record {
      receipt = r;
      cost = cost_since (cost_of_parts start t.upto) (cost_of_parts after rest.totals.upto);
    } in was.calls.past ++ call ∷ []) counted
