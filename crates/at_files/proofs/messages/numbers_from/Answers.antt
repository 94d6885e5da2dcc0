use Rattle.std.proofs.Common.{sym, ◌∙◌, arith}
use Rattle.at_files.proofs.Prelude.{length_push}
use Rattle.at_files.proofs.NumberFields.{AreReadTo-start, AreReadTo-more, AreReadTo-bad, AreReadTo-end}
use Rattle.at_files.proofs.messages.numbers_from.Goals as goal

pub loop-i-init : goal.loop-i-init
loop-i-init c = record {
  read = rw c.new-numbers.ensures (AreReadTo-start _ _);
  from = omega arith;
  count = rw c.new-numbers.ensures (omega arith);
}

pub loop-i-preserved : goal.loop-i-preserved
loop-i-preserved c =
    let is = c.loop-i.invariant in
    let from = is.from in
    let count = is.count in
    record {
      read = rw c.push.ensures.items (AreReadTo-more _ _ _ _ _ is.read (omega arith) (sym c.number_at.ensures ∙ c.in-Some.is));
      from = omega arith;
      count = rw (c.push.ensures.items, length_push) (omega arith);
    }

pub returns-in_default-clause-numbers : goal.returns-in_default-clause-numbers
returns-in_default-clause-numbers c = sym (AreReadTo-bad _ _ _ _ c.loop-i.invariant.read (omega arith) (sym c.number_at.ensures ∙ c.in_default.is))

pub returns-clause-numbers : goal.returns-clause-numbers
returns-clause-numbers c = sym (AreReadTo-end _ _ _ _ c.loop-i.invariant.read (omega arith))
