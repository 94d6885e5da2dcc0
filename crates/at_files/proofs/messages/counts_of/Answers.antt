use Rattle.std.proofs.Common.{Some, ap, ◌∙◌, sym, arith}
use Rattle.at_files.proofs.Prelude.{common_steps}
use Rattle.at_files.proofs.MessageLaws.{counts_of-set}
use Rattle.at_files.proofs.messages.counts_of.Goals as goal

pub returns : goal.returns
returns c =
    let is = c.loop-p.invariant in
    let test = sym c.are_counts.ensures ∙ c.if-not-are_counts.false in
    rw test (ap Some (counts_of-set c.loop-p.counts c.args.deps.now is.sized (λ m within. is.set m (omega arith))))

pub loop-p-init : goal.loop-p-init
loop-p-init c = grind (arith, common_steps)

pub overflow_cast-deps-in-loop-p : goal.overflow_cast-deps-in-loop-p
overflow_cast-deps-in-loop-p c = grind (arith, common_steps)

pub offset_bounds-deps-p : goal.offset_bounds-deps-p
offset_bounds-deps-p c = grind (arith, common_steps)

pub overflow_cast-deps : goal.overflow_cast-deps
overflow_cast-deps c = grind (arith, common_steps)

pub zeros-counts-requires-clause-few : goal.zeros-counts-requires-clause-few
zeros-counts-requires-clause-few c = grind (arith, common_steps)

pub overflow_cast-p : goal.overflow_cast-p
overflow_cast-p c = grind (arith, common_steps)

pub set-requires : goal.set-requires
set-requires c = grind (arith, common_steps)

pub bounds-deps-p : goal.bounds-deps-p
bounds-deps-p c = grind (arith, common_steps)

pub zeros-counts-requires-clause-some : goal.zeros-counts-requires-clause-some
zeros-counts-requires-clause-some c = grind (arith, common_steps)
