use Rattle.std.proofs.Common.{arith}
use Rattle.at_io.proofs.Prelude.{common_steps}
use Rattle.at_io.proofs.memory_sink.MemorySinkSink.write.Goals as goal

pub returns-clause-later : goal.returns-clause-later
returns-clause-later c = grind (arith, common_steps)

pub returns-clause-count : goal.returns-clause-count
returns-clause-count c = grind (arith, common_steps)

pub unreachable-unreachable : goal.unreachable-unreachable
unreachable-unreachable c = grind (arith, common_steps)

pub overflow_sub-left : goal.overflow_sub-left
overflow_sub-left c = grind (arith, common_steps)

pub slice_bounds-extend_from_slice-end : goal.slice_bounds-extend_from_slice-end
slice_bounds-extend_from_slice-end c = grind (arith, common_steps)

pub returns-then-left-eq0-clause-count : goal.returns-then-left-eq0-clause-count
returns-then-left-eq0-clause-count c = grind (arith, common_steps)

pub returns-then-is_empty-clause-fails : goal.returns-then-is_empty-clause-fails
returns-then-is_empty-clause-fails c = grind (arith, common_steps)

pub returns-then-left-eq0-clause-later : goal.returns-then-left-eq0-clause-later
returns-then-left-eq0-clause-later c = grind (arith, common_steps)

pub returns-clause-some : goal.returns-clause-some
returns-clause-some c = grind (arith, common_steps)

pub returns-clause-after : goal.returns-clause-after
returns-clause-after c = grind (arith, common_steps)

pub returns-then-is_empty-clause-some : goal.returns-then-is_empty-clause-some
returns-then-is_empty-clause-some c = grind (arith, common_steps)

pub returns-clause-fails : goal.returns-clause-fails
returns-clause-fails c = grind (arith, common_steps)

pub invariant_of-self-2 : goal.invariant_of-self-2
invariant_of-self-2 c = grind (arith, common_steps)

pub unreachable-requires : goal.unreachable-requires
unreachable-requires c = grind (arith, common_steps)

pub returns-then-left-eq0-clause-after : goal.returns-then-left-eq0-clause-after
returns-then-left-eq0-clause-after c = grind (arith, common_steps)
