use Rattle.at_broadcast.proofs.Prelude.{common_steps, IsPartitionPoint-from_clause, IsPartitionedBy-ltb, Credit, CreditList, amount_since}
use Rattle.std.proofs.Common.{ℕ, ◌<◌, List, length, ap, sym, ◌∙◌, ltb, ltb-true, ltb-false, arith, rules}
use Rattle.at_broadcast.proofs.CreditLaws.{amount_since-first, amount_since-none}
use Rattle.at_broadcast.proofs.credits.Credits.since.Goals as goal

pub returns-in-Some-clause-sum : goal.returns-in-Some-clause-sum
returns-in-Some-clause-sum c =
    let list : List Credit = c.self.inside.list.items in
    let number : ℕ = c.args.number in
    let i : ℕ = c.partition_point-first.result in
    let parted = IsPartitionedBy-ltb (λ (c : Credit). c.number) list number c.self.invariant.0.ordered in
    let point = IsPartitionPoint-from_clause (λ (y : Credit). ltb y.number number) list _ (rw c.deref.ensures.value at c.partition_point-first.ensures.partitioned) parted (λ a r q k. search rules) in
    let lookup = rw c.deref-2.ensures.value at c.in-Some.ensures.lookup in
    let within : i < length list = ltb-true i (length list) (sym lookup.0) in
    amount_since-first number c.self.inside.total list i c.in-Some.credit.now c.self.invariant.0 within lookup.3.1
    (λ k d h. ltb-true _ _ (point.0 k d (omega arith) h))
    (λ k d low high. ltb-false _ _ (point.1 k d low high))
    ∙ ap (λ (v : CreditList). amount_since number v.list) c.self.view_is

pub returns-in-None-clause-sum : goal.returns-in-None-clause-sum
returns-in-None-clause-sum c =
    let list : List Credit = c.self.inside.list.items in
    let number : ℕ = c.args.number in
    let i : ℕ = c.partition_point-first.result in
    let parted = IsPartitionedBy-ltb (λ (c : Credit). c.number) list number c.self.invariant.0.ordered in
    let point = IsPartitionPoint-from_clause (λ (y : Credit). ltb y.number number) list _ (rw c.deref.ensures.value at c.partition_point-first.ensures.partitioned) parted (λ a r q k. search rules) in
    let lookup = rw c.deref-2.ensures.value at c.in-None.ensures.lookup in
    sym (amount_since-none number list (λ k d h. ltb-true _ _ (point.0 k d (omega arith) (omega (arith, h, lookup.3)))))
    ∙ ap (λ (v : CreditList). amount_since number v.list) c.self.view_is

pub overflow_sub-result : goal.overflow_sub-result
overflow_sub-result c = grind (arith, common_steps)
