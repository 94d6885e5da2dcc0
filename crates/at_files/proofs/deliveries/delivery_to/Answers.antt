use Rattle.std.proofs.Common.{◌≡◌, nat_lt, length, true, refl, arith}
use Rattle.at_files.proofs.Prelude.{common_steps, nat_tests, slice_index}
use Rattle.at_files.proofs.deliveries.delivery_to.Goals as goal

pub returns : goal.returns
returns c =
    let count = c.len.ensures.length in
    let processes = c.from-processes.ensures in
    let node_below = c.if-node-processes.false in
    let sender_below = c.if-sender-processes.false in
    let number_below = c.if-number-from.false in
    let messages = c.from.ensures in
    let told = c.get.ensures in
    let node : nat_lt c.args.node (length c.args.counts.now) ≡ true = grind (arith, nat_tests) in
    let sender : nat_lt c.args.sender (length c.args.counts.now) ≡ true = grind (arith, nat_tests) in
    let number : nat_lt c.args.number (slice_index c.args.counts.now c.args.sender) ≡ true = grind (arith, nat_tests) in
    rw (node, sender, number) refl

pub get-requires : goal.get-requires
get-requires c = grind (arith, common_steps)

pub overflow_cast-sender : goal.overflow_cast-sender
overflow_cast-sender c = grind (arith, common_steps)

pub overflow_cast-result-3 : goal.overflow_cast-result-3
overflow_cast-result-3 c = grind (arith, common_steps)

pub overflow_cast-result-2 : goal.overflow_cast-result-2
overflow_cast-result-2 c = grind (arith, common_steps)

pub overflow_cast-result : goal.overflow_cast-result
overflow_cast-result c = grind (arith, common_steps)
