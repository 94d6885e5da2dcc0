use Rattle.std.proofs.Common.{◌≡◌, ◌<◌, ◌+◌, [], List, length, replicate, ap, ◌∙◌, arith, length-append}
use Rattle.at_c.proofs.Prelude.{length-map, length-replicate, contents_of, Receipt}
use Rattle.at_c.proofs.opened.with_unused.Goals as goal

pub push_reserved-requires-in-loop-pass : goal.push_reserved-requires-in-loop-pass
push_reserved-requires-in-loop-pass c =
    let none : List Receipt = [] in
    let so_far = length c.loop-pass.yielded in
    let lists : length (contents_of c.loop-pass.receipts.items) ≡ length (contents_of c.args.receipts.items) + length (replicate so_far none) =
    ap length c.loop-pass.invariant.receipts ∙ length-append (contents_of c.args.receipts.items) (replicate so_far none) in
    let count : length c.loop-pass.receipts.items ≡ length c.args.receipts.items + so_far =
    omega (arith, lists, length-replicate so_far none, length-map c.loop-pass.receipts.items (λ v. v.items), length-map c.args.receipts.items (λ v. v.items)) in
    let less : so_far < length c.args.unused.items =
    omega (arith, ap length c.loop-pass.invariant.rest, length-append c.loop-pass.yielded c.loop-pass.pass-iterator.rest.items, ap length c.in-Some.ensures.steps.0) in
    omega (arith, count, less, c.loop-pass.invariant.receipts_room, c.requires.receipts)
