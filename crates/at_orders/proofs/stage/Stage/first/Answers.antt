use Rattle.at_orders.proofs.Prelude.{common_steps, take_all, BookTerms, account_of, Stage}
use Rattle.std.proofs.Common.{◌≡◌, ℕ, length, map, replicate, take, ap, ◌∙◌, arith}
use Rattle.at_orders.proofs.Requests.{first-stands, standing-first}
use Rattle.at_orders.proofs.stage.Stage.first.Goals as goal

pub returns-clause-stage : goal.returns-clause-stage
returns-clause-stage c =
    let g = c.args.ground.now in
    let processes : c.processes-processes.result ≡ g.book.processes = c.processes-processes.ensures ∙ ap (λ (b : BookTerms). b.processes) c.book-book.ensures.book in
    let all : take c.loop-account.account-index g.named ≡ g.named =
    take_all c.loop-account.account-index g.named (let past = c.loop-account-test.false in let size = ap (length {A = ℕ}) c.named-account-items.ensures.named in omega arith) in
    let s : Stage = record { made = c.in_ok-vec.field-0; balances = c.loop-account.balances; sent = c.in_ok-vec-2.field-0 } in
    first-stands g s c.book-book.ensures.known.places
    (c.in_ok-vec.ensures.items_if_clones_equal (λ y is. is) ∙ ap (λ (n : ℕ). replicate n 0) processes)
    (c.loop-account.invariant ∙ ap (map (λ a. (account_of g.book a).opening)) all)
    (c.in_ok-vec-2.ensures.items_if_clones_equal (λ y is. is) ∙ ap (λ (n : ℕ). replicate n 0) processes)

pub returns-clause-standing : goal.returns-clause-standing
returns-clause-standing c =
    let g = c.args.ground.now in
    let processes : c.processes-processes.result ≡ g.book.processes = c.processes-processes.ensures ∙ ap (λ (b : BookTerms). b.processes) c.book-book.ensures.book in
    let all : take c.loop-account.account-index g.named ≡ g.named =
    take_all c.loop-account.account-index g.named (let past = c.loop-account-test.false in let size = ap (length {A = ℕ}) c.named-account-items.ensures.named in omega arith) in
    let s : Stage = record { made = c.in_ok-vec.field-0; balances = c.loop-account.balances; sent = c.in_ok-vec-2.field-0 } in
    standing-first g s c.book-book.ensures.known.places
    (c.in_ok-vec.ensures.items_if_clones_equal (λ y is. is) ∙ ap (λ (n : ℕ). replicate n 0) processes)
    (c.loop-account.invariant ∙ ap (map (λ a. (account_of g.book a).opening)) all)
    (c.in_ok-vec-2.ensures.items_if_clones_equal (λ y is. is) ∙ ap (λ (n : ℕ). replicate n 0) processes)

pub opening-requires : goal.opening-requires
opening-requires c = grind (arith, common_steps)

pub bounds-account-items-account-index : goal.bounds-account-items-account-index
bounds-account-items-account-index c = grind (arith, common_steps)

pub offset_bounds-account-items-account-index : goal.offset_bounds-account-items-account-index
offset_bounds-account-items-account-index c = grind (arith, common_steps)

pub loop-account-init : goal.loop-account-init
loop-account-init c = grind (arith, common_steps)

pub overflow_cast-processes : goal.overflow_cast-processes
overflow_cast-processes c = grind (arith, common_steps)

pub loop-account-preserved : goal.loop-account-preserved
loop-account-preserved c = grind (arith, common_steps)
