use Rattle.at_orders.proofs.Prelude.{slice_get_within, common_steps, le-leb, get_or_default, is_shared, BookTerms, account_of, payments_from}
use Rattle.std.proofs.Common.{◌≡◌, ℕ, Some, true, leb, length, get_or, take, [], sym, ap, subst, ◌∙◌, arith}
use Rattle.std.specs.Prelude.{slice_get}
use Rattle.at_orders.proofs.Requests.{first_account-payout, is_full-counted}
use Rattle.at_orders.proofs.stage.Stage.is_full.Goals as goal

pub returns-in_default : goal.returns-in_default
returns-in_default c l has =
    let g = c.args.ground.now in
    let p : ℕ = c.args.process in
    let a : ℕ = c.args.source in
    let i : ℕ = c.index-in_default.result.now in
    let book = c.book-book.ensures.book in
    let owners : c.owner_count.result ≡ length (account_of g.book a).owners = c.owner_count.ensures.count ∙ ap (λ (b : BookTerms). length (account_of b a).owners) book in
    let other = c.in_default in
    let shared : is_shared (account_of g.book a) ≡ true = le-leb 2 (length (account_of g.book a).owners) (omega arith) in
    let next = c.requires.next.1 in
    let at : i ≡ get_or c.args.self.now.made.items p 0 =
    (let known = c.requires.process_in in let counts = c.requires.standing.counts in c.index-in_default.ensures ∙ get_or_default c.args.self.now.made.items p _ 0 (omega arith)) in
    let there = subst (λ (n : ℕ). slice_get (get_or g.files p []) n ≡ Some next.call) (sym at) next.next in
    let count = c.payments_before-used.ensures.count next.call there
    ∙ ap (λ (n : ℕ). payments_from n (take i (get_or g.files p []))) (first_account-payout a c.requires.next.0 next.call next.paid) in
    let room : c.request_room.result ≡ g.book.request_room = c.request_room.ensures ∙ ap (λ (b : BookTerms). b.request_room) book in
    ap (λ (r : ℕ). leb r c.payments_before-used.result) room
    ∙ is_full-counted g c.args.self.now l p a i c.payments_before-used.result has c.requires.process_in c.requires.source_in c.requires.owner shared at count

pub owner_count-requires : goal.owner_count-requires
owner_count-requires c = grind (arith, common_steps)

pub returns-in-0 : goal.returns-in-0
returns-in-0 c = grind (arith, common_steps)

pub payments_before-used-requires-clause-call_in : goal.payments_before-used-requires-clause-call_in
payments_before-used-requires-clause-call_in c =
    let g = c.args.ground.now in
    let p : ℕ = c.args.process in
    let next = c.requires.next.1 in
    let at : c.index-in_default.result.now ≡ get_or c.args.self.now.made.items p 0 =
    (let known = c.requires.process_in in let counts = c.requires.standing.counts in c.index-in_default.ensures ∙ get_or_default c.args.self.now.made.items p _ 0 (omega arith)) in
    slice_get_within (get_or g.files p []) c.index-in_default.result.now next.call (subst (λ (n : ℕ). slice_get (get_or g.files p []) n ≡ Some next.call) (sym at) next.next)
