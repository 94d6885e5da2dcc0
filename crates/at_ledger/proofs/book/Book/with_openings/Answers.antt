use Rattle.std.proofs.Common.{◌≡◌, ◌<◌, List, [], ◌∷◌, ◌++◌, length, get_or, map, take, take_all, sym, ap, subst, ◌∙◌, arith}
use Rattle.at_ledger.proofs.Prelude.{common_steps, map_more, get_or-zip, length-zip, zip, AccountTerms, BookTerms, IsBook, total_of, with_openings}
use Rattle.at_ledger.proofs.Carried.{IsBook-with_openings, opened, total-with_openings}
use Rattle.at_ledger.specs.Account.{no_account}
use Rattle.at_ledger.proofs.book.Book.with_openings.Goals.{After-loop-i}
use Rattle.at_ledger.proofs.book.Book.with_openings.Goals as goal

-- each account is there, and opens with its number
book_is : (c : After-loop-i) → record c.args.self.now { accounts = c.loop-i.accounts.items } ≡ with_openings c.args.self.now c.args.openings.now
book_is c =
    let both = zip c.args.self.now.accounts c.args.openings.now in
    ap (λ (ts : List AccountTerms). record c.args.self.now { accounts = ts })
    (c.loop-i.invariant ∙ ap (map opened) (take_all c.loop-i.i both
    (omega (arith, length-zip c.args.self.now.accounts c.args.openings.now, c.requires.count, c.loop-i-test.false))))

-- what is made is that
same : (c : After-loop-i) → record { processes = c.self.inside.processes; own_room = c.self.inside.own_room; request_room = c.self.inside.request_room; accounts = c.loop-i.accounts.items }
    ≡ with_openings c.args.self.now c.args.openings.now
same c = ap (λ (b : BookTerms). record b { accounts = c.loop-i.accounts.items }) c.self.view_is ∙ book_is c

pub loop-i-preserved : goal.loop-i-preserved
loop-i-preserved c =
    let accounts = c.args.self.now.accounts in
    let openings = c.args.openings.now in
    let i = c.loop-i.i in
    let far : i < length accounts = omega (arith, c.loop-i-test.true, c.requires.count) in
    let made : c.opening_with.result ≡ opened (get_or accounts i no_account, get_or openings i 0) = grind (arith, common_steps) in
    let item : c.opening_with.result ≡ opened (get_or (zip accounts openings) i (no_account, 0)) =
    made ∙ sym (ap opened (get_or-zip accounts openings i (no_account, 0) far c.loop-i-test.true)) in
    c.in_ok-push.ensures.items ∙ (ap (λ (ts : List AccountTerms). ts ++ c.opening_with.result ∷ []) c.loop-i.invariant
    ∙ (ap (λ (t : AccountTerms). map opened (take i (zip accounts openings)) ++ t ∷ []) item
    ∙ sym (map_more opened (zip accounts openings) i (no_account, 0) (omega (arith, length-zip accounts openings, far, c.loop-i-test.true)))))

pub invariant_of-result : goal.invariant_of-result
invariant_of-result c =
    let checked : IsBook c.args.self.now = subst IsBook c.self.view_is c.self.invariant in
    subst IsBook (sym (same (goal.at.invariant_of-result c).After-loop-i))
    (IsBook-with_openings c.args.self.now c.args.openings.now checked c.requires.count c.requires.total)

pub returns-clause-openings : goal.returns-clause-openings
returns-clause-openings c = same (goal.at.returns-clause-openings c).After-loop-i

pub returns-clause-total : goal.returns-clause-total
returns-clause-total c =
    ap total_of (same (goal.at.returns-clause-total c).After-loop-i)
    ∙ total-with_openings c.args.self.now c.args.openings.now c.requires.count c.requires.total
