use Rattle.std.proofs.Common.{◌≡◌, ℕ, ◌<◌, List, None, Some, length, get_or, refl, sym, ap, subst, ◌∙◌, arith}
use Rattle.at_orders.proofs.Prelude.{with_items, with_items_is, user_of, renamed}
use Rattle.at_orders.proofs.Joining.{nothing-left, touched-none, touched-some, user-is}
use Rattle.at_orders.proofs.parts.Parts.touch.Goals as goal

pub unite-requires-clause-first_in : goal.unite-requires-clause-first_in
unite-requires-clause-first_in c =
    let b = c.args.book.now in
    let joined = c.requires.joining.joining.joined in
    let files = c.requires.joining.files in
    let used : user_of c.args.self.now c.args.account ≡ Some c.in-Some.user = user-is b files c.args.self.now c.args.account c.index.result.now (Some c.in-Some.user) joined c.requires.account_in c.index.ensures c.in-Some.is in
    let within = joined.user c.args.account c.in-Some.user used in
    let size = joined.processes in
    let same = ap (length {A = ℕ}) c.as_mut_slice.ensures.value in
    omega arith

pub returns-in-Some : goal.returns-in-Some
returns-in-Some c files joining touches =
    let b = c.args.book.now in
    let old = c.args.self.now in
    let a : ℕ = c.args.account in
    let user : ℕ = c.in-Some.user in
    let p : ℕ = c.args.process in
    let ys : List ℕ = c.unite.new.parts in
    let used : user_of old a ≡ Some user = user-is b files old a c.index.result.now (Some user) joining.joined c.requires.account_in c.index.ensures c.in-Some.is in
    let items : (with_items old.of ys).items ≡ ys = with_items_is old.of ys (c.unite.ensures.len ∙ c.as_mut_slice.ensures.len) in
    let was : c.as_mut_slice.result.now ≡ old.of.items = c.as_mut_slice.ensures.value in
    let names : (q : ℕ) → q < length old.of.items → get_or ys q 0 ≡ renamed (get_or old.of.items p 0) (get_or old.of.items user 0) (get_or old.of.items q 0) =
    subst (λ (xs : List ℕ). (q : ℕ) → q < length xs → get_or ys q 0 ≡ renamed (get_or xs p 0) (get_or xs user 0) (get_or xs q 0)) was c.unite.ensures.names in
    touched-some b files c.args.left.now p a user old (record { of = with_items old.of ys; users = old.users }) joining (touches a refl) c.requires.account_in used refl
    (ap (length {A = ℕ}) items ∙ (c.unite.ensures.len ∙ ap (length {A = ℕ}) was))
    (λ q q_in. ap (λ (xs : List ℕ). get_or xs q 0) items ∙ names q q_in)

pub returns-in-None : goal.returns-in-None
returns-in-None c files joining touches =
    let b = c.args.book.now in
    let old = c.args.self.now in
    let a : ℕ = c.args.account in
    let unused : user_of old a ≡ None = user-is b files old a c.index.result.now None joining.joined c.requires.account_in c.index.ensures c.in-None.is in
    let nothing = nothing-left b files c.args.left.now a _ joining.tells c.requires.account_in (sym c.is_some.ensures ∙ c.if-is_some.false) in
    touched-none b files c.args.left.now c.args.process a old _ joining (touches a refl) c.requires.account_in nothing unused refl refl
