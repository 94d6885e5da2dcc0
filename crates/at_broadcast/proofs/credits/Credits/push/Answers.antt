use Rattle.std.proofs.Common.{ℕ, ◌+◌, ◌≤◌, sym, subst, ap, arith}
use Rattle.at_broadcast.proofs.Prelude.{All, Credit, AreCredits, CreditList}
use Rattle.at_broadcast.proofs.CreditLaws.{AreCredits-pushed}
use Rattle.at_broadcast.proofs.credits.Credits.push.Goals as goal

pub invariant_of-self : goal.invariant_of-self
invariant_of-self c =
    let total : ℕ = c.self.inside.total in
    let later : All (λ (x : Credit). x.number ≤ c.args.number) c.self.inside.list.items = subst (λ (s : CreditList). All (λ (x : Credit). x.number ≤ c.args.number) s.list) (sym c.self.view_is) c.requires.later in (
      subst (λ n. AreCredits c.push_reserved.new.self.items (total + n)) (sym c.from.ensures)
          (AreCredits-pushed c.self.inside.list.items c.push_reserved.new.self.items total c.args.number c.args.amount c.self.invariant.0 later (omega arith) c.push_reserved.ensures.items),
      omega (arith, c.self.invariant.1, c.push_reserved.ensures.len, c.push_reserved.ensures.capacity, ap (λ (s : CreditList). s.room) c.self.view_is, c.requires.room),
    )
