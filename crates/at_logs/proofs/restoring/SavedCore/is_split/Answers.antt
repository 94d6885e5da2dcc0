use Rattle.std.proofs.Common.{◌≡◌, ◌↔◌, ℕ, ◌<◌, List, Some, length, get_or, drop, ap, subst, ◌∙◌, arith}
use Rattle.std.specs.Prelude.{IsTrue}
use Rattle.at_logs.proofs.Prelude.{take_at, account_on_logs}
use Rattle.at_logs.proofs.CheckingLaws.{split_of}
use Rattle.at_logs.proofs.restoring.SavedCore.is_split.Goals as goal

pub returns : goal.returns
returns c =
    let new : List ℕ = c.take_all.new.left in
    let items : List ℕ = c.extend_from_slice.new.self.items in
    let left_is : c.deref.result.now ≡ new =
    c.deref.ensures.value
    ∙ take_at new (drop (length new) items) c.extend_from_slice.new.self.len
    (omega (arith, c.take_all.auto.left, ap (λ (l : List ℕ). length l) c.deref_mut.ensures.value, c.extend_from_slice.new.self.ok.0)) in
    split_of c.args.self.now new c.is_settled.result c.if-not-take_all.ensures.taken
    (subst (λ (l : List ℕ). IsTrue c.is_settled.result
    ↔ ((p a : ℕ) → p < c.args.self.now.book.logs → a < length c.args.self.now.book.accounts → (account_on_logs c.args.self.now.book a).log ≡ Some p → get_or l a 0 ≡ get_or c.args.self.now.settled a 0))
    left_is c.is_settled.ensures)
