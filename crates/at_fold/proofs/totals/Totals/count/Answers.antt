use Rattle.std.proofs.Common.{◌≡◌, ℕ, ◌+◌, List, get_or, set, sym, ap, subst, ◌∙◌, arith}
use Rattle.at_fold.proofs.Prelude.{BookTerms, log_room_of-le, Publication, HasCounted, AccountSums, TotalSums}
use Rattle.at_fold.proofs.NextRecord.{FitsMore-MayCount, FitsRound-MayCount, HasCounted-new, HasCounted-repeat, HasSums-MayCount}
use Rattle.at_fold.proofs.totals.Totals.count.Goals as goal
use Rattle.at_fold.proofs.totals.Totals.count.Goals.{then-is_new, else-is_new}

pub is_new-requires : goal.is_new-requires
is_new-requires c = HasSums-MayCount c.args.self.now c.requires.next.0 c.requires.next.1 c.args.process c.args.entry.now c.requires.next.2

pub add-requires-clause-sums : goal.add-requires-clause-sums
add-requires-clause-sums c = HasSums-MayCount c.args.self.now c.requires.next.0 c.requires.next.1 c.args.process c.args.entry.now c.requires.next.2

pub add-requires-clause-amounts : goal.add-requires-clause-amounts
add-requires-clause-amounts c = FitsMore-MayCount c.args.self.now c.requires.next.0 c.requires.next.1 c.args.process c.args.entry.now c.requires.next.2

pub add-requires-clause-rounds : goal.add-requires-clause-rounds
add-requires-clause-rounds c = FitsRound-MayCount c.args.self.now c.requires.next.0 c.requires.next.1 c.args.process c.args.entry.now c.requires.next.2

-- totals with the same counts and sums
HasCounted-at : (b : BookTerms) (seen : List Publication) (upto counts : List ℕ) (all_sums after : List AccountSums) → upto ≡ counts → all_sums ≡ after
    → HasCounted (record { upto = upto; accounts = all_sums }) b seen → HasCounted (record { upto = counts; accounts = after }) b seen
HasCounted-at b seen upto counts all_sums after one two so =
    let same : (λ (t : TotalSums). t) (record { upto = upto; accounts = all_sums }) ≡ record { upto = counts; accounts = after } =
    λ i. record { upto = one i; accounts = two i } in
    subst (λ (t : TotalSums). HasCounted t b seen) same so

pub returns-clause-counted : goal.returns-clause-counted
returns-clause-counted c = λ b seen may.
    let t : TotalSums = c.args.self.now in
    let p : ℕ = c.args.process in
    elim c.if-is_new.branch [
      | then-is_new w ↦
          let mid = c.self-2.view_is ∙ w.self-is in
          let upto = c.set.ensures ∙ (ap (λ (l : List ℕ). set l p c.args.upto) (ap (λ (s : TotalSums). s.upto) mid ∙ w.add.ensures.upto) ∙ ap (set t.upto p) c.requires.upto) in
          HasCounted-at b seen (set t.upto p (get_or t.upto p 0 + 1)) c.set.new.self w.add.new.self.accounts c.self-2.inside.accounts.items
          (sym upto) (sym (ap (λ (s : TotalSums). s.accounts) mid))
          (HasCounted-new t b seen p c.args.entry.now may w.add.new.self.accounts (sym c.is_new.ensures ∙ w.if-is_new.true) w.add.ensures.small w.add.ensures.sized w.add.ensures.all_sums)
      | else-is_new w ↦
          let mid = c.self-2.view_is ∙ w.self-is in
          let upto = c.set.ensures ∙ (ap (λ (l : List ℕ). set l p c.args.upto) (ap (λ (s : TotalSums). s.upto) mid) ∙ ap (set t.upto p) c.requires.upto) in
          HasCounted-at b seen (set t.upto p (get_or t.upto p 0 + 1)) c.set.new.self t.accounts c.self-2.inside.accounts.items
          (sym upto) (sym (ap (λ (s : TotalSums). s.accounts) mid))
          (HasCounted-repeat t b seen p c.args.entry.now may (sym c.is_new.ensures ∙ w.if-is_new.false))
    ]

pub set-requires-clause-small : goal.set-requires-clause-small
set-requires-clause-small c =
    let may = c.requires.next.2 in
    omega (
      arith,
      c.requires.upto,
      may.next.within,
      may.history.room c.args.process may.next.process,
      log_room_of-le c.requires.next.0 c.args.process may.counts.book.begun,
    )
