use Rattle.std.proofs.Common.{◌≡◌, ◌<◌, ◌∙◌, ℕ, List, length, ap, subst, sym}
use Rattle.at_calling.proofs.Prelude.{BookTerms, Read, Balance, Knowledge, TotalSums, Cut, Receipt, CountsAccount-HasLooked, CountsCut-HasLooked, balance-HasLooked, IsReadOf, ReadingTerms}
use Rattle.at_calling.proofs.ReadingLaws.{IsReadOf-HasLooked}
use Rattle.at_calling.proofs.reading.Reading.turn.Goals.{After-known}
use Rattle.at_calling.proofs.reading.Reading.turn.Goals as goal

-- the account is one of the board's book
account_in : (c : After-known) → c.self.inside.account < length c.args.board.now.book.accounts
account_in c =
    let book : c.self.inside.looking.start.book ≡ c.args.board.now.book =
    sym (ap (λ (v : Knowledge). v.book) c.in_ok-cut.ensures.looked.loads.same) ∙ c.turn.ensures.board.book in
    subst (λ (b : BookTerms). c.self.inside.account < length b.accounts) book c.self.invariant

pub balance-requires : goal.balance-requires
balance-requires c =
    let b : BookTerms = c.args.board.now.book in
    let v : Knowledge = c.self.inside.looking.start in
    let w : Knowledge = c.turn.new.seat.knows in
    let was : TotalSums = c.self.inside.looking.was in
    let cut : List ℕ = c.in_ok-cut.cut in
    let looked = c.in_ok-cut.ensures.looked in (
      b,
      w.seen,
      CountsAccount-HasLooked b v w was c.turn.new.totals cut c.self.inside.account looked (account_in (goal.at.balance-requires c).After-known),
      CountsCut-HasLooked b v w was c.turn.new.totals cut looked,
    )

pub returns-clause-answer : goal.returns-clause-answer
returns-clause-answer c =
    let b : BookTerms = c.args.board.now.book in
    let v : Knowledge = c.self.inside.looking.start in
    let w : Knowledge = c.turn.new.seat.knows in
    let was : TotalSums = c.self.inside.looking.was in
    let now : TotalSums = c.turn.new.totals in
    let cut : List ℕ = c.in_ok-cut.cut in
    let looked = c.in_ok-cut.ensures.looked in
    let r : Receipt = record { call = Read c.self.inside.account; reply = Balance c.balance.result; at = Cut cut } in
    let balance = balance-HasLooked b v w was now cut c.self.inside.account c.balance.result looked (account_in (goal.at.returns-clause-answer c).After-known) c.balance.ensures in
    subst (λ (t : ReadingTerms). IsReadOf b t.looking.start w t.account r) c.self.view_is
    (IsReadOf-HasLooked b v w was now cut looked c.self.inside.account c.balance.result balance)
