use Rattle.std.proofs.Common.{◌≡◌, refl, sym, ap}
use Rattle.at_payments.proofs.Prelude.{BookTerms, Balance, balance_after, prefix_of, Knowledge, TotalSums, read}
use Rattle.at_payments.proofs.Laws.Looks.{CountsAccount-HasLooked, CountsCut-HasLooked, HasCounted-HasLooked, balance-HasLooked}
use Rattle.at_payments.proofs.reads.read_account.Goals.{After-balance-balance}
use Rattle.at_payments.proofs.reads.read_account.Goals as goal

pub balance-balance-requires : goal.balance-balance-requires
balance-balance-requires c =
    let b : BookTerms = c.args.board.now.book in
    let v : Knowledge = c.args.seat.now.knows in
    let w : Knowledge = c.look-cut.new.seat.knows in
    let was : TotalSums = c.args.totals.now in
    let now : TotalSums = c.look-cut.new.totals in
    let cut = c.look-cut.result in
    let looked = c.look-cut.ensures.looked in (
      b,
      w.seen,
      CountsAccount-HasLooked b v w was now cut c.args.account looked c.requires.account,
      CountsCut-HasLooked b v w was now cut looked,
    )

-- what was read is the balance of the cut
balance : (c : After-balance-balance)
    → c.balance-balance.result ≡ balance_after c.args.board.now.book (prefix_of c.look-cut.result c.look-cut.new.seat.knows.seen) c.args.account
balance c =
    balance-HasLooked c.args.board.now.book c.args.seat.now.knows c.look-cut.new.seat.knows c.args.totals.now c.look-cut.new.totals c.look-cut.result
    c.args.account c.balance-balance.result c.look-cut.ensures.looked c.requires.account c.balance-balance.ensures

pub returns-clause-reply : goal.returns-clause-reply
returns-clause-reply c = ap Balance (balance (goal.at.returns-clause-reply c).After-balance-balance)

pub returns-clause-placed : goal.returns-clause-placed
returns-clause-placed c = λ earlier.
    read c.args.account c.balance-balance.result refl refl
    (record {
      view = c.look-cut.result;
      cut = c.look-cut.ensures.looked.snapshot.cut;
      at = refl;
      balance = sym (balance (goal.at.returns-clause-placed c).After-balance-balance);
    })

pub returns-clause-counted : goal.returns-clause-counted
returns-clause-counted c =
    HasCounted-HasLooked c.args.board.now.book c.args.seat.now.knows c.look-cut.new.seat.knows c.args.totals.now c.look-cut.new.totals c.look-cut.result
    c.look-cut.ensures.looked

pub returns-clause-risen : goal.returns-clause-risen
returns-clause-risen c = c.look-cut.ensures.risen
