use Rattle.std.proofs.Common.{refl, sym, subst}
use Rattle.at_calling.proofs.Prelude.{TotalSums, TakesStartTurn}
use Rattle.at_calling.proofs.starting.Starting.turn.Goals as goal

-- asking and the rows leave the totals as they were, whatever the caller's seats had seen
pub returns-in-Ask : goal.returns-in-Ask
returns-in-Ask c =
    let told = c.ask_on.ensures in
    let turned =
    subst (λ (s : TotalSums). TakesStartTurn c.args.board.now.book c.args.overview.now.seen c.args.self.now c.ask_on.new.self c.args.seat.now c.ask_on.new.seat s c.ask_on.result)
    (sym c.requires.totals) (told.turned c.args.overview.now.seen) in
    record {
      account = turned.account_is;
      targets = turned.targets_are;
      start = turned.start_is;
      mark = turned.mark_is;
      was = turned.was_is;
      totals = turned.totals_are;
      turns = turned.turns;
      step = turned.step;
      follows = turned.follows;
      counted = turned.counted;
      left = turned.left;
      so_far = turned.so_far;
      counting = turned.counting;
      ends = turned.ends;
      begins = turned.begins;
      undecided = turned.undecided;
      answer = turned.starts;
      leaves = turned.leaves;
      board = told.board;
      steps = told.steps;
      exchanges = told.exchanges;
      overview = refl;
    }

pub returns-in-Collect : goal.returns-in-Collect
returns-in-Collect c =
    let told = c.collect_on.ensures in
    let turned =
    subst (λ (s : TotalSums). TakesStartTurn c.args.board.now.book c.args.overview.now.seen c.args.self.now c.collect_on.new.self c.args.seat.now c.collect_on.new.seat s c.collect_on.result)
    (sym c.requires.totals) (told.turned c.args.overview.now.seen) in
    record {
      account = turned.account_is;
      targets = turned.targets_are;
      start = turned.start_is;
      mark = turned.mark_is;
      was = turned.was_is;
      totals = turned.totals_are;
      turns = turned.turns;
      step = turned.step;
      follows = turned.follows;
      counted = turned.counted;
      left = turned.left;
      so_far = turned.so_far;
      counting = turned.counting;
      ends = turned.ends;
      begins = turned.begins;
      undecided = turned.undecided;
      answer = turned.starts;
      leaves = turned.leaves;
      board = told.board;
      steps = told.steps;
      exchanges = told.exchanges;
      overview = refl;
    }
