use Rattle.std.proofs.Common.{refl}
use Rattle.at_calling.proofs.paying_alone.PayingAlone.turn.Goals as goal

-- a store, whatever the caller's seats had seen
pub returns-in-Append : goal.returns-in-Append
returns-in-Append c =
    let told = c.append_on.ensures in
    let turned = told.turned c.args.overview.now.seen in
    record {
      from = turned.from_is;
      targets = turned.targets_are;
      start = turned.start_is;
      mark = turned.mark_is;
      was = turned.was_is;
      totals = turned.totals_are;
      turns = turned.turns;
      step = turned.step;
      follows = turned.follows;
      left = turned.left;
      ends = turned.ends;
      so_far = turned.so_far;
      counting = turned.counting;
      begins = turned.begins;
      asks = turned.asks;
      answer = turned.pays;
      counted = turned.counted;
      leaves = turned.leaves;
      board = told.board;
      steps = told.steps;
      exchanges = told.exchanges;
      overview = refl;
    }
