use Rattle.std.proofs.Common.{refl}
use Rattle.at_calling.proofs.turning.Turning.turn.Goals as goal

-- a step of the round, whatever the caller's seats had seen
pub returns-in-Decide : goal.returns-in-Decide
returns-in-Decide c =
    let told = c.decide_on.ensures in
    let stepped = told.stepped c.args.overview.now.seen in
    record {
      helping = stepped.helping_is;
      start = stepped.start_is;
      mark = stepped.mark_is;
      was = stepped.was_is;
      totals = stepped.totals_are;
      turns = stepped.turns;
      step = stepped.step;
      follows = stepped.follows;
      left = stepped.left;
      ends = stepped.ends;
      so_far = stepped.so_far;
      decides_few = stepped.decides_few;
      once = stepped.once;
      begins = stepped.begins;
      seen = stepped.seen;
      others = stepped.others;
      counting = stepped.counting;
      counts_others = stepped.counts_others;
      published = stepped.published;
      answer = stepped.help;
      waits = stepped.waits;
      seat = stepped.seat;
      counted = stepped.counted;
      leaves = stepped.leaves;
      board = told.board;
      steps = told.steps;
      exchanges = told.exchanges;
      overview = refl;
      decides = stepped.decides;
    }
