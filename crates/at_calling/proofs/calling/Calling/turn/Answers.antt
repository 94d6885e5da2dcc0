use Rattle.std.proofs.Common.{◌≡◌, refl, sym, ap, ◌∙◌, arith}
use Rattle.at_calling.proofs.Prelude.{CallingTerms, exchanges_of, steps_of, Refuse}
use Rattle.at_calling.proofs.calling.Calling.turn.Goals as goal

pub refuse-requires-clause-mark : goal.refuse-requires-clause-mark
refuse-requires-clause-mark c = c.requires.mark

-- a refusal makes no step, whatever the caller's seats had seen
pub returns-in-Refuse : goal.returns-in-Refuse
returns-in-Refuse c =
    let turned = c.refuse.ensures c.args.overview.now.seen in
    let refuses : c.args.self.now.stage ≡ Refuse c.in-Refuse.reply = sym (ap (λ (t : CallingTerms). t.stage) c.self.view_is) ∙ c.in-Refuse.is in
    record {
      call = turned.call_is;
      start = turned.start_is;
      was = turned.was_is;
      mark = turned.mark_is;
      rest = turned.rest_is;
      turns = turned.turns;
      step = turned.step;
      follows = turned.follows;
      left = turned.left;
      so_far = turned.so_far;
      ends = turned.ends;
      made = turned.made;
      placed = turned.placed;
      stands = turned.stands;
      kept = turned.kept;
      calls = turned.calls;
      begins = turned.begins;
      runs = turned.runs;
      within = turned.within;
      refused = turned.refused;
      board = c.requires.board;
      steps = omega (arith, ap steps_of refuses);
      exchanges = omega (arith, ap exchanges_of refuses);
      overview = refl;
      exchanges_made = turned.exchanges;
    }
