use Rattle.std.proofs.Common.{◌≡◌, ◌∙◌, ◌<◌, All, length, subst, sym}
use Rattle.at_stepper.proofs.Prelude.{length-map, contents_of, TurnMade}
use Rattle.at_stepper.proofs.EntryLaws.{known-AreTurnsOf}
use Rattle.at_stepper.proofs.ReplyLaws.{replies-IsJournalOf}
use Rattle.at_stepper.proofs.replaying.replay.Goals as goal

pub returns-in-Ok-finish-clause-replay : goal.returns-in-Ok-finish-clause-replay
returns-in-Ok-finish-clause-replay c =
    let book = c.args.book.now in
    let files = contents_of c.args.files.items in
    let made = c.in_ok-make_turns.ensures in
    let all = made.turned book files c.in-Ok.ensures.ok in
    let journal = c.in-Ok-finish.ensures.journal in
    record {
      run = c.make_turns.new.stepper;
      runs = all.0;
      over = made.over;
      turns = all.1;
      journal = journal;
      replies = replies-IsJournalOf book files c.make_turns.new.turns.items c.make_turns.new.stepper c.in-Ok-finish.lines.items all.0 journal;
      linearizable = journal.linearizable book files c.make_turns.new.turns.items all.0;
    }

pub returns-in-Ok-finish-clause-processes : goal.returns-in-Ok-finish-clause-processes
returns-in-Ok-finish-clause-processes c =
    let book = c.args.book.now in
    let files = contents_of c.args.files.items in
    let turns = (c.in_ok-make_turns.ensures.turned book files c.in-Ok.ensures.ok).1 in
    let count : length files ≡ book.processes = length-map c.args.files.items _ ∙ c.requires.count in
    subst (λ n. All (λ (t : TurnMade). t.process < n) c.make_turns.new.turns.items) count
    (known-AreTurnsOf files c.args.schedule.now c.make_turns.new.turns.items turns (subst (λ n. All (λ p. p < n) c.args.schedule.now) (sym count) c.requires.schedule))
