use Rattle.std.proofs.Common.{◌∙◌, ◌<◌, List, ap, length, set, subst, sym}
use Rattle.at_stepper.proofs.Prelude.{with_items_is, with_item, IsOverviewOf, OverviewTerms, BoardTerms, IsPrefix, CallerTerms, AreAllIn, AreCallersOn, HaveJustTheirOwn, IsAllPublished, TurnsOne}
use Rattle.at_stepper.proofs.RunLaws.{AreAllIn-shown, AreCallersOn-shown, IsAllPublished-shown, TurnsOne-shown}
use Rattle.at_stepper.proofs.SteppingLaws.{known-calls_left}
use Rattle.at_stepper.proofs.run.Run.turn.Goals as goal

pub next_turn-turned-requires-clause-seen : goal.next_turn-turned-requires-clause-seen
next_turn-turned-requires-clause-seen c =
    let callers = c.args.self.now.callers.items in
    let within : c.args.process < length callers = known-calls_left callers c.args.process c.requires.left in
    subst (λ (x : CallerTerms). IsPrefix x.seat.knows.seen c.args.self.now.overview.seen) (sym c.index_mut-caller.ensures.value)
    (c.requires.run.published.seen c.args.process c.index_mut-caller.result.now within)

pub show_all-requires-clause-callers : goal.show_all-requires-clause-callers
show_all-requires-clause-callers c =
    let callers = c.args.self.now.callers.items in
    let p = c.args.process in
    let overview : OverviewTerms = c.args.self.now.overview in
    let within : p < length callers = known-calls_left callers p c.requires.left in
    let told = c.next_turn-turned.ensures in
    subst (λ (cs : List CallerTerms). AreCallersOn c.board-board.result.now cs) (sym c.deref_mut.ensures.value)
    (subst (λ (b : BoardTerms). AreCallersOn b (set callers p c.show.new.self)) (sym c.board-board.ensures)
    (AreCallersOn-shown c.args.self.now.ledger c.board-board.result.now callers p c.index_mut-caller.result.now c.next_turn-turned.new.self c.show.new.self
    c.next_turn-turned.result overview c.next_turn-turned.new.overview c.show.new.overview within c.requires.run.callers c.requires.run.published
    c.board-board.ensures c.index_mut-caller.ensures.value told.turned told.process told.stands told.between told.pass told.board told.same
    c.show.ensures.added c.show.ensures.same))

pub show_all-requires-clause-seen : goal.show_all-requires-clause-seen
show_all-requires-clause-seen c =
    let callers = c.args.self.now.callers.items in
    let p = c.args.process in
    let overview : OverviewTerms = c.args.self.now.overview in
    let within : p < length callers = known-calls_left callers p c.requires.left in
    let told = c.next_turn-turned.ensures in
    subst (λ (cs : List CallerTerms). AreAllIn cs c.show.new.overview.seen) (sym c.deref_mut.ensures.value)
    (AreAllIn-shown c.args.self.now.ledger c.board-board.result.now callers p c.index_mut-caller.result.now c.next_turn-turned.new.self c.show.new.self
    c.next_turn-turned.result overview c.next_turn-turned.new.overview c.show.new.overview within c.requires.run.callers c.requires.run.published
    c.board-board.ensures c.index_mut-caller.ensures.value told.turned told.process told.stands told.between told.pass told.board told.same
    c.show.ensures.added c.show.ensures.same)

pub returns-clause-turned : goal.returns-clause-turned
returns-clause-turned c =
    let callers = c.args.self.now.callers.items in
    let p = c.args.process in
    let overview : OverviewTerms = c.args.self.now.overview in
    let within : p < length callers = known-calls_left callers p c.requires.left in
    let told = c.next_turn-turned.ensures in
    let shown = c.show_all.ensures in
    let items = with_items_is (with_item c.args.self.now.callers p c.show.new.self) c.show_all.new.callers (ap (λ (cs : List CallerTerms). length cs) shown.callers ∙ c.deref_mut.ensures.len)
    ∙ (shown.callers ∙ c.deref_mut.ensures.value) in
    let own : HaveJustTheirOwn (set callers p c.show.new.self) c.show.new.overview.seen =
    subst (λ (cs : List CallerTerms). HaveJustTheirOwn cs c.show.new.overview.seen) c.deref_mut.ensures.value shown.own in
    subst (λ (cs : List CallerTerms). TurnsOne p c.next_turn-turned.result
    (record { ledger = c.args.self.now.ledger; callers = callers; published = overview.seen })
    (record { ledger = c.args.self.now.ledger; callers = cs; published = c.show_all.new.overview.seen })) (sym items)
    (subst (λ (o : OverviewTerms). TurnsOne p c.next_turn-turned.result
    (record { ledger = c.args.self.now.ledger; callers = callers; published = overview.seen })
    (record { ledger = c.args.self.now.ledger; callers = set callers p c.show.new.self; published = o.seen })) (sym shown.same)
    (TurnsOne-shown c.args.self.now.ledger c.board-board.result.now callers p c.index_mut-caller.result.now c.next_turn-turned.new.self c.show.new.self
    c.next_turn-turned.result overview c.next_turn-turned.new.overview c.show.new.overview within c.requires.run.callers c.requires.run.published
    c.board-board.ensures c.index_mut-caller.ensures.value told.turned told.process told.stands told.between told.pass told.board told.same
    c.show.ensures.added c.show.ensures.same own))

pub returns-clause-run : goal.returns-clause-run
returns-clause-run c =
    let callers = c.args.self.now.callers.items in
    let p = c.args.process in
    let overview : OverviewTerms = c.args.self.now.overview in
    let within : p < length callers = known-calls_left callers p c.requires.left in
    let told = c.next_turn-turned.ensures in
    let shown = c.show_all.ensures in
    let items = with_items_is (with_item c.args.self.now.callers p c.show.new.self) c.show_all.new.callers (ap (λ (cs : List CallerTerms). length cs) shown.callers ∙ c.deref_mut.ensures.len)
    ∙ (shown.callers ∙ c.deref_mut.ensures.value) in
    let own : HaveJustTheirOwn (set callers p c.show.new.self) c.show.new.overview.seen =
    subst (λ (cs : List CallerTerms). HaveJustTheirOwn cs c.show.new.overview.seen) c.deref_mut.ensures.value shown.own in
    record {
      callers = subst (λ (cs : List CallerTerms). AreCallersOn c.args.self.now.ledger cs) (sym items)
          (AreCallersOn-shown c.args.self.now.ledger c.board-board.result.now callers p c.index_mut-caller.result.now c.next_turn-turned.new.self c.show.new.self
          c.next_turn-turned.result overview c.next_turn-turned.new.overview c.show.new.overview within c.requires.run.callers c.requires.run.published
          c.board-board.ensures c.index_mut-caller.ensures.value told.turned told.process told.stands told.between told.pass told.board told.same
          c.show.ensures.added c.show.ensures.same);
      overview = subst (λ (o : OverviewTerms). IsOverviewOf o c.args.self.now.ledger) (sym shown.same)
          (subst (λ (b : BoardTerms). IsOverviewOf c.show.new.overview b) c.board-board.ensures c.show.ensures.overview);
      published = subst (λ (cs : List CallerTerms). IsAllPublished c.args.self.now.ledger.book cs c.show_all.new.overview.seen) (sym items)
          (subst (λ (o : OverviewTerms). IsAllPublished c.args.self.now.ledger.book (set callers p c.show.new.self) o.seen) (sym shown.same)
          (IsAllPublished-shown c.args.self.now.ledger c.board-board.result.now callers p c.index_mut-caller.result.now c.next_turn-turned.new.self c.show.new.self
          c.next_turn-turned.result overview c.next_turn-turned.new.overview c.show.new.overview within c.requires.run.callers c.requires.run.published
          c.board-board.ensures c.index_mut-caller.ensures.value told.turned told.process told.stands told.between told.pass told.board told.same
          c.show.ensures.added c.show.ensures.same own));
    }
