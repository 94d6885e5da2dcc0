use Rattle.std.proofs.Common.{None, Some, ◌≡◌, ℕ, ◌+◌, ◌-◌, ◌*◌, ◌<◌, ◌≤◌, inl, inr, refl, sym, ap, subst, ◌∙◌, arith}
use Rattle.at_calling.proofs.Prelude.{slots_of, BookTerms, account_of, places_max, IsPrefix-trans, IsPrefix, SettlesInTurns, IsHistory, SeatTerms, Knowledge, HasCounted, TotalSums, Reply, At, HelpingTerms, decides_made, decides_on, round_steps, HelpTurn, More, Settled, IsWithinOneMore, TakesShareTurn, HasCountedSo, IsHelpingThen, IsPayingSharedSo, IsShareStageSo, AnswersInRound, DecidesFew, FollowsShare, MakesShareStep, PayingSharedTerms, settling_steps, share_exchanges_at, share_exchanges_made, share_steps, share_turns_left, share_turns_most, unless_settled, unless_starting, LeavesTotals, counted_so_far, newly_seen, first_load, IsHelpOf, IsHelpWithin, LeavesSeat, TurningTerms, WaitsOn, help_step_at, help_steps, help_turns_left, help_turns_made, ShareStage, Ended, Help}
use Rattle.at_calling.proofs.PayingSharedLaws.{SettlesInTurns-settled, DecidesFew-settled, HasCountedSo-more, HasHelped-more, IsHelpingThen-begun, LeavesTotals-settled, AnswersInRound-settled, counting-so_far, few-so_far, few_exchanges-so_far, share_turns_most-le}
use Rattle.at_calling.proofs.PayingSharedTurns.{share_next, TakesShareTurn-on, TakesShareTurn-settled}
use Rattle.at_calling.specs.contracts.paying_shared.PayingShared.{the_view}
use Rattle.at_calling.proofs.paying_shared.PayingShared.help_on.Goals.{After-known, After-self, After-turn-helped}
use Rattle.at_calling.proofs.paying_shared.PayingShared.help_on.Goals as goal

-- the board's book is that of the start
book : (c : After-self) → c.args.board.now.book ≡ c.self.inside.start.value.knows.book
book c =
    sym c.requires.board.book
    ∙ (ap (λ (v : Knowledge). v.book) (c.requires.mark ∙ sym (ap (λ (t : PayingSharedTerms). t.mark) c.self.view_is)) ∙ c.self.invariant.book)

-- the turn of helping goes on
helps : (c : After-turn-helped) → IsHelpingThen (the_view c.self.inside) c.in-Help.helping c.in-Help.turning
helps c = subst (IsShareStageSo (the_view c.self.inside)) c.in-Help.is c.self.invariant.stage_so

pub overflow_add-self : goal.overflow_add-self
overflow_add-self c =
    let at = (goal.at.overflow_add-self c).After-turn-helped in
    let b : BookTerms = c.args.board.now.book in
    let i = c.self.inside in
    let v : Knowledge = i.start.value.knows in
    let most : ℕ = share_turns_most b i.account places_max in
    let few : most ≡ share_turns_most v.book i.account places_max =
    ap (λ (k : BookTerms). share_turns_most k i.account places_max) (book (goal.at.After-turn-helped at).After-self) in
    omega (
      arith,
      c.requires.left,
      ap (share_turns_left b) c.self.view_is,
      ap (unless_settled (most + 1 - i.turns)) c.in-Help.is,
      few,
      share_turns_most-le v.book i.account c.self.invariant.kept.book.begun c.self.invariant.slot_in.account_in,
    )

-- one turn more
turns_now : (c : After-turn-helped) → (helps c).before + help_turns_made c.turn-helped.new.self ≡ c.self.inside.turns + 1
turns_now c = omega (arith, (helps c).turns_are, c.turn-helped.ensures.turns)

-- one exchange at most
once : (c : After-turn-helped) → decides_made c.in-Help.helping.account c.in-Help.turning.start c.turn-helped.new.seat.knows ≤ 1
once c =
    subst (λ (x : HelpingTerms). decides_made x.account c.in-Help.turning.start c.turn-helped.new.seat.knows ≤ 1) (helps c).helping_is
    c.turn-helped.ensures.once

-- which are few
within : (c : After-turn-helped) → c.self.inside.turns + 1
    ≤ share_turns_most c.args.board.now.book c.self.inside.account
    (newly_seen c.self.inside.start.value.knows c.turn-helped.new.seat.knows c.self.inside.was.value.upto)
within c =
    let same = book (goal.at.After-turn-helped c).After-self in
    let b : BookTerms = c.args.board.now.book in
    let i = c.self.inside in
    let t : PayingSharedTerms = the_view i in
    let v : Knowledge = i.start.value.knows in
    let h : HelpingTerms = c.in-Help.helping in
    let u : TurningTerms = c.in-Help.turning in
    let w : Knowledge = c.turn-helped.new.seat.knows in
    let turns : ℕ = help_turns_made c.turn-helped.new.self in
    let so = helps c in
    let told = c.turn-helped.ensures in
    let records : ℕ = newly_seen u.start w u.was.upto in
    let so_far : IsHelpWithin v.book.processes (decides_made h.account u.start w) records turns =
    subst (λ (k : BookTerms). IsHelpWithin k.processes (decides_made h.account u.start w) records turns) same
    (subst (λ (x : HelpingTerms). IsHelpWithin b.processes (decides_made x.account u.start w) records turns) so.helping_is told.so_far) in
    omega (
      arith,
      few-so_far v.book v u.start w t.account t.targets h so.helped t.was u.was so.before turns so.counted (once c) told.seen told.others so_far,
      turns_now c,
      ap (λ (k : BookTerms). share_turns_most k i.account (newly_seen v w i.was.value.upto)) same,
    )

-- with those that were counted, and one more
counting : (c : After-turn-helped) → IsWithinOneMore (share_steps c.args.board.now.book c.self.inside.account)
    (counted_so_far c.self.inside.start.value.knows c.turn-helped.new.seat.knows c.self.inside.was.value.upto c.turn-helped.new.totals.upto)
    (c.self.inside.turns + 1)
counting c =
    let same = book (goal.at.After-turn-helped c).After-self in
    let b : BookTerms = c.args.board.now.book in
    let i = c.self.inside in
    let t : PayingSharedTerms = the_view i in
    let v : Knowledge = i.start.value.knows in
    let h : HelpingTerms = c.in-Help.helping in
    let u : TurningTerms = c.in-Help.turning in
    let w : Knowledge = c.turn-helped.new.seat.knows in
    let now : TotalSums = c.turn-helped.new.totals in
    let turns : ℕ = help_turns_made c.turn-helped.new.self in
    let so = helps c in
    let told = c.turn-helped.ensures in
    let records : ℕ = counted_so_far u.start w u.was.upto now.upto in
    let so_far : IsWithinOneMore (help_steps v.book.processes (decides_made h.account u.start w)) records turns =
    subst (λ (k : BookTerms). IsWithinOneMore (help_steps k.processes (decides_made h.account u.start w)) records turns) same
    (subst (λ (x : HelpingTerms). IsWithinOneMore (help_steps b.processes (decides_made x.account u.start w)) records turns) so.helping_is told.counting) in
    omega (
      arith,
      counting-so_far v.book v u.start w t.account t.targets h so.helped t.was u.was now so.before turns so.counted (once c) told.counts_others told.published so_far,
      turns_now c,
      ap (λ (k : BookTerms). share_steps k i.account) same,
    )

-- and so are the exchanges
few_exchanges : (c : After-turn-helped) → decides_made c.self.inside.account c.self.inside.start.value.knows c.turn-helped.new.seat.knows
    ≤ slots_of (account_of c.args.board.now.book c.self.inside.account)
few_exchanges c =
    let t : PayingSharedTerms = the_view c.self.inside in
    omega (
      arith,
      few_exchanges-so_far t.start.book t.start c.in-Help.turning.start c.turn-helped.new.seat.knows t.account t.targets c.in-Help.helping
          (helps c).helped (once c),
      ap (λ (k : BookTerms). slots_of (account_of k t.account)) (book (goal.at.After-turn-helped c).After-self),
    )

within_all : (c : After-known)
    → c.self.inside.turns + 1 ≤ share_turns_most c.args.board.now.book c.self.inside.account places_max
within_all c = omega (arith, within (goal.at.After-known c).After-turn-helped, c.known.ensures.seat.history.few)

-- what was seen at the start is seen still
begins : (c : After-turn-helped) → IsPrefix c.self.inside.start.value.knows.seen c.turn-helped.new.seat.knows.seen
begins c =
    IsPrefix-trans c.self.inside.start.value.knows.seen c.in-Help.turning.start.seen c.turn-helped.new.seat.knows.seen (helps c).helped.begins
    c.turn-helped.ensures.begins

-- the exchanges so far are those that were decided
made : (c : After-turn-helped)
    → decides_made c.self.inside.account c.self.inside.start.value.knows c.turn-helped.new.seat.knows
    ≡ share_exchanges_made (the_view c.self.inside) + share_exchanges_at c.self.inside.stage
made c =
    let i = c.self.inside in
    let v : Knowledge = i.start.value.knows in
    let u : TurningTerms = c.in-Help.turning in
    let w : Knowledge = c.turn-helped.new.seat.knows in
    let so = helps c in
    let told = c.turn-helped.ensures in
    let account : u.helping.account ≡ i.account = ap (λ (x : HelpingTerms). x.account) so.helping_is ∙ so.helped.start.account_is in
    omega (
      arith,
      told.decides,
      told.decides_few,
      so.decides,
      so.helped.decides,
      ap (decides_on u.start) account,
      ap (decides_on u.mark) account,
      ap (decides_on w) account,
      ap (λ (p : Knowledge). decides_on p i.account) so.mark_is,
      ap (unless_starting (decides_made i.account v i.mark.value.knows)) c.in-Help.is,
      ap share_exchanges_at c.in-Help.is,
    )

-- what a turn of helping answers and leaves, on the book of the start
help_of : (c : After-turn-helped) (answer : HelpTurn)
    → IsHelpOf c.args.board.now.book c.in-Help.turning.start c.turn-helped.new.seat.knows c.in-Help.turning.helping answer
    → IsHelpOf c.self.inside.start.value.knows.book c.in-Help.turning.start c.turn-helped.new.seat.knows c.in-Help.helping answer
help_of c answer told =
    let u : TurningTerms = c.in-Help.turning in
    let w : Knowledge = c.turn-helped.new.seat.knows in
    subst (λ (k : BookTerms). IsHelpOf k u.start w c.in-Help.helping answer) (book (goal.at.After-turn-helped c).After-self)
    (subst (λ (x : HelpingTerms). IsHelpOf c.args.board.now.book u.start w x answer) (helps c).helping_is told)

seat_of : (c : After-turn-helped)
    → LeavesSeat c.in-Help.turning.start c.turn-helped.new.seat.knows c.in-Help.turning.helping.account
    → LeavesSeat c.in-Help.turning.start c.turn-helped.new.seat.knows c.in-Help.helping.account
seat_of c told =
    subst (λ (x : HelpingTerms). LeavesSeat c.in-Help.turning.start c.turn-helped.new.seat.knows x.account) (helps c).helping_is told

totals_of : (c : After-turn-helped)
    → LeavesTotals c.args.board.now.book c.in-Help.turning.start c.turn-helped.new.seat.knows c.in-Help.turning.was c.turn-helped.new.totals
    (round_steps c.args.board.now.book.processes
    * decides_made c.in-Help.turning.helping.account c.in-Help.turning.start c.turn-helped.new.seat.knows) (help_turns_made c.turn-helped.new.self)
    → LeavesTotals c.self.inside.start.value.knows.book c.in-Help.turning.start c.turn-helped.new.seat.knows c.in-Help.turning.was c.turn-helped.new.totals
    (round_steps c.self.inside.start.value.knows.book.processes
    * decides_made c.in-Help.helping.account c.in-Help.turning.start c.turn-helped.new.seat.knows) (help_turns_made c.turn-helped.new.self)
totals_of c told =
    let b : BookTerms = c.args.board.now.book in
    let h : HelpingTerms = c.in-Help.helping in
    let u : TurningTerms = c.in-Help.turning in
    let w : Knowledge = c.turn-helped.new.seat.knows in
    let now : TotalSums = c.turn-helped.new.totals in
    let turns : ℕ = help_turns_made c.turn-helped.new.self in
    subst (λ (k : BookTerms). LeavesTotals k u.start w u.was now (round_steps k.processes * decides_made h.account u.start w) turns)
    (book (goal.at.After-turn-helped c).After-self)
    (subst (λ (x : HelpingTerms). LeavesTotals b u.start w u.was now (round_steps b.processes * decides_made x.account u.start w) turns)
    (helps c).helping_is told)

pub invariant_of-self-2 : goal.invariant_of-self-2
invariant_of-self-2 c =
    let at = (goal.at.invariant_of-self-2 c).After-turn-helped in
    let same = book (goal.at.After-turn-helped at).After-self in
    let b : BookTerms = c.args.board.now.book in
    let i = c.self.inside in
    let t : PayingSharedTerms = the_view i in
    let v : Knowledge = i.start.value.knows in
    let h : HelpingTerms = c.in-Help.helping in
    let u : TurningTerms = c.in-Help.turning in
    let w : Knowledge = c.turn-helped.new.seat.knows in
    let now : TotalSums = c.turn-helped.new.totals in
    let turns : ℕ = help_turns_made c.turn-helped.new.self in
    let next : TurningTerms = c.start.result in
    let so = helps at in
    let told = c.in_ok-answer.ensures in
    let begun = c.start.ensures in
    let more = c.in_default-2.is in
    let seat = seat_of at told.seat in
    let help : IsHelpOf v.book u.start w h More =
    subst (IsHelpOf v.book u.start w h) more (help_of at c.in_ok-answer.field-0 told.answer) in
    let waits : WaitsOn v.book u.start w h =
    subst (λ (k : BookTerms). WaitsOn k u.start w h) same (subst (λ (x : HelpingTerms). WaitsOn b u.start w x) so.helping_is (told.waits more)) in
    let book_now : w.book ≡ v.book = c.turn-helped.ensures.board.book ∙ same in
    let history : IsHistory v.book w.seen = subst (λ (k : BookTerms). IsHistory k w.seen) book_now c.known.ensures.seat.history in
    let counted : HasCounted now v.book w.seen = subst (λ (k : BookTerms). HasCounted now k w.seen) same told.counted in
    let counted_so : HasCountedSo v.book v w t.was now t.account (i.turns + 1) =
    subst (HasCountedSo v.book v w t.was now t.account) (turns_now at)
    (HasCountedSo-more v.book v u.start w t.account t.targets h so.helped seat waits t.was u.was now so.before turns so.counted (totals_of at told.leaves) counted history) in
    let stage : ShareStage = Help h next in
    let here : IsPayingSharedSo (record t { stage = stage; turns = i.turns + 1; mark = w; totals = now }) = record {
      kept = c.self.invariant.kept;
      book = book_now;
      settled = c.self.invariant.settled;
      slot = c.self.invariant.slot;
      slot_in = c.self.invariant.slot_in;
      stage_so = IsHelpingThen-begun (record t { stage = stage; turns = i.turns + 1; mark = w; totals = now }) h next begun.helping begun.start begun.mark begun.was
          begun.totals begun.turns (subst (λ (k : BookTerms). 0 < help_turns_left k.processes next.stage) same begun.left)
          (HasHelped-more v.book v u.start w t.account t.targets h so.helped seat waits help) counted_so;
    } in
    subst (λ (x : TurningTerms). IsPayingSharedSo (record t { stage = Help h x; turns = i.turns + 1; mark = c.of.result.value.knows; totals = c.of-2.result.value }))
    (sym c.become_next-2.ensures)
    (subst (λ (x : SeatTerms). IsPayingSharedSo (record t { stage = stage; turns = i.turns + 1; mark = x.knows; totals = c.of-2.result.value })) (sym c.of.ensures)
    (subst (λ (x : TotalSums). IsPayingSharedSo (record t { stage = stage; turns = i.turns + 1; mark = w; totals = x })) (sym c.of-2.ensures) here))

-- some turn was left
some : (c : After-turn-helped) → 0 < share_turns_left c.args.board.now.book (the_view c.self.inside)
some c = subst (λ (x : PayingSharedTerms). 0 < share_turns_left c.args.board.now.book x) (sym c.self.view_is) c.requires.left

-- the step that was made
step : (c : After-turn-helped)
    → MakesShareStep c.args.board.now.book c.args.overview.now.seen c.self.inside.stage c.args.seat.now c.turn-helped.new.seat c.turn-helped.new.totals
step c =
    subst (λ (k : ShareStage). MakesShareStep c.args.board.now.book c.args.overview.now.seen k c.args.seat.now c.turn-helped.new.seat c.turn-helped.new.totals) (sym c.in-Help.is)
    (c.turn-helped.new.self.stage, c.turn-helped.ensures.step)

-- what the turn leaves where helping goes on
goes_on : (c : After-known) (mark : SeatTerms) → mark ≡ c.turn-helped.new.seat → (totals : TotalSums) → totals ≡ c.turn-helped.new.totals
    → (u : TurningTerms) → FollowsShare c.args.board.now.book (Help c.in-Help.helping c.in-Help.turning) (Help c.in-Help.helping u)
    → TakesShareTurn c.args.board.now.book c.args.overview.now.seen c.args.self.now (share_next (the_view c.self.inside) (Help c.in-Help.helping u) mark.knows totals)
    c.args.seat.now c.turn-helped.new.seat c.turn-helped.new.totals None
goes_on c mark mark_is totals totals_are u follows =
    let at = (goal.at.After-known c).After-turn-helped in
    let b : BookTerms = c.args.board.now.book in
    let t : PayingSharedTerms = the_view c.self.inside in
    let before : SeatTerms = c.args.seat.now in
    let after : SeatTerms = c.turn-helped.new.seat in
    let now : TotalSums = c.turn-helped.new.totals in
    let stage : ShareStage = Help c.in-Help.helping u in
    subst (λ (x : PayingSharedTerms). TakesShareTurn b c.args.overview.now.seen x (share_next t stage mark.knows totals) before after now None) c.self.view_is
    (TakesShareTurn-on b c.args.overview.now.seen t before after now mark.knows (ap (λ (m : SeatTerms). m.knows) mark_is) totals totals_are (some at) (step at) (within at)
    (counting at) (begins at) stage (λ n. refl) (within_all c) (ap (λ (m : SeatTerms). decides_made t.account t.start m.knows) mark_is ∙ made at)
    (ap (λ (m : SeatTerms). decides_made t.account t.start m.knows) mark_is)
    (omega (arith, few_exchanges at, ap (λ (m : SeatTerms). decides_made t.account t.start m.knows) mark_is))
    (subst (λ (k : ShareStage). FollowsShare b k stage) (sym c.in-Help.is) follows))

pub returns-in_err-answer-clause-turned : goal.returns-in_err-answer-clause-turned
returns-in_err-answer-clause-turned c =
    subst (TakesShareTurn c.args.board.now.book c.args.overview.now.seen c.args.self.now
    (share_next (the_view c.self.inside) (Help c.in-Help.helping c.turn-helped.new.self) c.of.result.value.knows c.of-2.result.value) c.args.seat.now
    c.turn-helped.new.seat c.turn-helped.new.totals) (sym c.from_residual.ensures)
    (goes_on (goal.at.returns-in_err-answer-clause-turned c).After-known c.of.result.value c.of.ensures c.of-2.result.value c.of-2.ensures
    c.turn-helped.new.self (inl c.turn-helped.ensures.follows))

pub returns-clause-turned : goal.returns-clause-turned
returns-clause-turned c =
    goes_on (goal.at.returns-clause-turned c).After-known c.of.result.value c.of.ensures c.of-2.result.value c.of-2.ensures
    c.become_next-2.new.stage
    (inr (
      (c.turn-helped.new.self.stage, c.turn-helped.ensures.follows, c.in_ok-answer.ensures.ends.0 refl),
      subst (λ (v : TurningTerms). help_step_at c.args.board.now.book v.stage ≡ first_load) (sym c.become_next-2.ensures) c.start.ensures.first,
    ))

pub returns-in-Settled-clause-turned : goal.returns-in-Settled-clause-turned
returns-in-Settled-clause-turned c =
    let at = (goal.at.returns-in-Settled-clause-turned c).After-turn-helped in
    let same = book (goal.at.After-turn-helped at).After-self in
    let b : BookTerms = c.args.board.now.book in
    let t : PayingSharedTerms = the_view c.self.inside in
    let v : Knowledge = t.start in
    let h : HelpingTerms = c.in-Help.helping in
    let u : TurningTerms = c.in-Help.turning in
    let before : SeatTerms = c.args.seat.now in
    let after : SeatTerms = c.turn-helped.new.seat in
    let w : Knowledge = after.knows in
    let now : TotalSums = c.turn-helped.new.totals in
    let mark : Knowledge = c.of.result.value.knows in
    let totals : TotalSums = c.of-2.result.value in
    let r : Reply × At = c.in-Settled.answer in
    let so = helps at in
    let told = c.in_ok-answer.ensures in
    let seat = seat_of at told.seat in
    let help : IsHelpOf v.book u.start w h (Settled r) =
    subst (IsHelpOf v.book u.start w h) c.in-Settled.is (help_of at c.in_ok-answer.field-0 told.answer) in
    let pays : AnswersInRound v.book v w t.account t.targets r =
    AnswersInRound-settled v.book v u.start w t.account t.targets h so.helped seat r help c.self.invariant.kept refl c.self.invariant.settled in
    let settles : SettlesInTurns v.book v w t.account t.targets = SettlesInTurns-settled v.book v u.start w t.account t.targets h so.helped seat r help in
    let few : DecidesFew v.book v w t.account = DecidesFew-settled v.book v u.start w t.account t.targets h so.helped seat in
    let leaves : LeavesTotals v.book v w t.was now (settling_steps v.book t.account) (t.turns + 1) =
    subst (LeavesTotals v.book v w t.was now (settling_steps v.book t.account)) (turns_now at)
    (LeavesTotals-settled v.book v u.start w t.account t.targets h so.helped seat t.was u.was now so.before (help_turns_made c.turn-helped.new.self) so.counted
    (totals_of at told.leaves)) in
    subst (λ (k : ShareStage). TakesShareTurn b c.args.overview.now.seen c.args.self.now (share_next t k mark totals) before after now (Some r)) (sym c.become_next.ensures)
    (subst (λ (x : PayingSharedTerms). TakesShareTurn b c.args.overview.now.seen x (share_next t Ended mark totals) before after now (Some r)) c.self.view_is
    (TakesShareTurn-settled b c.args.overview.now.seen t before after now mark (ap (λ (m : SeatTerms). m.knows) c.of.ensures) totals c.of-2.ensures (some at) (step at) (within at)
    (counting at) (begins at) r
    (subst (λ (k : BookTerms). AnswersInRound k v w t.account t.targets r) (sym same) pays)
    (subst (λ (k : BookTerms). SettlesInTurns k v w t.account t.targets) (sym same) settles)
    (subst (λ (k : BookTerms). DecidesFew k v w t.account) (sym same) few) told.counted
    (subst (λ (k : BookTerms). LeavesTotals k v w t.was now (settling_steps k t.account) (t.turns + 1)) (sym same) leaves)
    (ap (λ (m : SeatTerms). decides_made t.account t.start m.knows) c.of.ensures ∙ made at)
    (subst (λ (k : ShareStage). FollowsShare b k Ended) (sym c.in-Help.is) (c.turn-helped.new.self.stage, c.turn-helped.ensures.follows, told.ends.0 refl))))
