use Rattle.std.proofs.Common.{◌≡◌, ℕ, ◌<◌, ◌≤◌, ◌↔◌, List, IfSome, IsSome, Option, None, Some, length, false, true, refl, sym, ap, subst, ◌∙◌, arith, inl, inr}
use Rattle.at_calling.proofs.Prelude.{cases_lt, sum, BookTerms, amount_of, Reply, Short, balance_after, prefix_of, Entry, SeatTerms, Knowledge, record_width, CountsAccount, CountsCut, StaysCounted, TotalSums, MayAppend, At, Cut, CountsAccount-HasLooked, CountsCut-HasLooked, MayAppend-IsSnapshot, HasLooked, IsLookingFirst, IsPayStageSo, IsPayingAloneSo, TakesPayTurn, AnswersAlone, FollowsPay, PayingAloneTerms, append_steps, pay_turns_left, turns_in, LeavesTotals, PayStage, Append, Look, AppendingTerms, starting_appending, IsWithin}
use Rattle.at_calling.proofs.PayingAloneLaws.{AnswersAlone-short, IsPayingAloneSo-append, next_append, paying_next}
use Rattle.at_calling.proofs.PayingAloneTurns.{TakesPayTurn-look}
use Rattle.at_calling.proofs.ReadingLaws.{LeavesTotals-HasLooked}
use Rattle.at_calling.specs.contracts.paying_alone.PayingAlone.{the_view}
use Rattle.at_calling.proofs.paying_alone.PayingAlone.look_on.Goals.{After-covers, After-known, After-self, After-start, After-turn-looked}
use Rattle.at_calling.proofs.paying_alone.PayingAlone.look_on.Goals as goal

-- the book is the board's
book : (c : After-self) → (the_view c.self.inside).start.book ≡ c.args.board.now.book
book c =
    sym c.self.invariant.book
    ∙ (ap (λ (t : PayingAloneTerms). t.mark.book) c.self.view_is ∙ (ap (λ (v : Knowledge). v.book) (sym c.requires.mark) ∙ c.requires.board.book))

-- the look goes on
looks : (c : After-turn-looked) → IsLookingFirst (the_view c.self.inside) c.in-Look.looking
looks c = subst (IsPayStageSo (the_view c.self.inside)) c.in-Look.is c.self.invariant.stage_so

-- what the turn leaves, with whichever stage next
turned : (c : After-turn-looked) (turns : ℕ) → turns ≡ c.turn-looked.new.self.turns → (mark : SeatTerms) → mark ≡ c.turn-looked.new.seat
    → (totals : TotalSums) → totals ≡ c.turn-looked.new.totals → (stage : PayStage) (answer : Option (Reply × At)) → turns_in turns stage ≡ turns
    → pay_turns_left (record_width c.args.board.now.book) stage < pay_turns_left (record_width c.args.board.now.book) (Look c.in-Look.looking)
    → (IsSome answer ↔ (pay_turns_left (record_width c.args.board.now.book) stage ≡ 0))
    → IfSome answer (AnswersAlone c.args.board.now.book (the_view c.self.inside).start c.turn-looked.new.seat.knows c.self.inside.from c.self.inside.targets)
    → IfSome answer (λ r. StaysCounted c.turn-looked.new.totals c.args.board.now.book c.turn-looked.new.seat.knows.seen)
    → IfSome answer (λ r. LeavesTotals c.args.board.now.book (the_view c.self.inside).start c.turn-looked.new.seat.knows (the_view c.self.inside).was
    c.turn-looked.new.totals (append_steps (record_width c.args.board.now.book) r.0) turns)
    → FollowsPay c.args.board.now.book.processes (Look c.in-Look.looking) stage
    → TakesPayTurn c.args.board.now.book c.args.overview.now.seen c.args.self.now (paying_next (the_view c.self.inside) stage turns mark.knows totals) c.args.seat.now
    c.turn-looked.new.seat c.turn-looked.new.totals answer
turned c turns turns_are mark mark_is totals totals_are stage answer same left ends pays counted leaves follows =
    let b : BookTerms = c.args.board.now.book in
    let t : PayingAloneTerms = the_view c.self.inside in
    let after : SeatTerms = c.turn-looked.new.seat in
    let now : TotalSums = c.turn-looked.new.totals in
    let told = c.turn-looked.ensures in
    subst (λ (s : PayingAloneTerms). TakesPayTurn b c.args.overview.now.seen s (paying_next t stage turns mark.knows totals) c.args.seat.now after now answer) c.self.view_is
    (TakesPayTurn-look b c.args.overview.now.seen t c.self.invariant (book (goal.at.After-turn-looked c).After-self) c.args.seat.now after now mark.knows
    (ap (λ (m : SeatTerms). m.knows) mark_is) totals totals_are c.in-Look.looking c.in-Look.is turns (turns_are ∙ told.turns) told.load told.loads
    (subst (IsWithin b.processes c.in-Look.looking.was (length after.knows.seen)) (sym turns_are) told.so_far)
    (omega (arith, told.counting, turns_are)) stage answer same left ends pays counted leaves follows)

pub returns-in_err-cut-clause-turned : goal.returns-in_err-cut-clause-turned
returns-in_err-cut-clause-turned c =
    let at = (goal.at.returns-in_err-cut-clause-turned c).After-turn-looked in
    let next : PayStage = Look c.turn-looked.new.self in
    subst (TakesPayTurn c.args.board.now.book c.args.overview.now.seen c.args.self.now
    (paying_next (the_view c.self.inside) next c.turns-self-inside.result c.of.result.value.knows c.of-2.result.value) c.args.seat.now
    c.turn-looked.new.seat c.turn-looked.new.totals)
    (sym c.from_residual.ensures)
    (turned at c.turns-self-inside.result c.turns-self-inside.ensures c.of.result.value c.of.ensures c.of-2.result.value c.of-2.ensures next None
    (sym c.turns-self-inside.ensures)
    (omega (arith, c.turn-looked.ensures.left))
    (λ some. let wrong : false ≡ true = some in absurd (cc wrong), λ none. absurd (omega (arith, none)))
    tt tt tt c.turn-looked.ensures.follows)

-- the look has ended
looked : (c : After-known)
    → HasLooked (the_view c.self.inside).start.book (the_view c.self.inside).start c.turn-looked.new.seat.knows (the_view c.self.inside).was
    c.turn-looked.new.totals c.in_ok-cut.cut
looked c =
    let at = (goal.at.After-known c).After-turn-looked in
    let t : PayingAloneTerms = the_view c.self.inside in
    let w : Knowledge = c.turn-looked.new.seat.knows in
    let now : TotalSums = c.turn-looked.new.totals in
    let cut : List ℕ = c.in_ok-cut.cut in
    subst (λ (b : BookTerms). HasLooked b t.start w t.was now cut) (sym (book (goal.at.After-turn-looked at).After-self))
    (subst (λ (v : Knowledge). HasLooked c.args.board.now.book v w t.was now cut) (looks at).start_is
    (subst (λ (s : TotalSums). HasLooked c.args.board.now.book c.in-Look.looking.start w s now cut) (looks at).was_is c.in_ok-cut.ensures.looked))

counts_account : (c : After-known)
    → CountsAccount c.turn-looked.new.totals (the_view c.self.inside).start.book c.turn-looked.new.seat.knows.seen c.self.inside.from
counts_account c =
    let t : PayingAloneTerms = the_view c.self.inside in
    CountsAccount-HasLooked t.start.book t.start c.turn-looked.new.seat.knows t.was c.turn-looked.new.totals c.in_ok-cut.cut t.from (looked c)
    c.self.invariant.account_in

counts_cut : (c : After-known)
    → CountsCut c.turn-looked.new.totals (the_view c.self.inside).start.book c.turn-looked.new.seat.knows.seen
counts_cut c =
    let t : PayingAloneTerms = the_view c.self.inside in
    CountsCut-HasLooked t.start.book t.start c.turn-looked.new.seat.knows t.was c.turn-looked.new.totals c.in_ok-cut.cut (looked c)

pub covers-requires : goal.covers-requires
covers-requires c =
    let at = (goal.at.covers-requires c).After-known in
    ((the_view c.self.inside).start.book, c.turn-looked.new.seat.knows.seen, counts_account at, counts_cut at)

-- the test is of the balance of the cut
tested : (c : After-covers)
    → (c.covers.result ≡ true) ↔ (amount_of c.self.inside.targets
    ≤ balance_after (the_view c.self.inside).start.book (prefix_of c.in_ok-cut.cut c.turn-looked.new.seat.knows.seen) c.self.inside.from)
tested c =
    let at = (goal.at.After-covers c).After-known in
    let t : PayingAloneTerms = the_view c.self.inside in
    let seen = c.turn-looked.new.seat.knows.seen in
    subst (λ (cut : List ℕ). (c.covers.result ≡ true) ↔ (amount_of t.targets ≤ balance_after t.start.book (prefix_of cut seen) t.from))
    (looked at).upto (c.covers.ensures t.start.book seen (counts_account at) (counts_cut at))

less : (c : After-covers) → c.covers.result ≡ false
    → balance_after (the_view c.self.inside).start.book (prefix_of c.in_ok-cut.cut c.turn-looked.new.seat.knows.seen) c.self.inside.from
    < amount_of c.self.inside.targets
less c off =
    let t : PayingAloneTerms = the_view c.self.inside in
    let balance : ℕ = balance_after t.start.book (prefix_of c.in_ok-cut.cut c.turn-looked.new.seat.knows.seen) t.from in
    elim (cases_lt balance (amount_of t.targets)) as (λ _. balance < amount_of t.targets) [
      | inl below ↦ below
      | inr all ↦ let wrong : true ≡ false = sym ((tested c).1 all) ∙ off in absurd (cc wrong)
    ]

pub returns-then-not-covers-clause-turned : goal.returns-then-not-covers-clause-turned
returns-then-not-covers-clause-turned c =
    let short_is = (goal.at.returns-then-not-covers-clause-turned c).After-covers in
    let known = (goal.at.After-covers short_is).After-known in
    let at = (goal.at.After-known known).After-turn-looked in
    let b : BookTerms = c.args.board.now.book in
    let t : PayingAloneTerms = the_view c.self.inside in
    let w : Knowledge = c.turn-looked.new.seat.knows in
    let now : TotalSums = c.turn-looked.new.totals in
    let cut : List ℕ = c.in_ok-cut.cut in
    let so = c.self.invariant in
    let same = book (goal.at.After-turn-looked at).After-self in
    let r : Reply × At = (Short, Cut cut) in
    let here = AnswersAlone-short t.start.book t.start w t.was now cut t.from t.targets (looked known) so.owner so.room (less short_is c.if-not-covers.true) in
    let looked_on : HasLooked b t.start w t.was now cut = subst (λ (k : BookTerms). HasLooked k t.start w t.was now cut) same (looked known) in
    let few : IsWithin b.processes t.was (sum cut) c.turn-looked.new.self.turns =
    subst (λ (s : TotalSums). IsWithin b.processes s (sum cut) c.turn-looked.new.self.turns) (looks at).was_is c.in_ok-cut.ensures.within in
    subst (λ (k : PayStage). TakesPayTurn b c.args.overview.now.seen c.args.self.now (paying_next t k c.turns-self-inside.result c.of.result.value.knows c.of-2.result.value) c.args.seat.now
    c.turn-looked.new.seat now (Some r)) (sym c.become_next.ensures)
    (turned at c.turns-self-inside.result c.turns-self-inside.ensures c.of.result.value c.of.ensures c.of-2.result.value c.of-2.ensures PayStage.Short (Some r) refl
    (omega arith) (λ some. refl, λ none. refl)
    (subst (λ (k : BookTerms). AnswersAlone k t.start w t.from t.targets r) same here)
    looked_on.counted
    (LeavesTotals-HasLooked b t.start w t.was now cut looked_on c.turns-self-inside.result (omega (arith, so.kept.one_part))
    (omega (arith, few, c.turns-self-inside.ensures)))
    (c.turn-looked.new.self.stage, c.turn-looked.ensures.follows, c.in_ok-cut.ensures.ends.0 refl))

pub start-requires : goal.start-requires
start-requires c =
    let short_is = (goal.at.start-requires c).After-covers in
    let known = (goal.at.After-covers short_is).After-known in
    let at = (goal.at.After-known known).After-turn-looked in
    let t : PayingAloneTerms = the_view c.self.inside in
    let w : Knowledge = c.turn-looked.new.seat.knows in
    let cut : List ℕ = c.in_ok-cut.cut in
    let so = c.self.invariant in
    let done = looked known in
    let here = MayAppend-IsSnapshot t.start.book t.start w cut t.from t.targets done.snapshot done.loads so.kept.known so.kept.own so.owner so.account_in
    so.targets_in so.room ((tested short_is).0 c.if-not-covers.false) in
    subst (λ (b : BookTerms). MayAppend b w c.record_of-rec.result) (book (goal.at.After-turn-looked at).After-self ∙ sym c.turn-looked.ensures.board.book)
    (subst (MayAppend t.start.book w) (sym c.record_of-rec.ensures) here)

-- its append comes next
appends : (c : After-start) → c.start.result ≡ starting_appending c.turn-looked.new.seat.knows
    (record { entry = Entry.Own c.self.inside.from c.self.inside.targets; view = c.in_ok-cut.cut })
appends c = c.start.ensures ∙ ap (starting_appending c.turn-looked.new.seat.knows) c.record_of-rec.ensures

pub invariant_of-self-2 : goal.invariant_of-self-2
invariant_of-self-2 c =
    let start = (goal.at.invariant_of-self-2 c).After-start in
    let short_is = (goal.at.After-start start).After-covers in
    let known = (goal.at.After-covers short_is).After-known in
    let at = (goal.at.After-known known).After-turn-looked in
    let t : PayingAloneTerms = the_view c.self.inside in
    let w : Knowledge = c.turn-looked.new.seat.knows in
    let now : TotalSums = c.turn-looked.new.totals in
    let cut : List ℕ = c.in_ok-cut.cut in
    let turns : ℕ = c.turn-looked.new.self.turns in
    let same = book (goal.at.After-turn-looked at).After-self in
    let within : IsWithin t.start.book.processes t.was (sum cut) turns =
    subst (λ (b : BookTerms). IsWithin b.processes t.was (sum cut) turns) (sym same)
    (subst (λ (s : TotalSums). IsWithin c.args.board.now.book.processes s (sum cut) turns) (looks at).was_is c.in_ok-cut.ensures.within) in
    let here : IsPayingAloneSo (paying_next t (next_append t w cut) turns w now) =
    IsPayingAloneSo-append t w now cut turns c.self.invariant (c.turn-looked.ensures.board.book ∙ sym same) (looked known)
    ((tested short_is).0 c.if-not-covers.false) within in
    subst (λ (k : PayStage). IsPayingAloneSo (paying_next t k c.turns-self-inside.result c.of.result.value.knows c.of-2.result.value))
    (sym (c.become_next-2.ensures ∙ ap (λ (a : AppendingTerms). Append a) (appends start)))
    (subst (λ (n : ℕ). IsPayingAloneSo (paying_next t (next_append t w cut) n c.of.result.value.knows c.of-2.result.value)) (sym c.turns-self-inside.ensures)
    (subst (λ (m : SeatTerms). IsPayingAloneSo (paying_next t (next_append t w cut) turns m.knows c.of-2.result.value)) (sym c.of.ensures)
    (subst (λ (s : TotalSums). IsPayingAloneSo (paying_next t (next_append t w cut) turns w s)) (sym c.of-2.ensures) here)))

pub returns-clause-turned : goal.returns-clause-turned
returns-clause-turned c =
    let start = (goal.at.returns-clause-turned c).After-start in
    let short_is = (goal.at.After-start start).After-covers in
    let known = (goal.at.After-covers short_is).After-known in
    let at = (goal.at.After-known known).After-turn-looked in
    let t : PayingAloneTerms = the_view c.self.inside in
    let next : PayStage = next_append t c.turn-looked.new.seat.knows c.in_ok-cut.cut in
    subst (λ (k : PayStage). TakesPayTurn c.args.board.now.book c.args.overview.now.seen c.args.self.now
    (paying_next t k c.turns-self-inside.result c.of.result.value.knows c.of-2.result.value) c.args.seat.now c.turn-looked.new.seat c.turn-looked.new.totals None)
    (sym (c.become_next-2.ensures ∙ ap (λ (a : AppendingTerms). Append a) (appends start)))
    (turned at c.turns-self-inside.result c.turns-self-inside.ensures c.of.result.value c.of.ensures c.of-2.result.value c.of-2.ensures next None (omega arith)
    (omega (arith, (looks at).left)) (λ some. let wrong : false ≡ true = some in absurd (cc wrong), λ none. absurd (omega (arith, none))) tt tt tt
    ((c.turn-looked.new.self.stage, c.turn-looked.ensures.follows, c.in_ok-cut.ensures.ends.0 refl), refl))
