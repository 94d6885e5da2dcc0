use Rattle.std.proofs.Common.{None, ◌≡◌, ℕ, ◌+◌, ◌<◌, ◌≤◌, ◌≢◌, List, IsSome, Some, false, true, refl, sym, ap, subst, ◌∙◌, arith}
use Rattle.at_calling.proofs.Prelude.{slot_in, slots_of, BookTerms, HasSlot, account_of, IsPrefix, Publication, SeatTerms, Announces, Knowledge, REQUEST_WORDS, HasAsked, opened, OpenRequest, same_some, AskingTerms, asking_after, request_asked, CollectingRowsTerms, starting_rows, IsAskingThen, IsStartStageSo, IsStartingSo, TakesStartTurn, FollowsStart, HasSameCounts, MakesStartStep, StartingTerms, asking_steps_of, start_turns_after, start_turns_in, the_view, StartStage, Ask, Collect}
use Rattle.at_calling.proofs.StartingLaws.{HasSlot-IsAskingThen, HasSlot-IsStartingSo, IsPrefix-word, IsStartingSo-collect, IsStartingSo-word, slot_in-Announces, slot_of_start, start_after, HasSameCounts-announced, HasSameCounts-word}
use Rattle.at_calling.proofs.StartingSteps.{TakesStartTurn-ask}
use Rattle.at_calling.proofs.starting.Starting.ask_on.Goals.{After-become_next, After-opened, After-self, After-slot_of, After-turn-announced}
use Rattle.at_calling.proofs.starting.Starting.ask_on.Goals as goal

-- what the seat knew is what the last turn left
known_before : (c : After-self) → c.args.seat.now.knows ≡ c.self.inside.mark.value.knows
known_before c = c.requires.mark ∙ sym (ap (λ (t : StartingTerms). t.mark) c.self.view_is)

-- its seat is the board's
book : (c : After-self) → c.args.board.now.book ≡ c.self.inside.start.value.knows.book
book c = sym c.requires.board.book ∙ (ap (λ (v : Knowledge). v.book) (known_before c) ∙ c.self.invariant.book)

-- the request is stored
asks : (c : After-turn-announced) → IsAskingThen (the_view c.self.inside) c.in-Ask.asking
asks c = subst (IsStartStageSo (the_view c.self.inside)) c.in-Ask.is c.self.invariant.stage_so

-- what asking noted last is what the seat knew
mark_known : (c : After-turn-announced) → c.in-Ask.asking.mark ≡ c.args.seat.now.knows
mark_known c = (asks c).mark_is ∙ sym (known_before (goal.at.After-turn-announced c).After-self)

-- the slot is the seat's on the board
slot_there : (c : After-turn-announced)
    → HasSlot c.args.board.now.book c.in-Ask.asking.start.first c.in-Ask.asking.account (slot_of_start (the_view c.self.inside) c.self.invariant)
slot_there c =
    let t : StartingTerms = the_view c.self.inside in
    let a : AskingTerms = c.in-Ask.asking in
    subst (λ (b : BookTerms). HasSlot b a.start.first a.account (slot_of_start t c.self.invariant)) (sym (book (goal.at.After-turn-announced c).After-self))
    (HasSlot-IsAskingThen t c.self.invariant a (asks c) c.turn-announced.new.seat.knows)

-- a word of it is stored, and it goes on
pub invariant_of-self : goal.invariant_of-self
invariant_of-self c =
    let at = (goal.at.invariant_of-self c).After-turn-announced in
    let t : StartingTerms = the_view c.self.inside in
    let a : AskingTerms = c.in-Ask.asking in
    let w : Knowledge = c.turn-announced.new.seat.knows in
    let told = c.turn-announced.ensures in
    let other : a.stored ≢ REQUEST_WORDS = λ all. let wrong : false ≡ true = c.in_err-number.ensures.ends.1 all in absurd (cc wrong) in
    let left : a.stored < REQUEST_WORDS = omega (arith, (asks at).left, other) in
    let here : IsStartingSo (start_after t (Ask (asking_after a w)) w) =
    IsStartingSo-word t c.self.invariant a (asks at) w left (told.board.book ∙ book (goal.at.After-turn-announced at).After-self) (told.word left).2 in
    subst (λ (x : AskingTerms). IsStartingSo (start_after t (Ask x) c.of.result.value.knows)) (sym told.after)
    (subst (λ (s : SeatTerms). IsStartingSo (start_after t (Ask (asking_after a w)) s.knows)) (sym c.of.ensures) here)

-- the request is announced
announced : (c : After-slot_of)
    → Announces c.self.inside.start.value.knows.book c.in-Ask.asking.start c.turn-announced.new.seat.knows c.in-Ask.asking.account
    (slot_of_start (the_view c.self.inside) c.self.invariant) (request_asked c.in-Ask.asking)
announced c =
    let at = (goal.at.After-slot_of c).After-turn-announced in
    let a : AskingTerms = c.in-Ask.asking in
    let slot = slot_of_start (the_view c.self.inside) c.self.invariant in
    subst (λ (b : BookTerms). Announces b a.start c.turn-announced.new.seat.knows a.account slot (request_asked a))
    (book (goal.at.After-turn-announced at).After-self) (c.in_ok-number.ensures.announced slot (slot_there at))

-- its slot is found
found : (c : After-slot_of) → c.slot_of.result ≡ Some (slot_of_start (the_view c.self.inside) c.self.invariant)
found c =
    let at = (goal.at.After-slot_of c).After-turn-announced in
    let t : StartingTerms = the_view c.self.inside in
    let a : AskingTerms = c.in-Ask.asking in
    let w : Knowledge = c.turn-announced.new.seat.knows in
    let same : c.book.result.now ≡ t.start.book = c.book.ensures ∙ book (goal.at.After-turn-announced at).After-self in
    c.slot_of.ensures.slot
    ∙ (ap (λ (b : BookTerms). slot_in (account_of b t.account) c.process.result) same
    ∙ (ap (slot_in (account_of t.start.book t.account)) c.process.ensures.process
    ∙ (ap (λ n. slot_in (account_of t.start.book n) w.first) (sym (asks at).to_ask.account_is)
    ∙ slot_in-Announces t c.self.invariant a (asks at) w (announced c))))

pub unwrap-slot-requires : goal.unwrap-slot-requires
unwrap-slot-requires c = subst IsSome (sym (found (goal.at.unwrap-slot-requires c).After-slot_of)) refl

-- and the request that waits is this one
own_is : (c : After-opened)
    → c.opened.result ≡ opened (slot_of_start (the_view c.self.inside) c.self.invariant) c.in_ok-number.number c.in-Ask.asking.targets c.in-Ask.asking.since
own_is c =
    let at = (goal.at.After-opened c).After-slot_of in
    let a : AskingTerms = c.in-Ask.asking in
    let number : ℕ = c.in_ok-number.number in
    let slot = slot_of_start (the_view c.self.inside) c.self.invariant in
    let same : c.unwrap-slot.result ≡ slot = same_some c.unwrap-slot.result slot (sym c.unwrap-slot.ensures ∙ found at) in
    c.opened.ensures
    ∙ (ap (λ (x : AskingTerms). opened c.unwrap-slot.result number x.targets x.since) c.turn-announced.ensures.after
    ∙ ap (λ n. opened n number a.targets a.since) same)

pub start-collecting-requires : goal.start-collecting-requires
start-collecting-requires c =
    let here = (goal.at.start-collecting-requires c).After-opened in
    let at = (goal.at.start-collecting-requires c).After-turn-announced in
    let a : AskingTerms = c.in-Ask.asking in
    let b : BookTerms = c.args.board.now.book in
    let w : Knowledge = c.turn-announced.new.seat.knows in
    let slot = slot_of_start (the_view c.self.inside) c.self.invariant in
    let own : HasAsked b w a.account (opened slot c.in_ok-number.number a.targets a.since) =
    c.in_ok-number.ensures.own slot (slot_there at) in
    subst (λ (k : BookTerms). HasAsked k w c.self.inside.account c.opened.result) (sym c.turn-announced.ensures.board.book)
    (subst (λ n. HasAsked b w n c.opened.result) (asks at).to_ask.account_is (subst (HasAsked b w a.account) (sym (own_is here)) own))

-- the rows come next
rows_next : (c : After-become_next)
    → c.become_next.new.stage
    ≡ Collect (starting_rows c.turn-announced.new.seat.knows c.in-Ask.asking.account
    (opened (slot_of_start (the_view c.self.inside) c.self.invariant) c.in_ok-number.number c.in-Ask.asking.targets c.in-Ask.asking.since))
rows_next c =
    let here = (goal.at.After-become_next c).After-opened in
    let at = (goal.at.After-become_next c).After-turn-announced in
    let a : AskingTerms = c.in-Ask.asking in
    let w : Knowledge = c.turn-announced.new.seat.knows in
    let own : OpenRequest = opened (slot_of_start (the_view c.self.inside) c.self.invariant) c.in_ok-number.number a.targets a.since in
    c.become_next.ensures
    ∙ (ap (λ (r : CollectingRowsTerms). Collect r) c.start-collecting.ensures
    ∙ (ap (λ (x : OpenRequest). Collect (starting_rows w c.self.inside.account x)) (own_is here)
    ∙ ap (λ n. Collect (starting_rows w n own)) (sym (asks at).to_ask.account_is)))

pub invariant_of-self-2 : goal.invariant_of-self-2
invariant_of-self-2 c =
    let next = (goal.at.invariant_of-self-2 c).After-become_next in
    let slot_found = (goal.at.invariant_of-self-2 c).After-slot_of in
    let at = (goal.at.invariant_of-self-2 c).After-turn-announced in
    let t : StartingTerms = the_view c.self.inside in
    let a : AskingTerms = c.in-Ask.asking in
    let w : Knowledge = c.turn-announced.new.seat.knows in
    let told = c.in_ok-number.ensures in
    let number : ℕ = c.in_ok-number.number in
    let stage : StartStage = Collect (starting_rows w a.account (opened (slot_of_start t c.self.invariant) number a.targets a.since)) in
    let same : w.book ≡ t.start.book = c.turn-announced.ensures.board.book ∙ book (goal.at.After-turn-announced at).After-self in
    let here : IsStartingSo (start_after t stage w) =
    IsStartingSo-collect t c.self.invariant a (asks at) w (announced slot_found) number same told.number told.nothing in
    subst (λ (s : StartStage). IsStartingSo (start_after t s c.of.result.value.knows)) (sym (rows_next next))
    (subst (λ (s : SeatTerms). IsStartingSo (start_after t stage s.knows)) (sym c.of.ensures) here)

-- the account has a slot on the board
some_slot : (c : After-turn-announced) → 1 ≤ slots_of (account_of c.args.board.now.book c.self.inside.account)
some_slot c =
    omega (
      arith,
      (HasSlot-IsStartingSo (the_view c.self.inside) c.self.invariant).within,
      ap (λ (b : BookTerms). slots_of (account_of b c.self.inside.account)) (book (goal.at.After-turn-announced c).After-self),
    )

-- what the turn leaves, with whichever stage next
turned : (c : After-turn-announced) (seen : List Publication) (mark : SeatTerms) → mark ≡ c.turn-announced.new.seat
    → HasSameCounts c.self.inside.start.value.knows c.turn-announced.new.seat.knows c.in-Ask.asking.account
    → IsPrefix c.in-Ask.asking.start.seen c.turn-announced.new.seat.knows.seen → (stage : StartStage)
    → start_turns_in c.self.inside.looked stage ≡ c.self.inside.looked + c.in-Ask.asking.stored + 1
    → MakesStartStep c.args.board.now.book seen (Ask c.in-Ask.asking) c.args.seat.now c.turn-announced.new.seat c.self.inside.totals.value
    → 0 < start_turns_after (asking_steps_of c.args.board.now.book (the_view c.self.inside)) stage
    → start_turns_after (asking_steps_of c.args.board.now.book (the_view c.self.inside)) stage
    < start_turns_after (asking_steps_of c.args.board.now.book (the_view c.self.inside)) (Ask c.in-Ask.asking)
    → FollowsStart c.args.board.now.book (Ask c.in-Ask.asking) stage
    → TakesStartTurn c.args.board.now.book seen c.args.self.now (start_after (the_view c.self.inside) stage mark.knows) c.args.seat.now
    c.turn-announced.new.seat c.args.self.now.totals None
turned c seen mark mark_is same_counts more stage same step some left follows =
    let b : BookTerms = c.args.board.now.book in
    let t : StartingTerms = the_view c.self.inside in
    let after : SeatTerms = c.turn-announced.new.seat in
    subst (λ (s : StartingTerms). TakesStartTurn b seen s (start_after t stage mark.knows) c.args.seat.now after s.totals None) c.self.view_is
    (TakesStartTurn-ask b seen t c.self.invariant (sym (book (goal.at.After-turn-announced c).After-self)) c.args.seat.now after mark.knows
    (ap (λ (m : SeatTerms). m.knows) mark_is) c.in-Ask.asking c.in-Ask.is same_counts more stage same step some left follows)

pub returns-in_err-number-clause-turned : goal.returns-in_err-number-clause-turned
returns-in_err-number-clause-turned c = λ seen.
    let at = (goal.at.returns-in_err-number-clause-turned c).After-turn-announced in
    let t : StartingTerms = the_view c.self.inside in
    let a : AskingTerms = c.in-Ask.asking in
    let told = c.turn-announced.ensures in
    let other : a.stored ≢ REQUEST_WORDS = λ all. let wrong : false ≡ true = c.in_err-number.ensures.ends.1 all in absurd (cc wrong) in
    let left : a.stored < REQUEST_WORDS = omega (arith, (asks at).left, other) in
    let next : StartStage = Ask c.turn-announced.new.self in
    let stored : c.turn-announced.new.self.stored ≡ a.stored + 1 = ap (λ (x : AskingTerms). x.stored) told.after in
    subst (TakesStartTurn c.args.board.now.book seen c.args.self.now (start_after t next c.of.result.value.knows) c.args.seat.now
    c.turn-announced.new.seat c.args.self.now.totals) (sym c.from_residual.ensures)
    (turned at seen c.of.result.value c.of.ensures (HasSameCounts-word t c.self.invariant a (asks at) c.turn-announced.new.seat.knows (told.word left).2)
    (IsPrefix-word t c.self.invariant a (asks at) c.turn-announced.new.seat.knows (told.word left).2) next
    (omega (arith, stored)) (mark_known at, (asks at).left, λ inside. told.word inside, λ all. absurd (other all)) (omega (arith, stored, left, some_slot at))
    (omega (arith, stored, left, some_slot at)) stored)

pub returns-clause-turned : goal.returns-clause-turned
returns-clause-turned c = λ seen.
    let next = (goal.at.returns-clause-turned c).After-become_next in
    let slot_found = (goal.at.returns-clause-turned c).After-slot_of in
    let at = (goal.at.returns-clause-turned c).After-turn-announced in
    let t : StartingTerms = the_view c.self.inside in
    let a : AskingTerms = c.in-Ask.asking in
    let told = c.in_ok-number.ensures in
    let all : a.stored ≡ REQUEST_WORDS = told.ends.0 refl in
    let stage : StartStage = Collect (starting_rows c.turn-announced.new.seat.knows a.account
    (opened (slot_of_start t c.self.invariant) c.in_ok-number.number a.targets a.since)) in
    subst (λ (k : StartStage). TakesStartTurn c.args.board.now.book seen c.args.self.now (start_after t k c.of.result.value.knows) c.args.seat.now
    c.turn-announced.new.seat c.args.self.now.totals None) (sym (rows_next next))
    (turned at seen c.of.result.value c.of.ensures
    (HasSameCounts-announced t c.self.invariant a (asks at) c.turn-announced.new.seat.knows (announced slot_found)) (announced slot_found).more stage (omega (arith, all))
    (mark_known at, (asks at).left, λ inside. absurd (omega (arith, inside, all)), λ full. told.announces) (omega (arith, some_slot at)) (omega (arith, all, some_slot at))
    (all, refl, refl))
