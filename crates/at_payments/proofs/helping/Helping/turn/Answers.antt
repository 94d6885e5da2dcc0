use Rattle.std.proofs.Common.{◌≡◌, ◌+◌, ◌*◌, ◌<◌, length, get_or, sum, false, ap, subst, ◌∙◌, arith}
use Rattle.at_payments.proofs.Prelude.{BookTerms, get_or-set_same, own_part, Knowledge, sum-caught, length-IsCut, prefix_of, is_settled, IsDecidedIn, CountsAccount, CountsCut, CountsSlot, HasAccount, HelpingTerms, decides_made, round_steps, Settled}
use Rattle.at_payments.proofs.SharedLaws.Turned.{IsHelpingAt-turn}
use Rattle.at_payments.proofs.TurnLaws.{IsTurned, IsTurned-decided, IsTurned-found}
use Rattle.at_payments.proofs.Laws.Looks.{CountsAccount-HasLooked, CountsCut-HasLooked, HasCounted-HasLooked}
use Rattle.at_payments.proofs.helping.Helping.turn.Goals.{After-known-3, After-look-cut, After-answer_in}
use Rattle.at_payments.proofs.helping.Helping.turn.Goals as goal

-- the seat has something on the account
has_account : (c : After-look-cut) → HasAccount c.args.seat.now.knows c.args.self.now.account
has_account c =
    let seat = c.known.ensures.seat in
    let same = ap (λ (t : BookTerms). length t.accounts) c.requires.seat.book in
    record { part = omega (arith, seat.one_part); inside = omega (arith, seat.accounts, c.requires.helping.asked.slot_in.account_in, same) }

-- the totals have counted the account, and the slot, up to the cut
counts_account : (c : After-look-cut)
    → CountsAccount c.look-cut.new.totals c.args.board.now.book c.look-cut.new.seat.knows.seen c.args.self.now.account
counts_account c =
    CountsAccount-HasLooked c.args.board.now.book c.args.seat.now.knows c.look-cut.new.seat.knows c.args.totals.now c.look-cut.new.totals c.look-cut.result
    c.args.self.now.account c.look-cut.ensures.looked c.requires.helping.asked.slot_in.account_in

counts_slot : (c : After-look-cut)
    → CountsSlot c.look-cut.new.totals c.args.board.now.book c.look-cut.new.seat.knows.seen c.args.self.now.account c.args.self.now.own.slot
counts_slot c = record { account = counts_account c; slot_in = c.requires.helping.asked.slot_in.within }

counts_cut : (c : After-look-cut) → CountsCut c.look-cut.new.totals c.args.board.now.book c.look-cut.new.seat.knows.seen
counts_cut c =
    CountsCut-HasLooked c.args.board.now.book c.args.seat.now.knows c.look-cut.new.seat.knows c.args.totals.now c.look-cut.new.totals c.look-cut.result
    c.look-cut.ensures.looked

pub settled-requires : goal.settled-requires
settled-requires c = (
  c.args.board.now.book,
  c.look-cut.new.seat.knows.seen,
  counts_slot (goal.at.settled-requires c).After-look-cut,
  c.requires.helping.room,
)

-- what was found was decided at the cut
found : (c : After-answer_in) → IsDecidedIn (prefix_of c.look-cut.result c.look-cut.new.seat.knows.seen)
    c.args.self.now.account c.args.self.now.own.slot c.args.self.now.own.number c.in-Some.round c.in-Some.decision
found c =
    let before : After-look-cut = (goal.at.After-answer_in c).After-look-cut in
    let h : HelpingTerms = c.args.self.now in
    let b : BookTerms = c.args.board.now.book in
    let seen = c.look-cut.new.seat.knows.seen in
    subst (λ f. IsDecidedIn (prefix_of f seen) h.account h.own.slot h.own.number c.in-Some.round c.in-Some.decision) c.look-cut.ensures.looked.upto
    (c.in-Some.ensures.cut b seen (counts_slot before) c.requires.helping.room (counts_cut before))

-- what the turn leaves where it was
turned_found : (c : After-answer_in)
    → IsTurned c.args.board.now.book c.args.seat.now.knows c.look-cut.new.seat.knows c.args.self.now (Settled c.answer_in.result) 0
turned_found c =
    let before : After-look-cut = (goal.at.After-answer_in c).After-look-cut in
    IsTurned-found c.args.board.now.book c.args.seat.now.knows c.look-cut.new.seat.knows c.args.self.now c.look-cut.result (has_account before)
    c.look-cut.ensures.looked.snapshot c.look-cut.ensures.looked.loads c.requires.helping c.in-Some.round c.in-Some.decision c.answer_in.result
    c.known-2.ensures.seat.agrees (found c)
    (record { reply = c.answer_in.ensures.reply; at = c.answer_in.ensures.at })

pub returns-in-Some-clause-answers : goal.returns-in-Some-clause-answers
returns-in-Some-clause-answers c = (turned_found c).answers

pub returns-in-Some-clause-in_round : goal.returns-in-Some-clause-in_round
returns-in-Some-clause-in_round c = (turned_found c).in_round

pub returns-in-Some-clause-placed : goal.returns-in-Some-clause-placed
returns-in-Some-clause-placed c = (turned_found c).placed

pub returns-in-Some-clause-after_start : goal.returns-in-Some-clause-after_start
returns-in-Some-clause-after_start c = (turned_found c).after_start

pub returns-in-Some-clause-helping : goal.returns-in-Some-clause-helping
returns-in-Some-clause-helping c = (turned_found c).helping

pub returns-in-Some-clause-rounds_more : goal.returns-in-Some-clause-rounds_more
returns-in-Some-clause-rounds_more c = (turned_found c).rounds_more

pub returns-in-Some-clause-overtaken : goal.returns-in-Some-clause-overtaken
returns-in-Some-clause-overtaken c = (turned_found c).overtaken

pub returns-in-Some-clause-heard : goal.returns-in-Some-clause-heard
returns-in-Some-clause-heard c = (turned_found c).heard

pub returns-in-Some-clause-free : goal.returns-in-Some-clause-free
returns-in-Some-clause-free c = (turned_found c).free

pub returns-in-Some-clause-begins : goal.returns-in-Some-clause-begins
returns-in-Some-clause-begins c = (turned_found c).begins

pub returns-in-Some-clause-process : goal.returns-in-Some-clause-process
returns-in-Some-clause-process c = (turned_found c).process

pub returns-in-Some-clause-decides_more : goal.returns-in-Some-clause-decides_more
returns-in-Some-clause-decides_more c = λ more. absurd (cc more)

pub returns-in-Some-clause-decides_few : goal.returns-in-Some-clause-decides_few
returns-in-Some-clause-decides_few c = omega (arith, (turned_found c).decides)

pub returns-in-Some-clause-decides_at_most : goal.returns-in-Some-clause-decides_at_most
returns-in-Some-clause-decides_at_most c = omega (arith, (turned_found c).decides)

pub returns-in-Some-clause-decides_elsewhere : goal.returns-in-Some-clause-decides_elsewhere
returns-in-Some-clause-decides_elsewhere c = (turned_found c).elsewhere

pub returns-in-Some-clause-published : goal.returns-in-Some-clause-published
returns-in-Some-clause-published c = omega (arith, (turned_found c).published)

pub returns-in-Some-clause-more : goal.returns-in-Some-clause-more
returns-in-Some-clause-more c = omega (arith, (turned_found c).published, c.look-cut.ensures.looked.more, ap sum c.look-cut.ensures.looked.upto)

pub returns-in-Some-clause-counted : goal.returns-in-Some-clause-counted
returns-in-Some-clause-counted c =
    HasCounted-HasLooked c.args.board.now.book c.args.seat.now.knows c.look-cut.new.seat.knows c.args.totals.now c.look-cut.new.totals c.look-cut.result
    c.look-cut.ensures.looked

pub returns-in-Some-clause-own_counted : goal.returns-in-Some-clause-own_counted
returns-in-Some-clause-own_counted c =
    let own = c.look-cut.ensures.looked.snapshot.own in
    let turned = turned_found c in
    ap (λ upto. get_or upto c.look-cut.new.seat.knows.first 0) c.look-cut.ensures.looked.upto
    ∙ (ap (λ p. get_or c.look-cut.result p 0) turned.process ∙ omega (arith, own, turned.published))

pub returns-in-Some-clause-steps : goal.returns-in-Some-clause-steps
returns-in-Some-clause-steps c =
    let turned = turned_found c in
    let made : decides_made c.args.self.now.account c.args.seat.now.knows c.look-cut.new.seat.knows ≡ 0 = omega (arith, turned.decides) in
    omega (
      arith,
      c.look-cut.ensures.steps,
      ap (λ k. round_steps c.args.board.now.book.processes * k) made,
      turned.published,
      c.look-cut.ensures.looked.more,
      ap sum c.look-cut.ensures.looked.upto,
    )

pub returns-in-Some-clause-risen : goal.returns-in-Some-clause-risen
returns-in-Some-clause-risen c = c.look-cut.ensures.risen

pub returns-in-Some-clause-exchanges : goal.returns-in-Some-clause-exchanges
returns-in-Some-clause-exchanges c = omega (arith, c.look-cut.ensures.exchanges, (turned_found c).decides)

pub decide_next-turn-requires-clause-totals : goal.decide_next-turn-requires-clause-totals
decide_next-turn-requires-clause-totals c =
    HasCounted-HasLooked c.args.board.now.book c.args.seat.now.knows c.look-cut.new.seat.knows c.args.totals.now c.look-cut.new.totals c.look-cut.result
    c.look-cut.ensures.looked

pub decide_next-turn-requires-clause-helping : goal.decide_next-turn-requires-clause-helping
decide_next-turn-requires-clause-helping c =
    let before : After-look-cut = (goal.at.decide_next-turn-requires-clause-helping c).After-look-cut in
    IsHelpingAt-turn c.args.board.now.book c.args.seat.now.knows c.look-cut.new.seat.knows c.args.self.now c.look-cut.result (has_account before)
    c.look-cut.ensures.looked.snapshot c.look-cut.ensures.looked.loads c.requires.helping

pub decide_next-turn-requires-clause-unsettled : goal.decide_next-turn-requires-clause-unsettled
decide_next-turn-requires-clause-unsettled c =
    let before : After-look-cut = (goal.at.decide_next-turn-requires-clause-unsettled c).After-look-cut in
    let h : HelpingTerms = c.args.self.now in
    let seen = c.look-cut.new.seat.knows.seen in
    subst (λ f. is_settled h.account h.own.slot h.own.number (prefix_of f seen) ≡ false) c.look-cut.ensures.looked.upto
    (c.in_default.ensures.cut c.args.board.now.book seen (counts_slot before) c.requires.helping.room (counts_cut before))

-- what the turn leaves where it has decided a round
turned : (c : After-known-3)
    → IsTurned c.args.board.now.book c.args.seat.now.knows c.decide_next-turn.new.seat.knows c.args.self.now c.decide_next-turn.result 1
turned c =
    let before : After-look-cut = (goal.at.After-known-3 c).After-look-cut in
    let (d, next, answer) = c.decide_next-turn.ensures.decided in
    IsTurned-decided c.args.board.now.book c.args.seat.now.knows c.look-cut.new.seat.knows c.args.self.now c.look-cut.result (has_account before)
    c.look-cut.ensures.looked.snapshot c.look-cut.ensures.looked.loads c.requires.helping c.decide_next-turn.new.seat.knows d next c.known-3.ensures.seat
    c.decide_next-turn.ensures.board.book c.decide_next-turn.result answer

pub returns-clause-answers : goal.returns-clause-answers
returns-clause-answers c = (turned c).answers

pub returns-clause-in_round : goal.returns-clause-in_round
returns-clause-in_round c = (turned c).in_round

pub returns-clause-placed : goal.returns-clause-placed
returns-clause-placed c = (turned c).placed

pub returns-clause-after_start : goal.returns-clause-after_start
returns-clause-after_start c = (turned c).after_start

pub returns-clause-helping : goal.returns-clause-helping
returns-clause-helping c = (turned c).helping

pub returns-clause-rounds_more : goal.returns-clause-rounds_more
returns-clause-rounds_more c = (turned c).rounds_more

pub returns-clause-overtaken : goal.returns-clause-overtaken
returns-clause-overtaken c = (turned c).overtaken

pub returns-clause-heard : goal.returns-clause-heard
returns-clause-heard c = (turned c).heard

pub returns-clause-free : goal.returns-clause-free
returns-clause-free c = (turned c).free

pub returns-clause-begins : goal.returns-clause-begins
returns-clause-begins c = (turned c).begins

pub returns-clause-process : goal.returns-clause-process
returns-clause-process c = (turned c).process

pub returns-clause-decides_more : goal.returns-clause-decides_more
returns-clause-decides_more c = λ more. (turned c).decides

pub returns-clause-decides_few : goal.returns-clause-decides_few
returns-clause-decides_few c = omega (arith, (turned c).decides)

pub returns-clause-decides_at_most : goal.returns-clause-decides_at_most
returns-clause-decides_at_most c = omega (arith, (turned c).decides)

pub returns-clause-decides_elsewhere : goal.returns-clause-decides_elsewhere
returns-clause-decides_elsewhere c = (turned c).elsewhere

pub returns-clause-published : goal.returns-clause-published
returns-clause-published c = omega (arith, (turned c).published)

-- the own count is the last that the totals have caught up
own_count : (c : After-known-3)
    → get_or c.look-cut.result c.decide_next-turn.new.seat.knows.first 0 ≡ (own_part c.args.seat.now.knows).published
own_count c = ap (λ p. get_or c.look-cut.result p 0) (turned c).process ∙ c.look-cut.ensures.looked.snapshot.own

within : (c : After-known-3) → c.decide_next-turn.new.seat.knows.first < length c.look-cut.result
within c =
    let b : BookTerms = c.args.board.now.book in
    let w : Knowledge = c.look-cut.new.seat.knows in
    omega (
      arith,
      c.known-3.ensures.seat.known,
      ap (λ (t : BookTerms). t.processes) c.decide_next-turn.ensures.board.book,
      length-IsCut b.processes c.look-cut.result w.seen c.look-cut.ensures.looked.snapshot.cut,
    )

counted_more : (c : After-known-3)
    → sum c.decide_next-turn.new.totals.upto ≡ sum c.look-cut.result + 1
counted_more c =
    let z : Knowledge = c.decide_next-turn.new.seat.knows in
    let published = (turned c).published in
    let own = own_count c in
    omega (
      arith,
      ap sum c.decide_next-turn.ensures.upto,
      sum-caught c.look-cut.result z.first (own_part z).published (within c) (omega (arith, own, published)),
      own,
      published,
    )

pub returns-clause-more : goal.returns-clause-more
returns-clause-more c = omega (arith, counted_more c, (turned c).published, c.look-cut.ensures.looked.more)

pub returns-clause-own_counted : goal.returns-clause-own_counted
returns-clause-own_counted c =
    let z : Knowledge = c.decide_next-turn.new.seat.knows in
    ap (λ upto. get_or upto z.first 0) c.decide_next-turn.ensures.upto
    ∙ get_or-set_same c.look-cut.result z.first (own_part z).published 0 (within c)

pub returns-clause-steps : goal.returns-clause-steps
returns-clause-steps c =
    let h : HelpingTerms = c.args.self.now in
    let all = turned c in
    let made : decides_made h.account c.args.seat.now.knows c.decide_next-turn.new.seat.knows ≡ 1 = omega (arith, all.decides) in
    omega (
      arith,
      c.look-cut.ensures.steps,
      c.decide_next-turn.ensures.steps,
      ap (λ k. round_steps c.args.board.now.book.processes * k) made,
      all.published,
      counted_more c,
      c.look-cut.ensures.looked.more,
    )

pub returns-clause-risen : goal.returns-clause-risen
returns-clause-risen c = omega (arith, c.look-cut.ensures.risen, c.decide_next-turn.ensures.steps)

pub returns-clause-exchanges : goal.returns-clause-exchanges
returns-clause-exchanges c = omega (arith, c.look-cut.ensures.exchanges, c.decide_next-turn.ensures.exchanges, (turned c).decides)
