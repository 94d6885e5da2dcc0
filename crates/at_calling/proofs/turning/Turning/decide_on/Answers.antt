use Rattle.std.proofs.Common.{◌↔◌, IfSome, IsSome, Option, None, Some, true, refl, ◌≡◌, ◌≢◌, ℕ, ◌+◌, ◌-◌, ◌*◌, ◌<◌, ◌≤◌, List, length, false, sym, ap, subst, ◌∙◌, arith}
use Rattle.at_calling.proofs.Prelude.{sum, Decision, BookTerms, prefix_of, rounds, Publication, own_part, IsKept, SeatTerms, Knowledge, HasCounted, TotalSums, HasAccount, HasAccount-IsSeat, AnswersRound, DecidesNext, HelpingTerms, IsHelping, decides_made, round_steps, HelpTurn, Settled, More, HasLooked, DecidingTerms, round_in, IsDecidingThen, IsTurnStageSo, IsTurningSo, TakesHelpStep, IsWithin, IsWithinOneMore, CountsOthersStill, LeavesTotals, counted_so_far, IsHelpOf, LeavesSeat, TurningTerms, WaitsOn, help_steps, help_turns_left, Decide}
use Rattle.at_calling.proofs.TurningSteps.{TakesHelpStep-decide}
use Rattle.at_calling.proofs.TurningLaws.{IsDecidingThen-step, counting-step, counts_others-step, published-step, IsHelpOf-other, IsHelpOf-own, LeavesSeat-decided, LeavesTotals-decided, WaitsOn-other, help_turns_in-le}
use Rattle.at_calling.specs.contracts.turning.Turning.{the_view}
use Rattle.at_calling.proofs.turning.Turning.decide_on.Goals.{After-self, After-turn-decided}
use Rattle.at_calling.proofs.turning.Turning.decide_on.Goals as goal

-- the board's book is that of the start
book : (c : After-self) → c.self.inside.start.value.knows.book ≡ c.args.board.now.book
book c =
    sym c.self.invariant.book
    ∙ (ap (λ (t : TurningTerms). t.mark.book) c.self.view_is ∙ (ap (λ (v : Knowledge). v.book) (sym c.requires.mark) ∙ c.requires.board.book))

-- the request is the one that the turn of helping was started with
helping : (c : After-self) → c.self.inside.helping.value ≡ c.args.helping.now
helping c = ap (λ (t : TurningTerms). t.helping) c.self.view_is ∙ sym c.requires.helping

-- and it waited then
waits : (c : After-self) → IsHelping c.args.board.now.book c.self.inside.start.value.knows c.args.helping.now
waits c =
    let v : Knowledge = c.self.inside.start.value.knows in
    subst (λ (b : BookTerms). IsHelping b v c.args.helping.now) (book c) (subst (IsHelping v.book v) (helping c) c.self.invariant.helping)

-- the seat had something on the account
has_account : (c : After-self) → HasAccount c.self.inside.start.value.knows c.args.helping.now.account
has_account c =
    let v : Knowledge = c.self.inside.start.value.knows in
    HasAccount-IsSeat v v.first (own_part v).published c.args.helping.now.account c.self.invariant.kept
    (subst (λ (b : BookTerms). c.args.helping.now.account < length b.accounts) (sym (book c)) (waits c).asked.slot_in.account_in)

-- some turn of the round was left
some : (c : After-turn-decided) → 0 < c.in-Decide.deciding.left
some c =
    subst (λ s. 0 < help_turns_left c.args.board.now.book.processes s) (sym (ap (λ (t : TurningTerms). t.stage) c.self.view_is) ∙ c.in-Decide.is) c.requires.left

-- the round goes on
decides : (c : After-turn-decided) → IsDecidingThen (the_view c.self.inside) c.in-Decide.deciding
decides c = subst (IsTurnStageSo (the_view c.self.inside)) c.in-Decide.is c.self.invariant.stage_so (some c)

-- the seat has something on the account still
has_account_now : (c : After-turn-decided) → HasAccount c.self.inside.mark.value.knows c.self.inside.helping.value.account
has_account_now c =
    let start = (goal.at.After-turn-decided c).After-self in
    let v : Knowledge = c.args.seat.now.knows in
    let account_in = subst (λ (b : BookTerms). c.args.helping.now.account < length b.accounts) (sym c.requires.board.book) (waits start).asked.slot_in.account_in in
    let here : HasAccount v c.args.helping.now.account =
    HasAccount-IsSeat v v.first (own_part v).published c.args.helping.now.account c.known.ensures.seat account_in in
    subst (λ (u : Knowledge). HasAccount u c.self.inside.helping.value.account) (c.requires.mark ∙ sym (ap (λ (t : TurningTerms). t.mark) c.self.view_is))
    (subst (λ (h : HelpingTerms). HasAccount v h.account) (sym (helping start)) here)

pub invariant_of-self : goal.invariant_of-self
invariant_of-self c =
    let at = (goal.at.invariant_of-self c).After-turn-decided in
    let start = (goal.at.After-turn-decided at).After-self in
    let b : BookTerms = c.args.board.now.book in
    let t : TurningTerms = the_view c.self.inside in
    let w : Knowledge = c.turn-decided.new.seat.knows in
    let e : DecidingTerms = c.turn-decided.new.self in
    let told = c.turn-decided.ensures in
    let kept = c.self.invariant in
    let before : c.args.totals.now ≡ t.totals = c.requires.totals ∙ sym (ap (λ (s : TurningTerms). s.totals) c.self.view_is) in
    let here : IsTurningSo (record t { stage = Decide e; mark = w; totals = c.turn-decided.new.totals }) = record {
      kept = kept.kept;
      book = told.board.book ∙ sym (book start);
      helping = kept.helping;
      stage_so = λ left.
          IsDecidingThen-step b t c.in-Decide.deciding e w (book start) (decides at) (has_account_now at) (some at) told.after told.left told.step
          c.turn-decided.new.totals (told.waits left ∙ before) left;
    } in
    subst (λ (s : SeatTerms). IsTurningSo (record t { stage = Decide e; mark = s.knows; totals = c.of-2.result.value })) (sym c.of.ensures)
    (subst (λ (s : TotalSums). IsTurningSo (record t { stage = Decide e; mark = w; totals = s })) (sym c.of-2.ensures) here)

-- the look behind the round
looked_then : (c : After-turn-decided)
    → HasLooked c.args.board.now.book c.self.inside.start.value.knows c.in-Decide.deciding.start c.self.inside.was.value c.self.inside.totals.value
    c.in-Decide.deciding.cut
looked_then c =
    let d : DecidingTerms = c.in-Decide.deciding in
    let i = c.self.inside in
    subst (λ (b : BookTerms). HasLooked b i.start.value.knows d.start i.was.value i.totals.value d.cut) (book (goal.at.After-turn-decided c).After-self) (decides c).looked_at

-- what the step leaves
stepped : (c : After-turn-decided) (seen : List Publication) (mark : SeatTerms) → mark ≡ c.turn-decided.new.seat → (totals : TotalSums)
    → totals ≡ c.turn-decided.new.totals → (answer : Option HelpTurn)
    → IsWithinOneMore (help_steps c.args.board.now.book.processes
    (decides_made c.self.inside.helping.value.account c.self.inside.start.value.knows c.turn-decided.new.seat.knows))
    (counted_so_far c.self.inside.start.value.knows c.turn-decided.new.seat.knows c.self.inside.was.value.upto c.turn-decided.new.totals.upto)
    (c.self.inside.looked + (round_steps c.turn-decided.new.self.start.book.processes - c.turn-decided.new.self.left))
    → CountsOthersStill c.self.inside.start.value.knows c.turn-decided.new.seat.knows c.self.inside.was.value c.turn-decided.new.totals
    → (own_part c.self.inside.start.value.knows).published ≤ (own_part c.turn-decided.new.seat.knows).published
    → (IsSome answer ↔ (c.turn-decided.new.self.left ≡ 0))
    → IfSome answer (IsHelpOf c.args.board.now.book c.self.inside.start.value.knows c.turn-decided.new.seat.knows c.self.inside.helping.value)
    → IfSome answer (λ h. h ≡ More
    → WaitsOn c.args.board.now.book c.self.inside.start.value.knows c.turn-decided.new.seat.knows c.self.inside.helping.value)
    → IfSome answer (λ h. LeavesSeat c.self.inside.start.value.knows c.turn-decided.new.seat.knows c.self.inside.helping.value.account)
    → IfSome answer (λ h. HasCounted c.turn-decided.new.totals c.args.board.now.book c.turn-decided.new.seat.knows.seen)
    → IfSome answer (λ h. LeavesTotals c.args.board.now.book c.self.inside.start.value.knows c.turn-decided.new.seat.knows c.self.inside.was.value
    c.turn-decided.new.totals (round_steps c.args.board.now.book.processes
    * decides_made c.self.inside.helping.value.account c.self.inside.start.value.knows c.turn-decided.new.seat.knows)
    (c.self.inside.looked + (round_steps c.turn-decided.new.self.start.book.processes - c.turn-decided.new.self.left)))
    → TakesHelpStep c.args.board.now.book seen c.args.self.now
    (record (the_view c.self.inside) { stage = Decide c.turn-decided.new.self; mark = mark.knows; totals = totals }) c.args.seat.now
    c.turn-decided.new.seat c.turn-decided.new.totals answer
stepped c seen mark mark_is totals totals_are answer counting counts_others more ends help waits seat counted leaves =
    let b : BookTerms = c.args.board.now.book in
    let t : TurningTerms = the_view c.self.inside in
    let e : DecidingTerms = c.turn-decided.new.self in
    let after : SeatTerms = c.turn-decided.new.seat in
    let now : TotalSums = c.turn-decided.new.totals in
    let told = c.turn-decided.ensures in
    subst (λ (s : TurningTerms). TakesHelpStep b seen s (record t { stage = Decide e; mark = mark.knows; totals = totals }) c.args.seat.now after now answer)
    c.self.view_is
    (TakesHelpStep-decide b seen t c.self.invariant (book (goal.at.After-turn-decided c).After-self) c.args.seat.now after now mark.knows
    (ap (λ (m : SeatTerms). m.knows) mark_is) totals totals_are c.in-Decide.deciding e c.in-Decide.is (some c) (has_account_now c)
    (c.requires.mark ∙ sym (ap (λ (s : TurningTerms). s.mark) c.self.view_is)) told.after told.left told.step answer counting counts_others more ends
    help waits seat counted leaves)

-- some is left, where it isn't that none is
left_on : (n : ℕ) → n ≢ 0 → 0 < n
left_on n some = omega (arith, some)

pub returns-in_err-decision-clause-stepped : goal.returns-in_err-decision-clause-stepped
returns-in_err-decision-clause-stepped c = λ seen.
    let at = (goal.at.returns-in_err-decision-clause-stepped c).After-turn-decided in
    let start = (goal.at.After-turn-decided at).After-self in
    let b : BookTerms = c.args.board.now.book in
    let t : TurningTerms = the_view c.self.inside in
    let d : DecidingTerms = c.in-Decide.deciding in
    let e : DecidingTerms = c.turn-decided.new.self in
    let w : Knowledge = c.turn-decided.new.seat.knows in
    let now : TotalSums = c.turn-decided.new.totals in
    let told = c.turn-decided.ensures in
    let goes_on : 0 < e.left = left_on e.left (λ none. let wrong : false ≡ true = c.in_err-decision.ensures.ends.1 none in absurd (cc wrong)) in
    let same : now ≡ t.totals = told.waits goes_on ∙ (c.requires.totals ∙ sym (ap (λ (s : TurningTerms). s.totals) c.self.view_is)) in
    subst (TakesHelpStep c.args.board.now.book seen c.args.self.now
    (record (the_view c.self.inside) { stage = Decide c.turn-decided.new.self; mark = c.of.result.value.knows; totals = c.of-2.result.value })
    c.args.seat.now c.turn-decided.new.seat c.turn-decided.new.totals) (sym c.from_residual.ensures)
    (stepped at seen c.of.result.value c.of.ensures c.of-2.result.value c.of-2.ensures None
    (counting-step b t d e w (book start) (decides at) (has_account_now at) (some at) told.after told.left told.step goes_on now same)
    (counts_others-step b t d e w (book start) (decides at) (has_account_now at) (some at) told.after told.left told.step goes_on now same)
    (published-step b t d e w (book start) (decides at) (has_account_now at) (some at) told.after told.left told.step goes_on) (
      λ some. let wrong : false ≡ true = some in absurd (cc wrong),
      λ none. let wrong : false ≡ true = c.in_err-decision.ensures.ends.1 none in absurd (cc wrong),
    ) tt tt tt tt tt)

-- what an answer leaves, whichever it is
module _ (b : BookTerms) (v w x : Knowledge) (was now : TotalSums) (cut : List ℕ) (h : HelpingTerms) (has : HasAccount v h.account)
    (looked_at : HasLooked b v w was now cut) (waiting : IsHelping b v h) (d : Decision) (next : DecidesNext b w x h cut d) (kept : IsKept x)
    (same : x.book ≡ b) where
  helps : (round : ℕ) (answer : HelpTurn) → round ≡ rounds h.account (prefix_of cut w.seen) → AnswersRound h round d answer → IsHelpOf b v x h answer
  helps round (Settled r) is (own, so) = IsHelpOf-own b v w was now cut h has looked_at waiting x d next round r kept.agrees is own so
  helps round More is other = IsHelpOf-other b v w was now cut h has looked_at waiting x d next other

  waits_on : (round : ℕ) (answer : HelpTurn) → AnswersRound h round d answer → answer ≡ More → WaitsOn b v x h
  waits_on round (Settled r) after more = absurd (cc more)
  waits_on round More other more = WaitsOn-other b v w was now cut h has looked_at waiting x d next kept same other

pub returns-clause-stepped : goal.returns-clause-stepped
returns-clause-stepped c = λ seen.
    let at = (goal.at.returns-clause-stepped c).After-turn-decided in
    let start = (goal.at.After-turn-decided at).After-self in
    let b : BookTerms = c.args.board.now.book in
    let t : TurningTerms = the_view c.self.inside in
    let d : DecidingTerms = c.in-Decide.deciding in
    let e : DecidingTerms = c.turn-decided.new.self in
    let w : Knowledge = c.turn-decided.new.seat.knows in
    let now : TotalSums = c.turn-decided.new.totals in
    let told = c.turn-decided.ensures in
    let last = c.in_ok-decision.ensures in
    let decision = c.in_ok-decision.decision in
    let answer = c.answer.result in
    let has = subst (λ (h : HelpingTerms). HasAccount t.start h.account) (sym (helping start)) (has_account start) in
    let waiting = subst (IsHelping b t.start) (sym (helping start)) (waits start) in
    let next : DecidesNext b d.start w t.helping d.cut decision =
    subst (λ (h : HelpingTerms). DecidesNext b d.start w h d.cut decision) (decides at).helping_is last.decided in
    let after : AnswersRound t.helping c.round.result decision answer =
    subst (λ (h : HelpingTerms). AnswersRound h c.round.result decision answer) (sym (helping start)) c.answer.ensures in
    let round : c.round.result ≡ rounds t.helping.account (prefix_of d.cut d.start.seen) =
    c.round.ensures ∙ (ap (λ (k : DecidingTerms). round_in k) told.after
    ∙ ap (λ (h : HelpingTerms). rounds h.account (prefix_of d.cut d.start.seen)) (decides at).helping_is) in
    let turns : ℕ = t.looked + (round_steps e.start.book.processes - e.left) in
    let known : t.start.first < b.processes = subst (λ (k : BookTerms). t.start.first < k.processes) (book start) c.self.invariant.kept.known in
    let few : IsWithin b.processes t.was (sum d.cut) t.looked =
    subst (λ (k : BookTerms). IsWithin k.processes t.was (sum d.cut) t.looked) (book start) (decides at).few in
    let seat_left = LeavesSeat-decided b t.start d.start t.was t.totals d.cut t.helping has (looked_then at) waiting w decision next in
    let leaves = LeavesTotals-decided b t.start d.start t.was t.totals d.cut t.helping has (looked_then at) waiting w decision next now t.looked turns known
    last.upto few (help_turns_in-le b t d e w (book start) (decides at) (has_account_now at) (some at) told.after told.left told.step) in
    stepped at seen c.of.result.value c.of.ensures c.of-2.result.value c.of-2.ensures (Some answer) (omega (arith, leaves.few)) leaves.more seat_left.published
    (λ some. last.ends.0 refl, λ none. refl)
    (helps b t.start d.start w t.was t.totals d.cut t.helping has (looked_then at) waiting decision next c.known-2.ensures.seat told.board.book
    c.round.result answer round after)
    (waits_on b t.start d.start w t.was t.totals d.cut t.helping has (looked_then at) waiting decision next c.known-2.ensures.seat told.board.book
    c.round.result answer after)
    seat_left
    last.counted leaves
