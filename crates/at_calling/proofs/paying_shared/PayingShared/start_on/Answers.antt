use Rattle.std.proofs.Common.{None, ◌≡◌, ℕ, ◌+◌, ◌*◌, ◌<◌, ◌≤◌, List, refl, sym, ap, subst, ◌∙◌, arith}
use Rattle.at_calling.proofs.Prelude.{slots_of, BookTerms, account_of, TargetPair, IsPrefix-refl, IsPrefix, snapshot_steps, RECORD_WORDS, IsHistory, SeatTerms, Knowledge, HasCounted, TotalSums, HelpingTerms, decides_made, decides_on, asking_steps, IsWithinOneMore, TakesShareTurn, HasCountedSo, IsPayingSharedSo, IsShareStageSo, IsStartingFirst, FollowsShare, MakesShareStep, PayingSharedTerms, share_exchanges_at, share_steps, share_turns_left, share_turns_most, unless_settled, unless_starting, LeavesTotals, counted_so_far, newly_seen, IsStartOf, StartingTerms, start_turns_made, TurningTerms, help_turns_left, ShareStage, Help, Start}
use Rattle.at_calling.proofs.PayingSharedLaws.{decides_made-IsStartOf, HasCountedSo-start, HasHelped-start, IsHelpingThen-begun}
use Rattle.at_calling.proofs.PayingSharedTurns.{share_next, TakesShareTurn-on}
use Rattle.at_calling.specs.contracts.paying_shared.PayingShared.{the_view}
use Rattle.at_calling.proofs.paying_shared.PayingShared.start_on.Goals.{After-known, After-self, After-start-turning, After-turn-started}
use Rattle.at_calling.proofs.paying_shared.PayingShared.start_on.Goals as goal

-- the board's book is that of the start
book : (c : After-self) → c.args.board.now.book ≡ c.self.inside.start.value.knows.book
book c =
    sym c.requires.board.book
    ∙ (ap (λ (v : Knowledge). v.book) (c.requires.mark ∙ sym (ap (λ (t : PayingSharedTerms). t.mark) c.self.view_is)) ∙ c.self.invariant.book)

-- the start goes on
starts : (c : After-turn-started) → IsStartingFirst (the_view c.self.inside) c.in-Start.starting
starts c = subst (IsShareStageSo (the_view c.self.inside)) c.in-Start.is c.self.invariant.stage_so

-- the request that waits now is the payment's
waits : (c : After-start-turning)
    → IsStartOf c.self.inside.start.value.knows.book c.self.inside.start.value.knows c.turn-started.new.seat.knows c.self.inside.account c.self.inside.targets.value
    c.in_ok-helping.helping
waits c =
    let at = (goal.at.After-start-turning c).After-turn-started in
    let b : BookTerms = c.args.board.now.book in
    let t : PayingSharedTerms = the_view c.self.inside in
    let s : StartingTerms = c.in-Start.starting in
    let w : Knowledge = c.turn-started.new.seat.knows in
    let h : HelpingTerms = c.in_ok-helping.helping in
    let so = starts at in
    subst (λ (k : BookTerms). IsStartOf k t.start w t.account t.targets h) (book (goal.at.After-turn-started at).After-self)
    (subst (λ (p : Knowledge). IsStartOf b p w t.account t.targets h) so.start_is
    (subst (λ n. IsStartOf b s.start w n t.targets h) so.account_is
    (subst (λ (x : List TargetPair). IsStartOf b s.start w s.account x h) so.targets_are c.in_ok-helping.ensures.answer)))

pub start-turning-requires-clause-counted : goal.start-turning-requires-clause-counted
start-turning-requires-clause-counted c =
    c.turn-started.ensures.counted c.turn-started.new.seat.knows.seen (IsPrefix-refl c.turn-started.new.seat.knows.seen)

pub invariant_of-self-2 : goal.invariant_of-self-2
invariant_of-self-2 c =
    let at = (goal.at.invariant_of-self-2 c).After-turn-started in
    let same = book (goal.at.After-turn-started at).After-self in
    let b : BookTerms = c.args.board.now.book in
    let i = c.self.inside in
    let t : PayingSharedTerms = the_view i in
    let v : Knowledge = i.start.value.knows in
    let s : StartingTerms = c.in-Start.starting in
    let w : Knowledge = c.turn-started.new.seat.knows in
    let now : TotalSums = c.turn-started.new.totals in
    let turns : ℕ = start_turns_made c.turn-started.new.self in
    let h : HelpingTerms = c.in_ok-helping.helping in
    let u : TurningTerms = c.start-turning.result in
    let so = starts at in
    let told = c.in_ok-helping.ensures in
    let begun = c.start-turning.ensures in
    let steps : BookTerms → ℕ → ℕ = λ k a. asking_steps (slots_of (account_of k a)) in
    let start : IsStartOf v.book v w t.account t.targets h = waits (goal.at.invariant_of-self-2 c).After-start-turning in
    let leaves : LeavesTotals v.book v w t.was now (steps v.book t.account) turns =
    subst (λ (k : BookTerms). LeavesTotals k v w t.was now (steps k t.account) turns) same
    (subst (λ (p : Knowledge). LeavesTotals b p w t.was now (steps b t.account) turns) so.start_is
    (subst (λ (x : TotalSums). LeavesTotals b s.start w x now (steps b t.account) turns) so.was_is
    (subst (λ n. LeavesTotals b s.start w s.was now (steps b n) turns) so.account_is told.leaves))) in
    let book_now : w.book ≡ v.book = c.turn-started.ensures.board.book ∙ same in
    let history : IsHistory v.book w.seen = subst (λ (k : BookTerms). IsHistory k w.seen) book_now c.known.ensures.seat.history in
    let counted : HasCounted now v.book w.seen =
    subst (λ (k : BookTerms). HasCounted now k w.seen) same (told.counted w.seen (IsPrefix-refl w.seen)) in
    let all : turns ≡ i.turns + 1 = omega (arith, so.turns_are, c.turn-started.ensures.turns) in
    let counted_so : HasCountedSo v.book v w t.was now t.account (i.turns + 1) =
    subst (HasCountedSo v.book v w t.was now t.account) all
    (HasCountedSo-start v.book v w t.account t.targets h start t.was now turns counted history leaves) in
    let stage : ShareStage = Help h u in
    let here : IsPayingSharedSo (record t { stage = stage; turns = i.turns + 1; mark = w; totals = now }) = record {
      kept = c.self.invariant.kept;
      book = book_now;
      settled = c.self.invariant.settled;
      slot = c.self.invariant.slot;
      slot_in = c.self.invariant.slot_in;
      stage_so = IsHelpingThen-begun (record t { stage = stage; turns = i.turns + 1; mark = w; totals = now }) h u begun.helping begun.start begun.mark begun.was
          begun.totals begun.turns (subst (λ (k : BookTerms). 0 < help_turns_left k.processes u.stage) same begun.left)
          (HasHelped-start v.book v w t.account t.targets h start c.known.ensures.seat.own) counted_so;
    } in
    subst (λ (x : ShareStage). IsPayingSharedSo (record t { stage = x; turns = i.turns + 1; mark = c.of.result.value.knows; totals = c.of-2.result.value }))
    (sym c.become_next.ensures)
    (subst (λ (x : SeatTerms). IsPayingSharedSo (record t { stage = stage; turns = i.turns + 1; mark = x.knows; totals = c.of-2.result.value })) (sym c.of.ensures)
    (subst (λ (x : TotalSums). IsPayingSharedSo (record t { stage = stage; turns = i.turns + 1; mark = w; totals = x })) (sym c.of-2.ensures) here))

-- one turn more, and few so far
within : (c : After-turn-started) → c.self.inside.turns + 1
    ≤ share_turns_most c.args.board.now.book c.self.inside.account
    (newly_seen c.self.inside.start.value.knows c.turn-started.new.seat.knows c.self.inside.was.value.upto)
within c =
    let b : BookTerms = c.args.board.now.book in
    let i = c.self.inside in
    let s : StartingTerms = c.turn-started.new.self in
    let w : Knowledge = c.turn-started.new.seat.knows in
    let old : StartingTerms = c.in-Start.starting in
    let so = starts c in
    let told = c.turn-started.ensures in
    let most : ℕ → ℕ → ℕ = λ a records. snapshot_steps b.processes + asking_steps (slots_of (account_of b a)) + RECORD_WORDS * records in
    let so_far : start_turns_made s ≤ most i.account (newly_seen i.start.value.knows w i.was.value.upto) =
    subst (λ (v : Knowledge). start_turns_made s ≤ most i.account (newly_seen v w i.was.value.upto)) so.start_is
    (subst (λ (x : TotalSums). start_turns_made s ≤ most i.account (newly_seen old.start w x.upto)) so.was_is
    (subst (λ n. start_turns_made s ≤ most n (newly_seen old.start w old.was.upto)) (told.account ∙ so.account_is) told.so_far)) in
    omega (arith, so_far, so.turns_are, told.turns)

-- with those that were counted, and one more
counting : (c : After-turn-started) → IsWithinOneMore (share_steps c.args.board.now.book c.self.inside.account)
    (counted_so_far c.self.inside.start.value.knows c.turn-started.new.seat.knows c.self.inside.was.value.upto c.turn-started.new.totals.upto)
    (c.self.inside.turns + 1)
counting c =
    let b : BookTerms = c.args.board.now.book in
    let i = c.self.inside in
    let s : StartingTerms = c.turn-started.new.self in
    let w : Knowledge = c.turn-started.new.seat.knows in
    let now : TotalSums = c.turn-started.new.totals in
    let old : StartingTerms = c.in-Start.starting in
    let so = starts c in
    let told = c.turn-started.ensures in
    let most : ℕ → ℕ = λ a. snapshot_steps b.processes + asking_steps (slots_of (account_of b a)) in
    let turns : ℕ = start_turns_made s in
    let so_far : IsWithinOneMore (most i.account) (counted_so_far i.start.value.knows w i.was.value.upto now.upto) turns =
    subst (λ (v : Knowledge). IsWithinOneMore (most i.account) (counted_so_far v w i.was.value.upto now.upto) turns) so.start_is
    (subst (λ (x : TotalSums). IsWithinOneMore (most i.account) (counted_so_far old.start w x.upto now.upto) turns) so.was_is
    (subst (λ n. IsWithinOneMore (most n) (counted_so_far old.start w old.was.upto now.upto) turns) so.account_is told.counting)) in
    omega (arith, so_far, so.turns_are, told.turns)

-- nothing is decided
none_decided : (c : After-turn-started) → decides_made c.self.inside.account c.self.inside.start.value.knows c.turn-started.new.seat.knows ≡ 0
none_decided c =
    let w : Knowledge = c.turn-started.new.seat.knows in
    let so = starts c in
    let same = c.turn-started.ensures.undecided in
    let here : decides_on w c.self.inside.account ≡ decides_on c.self.inside.start.value.knows c.self.inside.account =
    subst (λ n. decides_on w n ≡ decides_on c.self.inside.start.value.knows n) so.account_is
    (subst (λ (v : Knowledge). decides_on w c.in-Start.starting.account ≡ decides_on v c.in-Start.starting.account) so.start_is same) in
    omega (arith, here)

-- what the turn leaves, with whichever stage next
turned : (c : After-known) (mark : SeatTerms) → mark ≡ c.turn-started.new.seat → (totals : TotalSums) → totals ≡ c.turn-started.new.totals
    → (stage : ShareStage) → ((n : ℕ) → unless_settled n stage ≡ n)
    → unless_starting (decides_made c.self.inside.account c.self.inside.start.value.knows mark.knows) stage ≡ 0
    → FollowsShare c.args.board.now.book (Start c.in-Start.starting) stage
    → TakesShareTurn c.args.board.now.book c.args.overview.now.seen c.args.self.now (share_next (the_view c.self.inside) stage mark.knows totals) c.args.seat.now
    c.turn-started.new.seat c.turn-started.new.totals None
turned c mark mark_is totals totals_are stage goes decides follows =
    let at = (goal.at.After-known c).After-turn-started in
    let b : BookTerms = c.args.board.now.book in
    let t : PayingSharedTerms = the_view c.self.inside in
    let before : SeatTerms = c.args.seat.now in
    let after : SeatTerms = c.turn-started.new.seat in
    let now : TotalSums = c.turn-started.new.totals in
    let few = within at in
    subst (λ (x : PayingSharedTerms). TakesShareTurn b c.args.overview.now.seen x (share_next t stage mark.knows totals) before after now None) c.self.view_is
    (TakesShareTurn-on b c.args.overview.now.seen t before after now mark.knows (ap (λ (m : SeatTerms). m.knows) mark_is) totals totals_are
    (subst (λ (x : PayingSharedTerms). 0 < share_turns_left b x) (sym c.self.view_is) c.requires.left)
    (subst (λ (k : ShareStage). MakesShareStep b c.args.overview.now.seen k before after now) (sym c.in-Start.is) c.turn-started.ensures.step) few (counting at)
    (subst (λ (v : Knowledge). IsPrefix v.seen after.knows.seen) (starts at).start_is c.turn-started.ensures.begins) stage goes
    (omega (arith, few, c.known.ensures.seat.history.few))
    (omega (arith, decides, ap (unless_starting (decides_made t.account t.start t.mark)) c.in-Start.is, ap share_exchanges_at c.in-Start.is))
    (omega (arith, decides, none_decided at)) (omega (arith, decides))
    (subst (λ (k : ShareStage). FollowsShare b k stage) (sym c.in-Start.is) follows))

pub returns-in_err-helping-clause-turned : goal.returns-in_err-helping-clause-turned
returns-in_err-helping-clause-turned c =
    let known = (goal.at.returns-in_err-helping-clause-turned c).After-known in
    let next : ShareStage = Start c.turn-started.new.self in
    subst (TakesShareTurn c.args.board.now.book c.args.overview.now.seen c.args.self.now (share_next (the_view c.self.inside) next c.of.result.value.knows c.of-2.result.value)
    c.args.seat.now c.turn-started.new.seat c.turn-started.new.totals) (sym c.from_residual.ensures)
    (turned known c.of.result.value c.of.ensures c.of-2.result.value c.of-2.ensures next (λ n. refl) refl c.turn-started.ensures.follows)

pub returns-clause-turned : goal.returns-clause-turned
returns-clause-turned c =
    let start = (goal.at.returns-clause-turned c).After-start-turning in
    let known = (goal.at.After-start-turning start).After-known in
    let t : PayingSharedTerms = the_view c.self.inside in
    let w : Knowledge = c.turn-started.new.seat.knows in
    let h : HelpingTerms = c.in_ok-helping.helping in
    subst (λ (k : ShareStage). TakesShareTurn c.args.board.now.book c.args.overview.now.seen c.args.self.now (share_next t k c.of.result.value.knows c.of-2.result.value)
    c.args.seat.now c.turn-started.new.seat c.turn-started.new.totals None) (sym c.become_next.ensures)
    (turned known c.of.result.value c.of.ensures c.of-2.result.value c.of-2.ensures (Help h c.start-turning.result) (λ n. refl)
    (ap (λ (m : SeatTerms). decides_made t.account t.start m.knows) c.of.ensures
    ∙ decides_made-IsStartOf t.start.book t.start w t.account t.targets h (waits start)) (
      (c.turn-started.new.self, c.turn-started.ensures.account, c.turn-started.ensures.follows, c.in_ok-helping.ensures.ends.0 refl),
      c.start-turning.ensures.first,
    ))
