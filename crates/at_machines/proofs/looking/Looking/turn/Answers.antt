use Rattle.std.proofs.Common.{◌≡◌, ◌+◌, ◌≤◌, ℕ, List, length, IfSome, sym, ap, subst, ◌∙◌, arith}
use Rattle.at_machines.proofs.Prelude.{common_steps, sum, Covers, BookTerms, IsPrefix-refl, SeatTerms, Knowledge, HasRecords, StaysCounted, TotalSums, Covers-IsSnapshot, HasRecords-IsCut, HasLooked, HasLoaded, snapshot_steps, IsLookingSo, IsSnapped, FollowsLook, LookingTerms, MakesLookLoad, MayFollow, NextLoad, look_turns_left, LookStage, CatchUp, Snap}
use Rattle.at_machines.proofs.Laws.Snapshots.{snapshot_steps-le}
use Rattle.at_machines.proofs.LookingLaws.{HasLooked-snapped, IsLookingSo-caught, StaysCounted-HasLoaded, few-IsSnapped, sum-IsSnapped}
use Rattle.at_machines.proofs.looking.Looking.turn.Goals.{After-copy, After-turn-caught, After-turn-snapped, then-is_ended, else-is_ended}
use Rattle.at_machines.proofs.looking.Looking.turn.Goals as goal

-- what the turn goes on with
snaps : (c : After-turn-snapped) → c.args.self.now.stage ≡ Snap c.in-Snap.snapping
snaps c = sym (ap (λ (s : LookingTerms). s.stage) c.self.view_is) ∙ c.in-Snap.is

-- the look before it
before : (c : After-turn-snapped)
    → IsLookingSo c.args.self.now.start c.args.self.now.mark c.args.self.now.was c.args.self.now.totals c.args.self.now.turns (Snap c.in-Snap.snapping)
before c =
    let s : LookingTerms = c.args.self.now in
    subst (IsLookingSo s.start s.mark s.was s.totals s.turns) (snaps c)
    (subst (λ (t : LookingTerms). IsLookingSo t.start t.mark t.was t.totals t.turns t.stage) c.self.view_is c.self.invariant)

-- its seat is the board's
book : (c : After-turn-snapped) → c.args.self.now.start.book ≡ c.args.board.now.book
book c = sym (before c).book ∙ (ap (λ (v : Knowledge). v.book) (sym c.requires.mark) ∙ c.requires.board.book)

-- the totals are those of the start
totals : (c : After-turn-snapped) → c.args.self.now.was ≡ c.args.totals.now
totals c = sym (before c).stage_so.totals_are ∙ sym c.requires.totals

loads : (c : After-turn-snapped) → HasLoaded c.args.self.now.start.book c.args.self.now.start c.turn-snapped.new.seat.knows
loads c =
    let w : Knowledge = c.turn-snapped.new.seat.knows in
    subst (λ (b : BookTerms). HasLoaded b c.args.self.now.start w) (sym (book c))
    (subst (λ (v : Knowledge). HasLoaded c.args.board.now.book v w) (before c).stage_so.start_is c.turn-snapped.ensures.loads)

-- and they stay counted
stays : (c : After-turn-snapped) → StaysCounted c.args.totals.now c.args.board.now.book c.turn-snapped.new.seat.knows.seen
stays c =
    let v : Knowledge = c.args.self.now.start in
    let was : TotalSums = c.args.self.now.was in
    let w : Knowledge = c.turn-snapped.new.seat.knows in
    subst (λ (t : TotalSums). StaysCounted t c.args.board.now.book w.seen) (totals c)
    (subst (λ (b : BookTerms). StaysCounted was b w.seen) (book c)
    (StaysCounted-HasLoaded v.book v w was (before c).counted (loads c)))

pub returns-in_err-cut-in-Snap-clause-counted : goal.returns-in_err-cut-in-Snap-clause-counted
returns-in_err-cut-in-Snap-clause-counted c = stays (goal.at.returns-in_err-cut-in-Snap-clause-counted c).After-turn-snapped

-- the snapshot is whole
snapped : (c : After-copy)
    → IsSnapped c.args.self.now.start.book c.args.self.now.start c.turn-snapped.new.seat.knows c.in_ok-cut-in-Snap.cut
snapped c =
    let at = (goal.at.After-copy c).After-turn-snapped in
    let w : Knowledge = c.turn-snapped.new.seat.knows in
    let cut : List ℕ = c.in_ok-cut-in-Snap.cut in
    let told = c.in_ok-cut-in-Snap.ensures in
    let here : IsSnapped c.args.board.now.book c.in-Snap.snapping.start w cut =
    record { snapshot = told.snapshot; loads = told.loads; collects = told.collects } in
    subst (λ (b : BookTerms). IsSnapped b c.args.self.now.start w cut) (sym (book at))
    (subst (λ (v : Knowledge). IsSnapped c.args.board.now.book v w cut) (before at).stage_so.start_is here)

pub start-catching-requires-clause-counted : goal.start-catching-requires-clause-counted
start-catching-requires-clause-counted c =
    stays (goal.at.start-catching-requires-clause-counted c).After-turn-snapped c.turn-snapped.new.seat.knows.seen (IsPrefix-refl c.turn-snapped.new.seat.knows.seen)

pub start-catching-requires-clause-more : goal.start-catching-requires-clause-more
start-catching-requires-clause-more c =
    let at = (goal.at.start-catching-requires-clause-more c).After-turn-snapped in
    let v : Knowledge = c.args.self.now.start in
    let was : TotalSums = c.args.self.now.was in
    let cut : List ℕ = c.in_ok-cut-in-Snap.cut in
    let here : Covers cut was.upto =
    Covers-IsSnapshot v.book v c.turn-snapped.new.seat.knows was cut (snapped (goal.at.start-catching-requires-clause-more c).After-copy).snapshot (before at).counted in
    subst (λ (t : TotalSums). Covers c.copy.result t.upto) (totals at) (subst (λ (xs : List ℕ). Covers xs was.upto) (sym c.copy.ensures) here)

pub start-catching-requires-clause-seen : goal.start-catching-requires-clause-seen
start-catching-requires-clause-seen c =
    let w : Knowledge = c.turn-snapped.new.seat.knows in
    subst (λ (xs : List ℕ). HasRecords c.args.board.now.book w.seen xs) (sym c.copy.ensures)
    (HasRecords-IsCut c.args.board.now.book w.seen c.in_ok-cut-in-Snap.cut c.in_ok-cut-in-Snap.ensures.snapshot.cut)

pub returns-after-is_ended-clause-counted : goal.returns-after-is_ended-clause-counted
returns-after-is_ended-clause-counted c = stays (goal.at.returns-after-is_ended-clause-counted c).After-turn-snapped

pub returns-after-is_ended-clause-left : goal.returns-after-is_ended-clause-left
returns-after-is_ended-clause-left c =
    let at = (goal.at.returns-after-is_ended-clause-left c).After-turn-snapped in
    let v : Knowledge = c.args.self.now.start in
    omega (
      arith,
      ap look_turns_left c.become_next.ensures,
      c.start-catching.ensures.left,
      ap look_turns_left (snaps at),
      (before at).stage_so.left,
      few-IsSnapped v.book v c.turn-snapped.new.seat.knows c.in_ok-cut-in-Snap.cut (snapped (goal.at.returns-after-is_ended-clause-left c).After-copy),
      ap (λ (xs : List ℕ). sum xs) c.copy.ensures,
    )

pub returns-after-is_ended-clause-looked : goal.returns-after-is_ended-clause-looked
returns-after-is_ended-clause-looked c =
    let at = (goal.at.returns-after-is_ended-clause-looked c).After-turn-snapped in
    let s : LookingTerms = c.args.self.now in
    let b : BookTerms = c.args.board.now.book in
    let w : Knowledge = c.turn-snapped.new.seat.knows in
    let cut : List ℕ = c.in_ok-cut-in-Snap.cut in
    let whole = snapped (goal.at.returns-after-is_ended-clause-looked c).After-copy in
    elim c.if-is_ended.branch as (λ _. IfSome c.if-is_ended.result (HasLooked b s.start w s.was c.args.totals.now)) [
      | then-is_ended o ↦
          let upto : s.totals.upto ≡ cut =
          ap (λ (t : TotalSums). t.upto) (sym c.requires.totals)
          ∙ (ap (λ (t : TotalSums). t.upto) (sym c.start-catching.ensures.totals)
          ∙ (c.is_ended-is_ended.ensures.upto o.if-is_ended.true ∙ (c.start-catching.ensures.counts ∙ c.copy.ensures))) in
          let here = HasLooked-snapped s.start s.mark w s.was s.totals s.turns c.in-Snap.snapping (before at) cut whole upto in
          subst (λ r. IfSome r (HasLooked b s.start w s.was c.args.totals.now)) (sym o.result-is)
          (subst (λ (t : TotalSums). HasLooked b s.start w s.was t cut) (sym c.requires.totals)
          (subst (λ (k : BookTerms). HasLooked k s.start w s.was s.totals cut) (book at) here))
      | else-is_ended o ↦ subst (λ r. IfSome r (HasLooked b s.start w s.was c.args.totals.now)) (sym o.result-is) tt
    ]

-- what a turn that counts goes on with
catches : (c : After-turn-caught) → c.args.self.now.stage ≡ CatchUp c.in-CatchUp.catching
catches c = sym (ap (λ (s : LookingTerms). s.stage) c.self.view_is) ∙ c.in-CatchUp.is

before_catching : (c : After-turn-caught)
    → IsLookingSo c.args.self.now.start c.args.self.now.mark c.args.self.now.was c.args.self.now.totals c.args.self.now.turns (CatchUp c.in-CatchUp.catching)
before_catching c =
    let s : LookingTerms = c.args.self.now in
    subst (IsLookingSo s.start s.mark s.was s.totals s.turns) (catches c)
    (subst (λ (t : LookingTerms). IsLookingSo t.start t.mark t.was t.totals t.turns t.stage) c.self.view_is c.self.invariant)

pub returns-in-CatchUp-clause-load : goal.returns-in-CatchUp-clause-load
returns-in-CatchUp-clause-load c =
    subst (λ (s : LookStage). MakesLookLoad c.args.board.now.book c.args.overview.now.seen s c.args.seat.now c.turn-caught.new.seat c.turn-caught.new.totals)
    (sym (catches (goal.at.returns-in-CatchUp-clause-load c).After-turn-caught)) (c.turn-caught.ensures.same, c.turn-caught.ensures.word, c.turn-caught.ensures.record)

pub overflow_add-self-in-CatchUp : goal.overflow_add-self-in-CatchUp
overflow_add-self-in-CatchUp c =
    let at = (goal.at.overflow_add-self-in-CatchUp c).After-turn-caught in
    let s : LookingTerms = c.args.self.now in
    let so = before_catching at in
    omega (
      arith,
      ap (λ (t : LookingTerms). t.turns) c.self.view_is,
      so.stage_so.few,
      few-IsSnapped s.start.book s.start s.mark c.in-CatchUp.catching.counts so.stage_so.snapped,
      snapshot_steps-le s.start.book so.kept.book.begun,
    )

pub returns-in-CatchUp-clause-so_far : goal.returns-in-CatchUp-clause-so_far
returns-in-CatchUp-clause-so_far c =
    let at = (goal.at.returns-in-CatchUp-clause-so_far c).After-turn-caught in
    let s : LookingTerms = c.args.self.now in
    let so = before_catching at in
    let same : s.start.book ≡ c.args.board.now.book = sym so.book ∙ (ap (λ (v : Knowledge). v.book) (sym c.requires.mark) ∙ c.requires.board.book) in
    let seen : length s.mark.seen ≡ length c.turn-caught.new.seat.knows.seen =
    ap (λ (v : Knowledge). length v.seen) (sym c.requires.mark) ∙ ap (λ (t : SeatTerms). length t.knows.seen) (sym c.turn-caught.ensures.same) in
    omega (
      arith,
      ap (λ (t : LookingTerms). t.turns) c.self.view_is,
      so.stage_so.few,
      ap snapshot_steps (ap (λ (b : BookTerms). b.processes) same),
      sum-IsSnapped s.start.book s.start s.mark c.in-CatchUp.catching.counts so.stage_so.snapped,
      seen,
      ap look_turns_left (catches at),
      c.requires.left,
    )

-- no less is counted than before
grows : (c : After-turn-caught) → sum c.args.self.now.was.upto ≤ sum c.turn-caught.new.totals.upto
grows c =
    let told = c.turn-caught.ensures in
    omega (
      arith,
      (before_catching c).stage_so.grown,
      c.requires.left,
      ap look_turns_left (catches c),
      ap (λ (t : TotalSums). sum t.upto) (before_catching c).stage_so.totals_are,
      told.left,
      told.part,
      ap (λ (xs : List ℕ). sum xs) told.counts,
      ap (λ (t : TotalSums). sum t.upto) told.totals,
    )

pub returns-in-CatchUp-clause-more : goal.returns-in-CatchUp-clause-more
returns-in-CatchUp-clause-more c = grows (goal.at.returns-in-CatchUp-clause-more c).After-turn-caught

-- all that is loaded since is counted, but for fewer words than a record has
pub returns-in-CatchUp-clause-counting : goal.returns-in-CatchUp-clause-counting
returns-in-CatchUp-clause-counting c =
    let at = (goal.at.returns-in-CatchUp-clause-counting c).After-turn-caught in
    let s : LookingTerms = c.args.self.now in
    let so = before_catching at in
    let same : s.start.book ≡ c.args.board.now.book = sym so.book ∙ (ap (λ (v : Knowledge). v.book) (sym c.requires.mark) ∙ c.requires.board.book) in
    let told = c.turn-caught.ensures in
    omega (
      arith,
      ap (λ (t : LookingTerms). t.turns) c.self.view_is,
      so.stage_so.few,
      ap snapshot_steps (ap (λ (b : BookTerms). b.processes) same),
      told.left,
      told.part,
      ap (λ (xs : List ℕ). sum xs) told.counts,
      ap (λ (t : TotalSums). sum t.upto) told.totals,
    )

pub returns-in-CatchUp-clause-looked : goal.returns-in-CatchUp-clause-looked
returns-in-CatchUp-clause-looked c = grind (arith, common_steps)

pub returns-in_err-cut-in-Snap-clause-counting : goal.returns-in_err-cut-in-Snap-clause-counting
returns-in_err-cut-in-Snap-clause-counting c = grind (arith, common_steps)

pub returns-in-CatchUp-clause-left : goal.returns-in-CatchUp-clause-left
returns-in-CatchUp-clause-left c = grind (arith, common_steps)

pub invariant_of-self-in-CatchUp : goal.invariant_of-self-in-CatchUp
invariant_of-self-in-CatchUp c =
    let at = (goal.at.invariant_of-self-in-CatchUp c).After-turn-caught in
    let i = c.self.inside in
    let was : TotalSums = i.was.value in
    let told = c.turn-caught.ensures in
    let so = subst (IsLookingSo i.start.value.knows i.mark.value.knows was i.totals.value i.turns) c.in-CatchUp.is c.self.invariant in
    let grown : sum was.upto ≤ sum c.turn-caught.new.totals.upto = omega (arith, grows at, ap (λ (t : LookingTerms). sum t.was.upto) c.self.view_is) in
    subst (λ (t : TotalSums). IsLookingSo i.start.value.knows i.mark.value.knows was t (i.turns + 1) (CatchUp c.turn-caught.new.self)) (sym c.of-in-CatchUp.ensures)
    (IsLookingSo-caught i.start.value.knows i.mark.value.knows was i.totals.value c.turn-caught.new.totals i.turns c.in-CatchUp.catching c.turn-caught.new.self so
    told.knows told.totals told.counts told.left grown)

pub returns-in_err-cut-in-Snap-clause-turns : goal.returns-in_err-cut-in-Snap-clause-turns
returns-in_err-cut-in-Snap-clause-turns c = grind (arith, common_steps)

pub returns-in-CatchUp-clause-loads : goal.returns-in-CatchUp-clause-loads
returns-in-CatchUp-clause-loads c = grind (arith, common_steps)

pub returns-after-is_ended-clause-mark : goal.returns-after-is_ended-clause-mark
returns-after-is_ended-clause-mark c = grind (arith, common_steps)

pub returns-in-CatchUp-clause-turns : goal.returns-in-CatchUp-clause-turns
returns-in-CatchUp-clause-turns c = grind (arith, common_steps)

pub returns-in_err-cut-in-Snap-clause-more : goal.returns-in_err-cut-in-Snap-clause-more
returns-in_err-cut-in-Snap-clause-more c = grind (arith, common_steps)

pub returns-after-is_ended-clause-turns : goal.returns-after-is_ended-clause-turns
returns-after-is_ended-clause-turns c = grind (arith, common_steps)

pub returns-in-CatchUp-clause-start : goal.returns-in-CatchUp-clause-start
returns-in-CatchUp-clause-start c = grind (arith, common_steps)

pub returns-in-CatchUp-clause-ends : goal.returns-in-CatchUp-clause-ends
returns-in-CatchUp-clause-ends c = grind (arith, common_steps)

pub returns-in_err-cut-in-Snap-clause-loads : goal.returns-in_err-cut-in-Snap-clause-loads
returns-in_err-cut-in-Snap-clause-loads c = grind (arith, common_steps)

pub returns-in-CatchUp-clause-mark : goal.returns-in-CatchUp-clause-mark
returns-in-CatchUp-clause-mark c = grind (arith, common_steps)

pub returns-after-is_ended-clause-start : goal.returns-after-is_ended-clause-start
returns-after-is_ended-clause-start c = grind (arith, common_steps)

pub returns-in-CatchUp-clause-steps : goal.returns-in-CatchUp-clause-steps
returns-in-CatchUp-clause-steps c = grind (arith, common_steps)

pub returns-after-is_ended-clause-so_far : goal.returns-after-is_ended-clause-so_far
returns-after-is_ended-clause-so_far c = grind (arith, common_steps)

pub returns-in_err-cut-in-Snap-clause-left : goal.returns-in_err-cut-in-Snap-clause-left
returns-in_err-cut-in-Snap-clause-left c = grind (arith, common_steps)

pub invariant_of-self : goal.invariant_of-self
invariant_of-self c = grind (arith, common_steps)

pub returns-after-is_ended-clause-loads : goal.returns-after-is_ended-clause-loads
returns-after-is_ended-clause-loads c = grind (arith, common_steps)

pub returns-in_err-cut-in-Snap-clause-start : goal.returns-in_err-cut-in-Snap-clause-start
returns-in_err-cut-in-Snap-clause-start c = grind (arith, common_steps)

pub returns-after-is_ended-clause-load : goal.returns-after-is_ended-clause-load
returns-after-is_ended-clause-load c = grind (arith, common_steps)

pub returns-in_err-cut-in-Snap-clause-mark : goal.returns-in_err-cut-in-Snap-clause-mark
returns-in_err-cut-in-Snap-clause-mark c = grind (arith, common_steps)

pub returns-after-is_ended-clause-more : goal.returns-after-is_ended-clause-more
returns-after-is_ended-clause-more c = grind (arith, common_steps)

pub returns-in_err-cut-in-Snap-clause-so_far : goal.returns-in_err-cut-in-Snap-clause-so_far
returns-in_err-cut-in-Snap-clause-so_far c = grind (arith, common_steps)

pub returns-after-is_ended-clause-counting : goal.returns-after-is_ended-clause-counting
returns-after-is_ended-clause-counting c = grind (arith, common_steps)

pub returns-in-CatchUp-clause-within : goal.returns-in-CatchUp-clause-within
returns-in-CatchUp-clause-within c = grind (arith, common_steps)

pub returns-in-CatchUp-clause-exchanges : goal.returns-in-CatchUp-clause-exchanges
returns-in-CatchUp-clause-exchanges c = grind (arith, common_steps)

pub turn-caught-requires-clause-left : goal.turn-caught-requires-clause-left
turn-caught-requires-clause-left c = grind (arith, common_steps)

pub returns-in_err-cut-in-Snap-clause-looked : goal.returns-in_err-cut-in-Snap-clause-looked
returns-in_err-cut-in-Snap-clause-looked c = grind (arith, common_steps)

pub returns-in_err-cut-in-Snap-clause-within : goal.returns-in_err-cut-in-Snap-clause-within
returns-in_err-cut-in-Snap-clause-within c = grind (arith, common_steps)

pub returns-after-is_ended-clause-totals : goal.returns-after-is_ended-clause-totals
returns-after-is_ended-clause-totals c = grind (arith, common_steps)

pub returns-after-is_ended-clause-was : goal.returns-after-is_ended-clause-was
returns-after-is_ended-clause-was c = grind (arith, common_steps)

pub turn-snapped-requires-clause-mark : goal.turn-snapped-requires-clause-mark
turn-snapped-requires-clause-mark c = grind (arith, common_steps)

pub returns-in_err-cut-in-Snap-clause-was : goal.returns-in_err-cut-in-Snap-clause-was
returns-in_err-cut-in-Snap-clause-was c = grind (arith, common_steps)

pub returns-in_err-cut-in-Snap-clause-load : goal.returns-in_err-cut-in-Snap-clause-load
returns-in_err-cut-in-Snap-clause-load c = grind (arith, common_steps)

pub turn-caught-requires-clause-mark : goal.turn-caught-requires-clause-mark
turn-caught-requires-clause-mark c = grind (arith, common_steps)

pub turn-snapped-requires-clause-left : goal.turn-snapped-requires-clause-left
turn-snapped-requires-clause-left c = grind (arith, common_steps)

pub returns-in-CatchUp-clause-was : goal.returns-in-CatchUp-clause-was
returns-in-CatchUp-clause-was c = grind (arith, common_steps)

pub overflow_add-self : goal.overflow_add-self
overflow_add-self c = grind (arith, common_steps)

pub returns-in_err-cut-in-Snap-clause-totals : goal.returns-in_err-cut-in-Snap-clause-totals
returns-in_err-cut-in-Snap-clause-totals c = grind (arith, common_steps)

pub returns-in_err-cut-in-Snap-clause-follows : goal.returns-in_err-cut-in-Snap-clause-follows
returns-in_err-cut-in-Snap-clause-follows c =
    subst (λ (k : LookStage). FollowsLook c.args.board.now.book.processes k (Snap c.turn-snapped.new.self))
    (sym (snaps (goal.at.returns-in_err-cut-in-Snap-clause-follows c).After-turn-snapped)) c.turn-snapped.ensures.next

pub returns-after-is_ended-clause-follows : goal.returns-after-is_ended-clause-follows
returns-after-is_ended-clause-follows c =
    let n : ℕ = c.args.board.now.book.processes in
    let ended : MayFollow n c.in-Snap.snapping.next NextLoad.nothing = subst (MayFollow n c.in-Snap.snapping.next) c.in_ok-cut-in-Snap.ensures.ended c.turn-snapped.ensures.next in
    subst (λ (k : LookStage). FollowsLook n k c.become_next.new.stage) (sym (snaps (goal.at.returns-after-is_ended-clause-follows c).After-turn-snapped))
    (subst (FollowsLook n (Snap c.in-Snap.snapping)) (sym c.become_next.ensures)
    (ended, c.start-catching.ensures.loaded, c.start-catching.ensures.words))

pub returns-in-CatchUp-clause-follows : goal.returns-in-CatchUp-clause-follows
returns-in-CatchUp-clause-follows c =
    subst (λ (k : LookStage). FollowsLook c.args.board.now.book.processes k (CatchUp c.turn-caught.new.self))
    (sym (catches (goal.at.returns-in-CatchUp-clause-follows c).After-turn-caught)) c.turn-caught.ensures.follows
