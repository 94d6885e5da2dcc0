use Rattle.std.proofs.Common.{◌≡◌, ℕ, ◌+◌, List, Option, false, true, Some, get_or, set, refl, sym, ap, subst, ◌∙◌, arith}
use Rattle.at_machines.proofs.Prelude.{common_steps, BookTerms, SeatTerms, MayLoadWord, Knowledge, RECORD_WORDS, StaysCounted-HasCounted, IsPrefix-refl, IsCatchingUp, HasCounted, StaysCounted, TotalSums, CatchingUpTerms, CountsNext, FollowsLoad, MayLoadLeft, loaded_of, loads_left, words_held, IsCatchingUpSo, LoadingTerms}
use Rattle.at_machines.proofs.CatchingUpLaws.{CountsNext-counted, FollowsLoad-word, IsCatchingUpSo-word, IsCatchingUp-counted, MayCount-IsCatchingUpSo, more-IsCatchingUpSo, none_left}
use Rattle.at_machines.proofs.catching_up.CatchingUp.turn.Goals.{After-turn, After-count}
use Rattle.at_machines.proofs.catching_up.CatchingUp.turn.Goals as goal

pub unreachable-requires : goal.unreachable-requires
unreachable-requires c =
    omega (
      arith,
      c.requires.left,
      ap loads_left c.self.view_is,
      none_left c.self.inside.seat.value.knows c.self.inside.counts c.self.inside.totals.value c.self.inside.process c.self.inside.loading c.self.invariant c.in_default.is,
    )

-- what was kept before the turn
before : (c : After-turn)
    → IsCatchingUpSo c.args.seat.now.knows c.self.inside.counts c.args.totals.now c.self.inside.process (Some c.in-Some.loading)
before c =
    let counts : List ℕ = c.self.inside.counts in
    let p : ℕ = c.self.inside.process in
    let was : Knowledge = c.self.inside.seat.value.knows in
    let known : was ≡ c.args.seat.now.knows = ap (λ (s : CatchingUpTerms). s.knows) c.self.view_is ∙ sym c.requires.mark in
    let totals : c.self.inside.totals.value ≡ c.args.totals.now = ap (λ (s : CatchingUpTerms). s.totals) c.self.view_is ∙ sym c.requires.totals in
    subst (λ (v : Knowledge). IsCatchingUpSo v counts c.args.totals.now p (Some c.in-Some.loading)) known
    (subst (λ (t : TotalSums). IsCatchingUpSo was counts t p (Some c.in-Some.loading)) totals
    (subst (IsCatchingUpSo was counts c.self.inside.totals.value p) c.in-Some.is c.self.invariant))

-- the seat is the board's, and as it was
stays : (c : After-turn) (t : TotalSums) → HasCounted t c.args.seat.now.knows.book c.args.seat.now.knows.seen
    → StaysCounted t c.args.board.now.book c.turn.new.seat.knows.seen
stays c t counted =
    StaysCounted-HasCounted t c.args.board.now.book c.turn.new.seat.knows.seen
    (subst (λ (s : SeatTerms). HasCounted t c.args.board.now.book s.knows.seen) (sym c.turn.ensures.same)
    (subst (λ (b : BookTerms). HasCounted t b c.args.seat.now.knows.seen) c.requires.board.book counted))

pub returns-in_err-entry-clause-stays : goal.returns-in_err-entry-clause-stays
returns-in_err-entry-clause-stays c =
    let at = (goal.at.returns-in_err-entry-clause-stays c).After-turn in
    stays at c.args.totals.now (before at).catching.counted

pub overflow_add-upto : goal.overflow_add-upto
overflow_add-upto c =
    let so = before (goal.at.overflow_add-upto c).After-turn in
    omega (
      arith,
      c.counted-upto.ensures,
      more-IsCatchingUpSo c.args.seat.now.knows c.self.inside.counts c.args.totals.now c.self.inside.process c.in-Some.loading so,
    )

-- the record of which a word was loaded is the one that is left
left_record : (c : After-turn) → MayLoadWord c.args.board.now.book c.args.seat.now.knows c.in-Some.loading.process c.in-Some.loading.number c.in-Some.loading.loaded
    → MayLoadLeft c.args.board.now.book c.args.seat.now.knows c.args.self.now
left_record c told =
    let b : BookTerms = c.args.board.now.book in
    let v : Knowledge = c.args.seat.now.knows in
    let p : ℕ = c.self.inside.process in
    let l : LoadingTerms = c.in-Some.loading in
    let is : p ≡ c.args.self.now.process = ap (λ (s : CatchingUpTerms). s.process) c.self.view_is in
    let loaded : l.loaded ≡ c.args.self.now.loaded = ap loaded_of (sym c.in-Some.is) ∙ ap (λ (s : CatchingUpTerms). s.loaded) c.self.view_is in
    let here : MayLoadWord b v p (get_or c.args.totals.now.upto p 0) l.loaded =
    subst (λ (k : LoadingTerms). MayLoadWord b v k.process k.number l.loaded) (before c).loading_so.3 told in (
      c.requires.left,
      subst (MayLoadWord b v c.args.self.now.process (get_or c.args.self.now.totals.upto c.args.self.now.process 0)) loaded
          (subst (λ q. MayLoadWord b v q (get_or c.args.self.now.totals.upto q 0) l.loaded) is
          (subst (λ (t : TotalSums). MayLoadWord b v p (get_or t.upto p 0) l.loaded) c.requires.totals here)),
    )

pub returns-in_err-entry-clause-record : goal.returns-in_err-entry-clause-record
returns-in_err-entry-clause-record c = left_record (goal.at.returns-in_err-entry-clause-record c).After-turn c.turn.ensures.record

pub returns-clause-record : goal.returns-clause-record
returns-clause-record c = left_record (goal.at.After-count (goal.at.returns-clause-record c).After-count).After-turn c.turn.ensures.record

-- one record more is counted
counted : (c : After-count) → HasCounted c.count.new.self c.args.seat.now.knows.book c.args.seat.now.knows.seen
counted c =
    let v : Knowledge = c.args.seat.now.knows in
    c.count.ensures.counted v.book v.seen
    (MayCount-IsCatchingUpSo v c.self.inside.counts c.args.totals.now c.self.inside.process c.in-Some.loading (before (goal.at.After-count c).After-turn)
    c.in_ok-entry.entry c.in_ok-entry.ensures.entry)

upto : (c : After-count)
    → c.count.new.self.upto ≡ set c.args.totals.now.upto c.self.inside.process (get_or c.args.totals.now.upto c.self.inside.process 0 + 1)
upto c = c.count.ensures.upto ∙ ap (λ k. set c.args.totals.now.upto c.self.inside.process (k + 1)) c.counted-upto.ensures

pub at-requires-clause-so_far : goal.at-requires-clause-so_far
at-requires-clause-so_far c =
    let at = (goal.at.at-requires-clause-so_far c).After-count in
    let v : Knowledge = c.args.seat.now.knows in
    let t' : TotalSums = c.count.new.self in
    let p : ℕ = c.self.inside.process in
    let here = IsCatchingUp-counted v c.self.inside.counts c.args.totals.now p c.in-Some.loading (before (goal.at.After-count at).After-turn) t' (counted at) (upto at) in
    subst (λ (s : SeatTerms). IsCatchingUp s.knows.book s.knows.seen c.copy.result t'.upto t' p) (sym c.turn.ensures.same)
    (subst (λ xs. IsCatchingUp v.book v.seen xs t'.upto t' p) (sym c.copy.ensures) here)

pub returns-clause-word : goal.returns-clause-word
returns-clause-word c =
    let at = (goal.at.returns-clause-word c).After-count in
    let t' : TotalSums = c.count.new.self in
    let l : LoadingTerms = c.in-Some.loading in
    let whole : l.loaded + 1 ≡ RECORD_WORDS = ap (λ (k : LoadingTerms). k.loaded) (sym c.in_ok-entry.ensures.after) ∙ c.in_ok-entry.ensures.ends.0 refl in
    let loaded : l.loaded ≡ c.args.self.now.loaded = ap loaded_of (sym c.in-Some.is) ∙ ap (λ (s : CatchingUpTerms). s.loaded) c.self.view_is in
    let here = CountsNext-counted c.args.seat.now.knows c.self.inside.counts c.args.totals.now c.self.inside.process l (before (goal.at.After-count at).After-turn) t' (counted at) (upto at) in (
      λ few. absurd (omega (arith, few, whole, loaded)),
      λ _.
          subst (λ xs. CountsNext xs c.args.self.now.totals t') (ap (λ (s : CatchingUpTerms). s.counts) c.self.view_is)
          (subst (λ (t : TotalSums). CountsNext c.self.inside.counts t t') c.requires.totals here),
    )

pub returns-clause-stays : goal.returns-clause-stays
returns-clause-stays c =
    let at = (goal.at.returns-clause-stays c).After-count in
    stays (goal.at.After-count at).After-turn c.count.new.self (counted at)

pub returns-clause-counted : goal.returns-clause-counted
returns-clause-counted c =
    let at = (goal.at.returns-clause-counted c).After-count in
    let seen = c.turn.new.seat.knows.seen in
    stays (goal.at.After-count at).After-turn c.count.new.self (counted at) seen (IsPrefix-refl seen)

pub returns-in_err-entry-clause-counted : goal.returns-in_err-entry-clause-counted
returns-in_err-entry-clause-counted c =
    let at = (goal.at.returns-in_err-entry-clause-counted c).After-turn in
    let seen = c.turn.new.seat.knows.seen in
    stays at c.args.totals.now (before at).catching.counted seen (IsPrefix-refl seen)

pub returns-in_err-entry-clause-same : goal.returns-in_err-entry-clause-same
returns-in_err-entry-clause-same c = c.turn.ensures.same

pub returns-clause-same : goal.returns-clause-same
returns-clause-same c = c.turn.ensures.same

pub returns-clause-ends : goal.returns-clause-ends
returns-clause-ends c = c.answer.ensures.ends

pub counted-upto-requires : goal.counted-upto-requires
counted-upto-requires c = grind (arith, common_steps)

pub returns-clause-knows : goal.returns-clause-knows
returns-clause-knows c = grind (arith, common_steps)

pub returns-in_err-entry-clause-word : goal.returns-in_err-entry-clause-word
returns-in_err-entry-clause-word c = grind (arith, common_steps)

pub returns-clause-upto : goal.returns-clause-upto
returns-clause-upto c = grind (arith, common_steps)

pub count-requires-clause-next : goal.count-requires-clause-next
count-requires-clause-next c = grind (arith, common_steps)

pub invariant_of-self : goal.invariant_of-self
invariant_of-self c =
    let i = c.self.inside in
    let told = c.turn.ensures in
    IsCatchingUpSo-word i.seat.value.knows i.counts i.totals.value i.process c.in-Some.loading c.turn.new.self
    (subst (IsCatchingUpSo i.seat.value.knows i.counts i.totals.value i.process) c.in-Some.is c.self.invariant) told.after
    (λ last. let wrong : false ≡ true = c.in_err-entry.ensures.ends.1 (ap (λ (k : LoadingTerms). k.loaded) told.after ∙ last) in absurd (cc wrong))

pub returns-clause-left : goal.returns-clause-left
returns-clause-left c = grind (arith, common_steps)

pub returns-clause-part : goal.returns-clause-part
returns-clause-part c = grind (arith, common_steps)

pub at-requires-clause-process : goal.at-requires-clause-process
at-requires-clause-process c = grind (arith, common_steps)

pub returns-in_err-entry-clause-part : goal.returns-in_err-entry-clause-part
returns-in_err-entry-clause-part c = grind (arith, common_steps)

pub returns-in_err-entry-clause-upto : goal.returns-in_err-entry-clause-upto
returns-in_err-entry-clause-upto c = grind (arith, common_steps)

pub returns-in_err-entry-clause-knows : goal.returns-in_err-entry-clause-knows
returns-in_err-entry-clause-knows c = grind (arith, common_steps)

pub returns-in_err-entry-clause-whole : goal.returns-in_err-entry-clause-whole
returns-in_err-entry-clause-whole c = grind (arith, common_steps)

pub turn-requires-clause-left : goal.turn-requires-clause-left
turn-requires-clause-left c = grind (arith, common_steps)

pub turn-requires-clause-mark : goal.turn-requires-clause-mark
turn-requires-clause-mark c = grind (arith, common_steps)

pub returns-clause-totals : goal.returns-clause-totals
returns-clause-totals c = grind (arith, common_steps)

pub returns-clause-counts : goal.returns-clause-counts
returns-clause-counts c = grind (arith, common_steps)

pub returns-in_err-entry-clause-left : goal.returns-in_err-entry-clause-left
returns-in_err-entry-clause-left c = grind (arith, common_steps)

pub returns-in_err-entry-clause-follows : goal.returns-in_err-entry-clause-follows
returns-in_err-entry-clause-follows c =
    let at = (goal.at.returns-in_err-entry-clause-follows c).After-turn in
    let i = c.self.inside in
    let l : LoadingTerms = c.in-Some.loading in
    let m : LoadingTerms = c.turn.new.self in
    let told = c.turn.ensures in
    let with_loaded : Option LoadingTerms → CatchingUpTerms =
    λ x. record { counts = i.counts; knows = i.seat.value.knows; totals = i.totals.value; process = i.process; loaded = loaded_of x; words = words_held x } in
    subst (λ (s : CatchingUpTerms). FollowsLoad s (with_loaded (Some m))) c.self.view_is
    (subst (λ (x : Option LoadingTerms). FollowsLoad (with_loaded x) (with_loaded (Some m))) (sym c.in-Some.is)
    (FollowsLoad-word i.seat.value.knows i.counts i.totals.value i.process l m
    (subst (IsCatchingUpSo i.seat.value.knows i.counts i.totals.value i.process) c.in-Some.is c.self.invariant) told.after
    (λ last. let wrong : false ≡ true = c.in_err-entry.ensures.ends.1 (ap (λ (k : LoadingTerms). k.loaded) told.after ∙ last) in absurd (cc wrong))))

pub returns-clause-follows : goal.returns-clause-follows
returns-clause-follows c =
    let l : LoadingTerms = c.in-Some.loading in
    let whole : l.loaded + 1 ≡ RECORD_WORDS = ap (λ (k : LoadingTerms). k.loaded) (sym c.in_ok-entry.ensures.after) ∙ c.in_ok-entry.ensures.ends.0 refl in
    let loaded : l.loaded ≡ c.args.self.now.loaded = ap loaded_of (sym c.in-Some.is) ∙ ap (λ (s : CatchingUpTerms). s.loaded) c.self.view_is in (
      λ few. absurd (omega (arith, few, whole, loaded)),
      λ last. (
        ap (λ (s : CatchingUpTerms). s.loaded) c.at-2.view_is ∙ c.at.ensures.loaded,
        ap (λ (s : CatchingUpTerms). s.words) c.at-2.view_is ∙ c.at.ensures.words,
      ),
    )
