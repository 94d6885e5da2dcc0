use Rattle.std.proofs.Common.{◌≡◌, IsTrue, ℕ, ◌+◌, ◌-◌, ◌<◌, ◌≤◌, ◌≢◌, ◌↔◌, List, Option, IfSome, IsSome, None, Some, length, set, false, true, refl, sym, ap, subst, ◌∙◌, arith}
use Rattle.std.specs.Prelude.{slice_index, sum}
use Rattle.at_calling.proofs.Prelude.{BookTerms, Reply, Done, IsPrefix-refl, IsPrefix, owns_of, Entry, Publication, own_part, SeatTerms, Publishes, StoresWord, with_word, record_width, record_words, Knowledge, HasCounted, StaysCounted, TotalSums, IsLast, At, Own, single_steps, IsPaid, HasLooked, IsOnlyOwner, IsAppendingThen, IsPayStageSo, TakesPayTurn, AnswersAlone, HasSameAsking, MakesPayStep, PayingAloneTerms, append_steps, pay_turns_left, LeavesTotals, SeesOthersStill, counted_so_far, Append, AppendingTerms, StoresNextWord, publication_of, IsWithin, IsWithinOneMore}
use Rattle.at_calling.proofs.PayingAloneLaws.{HasCounted-IsPaid, HasSameAsking-Publishes, HasSameAsking-StoresWord, IsPrefix-Publishes, LeavesTotals-IsPaid, AnswersAlone-done, length-Publishes-lt, paying_next, published-IsPaid, published-with_part}
use Rattle.at_calling.proofs.PayingAloneTurns.{TakesPayTurn-append, counting-append}
use Rattle.at_calling.specs.contracts.paying_alone.PayingAlone.{the_view}
use Rattle.at_calling.proofs.paying_alone.PayingAlone.append_on.Goals.{After-self, After-turn-is_published}
use Rattle.at_calling.proofs.paying_alone.PayingAlone.append_on.Goals as goal

-- the book is the board's
book : (c : After-self) → (the_view c.self.inside).start.book ≡ c.args.board.now.book
book c =
    sym c.self.invariant.book
    ∙ (ap (λ (t : PayingAloneTerms). t.mark.book) c.self.view_is ∙ (ap (λ (v : Knowledge). v.book) (sym c.requires.mark) ∙ c.requires.board.book))

-- some store is left
few : (c : After-turn-is_published) → c.in-Append.appending.stored ≤ record_width c.args.board.now.book
few c =
    omega (
      arith,
      c.requires.left,
      ap (λ (t : PayingAloneTerms). pay_turns_left (record_width c.args.board.now.book) t.stage) c.self.view_is,
      ap (pay_turns_left (record_width c.args.board.now.book)) c.in-Append.is,
    )

appends : (c : After-turn-is_published) → IsAppendingThen (the_view c.self.inside) c.in-Append.appending
appends c =
    subst (IsPayStageSo (the_view c.self.inside)) c.in-Append.is c.self.invariant.stage_so
    (omega (arith, few c, ap record_width (book (goal.at.After-turn-is_published c).After-self)))

-- the seat knew what the last turn left
known : (c : After-turn-is_published) → c.args.seat.now.knows ≡ (the_view c.self.inside).mark
known c = c.requires.mark ∙ sym (ap (λ (t : PayingAloneTerms). t.mark) c.self.view_is)

parts : (c : After-turn-is_published) → 0 < length (the_view c.self.inside).mark.parts
parts c = subst (λ (v : Knowledge). 0 < length v.parts) (known c) (omega (arith, c.known.ensures.seat.one_part))

-- what the turn leaves
turned : (c : After-turn-is_published) (seen : List Publication) (now : TotalSums) (mark : SeatTerms) → mark ≡ c.turn-is_published.new.seat → (totals : TotalSums)
    → totals ≡ now → (answer : Option (Reply × At))
    → MakesPayStep c.args.board.now.book seen (Append c.in-Append.appending) c.args.seat.now c.turn-is_published.new.seat now
    → SeesOthersStill (the_view c.self.inside).mark c.turn-is_published.new.seat.knows
    → IsPrefix (the_view c.self.inside).mark.seen c.turn-is_published.new.seat.knows.seen
    → IsWithinOneMore (single_steps c.args.board.now.book.processes)
    (counted_so_far (the_view c.self.inside).start c.turn-is_published.new.seat.knows (the_view c.self.inside).was.upto now.upto)
    (c.self.inside.looked + c.turn-is_published.new.self.stored)
    → (IsSome answer ↔ (c.in-Append.appending.stored ≡ record_width c.args.board.now.book))
    → HasSameAsking (the_view c.self.inside).mark c.turn-is_published.new.seat.knows
    → IfSome answer (AnswersAlone c.args.board.now.book (the_view c.self.inside).start c.turn-is_published.new.seat.knows c.self.inside.from c.self.inside.targets)
    → IfSome answer (λ r. StaysCounted now c.args.board.now.book c.turn-is_published.new.seat.knows.seen)
    → IfSome answer (λ r. LeavesTotals c.args.board.now.book (the_view c.self.inside).start c.turn-is_published.new.seat.knows (the_view c.self.inside).was now
    (append_steps (record_width c.args.board.now.book) r.0) (c.self.inside.looked + c.turn-is_published.new.self.stored))
    → TakesPayTurn c.args.board.now.book seen c.args.self.now
    (paying_next (the_view c.self.inside) (Append c.turn-is_published.new.self) c.self.inside.looked mark.knows totals) c.args.seat.now
    c.turn-is_published.new.seat now answer
turned c seen now mark mark_is totals totals_are answer step others more counting ends asks pays counted leaves =
    let b : BookTerms = c.args.board.now.book in
    let t : PayingAloneTerms = the_view c.self.inside in
    let next : AppendingTerms = c.turn-is_published.new.self in
    let after : SeatTerms = c.turn-is_published.new.seat in
    subst (λ (s : PayingAloneTerms). TakesPayTurn b seen s (paying_next t (Append next) t.looked mark.knows totals) c.args.seat.now after now answer) c.self.view_is
    (TakesPayTurn-append b seen t c.self.invariant (book (goal.at.After-turn-is_published c).After-self) c.args.seat.now after now mark.knows
    (ap (λ (m : SeatTerms). m.knows) mark_is) totals totals_are c.in-Append.appending next c.in-Append.is c.turn-is_published.ensures.after (few c) step
    answer others more counting ends asks pays counted leaves)

pub returns-then-not-is_published-clause-turned : goal.returns-then-not-is_published-clause-turned
returns-then-not-is_published-clause-turned c = λ seen.
    let at = (goal.at.returns-then-not-is_published-clause-turned c).After-turn-is_published in
    let b : BookTerms = c.args.board.now.book in
    let t : PayingAloneTerms = the_view c.self.inside in
    let a : AppendingTerms = c.in-Append.appending in
    let w : Knowledge = c.turn-is_published.new.seat.knows in
    let told = c.turn-is_published.ensures in
    let other : a.stored ≢ record_width b = λ all. let wrong : true ≡ false = sym (told.ends.1 all) ∙ c.if-not-is_published.true in absurd (cc wrong) in
    let word : StoresNextWord a w = told.word (omega (arith, few at, other)) in
    let stored : StoresWord t.mark w a.stored (slice_index (record_words (publication_of a)) a.stored) =
    subst (λ (v : Knowledge). StoresWord v w a.stored (slice_index (record_words (publication_of a)) a.stored)) (appends at).mark_is word in
    let same_totals : t.totals ≡ c.args.totals.now = ap (λ (s : PayingAloneTerms). s.totals) c.self.view_is ∙ sym c.requires.totals in
    let step : MakesPayStep b seen (Append a) c.args.seat.now c.turn-is_published.new.seat c.args.totals.now =
    ((appends at).mark_is ∙ sym (known at), few at, λ inside. word, λ all. absurd (other all)) in
    let unpublished : (own_part w).published ≡ (own_part t.mark).published =
    ap (λ (v : Knowledge). (own_part v).published) stored
    ∙ published-with_part t.mark (with_word (own_part t.mark) a.stored (slice_index (record_words (publication_of a)) a.stored)) refl in
    turned at seen c.args.totals.now c.of.result.value c.of.ensures t.totals same_totals None step
    (omega (arith, ap (λ (v : Knowledge). length v.seen) stored, unpublished))
    (subst (IsPrefix t.mark.seen) (sym (ap (λ (v : Knowledge). v.seen) stored)) (IsPrefix-refl t.mark.seen))
    (counting-append b seen t c.self.invariant (book (goal.at.After-turn-is_published at).After-self) c.args.seat.now c.turn-is_published.new.seat
    c.args.totals.now w refl t.totals same_totals a c.turn-is_published.new.self c.in-Append.is told.after (few at) step (sym same_totals) unpublished)
    (λ some. let wrong : false ≡ true = some in absurd (cc wrong), λ all. absurd (other all))
    (HasSameAsking-StoresWord t.mark w a.stored (slice_index (record_words (publication_of a)) a.stored) (parts at) stored) tt tt tt

-- its record is published
paid : (c : After-turn-is_published) → IsTrue c.turn-is_published.result
    → IsPaid (the_view c.self.inside).start.book (the_view c.self.inside).start c.in-Append.appending.start c.turn-is_published.new.seat.knows
    c.in-Append.appending.rec.view c.self.inside.from c.self.inside.targets
paid c done =
    let t : PayingAloneTerms = the_view c.self.inside in
    let a : AppendingTerms = c.in-Append.appending in
    let x : Knowledge = c.turn-is_published.new.seat.knows in
    let so = appends c in
    let kept = c.self.invariant.kept in
    let record_of : Entry → Publication = λ e. record { process = a.start.first; view = a.rec.view; entry = e } in
    record {
      one_part = kept.one_part;
      own = kept.own;
      loads = so.looked_at.loads;
      snapshot = so.looked_at.snapshot;
      published = subst (λ (b : BookTerms). Publishes b a.start x (record_of (Entry.Own t.from t.targets)))
          (sym (book (goal.at.After-turn-is_published c).After-self))
          (subst (λ (e : Entry). Publishes c.args.board.now.book a.start x (record_of e)) so.entry (c.turn-is_published.ensures.published done));
      last = subst (λ (e : Entry). IsLast a.start x (record_of e)) so.entry (c.turn-is_published.ensures.last done);
    }

pub count_own-requires-clause-counted : goal.count_own-requires-clause-counted
count_own-requires-clause-counted c =
    let at = (goal.at.count_own-requires-clause-counted c).After-turn-is_published in
    let same = book (goal.at.After-turn-is_published at).After-self in
    let t : PayingAloneTerms = the_view c.self.inside in
    let a : AppendingTerms = c.in-Append.appending in
    let x : Knowledge = c.turn-is_published.new.seat.knows in
    let so = c.self.invariant in
    let here = HasCounted-IsPaid t.start.book t.start a.start t.was t.totals a.rec.view t.from t.targets (appends at).looked_at so.owner so.room x
    (paid at c.if-not-is_published.false) in
    subst (λ (b : BookTerms). HasCounted c.args.totals.now b x.seen) (same ∙ sym c.turn-is_published.ensures.board.book)
    (subst (λ (s : TotalSums). HasCounted s t.start.book x.seen) (ap (λ (s : PayingAloneTerms). s.totals) c.self.view_is ∙ sym c.requires.totals) here)

pub returns-clause-turned : goal.returns-clause-turned
returns-clause-turned c = λ seen.
    let at = (goal.at.returns-clause-turned c).After-turn-is_published in
    let same = book (goal.at.After-turn-is_published at).After-self in
    let b : BookTerms = c.args.board.now.book in
    let t : PayingAloneTerms = the_view c.self.inside in
    let a : AppendingTerms = c.in-Append.appending in
    let x : Knowledge = c.turn-is_published.new.seat.knows in
    let now : TotalSums = c.count_own.new.self in
    let cut : List ℕ = a.rec.view in
    let told = c.turn-is_published.ensures in
    let so = c.self.invariant in
    let done = c.if-not-is_published.false in
    let all : a.stored ≡ record_width b = told.ends.0 done in
    let has_paid = paid at done in
    let looked_at = (appends at).looked_at in
    let one = published-IsPaid t.start.book t.start a.start t.was t.totals cut t.from t.targets looked_at so.owner so.room x has_paid in
    let number : (own_part t.start).published ≡ c.published.result - 1 = omega (arith, c.published.ensures, one) in
    let r : Reply × At = (Done, Own (c.published.result - 1)) in
    let pays : AnswersAlone b t.start x t.from t.targets r =
    subst (λ (k : BookTerms). AnswersAlone k t.start x t.from t.targets r) same
    (subst (λ (k : ℕ). AnswersAlone t.start.book t.start x t.from t.targets (Done, Own k)) number
    (AnswersAlone-done t.start.book t.start a.start t.was t.totals cut t.from t.targets looked_at so.owner so.room x has_paid (appends at).enough)) in
    let next : now.upto ≡ set t.totals.upto x.first (own_part x).published =
    c.count_own.ensures.upto
    ∙ ap (λ (s : TotalSums). set s.upto x.first (own_part x).published) (c.requires.totals ∙ sym (ap (λ (s : PayingAloneTerms). s.totals) c.self.view_is)) in
    let stored : c.turn-is_published.new.self.stored ≡ record_width b + 1 =
    omega (arith, all, ap (λ (n : AppendingTerms). n.stored) told.after) in
    let leaves = LeavesTotals-IsPaid b t.start a.start t.was t.totals cut t.from t.targets
    (subst (λ (k : BookTerms). HasLooked k t.start a.start t.was t.totals cut) same looked_at)
    (subst (λ (k : BookTerms). IsOnlyOwner k t.start.first t.from) same so.owner)
    (subst (λ (k : BookTerms). owns_of t.start.first t.start.seen < k.own_room) same so.room) x
    (subst (λ (k : BookTerms). IsPaid k t.start a.start x cut t.from t.targets) same has_paid) now next (record_width b) t.looked
    c.turn-is_published.new.self.stored (subst (λ (k : BookTerms). IsWithin k.processes t.was (sum cut) t.looked) same (appends at).few) stored
    (omega (arith, so.kept.known, ap (λ (k : BookTerms). k.processes) same)) in
    let publishes : Publishes b t.mark x (publication_of a) =
    subst (λ (v : Knowledge). Publishes b v x (publication_of a)) (appends at).mark_is (told.publishes done) in
    let more = length-Publishes-lt b t.mark x (publication_of a) publishes in
    turned at seen now c.of.result.value c.of.ensures c.of-2.result.value c.of-2.ensures (Some r)
    ((appends at).mark_is ∙ sym (known at), few at, λ inside. absurd (omega (arith, inside, all)), λ full. told.publishes done)
    (omega (arith, more, one, (appends at).unpublished))
    (IsPrefix-Publishes b t.mark x (publication_of a) publishes)
    (omega (arith, leaves.few))
    (λ some. all, λ full. refl)
    (HasSameAsking-Publishes b t.mark x (publication_of a) (parts at) publishes) pays
    (subst (λ (k : BookTerms). StaysCounted now k x.seen) told.board.book c.count_own.ensures.stays) leaves
