use Rattle.std.proofs.Common.{◌≡◌, ◌≢◌, ◌≤◌, ℕ, ◌+◌, false, get_or, true, refl, sym, ap, subst, ◌∙◌, arith}
use Rattle.at_machines.proofs.Prelude.{common_steps, SeesDecision, own_part, SeatTerms, IsLast, BookTerms, Publishes, StoresWord, record_width, record_words, Knowledge, HasCounted, TotalSums, MayAppend, Record, DecidesAs, DecidesNext, AppendingTerms, publication_of, DecidingTerms, MakesRoundStep, MakesStep, NextOfRound, record_word, next_of_round, round_in, HasDecided, HasLoadedDecided, IsDecidingSo, LoadingRequestTerms, RoundStage, Loading, Proposing, Publishing}
use Rattle.std.specs.Prelude.{slice_index, slice_set}
use Rattle.at_machines.proofs.DecidingLaws.{DecidesNext-HasLoadedDecided, HasCounted-Publishes, HasLoadedDecided-LoadsRequest, MayAppend-HasLoadedDecided, book-HasLoadedDecided, own-HasLoadedDecided, process-HasLoadedDecided}
use Rattle.at_machines.specs.Deciding.{nothing, request_word}
use Rattle.at_machines.specs.contracts.deciding.Deciding.{the_view}
use Rattle.at_machines.proofs.deciding.Deciding.turn.Goals.{After-decided_request-loading, After-record_of_round-record, After-self, Else-not-published}
use Rattle.at_machines.proofs.deciding.Deciding.turn.Goals as goal

-- the round before the turn
before : (c : After-self) (stage : RoundStage) → c.self.inside.stage ≡ stage
    → IsDecidingSo c.self.inside.start.value.knows c.self.inside.mark.value.knows c.self.inside.totals.value c.self.inside.helping.value c.self.inside.cut c.self.inside.account
    c.self.inside.round stage
before c stage is =
    subst (IsDecidingSo c.self.inside.start.value.knows c.self.inside.mark.value.knows c.self.inside.totals.value c.self.inside.helping.value c.self.inside.cut
    c.self.inside.account c.self.inside.round) is c.self.invariant

-- what the seat knew is what the last turn left
known_before : (c : After-self) → c.args.seat.now.knows ≡ c.self.inside.mark.value.knows
known_before c = c.requires.mark ∙ sym (ap (λ (t : DecidingTerms). t.mark) c.self.view_is)

-- its seat is the board's
book : (c : After-self) → c.args.board.now.book ≡ c.self.inside.start.value.knows.book
book c = sym c.requires.board.book ∙ (ap (λ (v : Knowledge). v.book) (known_before c) ∙ c.self.invariant.book)

-- the totals are those of the start
totals_before : (c : After-self) → c.args.totals.now ≡ c.self.inside.totals.value
totals_before c = c.requires.totals ∙ sym (ap (λ (t : DecidingTerms). t.totals) c.self.view_is)

-- the request that was decided is loaded whole
loaded : (c : After-record_of_round-record)
    → HasLoadedDecided c.self.inside.start.value.knows c.turn-loaded.new.seat.knows c.self.inside.helping.value c.self.inside.cut c.in-Loading.decision
    c.record_of_round-record.result
loaded c =
    let at = (goal.at.After-record_of_round-record c).After-self in
    let i = c.self.inside in
    let start : Knowledge = i.start.value.knows in
    let w : Knowledge = c.turn-loaded.new.seat.knows in
    let d = c.in-Loading.decision in
    let l : LoadingRequestTerms = c.in-Loading.loading in
    let x = c.in_ok-targets-in-Loading.field-0 in
    subst (HasLoadedDecided start w i.helping.value i.cut d) (sym c.record_of_round-record.ensures)
    (HasLoadedDecided-LoadsRequest c.args.board.now.book start i.mark.value.knows i.totals.value i.helping.value i.cut i.account i.round d l w x (book at)
    (before at (Loading d l) c.in-Loading.is) c.in_ok-targets-in-Loading.ensures.request)

pub start-requires : goal.start-requires
start-requires c =
    let at = (goal.at.start-requires c).After-self in
    let i = c.self.inside in
    let start : Knowledge = i.start.value.knows in
    let w : Knowledge = c.turn-loaded.new.seat.knows in
    let d = c.in-Loading.decision in
    let l : LoadingRequestTerms = c.in-Loading.loading in
    let so = before at (Loading d l) c.in-Loading.is in
    let rec : Record = c.record_of_round-record.result in
    let told = loaded (goal.at.start-requires c).After-record_of_round-record in
    subst (λ (t : BookTerms). MayAppend t w rec)
    (sym (book-HasLoadedDecided start i.mark.value.knows i.totals.value i.helping.value i.cut i.account i.round (Loading d l) so w d rec told))
    (MayAppend-HasLoadedDecided start i.mark.value.knows i.totals.value i.helping.value i.cut i.account i.round (Loading d l) so w d rec told)

-- the record is published
published : (c : Else-not-published)
    → Publishes c.self.inside.start.value.knows.book c.in-Publishing.appending.start c.turn-published.new.seat.knows (publication_of c.in-Publishing.appending)
published c =
    let a : AppendingTerms = c.in-Publishing.appending in
    subst (λ (t : BookTerms). Publishes t a.start c.turn-published.new.seat.knows (publication_of a)) (book (goal.at.Else-not-published c).After-self)
    (c.if-not-published.ensures.published refl)

pub count_published-requires-clause-counted : goal.count_published-requires-clause-counted
count_published-requires-clause-counted c =
    let entry = (goal.at.count_published-requires-clause-counted c).Else-not-published in
    let at = (goal.at.Else-not-published entry).After-self in
    let i = c.self.inside in
    let d = c.in-Publishing.decision in
    let a : AppendingTerms = c.in-Publishing.appending in
    let w : Knowledge = c.turn-published.new.seat.knows in
    let so = before at (Publishing d a) c.in-Publishing.is in
    subst (λ (t : TotalSums). HasCounted t w.book w.seen) (sym (totals_before at))
    (HasCounted-Publishes i.start.value.knows i.mark.value.knows i.totals.value i.helping.value i.cut i.account i.round (Publishing d a) so a.start d a.rec so.stage_so.2 w
    (published entry))

pub returns-in-Proposing-clause-step : goal.returns-in-Proposing-clause-step
returns-in-Proposing-clause-step c =
    let at = (goal.at.returns-in-Proposing-clause-step c).After-self in
    let i = c.self.inside in
    let b : BookTerms = c.args.board.now.book in
    let w : Knowledge = c.propose-decision.new.seat.knows in
    let d = c.propose-decision.result in
    let p = c.in-Proposing.proposal in
    let old : DecidingTerms = the_view i in
    let told : DecidesAs b old.mark w old.helping.account (round_in old) p d =
    subst (λ (v : Knowledge). DecidesAs b v w old.helping.account (round_in old) p d) (known_before at)
    (subst (λ r. DecidesAs b c.args.seat.now.knows w old.helping.account r p d) c.self.invariant.round_is
    (subst (λ a. DecidesAs b c.args.seat.now.knows w a i.round p d) c.self.invariant.account_is c.propose-decision.ensures.decided)) in
    let next : request_word d c.decided_request-loading.result.loaded ≡ request_word d 0 = ap (λ (l : LoadingRequestTerms). request_word d l.loaded) c.decided_request-loading.ensures in
    subst (λ (t : DecidingTerms). MakesRoundStep b t w (request_word d c.decided_request-loading.result.loaded)) c.self.view_is
    (subst (λ (s : RoundStage). MakesStep b old w (next_of_round s) (request_word d c.decided_request-loading.result.loaded)) (sym c.in-Proposing.is) (d, p, told, next))

pub returns-else-not-published-clause-step : goal.returns-else-not-published-clause-step
returns-else-not-published-clause-step c =
    let at = (goal.at.returns-else-not-published-clause-step c).After-self in
    let i = c.self.inside in
    let b : BookTerms = c.args.board.now.book in
    let d = c.in-Publishing.decision in
    let a : AppendingTerms = c.in-Publishing.appending in
    let w : Knowledge = c.turn-published.new.seat.knows in
    let old : DecidingTerms = the_view i in
    let all : a.stored ≡ record_width b = c.if-not-published.ensures.ends.0 refl in
    let told : Publishes b old.mark w (publication_of a) =
    subst (λ (v : Knowledge). Publishes b v w (publication_of a)) (before at (Publishing d a) c.in-Publishing.is).stage_so.0 (c.if-not-published.ensures.publishes refl) in
    subst (λ (t : DecidingTerms). MakesRoundStep b t w nothing) c.self.view_is
    (subst (λ (s : RoundStage). MakesStep b old w (next_of_round s) nothing) (sym c.in-Publishing.is)
    (omega (arith, all), λ less. absurd (omega (arith, less, all)), λ last. ((publication_of a, told), refl)))

pub returns-then-not-published-clause-step : goal.returns-then-not-published-clause-step
returns-then-not-published-clause-step c =
    let at = (goal.at.returns-then-not-published-clause-step c).After-self in
    let i = c.self.inside in
    let b : BookTerms = c.args.board.now.book in
    let d = c.in-Publishing.decision in
    let a : AppendingTerms = c.in-Publishing.appending in
    let w : Knowledge = c.turn-published.new.seat.knows in
    let old : DecidingTerms = the_view i in
    let so = (before at (Publishing d a) c.in-Publishing.is).stage_so in
    let other : a.stored ≢ record_width b = λ full. let wrong : false ≡ true = c.if-not-published.ensures.ends.1 full in absurd (cc wrong) in
    let few : a.stored ≤ record_width b = omega (arith, so.1, ap record_width (book at)) in
    let n : ℕ = slice_index (record_words (publication_of a)) a.stored in
    let told : StoresWord old.mark w a.stored n =
    subst (λ (v : Knowledge). StoresWord v w a.stored n) so.0 (c.turn-published.ensures.word (omega (arith, few, other))) in
    let next : NextOfRound = record_word d c.turn-published.new.self.stored in
    let goes : next ≡ record_word d (a.stored + 1) = ap (λ (t : AppendingTerms). record_word d t.stored) c.turn-published.ensures.after in
    subst (λ (t : DecidingTerms). MakesRoundStep b t w next) c.self.view_is
    (subst (λ (s : RoundStage). MakesStep b old w (next_of_round s) next) (sym c.in-Publishing.is)
    (few, λ inside. ((n, told), goes), λ full. absurd (other full)))

pub returns-else-not-published-clause-decided : goal.returns-else-not-published-clause-decided
returns-else-not-published-clause-decided c =
    let entry = (goal.at.returns-else-not-published-clause-decided c).Else-not-published in
    let at = (goal.at.Else-not-published entry).After-self in
    let i = c.self.inside in
    let d = c.in-Publishing.decision in
    let a : AppendingTerms = c.in-Publishing.appending in
    let w : Knowledge = c.turn-published.new.seat.knows in
    let so = before at (Publishing d a) c.in-Publishing.is in
    let told : DecidesNext i.start.value.knows.book i.start.value.knows w i.helping.value i.cut d =
    DecidesNext-HasLoadedDecided i.start.value.knows i.mark.value.knows i.totals.value i.helping.value i.cut i.account i.round (Publishing d a) so a.start d a.rec
    so.stage_so.2 w (published entry) in
    subst (λ (t : DecidingTerms). DecidesNext c.args.board.now.book t.start w t.helping t.cut d) c.self.view_is
    (subst (λ (t : BookTerms). DecidesNext t i.start.value.knows w i.helping.value i.cut d) (sym (book at)) told)

-- the totals count the own records up to the one that was published
pub count_published-requires-clause-own : goal.count_published-requires-clause-own
count_published-requires-clause-own c =
    let entry = (goal.at.count_published-requires-clause-own c).Else-not-published in
    let at = (goal.at.Else-not-published entry).After-self in
    let i = c.self.inside in
    let a : AppendingTerms = c.in-Publishing.appending in
    let w : Knowledge = c.turn-published.new.seat.knows in
    let so = before at (Publishing c.in-Publishing.decision a) c.in-Publishing.is in
    let first : w.first ≡ a.start.first = ap (λ (v : Knowledge). v.first) (published entry).same in
    let own = own-HasLoadedDecided i.start.value.knows i.mark.value.knows i.totals.value i.helping.value i.cut i.account i.round
    (Publishing c.in-Publishing.decision a) so a.start c.in-Publishing.decision a.rec so.stage_so.2 in
    let start : c.turn-published.new.self.start ≡ a.start = ap (λ (t : AppendingTerms). t.start) c.turn-published.ensures.after in
    ap (λ (t : TotalSums). get_or t.upto w.first 0) (totals_before at)
    ∙ (ap (λ p. get_or i.totals.value.upto p 0) first ∙ (own ∙ ap (λ (v : Knowledge). (own_part v).published) (sym start)))

pub count_published-requires-clause-process : goal.count_published-requires-clause-process
count_published-requires-clause-process c =
    let entry = (goal.at.count_published-requires-clause-process c).Else-not-published in
    let at = (goal.at.Else-not-published entry).After-self in
    let i = c.self.inside in
    let a : AppendingTerms = c.in-Publishing.appending in
    let so = before at (Publishing c.in-Publishing.decision a) c.in-Publishing.is in
    let same = (published entry).same in
    omega (
      arith,
      process-HasLoadedDecided i.start.value.knows i.mark.value.knows i.totals.value i.helping.value i.cut i.account i.round
          (Publishing c.in-Publishing.decision a) so a.start c.in-Publishing.decision a.rec so.stage_so.2,
      ap (λ (v : Knowledge). v.first) same,
      ap (λ (v : Knowledge). v.book.processes) same,
    )

pub count_published-requires-clause-last : goal.count_published-requires-clause-last
count_published-requires-clause-last c =
    subst (λ (t : AppendingTerms). IsLast t.start c.turn-published.new.seat.knows (publication_of t)) (sym c.turn-published.ensures.after)
    (c.if-not-published.ensures.last refl)

pub returns-else-not-published-clause-upto : goal.returns-else-not-published-clause-upto
returns-else-not-published-clause-upto c =
    let entry = (goal.at.returns-else-not-published-clause-upto c).Else-not-published in
    let at = (goal.at.Else-not-published entry).After-self in
    let w : Knowledge = c.turn-published.new.seat.knows in
    let cut : c.args.totals.now.upto ≡ c.args.self.now.cut =
    ap (λ (t : TotalSums). t.upto) (totals_before at) ∙ (c.self.invariant.upto ∙ ap (λ (t : DecidingTerms). t.cut) c.self.view_is) in
    c.count_published.ensures.upto ∙ ap (λ upto. slice_set upto w.first (own_part w).published) cut

pub returns-else-not-published-clause-counted : goal.returns-else-not-published-clause-counted
returns-else-not-published-clause-counted c =
    subst (λ (t : BookTerms). HasCounted c.count_published.new.totals t c.turn-published.new.seat.knows.seen) c.turn-published.ensures.board.book
    c.count_published.ensures.counted

-- the round is decided
decided : (c : After-decided_request-loading)
    → HasDecided c.self.inside.start.value.knows c.propose-decision.new.seat.knows c.self.inside.helping.value c.self.inside.cut c.propose-decision.result
decided c =
    let at = (goal.at.After-decided_request-loading c).After-self in
    let i = c.self.inside in
    let start : Knowledge = i.start.value.knows in
    let w : Knowledge = c.propose-decision.new.seat.knows in
    let p = c.in-Proposing.proposal in
    let d = c.propose-decision.result in
    let a = i.helping.value.account in
    let so = before at (Proposing p) c.in-Proposing.is in
    record {
      proposal = p;
      proposes = so.stage_so.1;
      decides = subst (λ r. DecidesAs start.book start w a r p d) c.self.invariant.round_is
          (subst (λ n. DecidesAs start.book start w n i.round p d) c.self.invariant.account_is
          (subst (λ (v : Knowledge). DecidesAs start.book v w i.account i.round p d) (known_before at ∙ so.stage_so.0)
          (subst (λ (b : BookTerms). DecidesAs b c.args.seat.now.knows w i.account i.round p d) (book at) c.propose-decision.ensures.decided)));
      sees = subst (λ r. SeesDecision w a r d) c.self.invariant.round_is (subst (λ n. SeesDecision w n i.round d) c.self.invariant.account_is c.propose-decision.ensures.seen);
    }

pub invariant_of-self : goal.invariant_of-self
invariant_of-self c =
    let at = (goal.at.invariant_of-self c).After-self in
    let i = c.self.inside in
    let is = c.decided_request-loading.ensures in
    record {
      seat = c.self.invariant.seat;
      book = ap (λ (s : SeatTerms). s.knows.book) c.of.ensures ∙ (c.propose-decision.ensures.board.book ∙ book at);
      account_is = c.self.invariant.account_is;
      round_is = c.self.invariant.round_is;
      counted = c.self.invariant.counted;
      at_cut = c.self.invariant.at_cut;
      upto = c.self.invariant.upto;
      own = c.self.invariant.own;
      helping = c.self.invariant.helping;
      unsettled = c.self.invariant.unsettled;
      stage_so = (
        ap (λ (l : LoadingRequestTerms). l.mark) is ∙ sym (ap (λ (s : SeatTerms). s.knows) c.of.ensures),
        omega (arith, ap (λ (l : LoadingRequestTerms). l.loaded) is),
        ap (λ (l : LoadingRequestTerms). l.account) is ∙ c.self.invariant.account_is,
        ap (λ (l : LoadingRequestTerms). l.slot) is,
        ap (λ (l : LoadingRequestTerms). l.number) is,
        subst (λ (l : LoadingRequestTerms). HasDecided i.start.value.knows l.start i.helping.value i.cut c.propose-decision.result) (sym is)
            (decided (goal.at.invariant_of-self c).After-decided_request-loading),
      );
    }

pub invariant_of-self-in-Loading : goal.invariant_of-self-in-Loading
invariant_of-self-in-Loading c =
    let at = (goal.at.invariant_of-self-in-Loading c).After-self in
    let i = c.self.inside in
    let is = c.start.ensures in
    record {
      seat = c.self.invariant.seat;
      book = ap (λ (s : SeatTerms). s.knows.book) c.of-in-Loading.ensures ∙ (c.turn-loaded.ensures.board.book ∙ book at);
      account_is = c.self.invariant.account_is;
      round_is = c.self.invariant.round_is;
      counted = c.self.invariant.counted;
      at_cut = c.self.invariant.at_cut;
      upto = c.self.invariant.upto;
      own = c.self.invariant.own;
      helping = c.self.invariant.helping;
      unsettled = c.self.invariant.unsettled;
      stage_so = (
        ap (λ (a : AppendingTerms). a.mark) is ∙ sym (ap (λ (s : SeatTerms). s.knows) c.of-in-Loading.ensures),
        omega (arith, ap (λ (a : AppendingTerms). a.stored) is),
        subst (λ (a : AppendingTerms). HasLoadedDecided i.start.value.knows a.start i.helping.value i.cut c.in-Loading.decision a.rec) (sym is)
            (loaded (goal.at.invariant_of-self-in-Loading c).After-record_of_round-record),
      );
    }

pub invariant_of-self-then-not-published : goal.invariant_of-self-then-not-published
invariant_of-self-then-not-published c =
    let at = (goal.at.invariant_of-self-then-not-published c).After-self in
    let i = c.self.inside in
    let d = c.in-Publishing.decision in
    let a : AppendingTerms = c.in-Publishing.appending in
    let is = c.turn-published.ensures.after in
    let so = before at (Publishing d a) c.in-Publishing.is in
    let left : a.stored ≢ record_width c.args.board.now.book = λ all. let wrong : false ≡ true = c.if-not-published.ensures.ends.1 all in absurd (cc wrong) in
    record {
      seat = c.self.invariant.seat;
      book = ap (λ (s : SeatTerms). s.knows.book) c.of-in-Publishing.ensures ∙ (c.turn-published.ensures.board.book ∙ book at);
      account_is = c.self.invariant.account_is;
      round_is = c.self.invariant.round_is;
      counted = c.self.invariant.counted;
      at_cut = c.self.invariant.at_cut;
      upto = c.self.invariant.upto;
      own = c.self.invariant.own;
      helping = c.self.invariant.helping;
      unsettled = c.self.invariant.unsettled;
      stage_so = (
        ap (λ (t : AppendingTerms). t.mark) is ∙ sym (ap (λ (s : SeatTerms). s.knows) c.of-in-Publishing.ensures),
        omega (arith, ap (λ (t : AppendingTerms). t.stored) is, left, so.stage_so.1, ap (λ (b : BookTerms). record_width b) (book at)),
        subst (λ (t : AppendingTerms). HasLoadedDecided i.start.value.knows t.start i.helping.value i.cut d t.rec) (sym is) so.stage_so.2,
      );
    }

pub returns-in-Proposing-clause-left : goal.returns-in-Proposing-clause-left
returns-in-Proposing-clause-left c = grind (arith, common_steps)

pub returns-else-not-published-clause-ends : goal.returns-else-not-published-clause-ends
returns-else-not-published-clause-ends c = grind (arith, common_steps)

pub returns-else-not-published-clause-after : goal.returns-else-not-published-clause-after
returns-else-not-published-clause-after c = grind (arith, common_steps)

pub returns-in_err-targets-in-Loading-clause-exchanges : goal.returns-in_err-targets-in-Loading-clause-exchanges
returns-in_err-targets-in-Loading-clause-exchanges c = grind (arith, common_steps)

pub returns-in_err-targets-in-Loading-clause-left : goal.returns-in_err-targets-in-Loading-clause-left
returns-in_err-targets-in-Loading-clause-left c = grind (arith, common_steps)

pub returns-in_ok-targets-in-Loading-clause-after : goal.returns-in_ok-targets-in-Loading-clause-after
returns-in_ok-targets-in-Loading-clause-after c = grind (arith, common_steps)

pub returns-then-not-published-clause-left : goal.returns-then-not-published-clause-left
returns-then-not-published-clause-left c = grind (arith, common_steps)

pub returns-in_err-targets-in-Loading-clause-after : goal.returns-in_err-targets-in-Loading-clause-after
returns-in_err-targets-in-Loading-clause-after c = grind (arith, common_steps)

pub invariant_of-self-in-Publishing : goal.invariant_of-self-in-Publishing
invariant_of-self-in-Publishing c = grind (arith, common_steps)

pub returns-then-not-published-clause-exchanges : goal.returns-then-not-published-clause-exchanges
returns-then-not-published-clause-exchanges c = grind (arith, common_steps)

pub returns-in_ok-targets-in-Loading-clause-left : goal.returns-in_ok-targets-in-Loading-clause-left
returns-in_ok-targets-in-Loading-clause-left c = grind (arith, common_steps)

pub returns-else-not-published-clause-exchanges : goal.returns-else-not-published-clause-exchanges
returns-else-not-published-clause-exchanges c = grind (arith, common_steps)

pub returns-in-Proposing-clause-exchanges : goal.returns-in-Proposing-clause-exchanges
returns-in-Proposing-clause-exchanges c = grind (arith, common_steps)

pub returns-in-Proposing-clause-after : goal.returns-in-Proposing-clause-after
returns-in-Proposing-clause-after c = grind (arith, common_steps)

pub returns-then-not-published-clause-after : goal.returns-then-not-published-clause-after
returns-then-not-published-clause-after c = grind (arith, common_steps)

pub returns-in_ok-targets-in-Loading-clause-exchanges : goal.returns-in_ok-targets-in-Loading-clause-exchanges
returns-in_ok-targets-in-Loading-clause-exchanges c = grind (arith, common_steps)

pub turn-published-requires-clause-left : goal.turn-published-requires-clause-left
turn-published-requires-clause-left c = grind (arith, common_steps)

pub returns-in_err-targets-in-Loading-clause-counted : goal.returns-in_err-targets-in-Loading-clause-counted
returns-in_err-targets-in-Loading-clause-counted c = grind (arith, common_steps)

pub returns-in_err-targets-in-Loading-clause-upto : goal.returns-in_err-targets-in-Loading-clause-upto
returns-in_err-targets-in-Loading-clause-upto c = grind (arith, common_steps)

pub returns-in_ok-targets-in-Loading-clause-ends : goal.returns-in_ok-targets-in-Loading-clause-ends
returns-in_ok-targets-in-Loading-clause-ends c = grind (arith, common_steps)

pub turn-loaded-requires-clause-left : goal.turn-loaded-requires-clause-left
turn-loaded-requires-clause-left c = grind (arith, common_steps)

pub returns-in_err-targets-in-Loading-clause-decided : goal.returns-in_err-targets-in-Loading-clause-decided
returns-in_err-targets-in-Loading-clause-decided c = grind (arith, common_steps)

pub turn-loaded-requires-clause-mark : goal.turn-loaded-requires-clause-mark
turn-loaded-requires-clause-mark c = grind (arith, common_steps)

pub propose-decision-requires-clause-proposal : goal.propose-decision-requires-clause-proposal
propose-decision-requires-clause-proposal c = grind (arith, common_steps)

pub returns-else-not-published-clause-steps : goal.returns-else-not-published-clause-steps
returns-else-not-published-clause-steps c = grind (arith, common_steps)

pub unreachable-requires : goal.unreachable-requires
unreachable-requires c = grind (arith, common_steps)

pub returns-else-not-published-clause-waits : goal.returns-else-not-published-clause-waits
returns-else-not-published-clause-waits c = grind (arith, common_steps)

pub turn-published-requires-clause-mark : goal.turn-published-requires-clause-mark
turn-published-requires-clause-mark c = grind (arith, common_steps)
