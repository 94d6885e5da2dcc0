-- What a look, and a round after it, let the answer of a turn of helping be.
use Rattle.std.proofs.Common.{◌≡◌, ℕ, ◌+◌, ◌-◌, ◌*◌, ◌<◌, ◌≤◌, List, [], ◌∷◌, ◌++◌, length, set, get_or, get_or-set_same, refl, sym, ap, subst, ◌∙◌, arith, inl, inr}
use Rattle.at_calling.proofs.Prelude.{cases_lt, length-take, sum, word_of, Decision, BookTerms, Reply, length-IsCut, IsPrefix-length, IsPrefix-refl, IsPrefix-trans, prefix_of, IsPrefix, rounds, AgreesWithSeen, asking_on, no_part, own_part, part_asking, seen_as, IsKept, LoadsRequestWord, with_loaded, StoresWord, with_word, record_width, Asking, Knowledge, LoadedWord, Part, SeenRequest, sum-caught, IsDecidedIn, TotalSums, At, HasAccount, asking_on-with_asking, IsAfter, IsAfter-Decides, IsAfter-Publishes, own_part-Decides, own_part-Publishes, StandsInRound-IsAnswerOf, FindsSettled-turn, HelpsDecide-turn, IsHelping-turn, IsPlaced-turn-found, IsPlaced-turn-own, StandsAfter-turn-found, StandsAfter-turn-own, begins-turn, decides-turn, decides_elsewhere-turn, free-turn, heard-turn, overtaken-turn, process-turn, published-turn, rounds-turn, DecidesNext, IsAnswerOf, NamesOwn, HelpingTerms, IsHelping, decides_made, decides_on, round_steps, Settled, More, HasLooked, snapshot_steps, DecidingTerms, MakesRoundStep, MakesStep, NextOfRound, deciding_after, exchanges_in, left_of_round, round_in, exchange, record_word, IsDecidingThen, IsWithin, IsWithinOneMore, CountsOthersStill, LeavesTotals, SeesOthersStill, counted_so_far, newly_seen, IsHelpOf, IsHelpWithin, LeavesSeat, TurningTerms, WaitsOn, help_steps, Decide}
use Rattle.at_machines.specs.Deciding.NextOfRound.{request_word, nothing}
use Rattle.at_calling.proofs.PayingAloneLaws.{length-Publishes-lt, published-with_part}

-- a round has so many steps, and its exchange is the first
pub left_of_round-le : (n : ℕ) (next : NextOfRound) → left_of_round n next ≤ round_steps n
left_of_round-le n exchange = omega arith
left_of_round-le n (request_word d word) = omega arith
left_of_round-le n (record_word d word) = omega arith
left_of_round-le n nothing = omega arith

pub exchanges_in-lt : (n : ℕ) (next : NextOfRound) → left_of_round n next < round_steps n → exchanges_in next ≡ 0
exchanges_in-lt n exchange less = absurd (omega (arith, less))
exchanges_in-lt n (request_word d word) less = refl
exchanges_in-lt n (record_word d word) less = refl
exchanges_in-lt n nothing less = refl

-- a step that makes so many exchanges on the account, after which the seat has seen at least as much, of others too. Where so many are left,
-- and any is, it published nothing
record IsStepOf (v w : Knowledge) (a exchanges left : ℕ) : Type 0 where
  decides : decides_on w a ≡ decides_on v a + exchanges
  more : IsPrefix v.seen w.seen
  others : SeesOthersStill v w
  unpublished : 0 < left → (own_part w).published ≡ (own_part v).published

IsStepOf-IsAfter : (v w : Knowledge) (a exchanges left : ℕ) (words : List LoadedWord) → IsAfter v w a exchanges words → SeesOthersStill v w
    → (0 < left → (own_part w).published ≡ (own_part v).published) → IsStepOf v w a exchanges left
IsStepOf-IsAfter v w a exchanges left words after others unpublished = record {
  decides = ap (λ (t : Asking). t.decides) after.asking;
  more = after.more;
  others = others;
  unpublished = unpublished;
}

IsStepOf-StoresWord : (v w : Knowledge) (word n a left : ℕ) → 0 < length v.parts → StoresWord v w word n → IsStepOf v w a 0 left
IsStepOf-StoresWord v w word n a left part told = record {
  decides = omega (
    arith,
    ap (λ (t : Knowledge). decides_on t a) told,
    ap (λ (q : Part). (asking_on q a).decides) (get_or-set_same v.parts 0 (with_word (own_part v) word n) no_part part),
  );
  more = subst (IsPrefix v.seen) (sym (ap (λ (t : Knowledge). t.seen) told)) (IsPrefix-refl v.seen);
  others = omega (
    arith,
    ap (λ (t : Knowledge). length t.seen) told,
    ap (λ (t : Knowledge). (own_part t).published) told,
    published-with_part v (with_word (own_part v) word n) refl,
  );
  unpublished = λ some. ap (λ (t : Knowledge). (own_part t).published) told ∙ published-with_part v (with_word (own_part v) word n) refl;
}

IsStepOf-LoadsRequestWord : (b : BookTerms) (v w : Knowledge) (a slot number word n left : ℕ) → HasAccount v a
    → LoadsRequestWord b v w a slot number word n → IsStepOf v w a 0 left
IsStepOf-LoadsRequestWord b v w a slot number word n left has told =
    let x : SeenRequest = seen_as a slot number told.request in
    let u : Knowledge = record v { requests = v.requests ++ x ∷ [] } in
    let now : Asking = with_loaded (asking_on (own_part v) a) x word in
    record {
      decides = omega (
        arith,
        ap (λ (t : Knowledge). decides_on t a) told.same,
        ap (λ (t : Asking). t.decides) (asking_on-with_asking u a now (record { part = has.part; inside = has.inside })),
      );
      more = subst (IsPrefix v.seen) (sym (ap (λ (t : Knowledge). t.seen) told.same)) (IsPrefix-refl v.seen);
      others = omega (
        arith,
        ap (λ (t : Knowledge). length t.seen) told.same,
        ap (λ (t : Knowledge). (own_part t).published) told.same,
        published-with_part u (part_asking (own_part u) a now) refl,
      );
      unpublished = λ some. ap (λ (t : Knowledge). (own_part t).published) told.same ∙ published-with_part u (part_asking (own_part u) a now) refl;
    }

-- the step of the exchange makes one, and no other of the round does
IsStepOf-MakesStep : (b : BookTerms) (c : DecidingTerms) (w : Knowledge) (step next : NextOfRound) → HasAccount c.mark c.helping.account
    → 0 < left_of_round b.processes step → MakesStep b c w step next
    → IsStepOf c.mark w c.helping.account (exchanges_in step) (left_of_round b.processes next)
IsStepOf-MakesStep b c w exchange next has left (d, proposal, told, then) =
    let after = IsAfter-Decides b c.mark w c.helping.account (round_in c) proposal (word_of d) has told.decides in
    let own = own_part-Decides b c.mark w c.helping.account (round_in c) proposal (word_of d) has.part told.decides in
    IsStepOf-IsAfter c.mark w c.helping.account 1 (left_of_round b.processes next) [] after
    (omega (arith, IsPrefix-length c.mark.seen w.seen after.more, ap (λ (q : Part). q.published) own)) (λ some. ap (λ (q : Part). q.published) own)
IsStepOf-MakesStep b c w (request_word d word) next has left ((n, told), more, last) =
    IsStepOf-LoadsRequestWord b c.mark w c.helping.account d.slot d.number word n (left_of_round b.processes next) has told
IsStepOf-MakesStep b c w (record_word d word) next has left (few, stores, publishes) =
    let a = c.helping.account in
    elim (cases_lt word (record_width b)) as (λ _. IsStepOf c.mark w a 0 (left_of_round b.processes next)) [
      | inl inside ↦
          let ((n, told), then) = stores inside in
          IsStepOf-StoresWord c.mark w word n a (left_of_round b.processes next) has.part told
      | inr all ↦
          let ((x, told), then) = publishes (omega (arith, left, all)) in
          IsStepOf-IsAfter c.mark w a 0 (left_of_round b.processes next) [] (IsAfter-Publishes b c.mark w a x has.part told)
          (omega (arith, length-Publishes-lt b c.mark w x told, ap (λ (q : Part). q.published) (own_part-Publishes b c.mark w x has.part told)))
          (λ some. absurd (omega (arith, some, ap (left_of_round b.processes) then)))
    ]
IsStepOf-MakesStep b c w nothing next has left none = absurd none

-- a round from one turn to the next
module _ (b : BookTerms) (t : TurningTerms) (d e : DecidingTerms) (w : Knowledge) (book : t.start.book ≡ b) (so : IsDecidingThen t d)
    (has : HasAccount t.mark t.helping.account) (some : 0 < d.left) (after : e ≡ deciding_after d w e.next) (less : e.left + 1 ≡ d.left)
    (step : MakesRoundStep b d w e.next) where
  abbrev processes : ℕ
  processes = d.start.book.processes

  processes_are : processes ≡ b.processes
  processes_are = ap (λ (k : BookTerms). k.processes) (ap (λ (v : Knowledge). v.book) so.looked_at.loads.same ∙ book)

  left_now : e.left ≡ left_of_round processes e.next
  left_now = ap (λ (c : DecidingTerms). c.left) after

  is_step : IsStepOf t.mark w t.helping.account (exchanges_in d.next) (left_of_round b.processes e.next)
  is_step =
      subst (λ (v : Knowledge). IsStepOf v w t.helping.account (exchanges_in d.next) (left_of_round b.processes e.next)) so.mark_is
      (subst (λ (h : HelpingTerms). IsStepOf d.mark w h.account (exchanges_in d.next) (left_of_round b.processes e.next)) so.helping_is
      (IsStepOf-MakesStep b d w d.next e.next
      (subst (HasAccount d.mark) (sym (ap (λ (h : HelpingTerms). h.account) so.helping_is))
      (subst (λ (v : Knowledge). HasAccount v t.helping.account) (sym so.mark_is) has))
      (omega (arith, some, so.left_is, ap (λ n. left_of_round n d.next) processes_are)) step))

  longer : length t.mark.seen ≤ length w.seen
  longer = IsPrefix-length t.mark.seen w.seen is_step.more

  -- after it the exchange was made
  exchanges_in-step : exchanges_in e.next ≡ 0
  exchanges_in-step = exchanges_in-lt processes e.next (omega (arith, less, left_now, so.left_is, left_of_round-le processes d.next))

  pub decides_made-step : decides_made t.helping.account t.start w ≡ 1
  decides_made-step = omega (arith, is_step.decides, so.once)

  pub IsHelpWithin-step : IsHelpWithin b.processes (decides_made t.helping.account t.start w) (newly_seen t.start w t.was.upto)
      (t.looked + (round_steps e.start.book.processes - e.left))
  IsHelpWithin-step =
      omega (
        arith,
        so.few,
        so.seen,
        so.others,
        longer,
        is_step.others,
        ap (λ (k : BookTerms). snapshot_steps k.processes) book,
        ap (λ (c : DecidingTerms). round_steps c.start.book.processes) after,
        ap round_steps processes_are,
        ap (λ k. round_steps b.processes * k) decides_made-step,
      )

  -- until the last step nothing is published
  module _ (goes_on : 0 < e.left) where
    unpublished-step : (own_part w).published ≡ (own_part t.start).published
    unpublished-step =
        is_step.unpublished (omega (arith, goes_on, left_now, ap (λ n. left_of_round n e.next) processes_are)) ∙ so.unpublished

    pub published-step : (own_part t.start).published ≤ (own_part w).published
    published-step = omega (arith, unpublished-step)

    -- and the totals stay
    module _ (now : TotalSums) (same : now ≡ t.totals) where
      counted-step : sum now.upto ≡ sum d.cut
      counted-step = ap (λ (s : TotalSums). sum s.upto) same ∙ ap (λ xs. sum xs) so.looked_at.upto

      pub counts_others-step : CountsOthersStill t.start w t.was now
      counts_others-step = omega (arith, counted-step, unpublished-step, so.looked_at.more)

      pub counting-step : IsWithinOneMore (help_steps b.processes (decides_made t.helping.account t.start w))
          (counted_so_far t.start w t.was.upto now.upto) (t.looked + (round_steps e.start.book.processes - e.left))
      counting-step =
          omega (
            arith,
            so.few,
            counted-step,
            unpublished-step,
            ap (λ (k : BookTerms). snapshot_steps k.processes) book,
            ap (λ (c : DecidingTerms). round_steps c.start.book.processes) after,
            ap round_steps processes_are,
            ap (λ k. round_steps b.processes * k) decides_made-step,
          )

  -- no less is seen than at the start, of others too
  begun-step : length t.start.seen ≤ sum d.cut
  begun-step =
      omega (
        arith,
        IsPrefix-length t.start.seen (prefix_of d.cut d.start.seen) so.looked_at.snapshot.begins,
        length-take (sum d.cut) d.start.seen,
      )

  pub seen-step : length t.start.seen ≤ length w.seen
  seen-step = omega (arith, begun-step, so.seen, longer)

  pub begins-step : IsPrefix t.start.seen w.seen
  begins-step = IsPrefix-trans t.start.seen t.mark.seen w.seen so.begins is_step.more

  pub others-step : SeesOthersStill t.start w
  others-step = omega (arith, begun-step, so.others, is_step.others)

  pub help_turns_in-le : t.looked + (round_steps e.start.book.processes - e.left) ≤ t.looked + round_steps b.processes
  help_turns_in-le = omega (arith, ap (λ (c : DecidingTerms). round_steps c.start.book.processes) after, ap round_steps processes_are)

  -- it goes on, and the totals stay
  pub IsDecidingThen-step : (totals : TotalSums) → totals ≡ t.totals → 0 < e.left → IsDecidingThen (record t { stage = Decide e; mark = w; totals = totals }) e
  IsDecidingThen-step totals same goes_on = record {
    helping_is = ap (λ (c : DecidingTerms). c.helping) after ∙ so.helping_is;
    mark_is = ap (λ (c : DecidingTerms). c.mark) after;
    totals_are = ap (λ (c : DecidingTerms). c.totals) after ∙ (so.totals_are ∙ sym same);
    looked_at = subst (λ (c : DecidingTerms). HasLooked t.start.book t.start c.start t.was totals c.cut) (sym after)
        (subst (λ (s : TotalSums). HasLooked t.start.book t.start d.start t.was s d.cut) (sym same) so.looked_at);
    few = subst (λ (c : DecidingTerms). IsWithin t.start.book.processes t.was (sum c.cut) t.looked) (sym after) so.few;
    seen = omega (arith, so.seen, longer, ap (λ (c : DecidingTerms). sum c.cut) after);
    begins = begins-step;
    others = omega (arith, so.others, is_step.others, ap (λ (c : DecidingTerms). sum c.cut) after);
    unpublished = unpublished-step goes_on;
    left_is = left_now ∙ ap (λ (c : DecidingTerms). left_of_round c.start.book.processes e.next) (sym after);
    once = omega (arith, so.once, is_step.decides, exchanges_in-step);
  }

module _ (b : BookTerms) (v w : Knowledge) (was now : TotalSums) (cut : List ℕ) (h : HelpingTerms) (has : HasAccount v h.account)
    (looked : HasLooked b v w was now cut) (is : IsHelping b v h) where
  -- the request is decided in the cut's records
  pub IsHelpOf-found : (r : ℕ) (d : Decision) (answer : Reply × At) → AgreesWithSeen w
      → IsDecidedIn (prefix_of cut w.seen) h.account h.own.slot h.own.number r d → IsAnswerOf r d answer → IsHelpOf b v w h (Settled answer)
  IsHelpOf-found r d answer agrees found so = record {
    answers = inl (FindsSettled-turn b v w h cut has looked.snapshot looked.loads is r d found);
    in_round = StandsInRound-IsAnswerOf r d answer so;
    placed = IsPlaced-turn-found b v w h cut has looked.snapshot looked.loads is r d answer agrees found so;
    after_start = StandsAfter-turn-found b v w h cut has looked.snapshot looked.loads is r d answer agrees found so;
  }

  -- the round at the cut is decided and published
  module _ (x : Knowledge) (d : Decision) (next : DecidesNext b w x h cut d) where
    decides_made-decided : decides_made h.account v x ≡ 1
    decides_made-decided = omega (arith, decides-turn b v w h cut has looked.snapshot looked.loads is x d next)

    pub IsHelpOf-own : (r : ℕ) (answer : Reply × At) → AgreesWithSeen x → r ≡ rounds h.account (prefix_of cut w.seen) → NamesOwn h d
        → IsAnswerOf r d answer → IsHelpOf b v x h (Settled answer)
    IsHelpOf-own r answer agrees round names so = record {
      answers = inr (d, HelpsDecide-turn b v w h cut has looked.snapshot looked.loads is x d next, names);
      in_round = StandsInRound-IsAnswerOf r d answer so;
      placed = IsPlaced-turn-own b v w h cut has looked.snapshot looked.loads is x d next r answer agrees round names so;
      after_start = StandsAfter-turn-own b v w h cut has looked.snapshot looked.loads is x d next r answer agrees round names so;
    }

    pub IsHelpOf-other : ¬ NamesOwn h d → IsHelpOf b v x h More
    IsHelpOf-other other = record {
      answers = (d, HelpsDecide-turn b v w h cut has looked.snapshot looked.loads is x d next, other);
      in_round = tt;
      placed = tt;
      after_start = tt;
    }

    pub WaitsOn-other : IsKept x → x.book ≡ b → ¬ NamesOwn h d → WaitsOn b v x h
    WaitsOn-other kept book other = record {
      helping = IsHelping-turn b v w h cut has looked.snapshot looked.loads is x d next;
      decides_more = decides-turn b v w h cut has looked.snapshot looked.loads is x d next;
      rounds_more = rounds-turn b v w h cut has looked.snapshot looked.loads is x d next;
      overtaken = overtaken-turn b v w h cut has looked.snapshot looked.loads is x d next kept book other;
    }

    pub LeavesSeat-decided : LeavesSeat v x h.account
    LeavesSeat-decided =
        let decides = decides-turn b v w h cut has looked.snapshot looked.loads is x d next in
        record {
          heard = heard-turn b v w h cut has looked.snapshot looked.loads is x d next;
          free = free-turn b v w h cut has looked.snapshot looked.loads is x d next;
          begins = begins-turn b v w h cut has looked.snapshot looked.loads is x d next;
          process = process-turn b v w h cut has looked.snapshot looked.loads is x d next;
          decides_few = omega (arith, decides);
          decides_at_most = omega (arith, decides);
          decides_elsewhere = decides_elsewhere-turn b v w h cut has looked.snapshot looked.loads is x d next;
          published = omega (arith, published-turn b v w h cut has looked.snapshot looked.loads is x d next);
        }

    -- its record is one more that the totals count, and that took no load
    pub LeavesTotals-decided : (after : TotalSums) (looks turns : ℕ) → v.first < b.processes → after.upto ≡ set cut x.first (own_part x).published
        → IsWithin b.processes was (sum cut) looks → turns ≤ looks + round_steps b.processes
        → LeavesTotals b v x was after (round_steps b.processes * decides_made h.account v x) turns
    LeavesTotals-decided after looks turns known upto few all =
        let process : x.first ≡ v.first = process-turn b v w h cut has looked.snapshot looked.loads is x d next in
        let published = published-turn b v w h cut has looked.snapshot looked.loads is x d next in
        let counts : get_or cut x.first 0 ≡ (own_part v).published = ap (λ p. get_or cut p 0) process ∙ looked.snapshot.own in
        let inside : x.first < length cut = omega (arith, known, process, length-IsCut b.processes cut w.seen looked.snapshot.cut) in
        let summed = sum-caught cut x.first (own_part x).published inside (omega (arith, counts, published)) in
        let upto_sum : sum after.upto ≡ sum cut + 1 = omega (arith, ap sum upto, summed, counts, published) in
        record {
          more = omega (arith, upto_sum, published, looked.more);
          own_counted = ap (λ (xs : List ℕ). get_or xs x.first 0) upto ∙ get_or-set_same cut x.first (own_part x).published 0 inside;
          few = omega (
            arith,
            few,
            all,
            upto_sum,
            published,
            ap (λ k. round_steps b.processes * k) decides_made-decided,
          );
        }
