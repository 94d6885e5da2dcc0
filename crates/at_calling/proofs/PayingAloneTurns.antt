-- What a turn of a payment from a single account leaves of it.
use Rattle.std.proofs.Common.{◌≡◌, ℕ, ◌+◌, ◌-◌, ◌<◌, ◌≤◌, ◌↔◌, List, IfSome, IsSome, Option, length, refl, sym, ap, subst, ◌∙◌, arith}
use Rattle.at_calling.proofs.Prelude.{sum, BookTerms, IsPrefix-length, IsPrefix-trans, IsPrefix, Publication, own_part, SeatTerms, record_width, Knowledge, StaysCounted, TotalSums, Reply, At, single_steps, published-HasLoaded, HasLoaded, snapshot_steps, IsAppendingThen, IsLookingFirst, IsPayStageSo, IsPayingAloneSo, TakesPayTurn, AnswersAlone, FollowsPay, HasSameAsking, IsPayWithin, MakesPayStep, PayingAloneTerms, append_steps, pay_turns_left, turns_in, LeavesTotals, SeesOthersStill, counted_so_far, newly_seen, PayStage, Append, Look, AppendingTerms, appending_after, IsWithin, IsWithinOneMore, LookingTerms, MakesLookLoad}
use Rattle.at_calling.proofs.PayingAloneLaws.{HasSameAsking-HasLoaded, paying_next}

module _ (b : BookTerms) (seen : List Publication) (t : PayingAloneTerms) (so : IsPayingAloneSo t) (book : t.start.book ≡ b) (before after : SeatTerms) (now : TotalSums)
    (mark : Knowledge) (mark_is : mark ≡ after.knows) (totals : TotalSums) (totals_are : totals ≡ now) where
  -- a turn of the look
  module _ (l : LookingTerms) (is : t.stage ≡ Look l) (turns : ℕ) (made : turns ≡ l.turns + 1) (load : MakesLookLoad b seen l.stage before after now)
      (loads : HasLoaded b l.start after.knows) (so_far : IsWithin b.processes l.was (length after.knows.seen) turns)
      (so_counted : IsWithinOneMore (snapshot_steps b.processes) (sum now.upto - sum l.was.upto) turns) where
    looks : IsLookingFirst t l
    looks = subst (IsPayStageSo t) is so.stage_so

    loads_on : HasLoaded t.start.book t.start after.knows
    loads_on =
        subst (λ (k : BookTerms). HasLoaded k t.start after.knows) (sym book) (subst (λ (v : Knowledge). HasLoaded b v after.knows) looks.start_is loads)

    within : IsPayWithin b.processes (newly_seen t.start after.knows t.was.upto) turns
    within =
        let so_far_on : IsWithin b.processes t.was (length after.knows.seen) turns =
        subst (λ (s : TotalSums). IsWithin b.processes s (length after.knows.seen) turns) looks.was_is so_far in
        omega (arith, so_far_on, published-HasLoaded t.start.book t.start after.knows (omega (arith, so.kept.one_part)) loads_on)

    counting : IsWithinOneMore (single_steps b.processes) (counted_so_far t.start after.knows t.was.upto now.upto) turns
    counting =
        omega (
          arith,
          so_counted,
          ap (λ (s : TotalSums). sum s.upto) looks.was_is,
          published-HasLoaded t.start.book t.start after.knows (omega (arith, so.kept.one_part)) loads_on,
        )

    pub TakesPayTurn-look : (stage : PayStage) (answer : Option (Reply × At)) → turns_in turns stage ≡ turns
        → pay_turns_left (record_width b) stage < pay_turns_left (record_width b) (Look l)
        → (IsSome answer ↔ (pay_turns_left (record_width b) stage ≡ 0)) → IfSome answer (AnswersAlone b t.start after.knows t.from t.targets)
        → IfSome answer (λ r. StaysCounted now b after.knows.seen)
        → IfSome answer (λ r. LeavesTotals b t.start after.knows t.was now (append_steps (record_width b) r.0) turns)
        → FollowsPay b.processes (Look l) stage → TakesPayTurn b seen t (paying_next t stage turns mark totals) before after now answer
    TakesPayTurn-look stage answer same left ends pays counted leaves follows = record {
      from_is = refl;
      targets_are = refl;
      start_is = refl;
      mark_is = mark_is;
      was_is = refl;
      totals_are = totals_are;
      turns = same ∙ (made ∙ ap (λ n. n + 1) (sym (ap (turns_in t.looked) is)));
      step = subst (λ (k : PayStage). MakesPayStep b seen k before after now) (sym is) load;
      follows = subst (λ (k : PayStage). FollowsPay b.processes k stage) (sym is) follows;
      left = subst (λ (k : PayStage). pay_turns_left (record_width b) stage < pay_turns_left (record_width b) k) (sym is) left;
      ends = ends;
      so_far = subst (IsPayWithin b.processes (newly_seen t.start after.knows t.was.upto)) (sym same) within;
      counting = subst (IsWithinOneMore (single_steps b.processes) (counted_so_far t.start after.knows t.was.upto now.upto)) (sym same) counting;
      begins = loads_on.more;
      asks = HasSameAsking-HasLoaded t.start.book t.start after.knows (omega (arith, so.kept.one_part)) loads_on;
      pays = pays;
      counted = counted;
      leaves = subst (λ n. IfSome answer (λ r. LeavesTotals b t.start after.knows t.was now (append_steps (record_width b) r.0) n)) (sym same) leaves;
    }

  -- a turn of the append
  module _ (a next : AppendingTerms) (is : t.stage ≡ Append a) (after_is : next ≡ appending_after a after.knows) (few : a.stored ≤ record_width b)
      (step : MakesPayStep b seen (Append a) before after now) where
    appends : IsAppendingThen t a
    appends = subst (IsPayStageSo t) is so.stage_so (omega (arith, few, ap record_width book))

    stored : next.stored ≡ a.stored + 1
    stored = ap (λ (x : AppendingTerms). x.stored) after_is

    within_append : SeesOthersStill t.mark after.knows → IsPrefix t.mark.seen after.knows.seen
        → IsPayWithin b.processes (newly_seen t.start after.knows t.was.upto) (t.looked + next.stored)
    within_append others more =
        let looked : IsWithin b.processes t.was (sum a.rec.view) t.looked =
        subst (λ (k : BookTerms). IsWithin k.processes t.was (sum a.rec.view) t.looked) book appends.few in
        omega (arith, looked, stored, few, others, IsPrefix-length t.mark.seen after.knows.seen more, appends.unpublished, appends.seen)

    -- nothing is published, and the totals stay
    pub counting-append : now ≡ t.totals → (own_part after.knows).published ≡ (own_part t.mark).published
        → IsWithinOneMore (single_steps b.processes) (counted_so_far t.start after.knows t.was.upto now.upto) (t.looked + next.stored)
    counting-append same unpublished =
        omega (
          arith,
          appends.few,
          ap (λ (k : BookTerms). snapshot_steps k.processes) book,
          stored,
          few,
          ap (λ (s : TotalSums). sum s.upto) same,
          ap (λ xs. sum xs) appends.looked_at.upto,
          unpublished,
          appends.unpublished,
        )

    pub TakesPayTurn-append : (answer : Option (Reply × At)) → SeesOthersStill t.mark after.knows → IsPrefix t.mark.seen after.knows.seen
        → IsWithinOneMore (single_steps b.processes) (counted_so_far t.start after.knows t.was.upto now.upto) (t.looked + next.stored)
        → (IsSome answer ↔ (a.stored ≡ record_width b)) → HasSameAsking t.mark after.knows
        → IfSome answer (AnswersAlone b t.start after.knows t.from t.targets) → IfSome answer (λ r. StaysCounted now b after.knows.seen)
        → IfSome answer (λ r. LeavesTotals b t.start after.knows t.was now (append_steps (record_width b) r.0) (t.looked + next.stored))
        → TakesPayTurn b seen t (paying_next t (Append next) t.looked mark totals) before after now answer
    TakesPayTurn-append answer others more counting ends asks pays counted leaves = record {
      from_is = refl;
      targets_are = refl;
      start_is = refl;
      mark_is = mark_is;
      was_is = refl;
      totals_are = totals_are;
      turns = omega (arith, stored, ap (turns_in t.looked) is);
      step = subst (λ (k : PayStage). MakesPayStep b seen k before after now) (sym is) step;
      follows = subst (λ (k : PayStage). FollowsPay b.processes k (Append next)) (sym is) (next, refl, stored);
      left = omega (arith, stored, few, ap (pay_turns_left (record_width b)) is);
      ends = (
        λ some. let all = ends.0 some in omega (arith, all, stored),
        λ none. ends.1 (omega (arith, none, few, stored)),
      );
      so_far = within_append others more;
      counting = counting;
      begins = IsPrefix-trans t.start.seen t.mark.seen after.knows.seen appends.begins more;
      asks = λ account. asks account ∙ so.asks account;
      pays = pays;
      counted = counted;
      leaves = leaves;
    }
