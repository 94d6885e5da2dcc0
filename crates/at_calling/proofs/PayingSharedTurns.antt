-- What a turn of a payment from a shared account leaves of it.
use Rattle.std.proofs.Common.{◌≡◌, ℕ, ◌+◌, ◌-◌, ◌<◌, ◌≤◌, None, Some, false, true, List, refl, ap, arith}
use Rattle.at_calling.proofs.Prelude.{slots_of, BookTerms, account_of, places_max, IsPrefix, Publication, SeatTerms, Knowledge, HasCounted, TotalSums, Reply, At, decides_made, SettlesInTurns, IsWithinOneMore, TakesShareTurn, AnswersInRound, DecidesFew, FollowsShare, MakesShareStep, PayingSharedTerms, settling_steps, share_exchanges_at, share_exchanges_made, share_steps, share_turns_left, share_turns_most, unless_settled, unless_starting, LeavesTotals, counted_so_far, newly_seen, ShareStage, Ended, Help, Start}

-- a payment in this stage after one more turn, with this known and counted
abbrev pub share_next : PayingSharedTerms → ShareStage → Knowledge → TotalSums → PayingSharedTerms
share_next t stage w now = record t { stage = stage; turns = t.turns + 1; mark = w; totals = now }

-- at most so many are left
unless_settled-le : (most : ℕ) (stage : ShareStage) → unless_settled most stage ≤ most
unless_settled-le most (Start s) = omega arith
unless_settled-le most (Help h u) = omega arith
unless_settled-le most Ended = omega arith

-- all of them, where any is
unless_settled-some : (most : ℕ) (stage : ShareStage) → 0 < unless_settled most stage → unless_settled most stage ≡ most
unless_settled-some most (Start s) some = refl
unless_settled-some most (Help h u) some = refl
unless_settled-some most Ended some = absurd (omega (arith, some))

module _ (b : BookTerms) (seen : List Publication) (t : PayingSharedTerms) (before after : SeatTerms) (now : TotalSums) (mark : Knowledge) (mark_is : mark ≡ after.knows)
    (totals : TotalSums) (totals_are : totals ≡ now) (some : 0 < share_turns_left b t) (step : MakesShareStep b seen t.stage before after now)
    (within : t.turns + 1 ≤ share_turns_most b t.account (newly_seen t.start after.knows t.was.upto))
    (counting : IsWithinOneMore (share_steps b t.account) (counted_so_far t.start after.knows t.was.upto now.upto) (t.turns + 1))
    (begins : IsPrefix t.start.seen after.knows.seen) where
  abbrev most : ℕ
  most = share_turns_most b t.account places_max

  -- some turn was left
  one_more : t.turns + 1 ≤ most + 1
  one_more = omega (arith, some, unless_settled-some (most + 1 - t.turns) t.stage some)

  less : (stage : ShareStage) → share_turns_left b (share_next t stage mark totals) < share_turns_left b t
  less stage =
      omega (
        arith,
        one_more,
        unless_settled-some (most + 1 - t.turns) t.stage some,
        unless_settled-le (most + 1 - (t.turns + 1)) stage,
      )

  -- nothing is answered, and the payment goes on in this stage
  pub TakesShareTurn-on : (stage : ShareStage) → ((n : ℕ) → unless_settled n stage ≡ n) → t.turns + 1 ≤ most
      → unless_starting (decides_made t.account t.start mark) stage ≡ share_exchanges_made t + share_exchanges_at t.stage
      → unless_starting (decides_made t.account t.start mark) stage ≡ decides_made t.account t.start after.knows
      → unless_starting (decides_made t.account t.start mark) stage ≤ slots_of (account_of b t.account) → FollowsShare b t.stage stage
      → TakesShareTurn b seen t (share_next t stage mark totals) before after now None
  TakesShareTurn-on stage goes few decides decided exchanges_few follows = record {
    account_is = refl;
    targets_are = refl;
    start_is = refl;
    mark_is = mark_is;
    was_is = refl;
    totals_are = totals_are;
    turns = refl;
    step = step;
    follows = follows;
    left = less stage;
    so_far = within;
    counting = counting;
    begins = begins;
    ends = (
      λ answered. let wrong : false ≡ true = answered in absurd (cc wrong),
      λ ended. absurd (omega (arith, ended, few, goes (most + 1 - (t.turns + 1)))),
    );
    pays = tt;
    settles = tt;
    few = tt;
    counted = tt;
    leaves = tt;
    decides = decides;
    decided = decided;
    exchanges_few = exchanges_few;
  }

  -- the request is settled
  pub TakesShareTurn-settled : (r : Reply × At) → AnswersInRound b t.start after.knows t.account t.targets r
      → SettlesInTurns b t.start after.knows t.account t.targets
      → DecidesFew b t.start after.knows t.account → HasCounted now b after.knows.seen
      → LeavesTotals b t.start after.knows t.was now (settling_steps b t.account) (t.turns + 1)
      → decides_made t.account t.start mark ≡ share_exchanges_made t + share_exchanges_at t.stage → FollowsShare b t.stage Ended
      → TakesShareTurn b seen t (share_next t Ended mark totals) before after now (Some r)
  TakesShareTurn-settled r pays settles few counted leaves decides follows = record {
    account_is = refl;
    targets_are = refl;
    start_is = refl;
    mark_is = mark_is;
    was_is = refl;
    totals_are = totals_are;
    turns = refl;
    step = step;
    follows = follows;
    left = less Ended;
    so_far = within;
    counting = counting;
    begins = begins;
    ends = (λ answered. refl, λ ended. refl);
    pays = pays;
    settles = settles;
    few = few;
    counted = counted;
    leaves = leaves;
    decides = decides;
    decided = ap (λ (v : Knowledge). decides_made t.account t.start v) mark_is;
    exchanges_few = omega (arith, few.few, ap (λ (v : Knowledge). decides_made t.account t.start v) mark_is);
  }
