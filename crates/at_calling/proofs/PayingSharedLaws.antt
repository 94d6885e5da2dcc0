-- A payment from a shared account from one turn of helping to the next, and what it answers.
use Rattle.std.proofs.Common.{◌≡◌, ℕ, ◌≢◌, ◌+◌, ◌*◌, ◌^◌, ◌<◌, ◌≤◌, suc, true, cond, List, [], ◌∷◌, length, sum, Some, refl, sym, ap, subst, ◌∙◌, arith, inl, inr}
use Rattle.at_calling.proofs.Prelude.{cases_Bool, mul-le, is_shared, no_account, slots_of, BookTerms, HasSlot, IsBegun, account_of, most_owners, TargetPair, payout_of, Reply, length-counts, sum-counts, sum-Covers-le, ArePublishedBy-IsHistory, IsPrefix-trans, places_max, IsHistory, IsPrefix, counts, is_settled, rounds, Publication, Request, own_part, IsKept, Knowledge, RECORD_WORDS, HasCounted, TotalSums, asks_in, At, Receipt, HasAccount, HasAccount-IsSeat, request_of, StandsAfterSnapshot-SettlesInTurns, Adds, Adds-HasLoaded, Adds-HasStarted, Adds-trans, HasAccount-Adds, steps_after, Adds-HelpAnswers, settled-SettlesOwn, Adds-HasTurned, AsksOnce-Adds, HelpingTerms, HasAllSettled, HasStarted, decides_made, decides_on, heard_on, HasTurned, SettlesInTurns, again, none, AsksOnce, asking_steps, round_steps, More, Settled, newly_counted, SeesOwnRecords, snapshot_steps, snapshot_steps-le, IsWithinOneMore, HasCountedSo, HasHelped, IsHelpingThen, AnswersInRound, DecidesFew, PayingSharedTerms, settling_steps, share_steps, share_turns_most, CountsOthersStill, LeavesTotals, SeesOthersStill, counted_so_far, newly_seen, IsStartOf, IsHelpOf, IsHelpWithin, LeavesSeat, TurningTerms, WaitsOn, help_steps, help_turns_left, help_turns_made}

-- an account has few slots
slots_of-le : (b : BookTerms) (a : ℕ) → IsBegun b → a < length b.accounts → slots_of (account_of b a) ≤ most_owners
slots_of-le b a begun within =
    elim (cases_Bool (is_shared (account_of b a))) as (λ _. slots_of (account_of b a) ≤ most_owners) [
      | inl shared ↦
          omega (arith, (begun.accounts a no_account within).few, ap (λ t. cond t (length (account_of b a).owners) 0) shared)
      | inr single ↦ omega (arith, ap (λ t. cond t (length (account_of b a).owners) 0) single)
    ]

-- and a payment from it has few turns
pub share_turns_most-le : (b : BookTerms) (a : ℕ) → IsBegun b → a < length b.accounts → share_turns_most b a places_max < 2 ^ 32
share_turns_most-le b a begun within =
    let slots = slots_of-le b a begun within in
    let one : snapshot_steps b.processes + round_steps b.processes ≤ 400 = omega (arith, snapshot_steps-le b begun, begun.few_processes) in
    omega (
      arith,
      slots,
      snapshot_steps-le b begun,
      mul-le (slots_of (account_of b a)) (snapshot_steps b.processes + round_steps b.processes) most_owners 400 slots one,
    )

-- totals count at most what is seen
sum-HasCounted-le : (b : BookTerms) (t : TotalSums) (seen : List Publication) → HasCounted t b seen → IsHistory b seen → sum t.upto ≤ length seen
sum-HasCounted-le b t seen counted history =
    omega (
      arith,
      sum-Covers-le (counts b.processes seen) t.upto (length-counts b.processes seen ∙ sym counted.processes) counted.within,
      sum-counts b.processes seen (ArePublishedBy-IsHistory b seen history),
    )

-- one turn of helping more, with one exchange at most, stays within the bound of more of them
steps-more : (b : BookTerms) (a before turns d k made n m all : ℕ) → made ≤ 1 → d + 1 ≤ k
    → before ≤ snapshot_steps b.processes + asking_steps (slots_of (account_of b a)) + d * (snapshot_steps b.processes + round_steps b.processes) + RECORD_WORDS * n
    → turns ≤ snapshot_steps b.processes + round_steps b.processes * made + RECORD_WORDS * m → n + m ≤ all
    → before + turns
    ≤ snapshot_steps b.processes + asking_steps (slots_of (account_of b a)) + k * (snapshot_steps b.processes + round_steps b.processes) + RECORD_WORDS * all
steps-more b a before turns d k made n m all once within so turned counted =
    omega (
      arith,
      steps_after 0 (snapshot_steps b.processes) (asking_steps (slots_of (account_of b a))) (round_steps b.processes) d k made n m all before (before + turns) once
          within (omega (arith, so)) (omega (arith, turned)) counted,
    )

-- where it has started, no turn of helping was made
module _ (b : BookTerms) (v u : Knowledge) (a : ℕ) (targets : List TargetPair) (h : HelpingTerms) (start : IsStartOf b v u a targets h) where
  pub decides_made-IsStartOf : decides_made a v u ≡ 0
  decides_made-IsStartOf = omega (arith, start.decides a)

  pub HasHelped-start : SeesOwnRecords u → HasHelped b v u a targets h
  HasHelped-start own = record {
    started = u;
    start = start;
    own = own;
    turned = subst (λ n. HasTurned b h u n u) (sym decides_made-IsStartOf) none;
    few = omega (
      arith,
      decides_made-IsStartOf,
      start.helping.asked.slot_in.within,
      ap (λ t. slots_of (account_of b t)) start.account_is,
    );
    heard = omega (
      arith,
      decides_made-IsStartOf,
      start.helping.heard,
      ap (heard_on u) start.account_is,
      ap (λ t. rounds t u.seen) start.account_is,
    );
    begins = start.begins;
    process = start.process;
    decides = omega (arith, start.decides a);
    elsewhere = λ c other. start.decides c;
  }

  pub HasCountedSo-start : (was now : TotalSums) (turns : ℕ) → HasCounted now b u.seen → IsHistory b u.seen
      → LeavesTotals b v u was now (asking_steps (slots_of (account_of b a))) turns → HasCountedSo b v u was now a turns
  HasCountedSo-start was now turns counted history leaves = record {
    published = omega (arith, start.published);
    more = leaves.more;
    inside = sum-HasCounted-le b now u.seen counted history;
    few = omega (arith, leaves.few, ap (λ k. k * (snapshot_steps b.processes + round_steps b.processes)) decides_made-IsStartOf);
  }

-- a turn of helping begins, where others were made before it
pub IsHelpingThen-begun : (t : PayingSharedTerms) (h : HelpingTerms) (u : TurningTerms) → u.helping ≡ h → u.start ≡ t.mark → u.mark ≡ t.mark → u.was ≡ t.totals
    → u.totals ≡ t.totals → help_turns_made u ≡ 0 → 0 < help_turns_left t.start.book.processes u.stage
    → HasHelped t.start.book t.start t.mark t.account t.targets h → HasCountedSo t.start.book t.start t.mark t.was t.totals t.account t.turns → IsHelpingThen t h u
IsHelpingThen-begun t h u helping start mark was totals turns left helped counted = record {
  helping_is = helping;
  mark_is = mark;
  totals_are = totals;
  left = left;
  helped = subst (λ (v : Knowledge). HasHelped t.start.book t.start v t.account t.targets h) (sym start) helped;
  decides = omega (arith, ap (λ (v : Knowledge). decides_on v t.account) start, ap (λ (v : Knowledge). decides_on v t.account) mark);
  before = t.turns;
  counted = subst (λ (v : Knowledge). HasCountedSo t.start.book t.start v t.was u.was t.account t.turns) (sym start)
      (subst (λ (s : TotalSums). HasCountedSo t.start.book t.start t.mark t.was s t.account t.turns) (sym was) counted);
  turns_are = omega (arith, turns);
}

-- a turn of helping goes on after others
module _ (b : BookTerms) (v y z : Knowledge) (a : ℕ) (targets : List TargetPair) (h : HelpingTerms) (helped : HasHelped b v y a targets h) where
  abbrev account : h.account ≡ a
  account = helped.start.account_is

  on_y : decides_on y h.account ≡ decides_on y a
  on_y = ap (decides_on y) account

  on_z : decides_on z h.account ≡ decides_on z a
  on_z = ap (decides_on z) account

  -- so far its turns and those before are few
  pub few-so_far : (was mid : TotalSums) (before turns : ℕ) → HasCountedSo b v y was mid a before → decides_made h.account y z ≤ 1
      → length y.seen ≤ length z.seen → SeesOthersStill y z → IsHelpWithin b.processes (decides_made h.account y z) (newly_seen y z mid.upto) turns
      → before + turns ≤ share_turns_most b a (newly_seen v z was.upto)
  few-so_far was mid before turns so once seen others within =
      steps-more b a before turns (decides_made a v y) (slots_of (account_of b a)) (decides_made h.account y z) (newly_counted v y was mid)
      (newly_seen y z mid.upto) (newly_seen v z was.upto) once helped.few so.few within
      (omega (arith, so.more, so.published, so.inside, seen, others))

  -- with those that were counted, and one more
  pub counting-so_far : (was mid now : TotalSums) (before turns : ℕ) → HasCountedSo b v y was mid a before → decides_made h.account y z ≤ 1
      → CountsOthersStill y z mid now → (own_part y).published ≤ (own_part z).published
      → IsWithinOneMore (help_steps b.processes (decides_made h.account y z)) (counted_so_far y z mid.upto now.upto) turns
      → IsWithinOneMore (share_steps b a) (counted_so_far v z was.upto now.upto) (before + turns)
  counting-so_far was mid now before turns so once others more within =
      let all : ℕ = counted_so_far v z was.upto now.upto + 1 in
      let most = steps-more b a before (turns + 1) (decides_made a v y) (slots_of (account_of b a)) (decides_made h.account y z) (newly_counted v y was mid)
      (counted_so_far y z mid.upto now.upto + 1) all once helped.few so.few (omega (arith, within)) (omega (arith, so.more, so.published, others, more)) in
      omega (arith, most)

  -- and so are its exchanges
  pub few_exchanges-so_far : decides_made h.account y z ≤ 1 → decides_made a v z ≤ slots_of (account_of b a)
  few_exchanges-so_far once = omega (arith, helped.few, helped.decides, once, on_y, on_z)

  -- it has ended
  module _ (seat : LeavesSeat y z h.account) where
    newly-le : (was mid now : TotalSums) (before turns : ℕ) → HasCountedSo b v y was mid a before
        → LeavesTotals b y z mid now (round_steps b.processes * decides_made h.account y z) turns
        → newly_counted v y was mid + newly_counted y z mid now ≤ newly_counted v z was now
    newly-le was mid now before turns so leaves = omega (arith, so.more, leaves.more, so.published, seat.published)

    begins : IsPrefix v.seen z.seen
    begins = IsPrefix-trans v.seen y.seen z.seen helped.begins seat.begins

    elsewhere : (c : ℕ) → c ≢ a → decides_on z c ≡ decides_on v c
    elsewhere c other = seat.decides_elsewhere c (λ same. other (same ∙ account)) ∙ helped.elsewhere c other

    -- another request was decided
    module _ (waits : WaitsOn b y z h) where
      decides_made-more : decides_made a v z ≡ suc (decides_made a v y)
      decides_made-more = omega (arith, helped.decides, waits.decides_more, on_y, on_z)

      pub HasHelped-more : IsHelpOf b y z h More → HasHelped b v z a targets h
      HasHelped-more help =
          let heard_y = ap (heard_on y) account in
          let rounds_y = ap (λ t. rounds t y.seen) account in
          record {
            started = helped.started;
            start = helped.start;
            own = helped.own;
            turned = subst (λ n. HasTurned b h helped.started n z) (sym decides_made-more) (again (decides_made a v y) y z helped.turned help.answers);
            few = omega (
              arith,
              decides_made-more,
              helped.heard,
              waits.overtaken,
              heard_y,
              rounds_y,
              ap (λ t. slots_of (account_of b t)) account,
            );
            heard = omega (
              arith,
              decides_made-more,
              helped.heard,
              seat.heard,
              waits.rounds_more,
              heard_y,
              ap (heard_on z) account,
              rounds_y,
              ap (λ t. rounds t z.seen) account,
            );
            begins = begins;
            process = seat.process ∙ helped.process;
            decides = omega (arith, helped.decides, waits.decides_more, on_y, on_z);
            elsewhere = elsewhere;
          }

      pub HasCountedSo-more : (was mid now : TotalSums) (before turns : ℕ) → HasCountedSo b v y was mid a before
          → LeavesTotals b y z mid now (round_steps b.processes * decides_made h.account y z) turns → HasCounted now b z.seen → IsHistory b z.seen
          → HasCountedSo b v z was now a (before + turns)
      HasCountedSo-more was mid now before turns so leaves counted history = record {
        published = omega (arith, so.published, seat.published);
        more = omega (arith, so.more, leaves.more);
        inside = sum-HasCounted-le b now z.seen counted history;
        few = steps-more b a before turns (decides_made a v y) (decides_made a v z) (decides_made h.account y z) (newly_counted v y was mid)
            (newly_counted y z mid now) (newly_counted v z was now) (omega (arith, seat.decides_at_most)) (omega (arith, decides_made-more)) so.few leaves.few
            (newly-le was mid now before turns so leaves);
      }

    -- the request is settled
    pub DecidesFew-settled : DecidesFew b v z a
    DecidesFew-settled = record {
      few = omega (arith, helped.few, helped.decides, seat.decides_at_most, on_y, on_z);
      elsewhere = elsewhere;
    }

    pub LeavesTotals-settled : (was mid now : TotalSums) (before turns : ℕ) → HasCountedSo b v y was mid a before
        → LeavesTotals b y z mid now (round_steps b.processes * decides_made h.account y z) turns
        → LeavesTotals b v z was now (settling_steps b a) (before + turns)
    LeavesTotals-settled was mid now before turns so leaves = record {
      more = omega (arith, so.more, leaves.more);
      own_counted = leaves.own_counted;
      few = omega (
        arith,
        steps-more b a before turns (decides_made a v y) (slots_of (account_of b a)) (decides_made h.account y z) (newly_counted v y was mid)
            (newly_counted y z mid now) (newly_counted v z was now) (omega (arith, seat.decides_at_most)) helped.few so.few leaves.few
            (newly-le was mid now before turns so leaves),
      );
    }

    module _ (r : Reply × At) (help : IsHelpOf b y z h (Settled r)) where
      abbrev pub SettlesInTurns-settled : SettlesInTurns b v z a targets
      SettlesInTurns-settled = record {
        helping = h;
        account = account;
        targets_are = helped.start.targets_are;
        started = helped.started;
        starts = helped.start.started;
        turns = decides_made a v y;
        few = omega (arith, helped.few);
        last = y;
        turned = helped.turned;
        settles = help.answers;
      }

      -- what each part adds
      module _ (kept : IsKept v) (book : v.book ≡ b) where
        started : HasStarted b v helped.started h
        started = helped.start.started

        has_account : HasAccount v a
        has_account =
            HasAccount-IsSeat v v.first (own_part v).published a kept
            (omega (arith, helped.start.helping.asked.slot_in.account_in, account, ap (λ (t : BookTerms). length t.accounts) book))

        abbrev row : List Request
        row = request_of h.own ∷ []

        adds_look : Adds b v started.looked a []
        adds_look = Adds-HasLoaded b v started.looked a started.cut has_account.part started.loads started.snapshot

        adds_start : Adds b started.looked helped.started a row
        adds_start =
            subst (λ t. Adds b started.looked helped.started t row) account
            (Adds-HasStarted b v helped.started h started (subst (HasAccount v) (sym account) has_account) helped.own)

        has_started : HasAccount helped.started a
        has_started =
            HasAccount-Adds b started.looked helped.started a a row adds_start (HasAccount-Adds b v started.looked a a [] adds_look has_account)

        adds_turned : Adds b helped.started y a []
        adds_turned =
            subst (λ t. Adds b helped.started y t []) account
            (Adds-HasTurned b h helped.started y (decides_made a v y) (subst (HasAccount helped.started) (sym account) has_started) helped.turned)

        has_turned : HasAccount y h.account
        has_turned = subst (HasAccount y) (sym account) (HasAccount-Adds b helped.started y a a [] adds_turned has_started)

        adds_turn : Adds b y z a []
        adds_turn = subst (λ t. Adds b y z t []) account (Adds-HelpAnswers b y z h (Settled r) has_turned help.answers)

        adds_since : Adds b started.looked z a row
        adds_since =
            Adds-trans b started.looked helped.started z a row [] adds_start (Adds-trans b helped.started y z a [] [] adds_turned adds_turn)

        settled_own : is_settled a h.own.slot h.own.number z.seen ≡ true
        settled_own =
            subst (λ t. is_settled t h.own.slot h.own.number z.seen ≡ true) account (settled-SettlesOwn b y z h has_turned help.answers)

        slot_own : HasSlot b v.first a h.own.slot
        slot_own =
            subst (λ p. HasSlot b p a h.own.slot) helped.start.process
            (subst (λ t. HasSlot b helped.started.first t h.own.slot) account helped.start.helping.asked.slot_in)

        asks_once : HasAllSettled b v a → AsksOnce b v z a
        asks_once settled =
            AsksOnce-Adds b v z a h.own (Adds-trans b v started.looked z a [] row adds_look adds_since) kept.own settled slot_own helped.start.number
            helped.start.since settled_own

        pub AnswersInRound-settled : HasAllSettled b v a → AnswersInRound b v z a targets r
        AnswersInRound-settled settled call payout =
            let there : payout_of call ≡ Some (h.account, h.own.targets) =
            payout ∙ (ap (λ n. Some (n, targets)) (sym account) ∙ ap (λ (ts : List TargetPair). Some (h.account, ts)) (sym helped.start.targets_are)) in
            let receipt : Receipt = record { call = call; reply = r.0; at = r.1 } in
            record {
              call_is = refl;
              in_round = help.in_round;
              placed = λ earlier asks. help.placed call there earlier (ap (λ t. asks_in t earlier) account ∙ (asks ∙ sym helped.start.number));
              after_start = λ previous. omega (arith, help.after_start call there previous, helped.start.since);
              after_snapshot = StandsAfterSnapshot-SettlesInTurns b v z a targets SettlesInTurns-settled receipt has_account helped.own
                  (help.after_start call there);
              asked = asks_once settled;
              free = seat.free;
              begins = begins;
              process_is = seat.process ∙ helped.process;
            }
