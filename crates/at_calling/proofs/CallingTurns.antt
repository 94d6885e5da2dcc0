-- A call from one turn to the next, and what its answer leaves.
use Rattle.std.proofs.Common.{◌≡◌, ℕ, ◌+◌, ◌-◌, ◌*◌, ◌<◌, ◌≤◌, ◌↔◌, List, [], ◌∷◌, ◌++◌, IfSome, IsSome, Option, length, None, Some, refl, sym, ap, subst, ◌∙◌, arith, false, true}
use Rattle.at_calling.proofs.Prelude.{sum, is_shared, slots_of, BookTerms, account_of, IsCallOn, TargetPair, first_account, Call, Reply, IsPrefix-refl, AreRuns, IsPrefix, Publication, raised, BoardTerms, IsKept, IsOf, SeatTerms, record_width, Asking, Knowledge, RECORD_WORDS, IsBetweenCalls, HasCounted, StaysCounted, TotalSums, first_account-payout, IsPlaced, Previous, Receipt, between-IsPass, PaymentMade-refused, IsOfOnePass-counted, call-CallMade, PaysAlone, PaysInRound, IsOfOnePass, after_one_call, pass_of, PassTerms, Stands, refusal_in, PastCall, IsRefused, sent_after, single_steps, Rest, decides_made, decides_on, published-HasLoaded, HasLoaded, snapshot_steps, placed-CallMade, stands-CallMade, call_steps-payout, may_exchange-payout, CallingTerms, CountsCall, FollowsCall, IsCallWithin, IsWay, MakesCallStep, call_turns_left, exchanges_made, exchanges_of, pass_before, steps_made, steps_of, CallMade, StaysWithin, call_steps, IsCallStageSo, IsCallingSo, IsMakingStill, TakesCallTurn, IsWithin, IsWithinOneMore, look_turns_left, HasSameAsking, IsPayWithin, PayingAloneTerms, append_steps, pay_turns_left, DecidesFew, PayingSharedTerms, settling_steps, share_exchanges_made, share_steps, share_turns_left, share_turns_most, IsReadOf, LeavesTotals, ReadingTerms, counted_so_far, newly_seen, CallStage, PayAlone, PayShared, Refuse, refusal_in-payout}
use Rattle.at_calling.proofs.PayingAloneLaws.{HasSameAsking-HasLoaded}
use Rattle.at_calling.proofs.CallingLaws.{CallMade-PaysAlone, CallMade-PaysInRound, IsOfOnePass-IsReadOf, IsOfOnePass-PaysAlone, IsOfOnePass-PaysInRound, MakesWithin, ReadMade-IsReadOf, StaysWithin-MakesWithin, MakesWithin-IsReadOf, MakesWithin-PaysAlone, MakesWithin-PaysInRound, payment_steps-shared, payment_steps-single, small-refusal_of, payout-IsCallOn}
use Rattle.at_calling.specs.declared.call_stage.CallStage.TheVariants.{Read}

-- the call that goes on with this stage, of this seat and this rest of its pass
abbrev pub calling_next : CallingTerms → CallStage → SeatTerms → Rest → CallingTerms
calling_next t stage mark rest = record { call = t.call; stage = stage; start = t.start; was = t.was; mark = mark; rest = rest }

-- what an answer leaves
pub record Leaves (b : BookTerms) (t : CallingTerms) (after : SeatTerms) (rest : Rest) (steps exchanges : ℕ) (r : Receipt) : Type 0 where
  pub made : CallMade b (pass_before t) (pass_of after rest) t.call r
  pub kept : IsOfOnePass after rest
  pub within : MakesWithin b (pass_before t) (pass_of after rest) t.call steps exchanges r

-- so the call stays within its bounds
pub within-Leaves : (b : BookTerms) (t : CallingTerms) (after : SeatTerms) (rest : Rest) (steps exchanges : ℕ) (r : Receipt)
    → Leaves b t after rest steps exchanges r → after.steps ≡ raised t.start.steps steps → after.exchanges ≡ raised t.start.exchanges exchanges
    → StaysWithin b (pass_before t) (pass_of after rest) r.call r
within-Leaves b t after rest steps exchanges r leaves made exchanged =
    subst (λ (k : Call). StaysWithin b (pass_before t) (pass_of after rest) k r)
    (sym (call-CallMade b (pass_before t) (pass_of after rest) t.call r leaves.made))
    (StaysWithin-MakesWithin b (pass_before t) (pass_of after rest) t.call steps exchanges r leaves.within made exchanged)

-- and the receipt is that of a call made
pub made-Leaves : (b : BookTerms) (t : CallingTerms) (after : SeatTerms) (rest : Rest) (steps exchanges : ℕ) (r : Receipt)
    → Leaves b t after rest steps exchanges r → CallMade b (pass_before t) (pass_of after rest) r.call r
made-Leaves b t after rest steps exchanges r leaves =
    subst (λ (k : Call). CallMade b (pass_before t) (pass_of after rest) k r)
    (sym (call-CallMade b (pass_before t) (pass_of after rest) t.call r leaves.made)) leaves.made

-- a call that has made no exchange is within its bounds where its steps are
pub IsCallWithin-none : (b : BookTerms) (before : PassTerms) (call : Call) (after : Knowledge) (counted : List ℕ) (steps : ℕ)
    → ((a : ℕ) → decides_on after a ≡ decides_on before.knows a)
    → steps ≤ call_steps b call + RECORD_WORDS * newly_seen before.knows after before.counted
    → IsWithinOneMore (call_steps b call) (counted_so_far before.knows after before.counted counted) steps
    → IsCallWithin b before call after counted steps 0
IsCallWithin-none b before call after counted steps same few counting = record {
  few = few;
  counting = counting;
  decided = omega (arith, same (first_account call));
  none = λ no. refl;
  few_decided = omega arith;
}

-- a refused call leaves its pass as it was, but for the count of its calls
CallMade-refused : (b : BookTerms) (before : PassTerms) (call : Call) (r : Receipt) → IsKept before.knows → before.knows.book ≡ b
    → IsBetweenCalls b before.knows → IsCallOn (length b.accounts) call → r.call ≡ call → r.at ≡ Previous → refusal_in b before call ≡ Some r.reply
    → (calls : ℕ) (past : List PastCall) → CallMade b before (record before { calls = calls; past = past }) call r
CallMade-refused b before (Call.Transfer from to amount) r kept book between known call_is at because calls past =
    PaymentMade-refused b before from kept book between known.0 ((to, amount) ∷ []) (Call.Transfer from to amount) r calls past call_is at refl because
CallMade-refused b before (Call.Read account) r kept book between known call_is at because calls past = absurd (cc because)
CallMade-refused b before (Call.Pay from targets) r kept book between known call_is at because calls past =
    PaymentMade-refused b before from kept book between known.0 targets (Call.Pay from targets) r calls past call_is at refl because

module _ (board : BoardTerms) (t : CallingTerms) (so : IsCallingSo t) (seat : SeatTerms) (same : seat ≡ t.mark) (of_board : IsOf seat board) where
  pub book-IsCallingSo : t.start.knows.book ≡ board.book
  book-IsCallingSo = sym so.book ∙ (ap (λ (s : SeatTerms). s.knows.book) (sym same) ∙ of_board.book)

  known : IsCallOn (length board.book.accounts) t.call
  known = subst (λ (b : BookTerms). IsCallOn (length b.accounts) t.call) book-IsCallingSo so.call_on

  pub IsCallOn-IsCallingSo : IsCallOn (length board.book.accounts) t.call
  IsCallOn-IsCallingSo = known

  way_on : IsWay board.book (pass_before t) t.call t.stage
  way_on = subst (λ (b : BookTerms). IsWay b (pass_before t) t.call t.stage) book-IsCallingSo so.way

  -- the refusal
  module _ (reply : Reply) (stage : t.stage ≡ Refuse reply) where
    because : refusal_in board.book (pass_before t) t.call ≡ Some reply
    because = subst (IsWay board.book (pass_before t) t.call) stage way_on

    unmoved : (t.mark ≡ t.start) × (t.rest ≡ t.was)
    unmoved = subst (IsCallStageSo t) stage so.stage_so

    pub undecided-refused : (a : ℕ) → decides_on seat.knows a ≡ decides_on t.start.knows a
    undecided-refused a = ap (λ (s : SeatTerms). decides_on s.knows a) (same ∙ unmoved.0)

    pub begins-refused : IsPrefix t.start.knows.seen seat.knows.seen
    begins-refused = subst (λ (s : SeatTerms). IsPrefix t.start.knows.seen s.knows.seen) (sym (same ∙ unmoved.0)) (IsPrefix-refl t.start.knows.seen)

    pub start-refused : t.mark ≡ t.start
    start-refused = unmoved.0

    pub was-refused : t.rest ≡ t.was
    was-refused = unmoved.1

    pub pass-refused : IsOfOnePass seat t.rest
    pass-refused = subst (λ (s : SeatTerms). IsOfOnePass s t.rest) (sym (same ∙ unmoved.0)) (subst (IsOfOnePass t.start) (sym unmoved.1) so.pass)

    pub because-refused : refusal_in board.book (pass_of seat t.rest) t.call ≡ Some reply
    because-refused =
        subst (λ (s : SeatTerms). refusal_in board.book (pass_of s t.rest) t.call ≡ Some reply) (sym (same ∙ unmoved.0))
        (subst (λ (q : Rest). refusal_in board.book (pass_of t.start q) t.call ≡ Some reply) (sym unmoved.1) because)

    module _ (r : Receipt) (call_is : r.call ≡ t.call) (reply_is : r.reply ≡ reply) (at : r.at ≡ Previous) where
      here : Leaves board.book t t.start (after_one_call t.start t.start r t.was) 0 0 r
      here = record {
        made = CallMade-refused board.book (pass_before t) t.call r so.kept book-IsCallingSo
            (between-IsPass board.book t.start.knows t.was.totals t.was.sent book-IsCallingSo so.pass.pass) known call_is at (because ∙ ap Some (sym reply_is))
            (after_one_call t.start t.start r t.was).calls.count (after_one_call t.start t.start r t.was).calls.past;
        kept = IsOfOnePass-counted t.start t.start r t.was (after_one_call t.start t.start r t.was) refl so.pass.pass;
        within = record {
          few = omega arith;
          refused = λ refused. refl;
          decided = omega arith;
          none = λ no. refl;
          few_decided = omega arith;
          decides_elsewhere = λ a apart. refl;
        };
      }

      pub Leaves-refused : Leaves board.book t seat (after_one_call seat seat r t.rest) 0 0 r
      Leaves-refused =
          subst (λ (s : SeatTerms). Leaves board.book t s (after_one_call s s r t.rest) 0 0 r) (sym (same ∙ unmoved.0))
          (subst (λ (q : Rest). Leaves board.book t t.start (after_one_call t.start t.start r q) 0 0 r) (sym unmoved.1) here)

  -- after a turn with a step
  module _ (after : SeatTerms) (of_after : IsOf after board) where
    board_is : after.board ≡ t.start.board
    board_is = of_after.id ∙ (sym of_board.id ∙ (ap (λ (s : SeatTerms). s.board) same ∙ so.board))

    book_is : after.knows.book ≡ t.start.knows.book
    book_is = of_after.book ∙ sym book-IsCallingSo

    pub next_so : (stage : CallStage) (rest : Rest) → IsWay t.start.knows.book (pass_before t) t.call stage
        → after.steps ≡ raised t.start.steps (steps_made stage) → after.exchanges ≡ raised t.start.exchanges (exchanges_made stage)
        → IsCallStageSo (calling_next t stage after rest) stage → IsCallingSo (calling_next t stage after rest)
    next_so stage rest way steps exchanges stage_so = record {
      kept = so.kept;
      pass = so.pass;
      board = board_is;
      book = book_is;
      call_on = so.call_on;
      way = way;
      steps = steps;
      exchanges = exchanges;
      stage_so = stage_so;
    }

    -- of a read
    module _ (r : ReadingTerms) (stage : t.stage ≡ Read r) (left : 0 < look_turns_left r.looking.stage) where
      pub still-read : IsMakingStill t r.looking.start r.looking.mark r.looking.was r.looking.totals
      still-read = subst (IsCallStageSo t) stage so.stage_so left

      pub way-read : t.call ≡ Call.Read r.account
      way-read = subst (IsWay t.start.knows.book (pass_before t) t.call) stage so.way

      pub few-read : (now : TotalSums) (turns : ℕ) → IsWithin board.book.processes r.looking.was (length after.knows.seen) turns
          → IsWithinOneMore (snapshot_steps board.book.processes) (sum now.upto - sum r.looking.was.upto) turns
          → HasLoaded board.book r.looking.start after.knows → IsCallWithin board.book (pass_before t) t.call after.knows now.upto turns 0
      few-read now turns few counting loads =
          let few_on : IsWithin board.book.processes t.was.totals (length after.knows.seen) turns =
          subst (λ (s : TotalSums). IsWithin board.book.processes s (length after.knows.seen) turns) still-read.was_is few in
          let loads_on : HasLoaded board.book t.start.knows after.knows =
          subst (λ (v : Knowledge). HasLoaded board.book v after.knows) still-read.start_is loads in
          let published = published-HasLoaded board.book t.start.knows after.knows (omega (arith, so.kept.one_part)) loads_on in
          IsCallWithin-none board.book (pass_before t) t.call after.knows now.upto turns
          (λ a. ap (λ (q : Asking). q.decides) (HasSameAsking-HasLoaded board.book t.start.knows after.knows (omega (arith, so.kept.one_part)) loads_on a))
          (omega (arith, few_on, ap (call_steps board.book) way-read, published))
          (omega (arith, counting, ap (λ (s : TotalSums). sum s.upto) still-read.was_is, ap (call_steps board.book) way-read, published))

      pub Leaves-read : (rest : Rest) (turns : ℕ) (receipt : Receipt) → IsKept after.knows
          → IsReadOf board.book r.looking.start after.knows r.account receipt
          → LeavesTotals board.book r.looking.start after.knows r.looking.was rest.totals 0 turns
          → StaysCounted rest.totals board.book after.knows.seen → rest.sent ≡ t.rest.sent → CountsCall t after rest receipt
          → Leaves board.book t after rest turns 0 receipt
      Leaves-read rest turns receipt keeps read leaves stays sent calls =
          let v : Knowledge = t.start.knows in
          let read_on = subst (λ (u : Knowledge). IsReadOf board.book u after.knows r.account receipt) still-read.start_is read in
          let leaves_on = subst (λ (s : TotalSums). LeavesTotals board.book v after.knows s rest.totals 0 turns) still-read.was_is
          (subst (λ (u : Knowledge). LeavesTotals board.book u after.knows r.looking.was rest.totals 0 turns) still-read.start_is leaves) in
          record {
            made = subst (λ (k : Call). CallMade board.book (pass_before t) (pass_of after rest) k receipt) (sym way-read)
                (ReadMade-IsReadOf board.book t.start t.was after rest so.kept keeps book-IsCallingSo of_after.book board_is so.pass 0 turns leaves_on r.account receipt read_on);
            kept = IsOfOnePass-IsReadOf board.book t.start t.was after rest so.kept keeps book-IsCallingSo of_after.book board_is so.pass 0 turns leaves_on r.account receipt
                read_on stays (sent ∙ still-read.sent_is) calls;
            within = subst (λ (k : Call). MakesWithin board.book (pass_before t) (pass_of after rest) k turns 0 receipt) (sym way-read)
                (MakesWithin-IsReadOf board.book t.start t.was after rest so.kept keeps book-IsCallingSo of_after.book board_is so.pass 0 turns leaves_on r.account receipt
                read_on refl);
          }

    -- of a payment from an account of one owner
    module _ (p : PayingAloneTerms) (stage : t.stage ≡ PayAlone p) (left : 0 < pay_turns_left (record_width board.book) p.stage) where
      pub still-alone : IsMakingStill t p.start p.mark p.was p.totals
      still-alone =
          subst (IsCallStageSo t) stage so.stage_so
          (subst (λ (b : BookTerms). 0 < pay_turns_left (record_width b) p.stage) (sym book-IsCallingSo) left)

      pub way-alone : IsWay board.book (pass_before t) t.call (PayAlone p)
      way-alone = subst (IsWay board.book (pass_before t) t.call) stage way_on

      -- its process has room for one more record
      pub small-alone : t.was.sent < 4096
      small-alone =
          small-refusal_of board.book t.start t.was p.from so.kept book-IsCallingSo so.pass
          (sym (refusal_in-payout board.book p.from p.targets (pass_before t) t.call way-alone.0) ∙ way-alone.1) way-alone.2

      pub few-alone : (now : TotalSums) (turns : ℕ) → IsPayWithin board.book.processes (newly_seen p.start after.knows p.was.upto) turns
          → IsWithinOneMore (single_steps board.book.processes) (counted_so_far p.start after.knows p.was.upto now.upto) turns
          → HasSameAsking p.start after.knows → IsCallWithin board.book (pass_before t) t.call after.knows now.upto turns 0
      few-alone now turns few counting asks =
          let few_on : IsPayWithin board.book.processes (newly_seen t.start.knows after.knows t.was.totals.upto) turns =
          subst (λ (v : Knowledge). IsPayWithin board.book.processes (newly_seen v after.knows t.was.totals.upto) turns) still-alone.start_is
          (subst (λ (s : TotalSums). IsPayWithin board.book.processes (newly_seen p.start after.knows s.upto) turns) still-alone.was_is few) in
          let asks_on : HasSameAsking t.start.knows after.knows = subst (λ (v : Knowledge). HasSameAsking v after.knows) still-alone.start_is asks in
          let most = single_steps board.book.processes in
          let counting_on : IsWithinOneMore most (counted_so_far t.start.knows after.knows t.was.totals.upto now.upto) turns =
          subst (λ (v : Knowledge). IsWithinOneMore most (counted_so_far v after.knows t.was.totals.upto now.upto) turns) still-alone.start_is
          (subst (λ (s : TotalSums). IsWithinOneMore most (counted_so_far p.start after.knows s.upto now.upto) turns) still-alone.was_is counting) in
          let payout = call_steps-payout board.book p.from p.targets t.call way-alone.0 in
          let single = payment_steps-single board.book p.from way-alone.2 in
          IsCallWithin-none board.book (pass_before t) t.call after.knows now.upto turns (λ a. ap (λ (q : Asking). q.decides) (asks_on a))
          (omega (arith, few_on, payout, single)) (omega (arith, counting_on, payout, single))

      pub Leaves-alone : (rest : Rest) (turns : ℕ) (receipt : Receipt) → IsKept after.knows
          → PaysAlone board.book p.start after.knows p.from p.targets t.call receipt
          → LeavesTotals board.book p.start after.knows p.was rest.totals (append_steps (record_width board.book) receipt.reply) turns
          → StaysCounted rest.totals board.book after.knows.seen → rest.sent ≡ sent_after t.rest.sent receipt.reply
          → CountsCall t after rest receipt → Leaves board.book t after rest turns 0 receipt
      Leaves-alone rest turns receipt keeps paid leaves stays sent calls =
          let v : Knowledge = t.start.knows in
          let more = append_steps (record_width board.book) receipt.reply in
          let paid_on = subst (λ (u : Knowledge). PaysAlone board.book u after.knows p.from p.targets t.call receipt) still-alone.start_is paid in
          let leaves_on = subst (λ (s : TotalSums). LeavesTotals board.book v after.knows s rest.totals more turns) still-alone.was_is
          (subst (λ (u : Knowledge). LeavesTotals board.book u after.knows p.was rest.totals more turns) still-alone.start_is leaves) in
          let source_in = (payout-IsCallOn (length board.book.accounts) p.from p.targets t.call way-alone.0 known).0 in
          record {
            made = CallMade-PaysAlone board.book t.start t.was after rest so.kept keeps book-IsCallingSo of_after.book board_is so.pass more turns leaves_on p.from p.targets
                t.call receipt paid_on way-alone.0 way-alone.2 way-alone.1 source_in;
            kept = IsOfOnePass-PaysAlone board.book t.start t.was after rest so.kept keeps book-IsCallingSo of_after.book board_is so.pass more turns leaves_on p.from p.targets
                t.call receipt paid_on way-alone.0 way-alone.2 way-alone.1 source_in stays (sent ∙ ap (λ (n : ℕ). sent_after n receipt.reply) still-alone.sent_is) calls;
            within = MakesWithin-PaysAlone board.book t.start t.was after rest so.kept keeps book-IsCallingSo of_after.book board_is so.pass more turns leaves_on p.from p.targets
                t.call receipt paid_on way-alone.0 way-alone.2 way-alone.1 refl;
          }

    -- of a payment from a shared account
    module _ (p : PayingSharedTerms) (stage : t.stage ≡ PayShared p) (left : 0 < share_turns_left board.book p) where
      pub still-shared : IsMakingStill t p.start p.mark p.was p.totals
      still-shared =
          subst (IsCallStageSo t) stage so.stage_so
          (subst (λ (b : BookTerms). 0 < share_turns_left b p) (sym book-IsCallingSo) left)

      pub way-shared : IsWay board.book (pass_before t) t.call (PayShared p)
      way-shared = subst (IsWay board.book (pass_before t) t.call) stage way_on

      pub few-shared : (now : TotalSums) (turns exchanges : ℕ)
          → turns ≤ share_turns_most board.book p.account (newly_seen p.start after.knows p.was.upto)
          → IsWithinOneMore (share_steps board.book p.account) (counted_so_far p.start after.knows p.was.upto now.upto) turns
          → exchanges ≡ decides_made p.account p.start after.knows → exchanges ≤ slots_of (account_of board.book p.account)
          → IsCallWithin board.book (pass_before t) t.call after.knows now.upto turns exchanges
      few-shared now turns exchanges few counting decided few_decided =
          let first = first_account-payout p.account p.targets t.call way-shared.0 in
          let few_on : turns ≤ share_turns_most board.book p.account (newly_seen t.start.knows after.knows t.was.totals.upto) =
          subst (λ (v : Knowledge). turns ≤ share_turns_most board.book p.account (newly_seen v after.knows t.was.totals.upto)) still-shared.start_is
          (subst (λ (s : TotalSums). turns ≤ share_turns_most board.book p.account (newly_seen p.start after.knows s.upto)) still-shared.was_is few) in
          let decided_on : exchanges ≡ decides_made p.account t.start.knows after.knows =
          subst (λ (v : Knowledge). exchanges ≡ decides_made p.account v after.knows) still-shared.start_is decided in
          let most = share_steps board.book p.account in
          let counting_on : IsWithinOneMore most (counted_so_far t.start.knows after.knows t.was.totals.upto now.upto) turns =
          subst (λ (v : Knowledge). IsWithinOneMore most (counted_so_far v after.knows t.was.totals.upto now.upto) turns) still-shared.start_is
          (subst (λ (s : TotalSums). IsWithinOneMore most (counted_so_far p.start after.knows s.upto now.upto) turns) still-shared.was_is counting) in
          let payout = call_steps-payout board.book p.account p.targets t.call way-shared.0 in
          let shared = payment_steps-shared board.book p.account way-shared.2 in
          record {
            few = omega (arith, few_on, payout, shared);
            counting = omega (arith, counting_on, payout, shared);
            decided = subst (λ a. exchanges ≡ decides_made a t.start.knows after.knows) (sym first) decided_on;
            none = λ no.
                let both : false ≡ true = sym no ∙ (may_exchange-payout board.book p.account p.targets t.call way-shared.0 ∙ way-shared.2) in absurd (cc both);
            few_decided = subst (λ a. exchanges ≤ slots_of (account_of board.book a)) (sym first) few_decided;
          }

      pub IsCallingSo-shared : (q : PayingSharedTerms) (rest : Rest) → q.account ≡ p.account → q.targets ≡ p.targets
          → q.start ≡ p.start → q.mark ≡ after.knows → q.was ≡ p.was
          → (0 < share_turns_left board.book q → (q.totals ≡ rest.totals) × (rest.sent ≡ t.rest.sent) × (rest.calls ≡ t.rest.calls))
          → after.steps ≡ raised t.start.steps q.turns → after.exchanges ≡ raised t.start.exchanges (share_exchanges_made q)
          → IsCallingSo (calling_next t (PayShared q) after rest)
      IsCallingSo-shared q rest account targets start mark was others steps exchanges =
          next_so (PayShared q) rest
          (subst (λ (b : BookTerms). IsWay b (pass_before t) t.call (PayShared q)) (sym book-IsCallingSo) (
            way-shared.0 ∙ (ap (λ (a : ℕ). Some (a, p.targets)) (sym account) ∙ ap (λ (xs : List TargetPair). Some (q.account, xs)) (sym targets)),
            way-shared.1,
            ap (λ (a : ℕ). is_shared (account_of board.book a)) account ∙ way-shared.2,
          ))
          steps exchanges
          (λ more.
          let rest_is = others (subst (λ (b : BookTerms). 0 < share_turns_left b q) book-IsCallingSo more) in
          record {
            start_is = start ∙ still-shared.start_is;
            mark_is = mark;
            was_is = was ∙ still-shared.was_is;
            totals_are = rest_is.0;
            sent_is = rest_is.1 ∙ still-shared.sent_is;
            calls_are = rest_is.2 ∙ still-shared.calls_are;
          })

      pub Leaves-shared : (rest : Rest) (turns exchanges : ℕ) (receipt : Receipt) → IsKept after.knows
          → PaysInRound board.book p.start after.knows p.account t.call receipt
          → LeavesTotals board.book p.start after.knows p.was rest.totals (settling_steps board.book p.account) turns
          → HasCounted rest.totals board.book after.knows.seen → DecidesFew board.book p.start after.knows p.account
          → exchanges ≡ decides_made p.account p.start after.knows → rest.sent ≡ t.rest.sent → CountsCall t after rest receipt
          → Leaves board.book t after rest turns exchanges receipt
      Leaves-shared rest turns exchanges receipt keeps paid leaves counted few decided sent calls =
          let v : Knowledge = t.start.knows in
          let more = settling_steps board.book p.account in
          let paid_on = subst (λ (u : Knowledge). PaysInRound board.book u after.knows p.account t.call receipt) still-shared.start_is paid in
          let leaves_on = subst (λ (s : TotalSums). LeavesTotals board.book v after.knows s rest.totals more turns) still-shared.was_is
          (subst (λ (u : Knowledge). LeavesTotals board.book u after.knows p.was rest.totals more turns) still-shared.start_is leaves) in
          let few_on = subst (λ (u : Knowledge). DecidesFew board.book u after.knows p.account) still-shared.start_is few in
          let decided_on = subst (λ (u : Knowledge). exchanges ≡ decides_made p.account u after.knows) still-shared.start_is decided in
          let source_in = (payout-IsCallOn (length board.book.accounts) p.account p.targets t.call way-shared.0 known).0 in
          record {
            made = CallMade-PaysInRound board.book t.start t.was after rest so.kept keeps book-IsCallingSo of_after.book board_is so.pass more turns leaves_on p.account
                p.targets t.call receipt paid_on way-shared.0 way-shared.2 way-shared.1 source_in;
            kept = IsOfOnePass-PaysInRound board.book t.start t.was after rest so.kept keeps book-IsCallingSo of_after.book board_is so.pass more turns leaves_on p.account
                p.targets t.call receipt paid_on way-shared.0 way-shared.2 way-shared.1 source_in counted (sent ∙ still-shared.sent_is) calls;
            within = MakesWithin-PaysInRound board.book t.start t.was after rest so.kept keeps book-IsCallingSo of_after.book board_is so.pass more turns leaves_on p.account
                p.targets t.call receipt paid_on way-shared.0 way-shared.2 way-shared.1 source_in exchanges refl few_on decided_on;
          }

-- what holds of a receipt, where there is one
if_some : (P Q : Receipt → Type 0) → ((r : Receipt) → P r → Q r) → (answer : Option Receipt) → IfSome answer P → IfSome answer Q
if_some P Q all None holds = tt
if_some P Q all (Some r) holds = all r holds

-- what a turn leaves, from one stage to the next
pub TakesCallTurn-stages : (b : BookTerms) (seen : List Publication) (t : CallingTerms) (before after mark : SeatTerms) → mark ≡ after → (now rest : Rest) → rest ≡ now
    → (old next : CallStage) → t.stage ≡ old → (answer : Option Receipt) → steps_made next ≡ steps_made old + steps_of old
    → MakesCallStep b seen old before after now.totals → FollowsCall b old next → call_turns_left b next < call_turns_left b old
    → IsCallWithin b (pass_before t) t.call after.knows now.totals.upto (steps_made next) (exchanges_made next)
    → (IsSome answer ↔ (call_turns_left b next ≡ 0)) → IsPrefix t.start.knows.seen after.knows.seen → AreRuns b after.knows.seen
    → exchanges_made next ≡ exchanges_made old + exchanges_of old
    → IfSome answer (Leaves b t after now (steps_made next) (exchanges_made next)) → IfSome answer (CountsCall t after now)
    → after.steps ≡ raised t.start.steps (steps_made next) → after.exchanges ≡ raised t.start.exchanges (exchanges_made next)
    → TakesCallTurn b seen t (calling_next t next mark rest) before after now answer
TakesCallTurn-stages b seen t before after mark mark_is now rest rest_is old next is answer turns step follows left so_far ends begins runs exchanges leaves calls made exchanged =
    let all : PassTerms = pass_of after now in
    record {
      call_is = refl;
      start_is = refl;
      was_is = refl;
      mark_is = mark_is;
      rest_is = rest_is;
      turns = turns ∙ sym (ap (λ (k : CallStage). steps_made k + steps_of k) is);
      step = subst (λ (k : CallStage). MakesCallStep b seen k before after now.totals) (sym is) step;
      follows = subst (λ (k : CallStage). FollowsCall b k next) (sym is) follows;
      left = subst (λ (k : CallStage). call_turns_left b next < call_turns_left b k) (sym is) left;
      so_far = so_far;
      ends = ends;
      made = if_some (Leaves b t after now (steps_made next) (exchanges_made next)) (CallMade b (pass_before t) all t.call) (λ r l. l.made) answer leaves;
      placed = if_some (Leaves b t after now (steps_made next) (exchanges_made next))
          (λ r. (earlier : List Receipt) → Stands (pass_before t) earlier → IsPlaced b t.start.knows.first after.knows.seen earlier r)
          (λ r l. placed-CallMade b (pass_before t) all t.call r l.made) answer leaves;
      stands = if_some (Leaves b t after now (steps_made next) (exchanges_made next))
          (λ r. (earlier : List Receipt) → Stands (pass_before t) earlier → Stands all (earlier ++ r ∷ []))
          (λ r l. stands-CallMade b (pass_before t) all t.call r l.made) answer leaves;
      kept = if_some (Leaves b t after now (steps_made next) (exchanges_made next)) (λ r. IsOfOnePass after now) (λ r l. l.kept) answer leaves;
      calls = calls;
      begins = begins;
      runs = runs;
      within = if_some (Leaves b t after now (steps_made next) (exchanges_made next))
          (StaysWithin b (pass_before t) all t.call)
          (λ r l. StaysWithin-MakesWithin b (pass_before t) all t.call (steps_made next) (exchanges_made next) r l.within made exchanged) answer leaves;
      refused = if_some (Leaves b t after now (steps_made next) (exchanges_made next)) (λ r. IsRefused r → steps_made next ≡ 0)
          (λ r l. l.within.refused) answer leaves;
      exchanges = exchanges ∙ sym (ap (λ (k : CallStage). exchanges_made k + exchanges_of k) is);
    }
