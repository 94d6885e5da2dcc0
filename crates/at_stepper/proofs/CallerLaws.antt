-- A caller whose call goes on, or is answered.
use Rattle.std.specs.Prelude.{IfSome, IsSome, is_some, ◌↔◌}
use Rattle.std.proofs.Common.{◌≡◌, ℕ, zero, suc, ◌+◌, ◌<◌, ◌⊎◌, Bool, true, false, cond, List, [], ◌∷◌, ◌++◌, drop, length, get_or, map, take, None, Option, Some, refl, sym, ap, subst, ◌∙◌, arith, inl, inr, length-append}
use Rattle.at_stepper.proofs.Prelude.{cases_Bool, map-append, take_more, sum_by-drop_more, BookTerms, is_owner, Call, Pay, Read, Transfer, Reply, Balance, Done, Full, NotOwner, Short, own_part, LearnsOverview, IsKept, SeatTerms, Knowledge, calls_of, Receipt, IsOfOnePass, pass_of, CallCountTerms, PastCall, call-CallMade, look-CallMade, refused_at-CallMade, PassTerms, Stands, past_receipts, sent_by, IsRefused, has_used_up, Rest, process-CallMade, CallerTerms, HasLearned, IsAnswered, IsFile, IsStillCalling, caller_turns_left, calls_left_of, is_refused, most_turns, next_call, own_seen, steps_in, CallingTerms, CountsCall, IsCallWithin, IsWay, MakesCallStep, StartsFrom, call_turns_left, exchanges_made, exchanges_of, first_step, next_step, pass_before, publishes_of, refusal_in, steps_made, steps_of, CallMade, StaysWithin, IsPrefix, Publication, IsPrefix-refl, IsCallerOf, IsNextInMaking, StartsNext, TakesTurn, caller_of, stage_in, EndsCall, FollowsCall, raised, CallStage, PayAlone, PayShared, Refuse, Refused, Turned, Answer, Step}
use Rattle.std.specs.Prelude.{sum_by}
use Rattle.at_stepper.proofs.PublishedLaws.{longer-IsPrefix}
use Rattle.at_calling.specs.declared.call_stage.CallStage.TheVariants.{Read as ReadOn}

-- a turn that isn't a call's last makes a step
pub steps_of-going_on : (b : BookTerms) (stage : CallStage) → 1 < call_turns_left b stage → steps_of stage ≡ 1
steps_of-going_on b (Refuse reply) more = absurd (omega (arith, more))
steps_of-going_on b Refused more = absurd (omega (arith, more))
steps_of-going_on b (ReadOn r) more = refl
steps_of-going_on b (PayAlone p) more = refl
steps_of-going_on b (PayShared p) more = refl

-- what was refused is told so
refused_cases : (reply : Reply) → is_refused reply ≡ true → (reply ≡ NotOwner) ⊎ (reply ≡ Full)
refused_cases Done refused = absurd (cc refused)
refused_cases Short refused = absurd (cc refused)
refused_cases NotOwner refused = inl refl
refused_cases Full refused = inr refl
refused_cases (Balance amount) refused = absurd (cc refused)

pub IsRefused-is_refused : (r : Receipt) → is_refused r.reply ≡ true → IsRefused r
IsRefused-is_refused r refused = refused_cases r.reply refused

-- a payment that is refused answers why
is_refused-reply : (owner used : Bool) (reply paid : Reply) → cond owner (cond used (Some Full) None) (Some NotOwner) ≡ Some reply
    → is_refused (cond owner (cond used Full paid) NotOwner) ≡ true
is_refused-reply true true reply paid is = refl
is_refused-reply true false reply paid is = absurd (cc is)
is_refused-reply false used reply paid is = refl

pub is_refused-CallMade : (b : BookTerms) (before after : PassTerms) (call : Call) (r : Receipt) (reply : Reply) → refusal_in b before call ≡ Some reply
    → CallMade b before after call r → is_refused r.reply ≡ true
is_refused-CallMade b before after (Transfer from to amount) r reply is made =
    ap is_refused made.reply ∙ is_refused-reply (is_owner b before.knows.first from) (has_used_up b before from) reply _ is
is_refused-CallMade b before after (Read account) r reply is made = absurd (cc is)
is_refused-CallMade b before after (Pay from targets) r reply is made =
    ap is_refused made.reply ∙ is_refused-reply (is_owner b before.knows.first from) (has_used_up b before from) reply _ is

-- a call's last turn makes one step, and none where it is refused
pub steps_in-Answer : (b : BookTerms) (before after : PassTerms) (call : Call) (stage : CallStage) (r : Receipt)
    → CallMade b before after call r → (IsRefused r → steps_made stage + steps_of stage ≡ 0)
    → (steps_made stage ≡ 0 → IsWay b before call stage) → 0 < call_turns_left b stage → steps_of stage ≡ steps_in (Answer r)
steps_in-Answer b before after call (Refuse reply) r made none way left =
    ap (λ t. cond t 0 1) (sym (is_refused-CallMade b before after call r reply (way refl) made))
steps_in-Answer b before after call Refused r made none way left = absurd (omega (arith, left))
steps_in-Answer b before after call (ReadOn reading) r made none way left =
    elim (cases_Bool (is_refused r.reply)) as (λ _. 1 ≡ steps_in (Answer r)) [
      | inl refused ↦ absurd (omega (arith, none (IsRefused-is_refused r refused)))
      | inr other ↦ ap (λ t. cond t 0 1) (sym other)
    ]
steps_in-Answer b before after call (PayAlone paying) r made none way left =
    elim (cases_Bool (is_refused r.reply)) as (λ _. 1 ≡ steps_in (Answer r)) [
      | inl refused ↦ absurd (omega (arith, none (IsRefused-is_refused r refused)))
      | inr other ↦ ap (λ t. cond t 0 1) (sym other)
    ]
steps_in-Answer b before after call (PayShared paying) r made none way left =
    elim (cases_Bool (is_refused r.reply)) as (λ _. 1 ≡ steps_in (Answer r)) [
      | inl refused ↦ absurd (omega (arith, none (IsRefused-is_refused r refused)))
      | inr other ↦ ap (λ t. cond t 0 1) (sym other)
    ]

-- an answer is some receipt
none_answered : (answer : Option Receipt) → IsSome answer → ((r : Receipt) → answer ≡ Some r → ⊥) → ⊥
none_answered None some unanswered = absurd (cc some)
none_answered (Some r) some unanswered = unanswered r refl

-- what a turn makes of a caller as it was, it makes of the caller
pub TakesTurn-caller : (b : BookTerms) (published : List Publication) (was now after : CallerTerms) (turned : Turned) (stage : CallStage) → was ≡ now
    → was.stage ≡ Some stage → TakesTurn b published was after turned stage → IfSome now.stage (TakesTurn b published now after turned)
TakesTurn-caller b published was now after turned stage same is takes =
    subst (λ (c : CallerTerms). IfSome c.stage (TakesTurn b published c after turned)) same
    (subst (λ (o : Option CallStage). IfSome o (TakesTurn b published was after turned)) (sym is) takes)

-- a call goes on where it isn't answered
pub left-going_on : (answer : Option Receipt) (left : ℕ) → IsSome answer ↔ (left ≡ 0) → ((r : Receipt) → answer ≡ Some r → ⊥) → 0 < left
left-going_on answer zero ends unanswered = absurd (none_answered answer (ends.1 refl) unanswered)
left-going_on answer (suc left) ends unanswered = omega arith

-- what a seat has published it has seen
pub own_seen-published : (b : BookTerms) (before after : CallerTerms) (stage : CallStage) → IsKept before.seat.knows → IsKept after.seat.knows
    → (own_part after.seat.knows).published ≡ (own_part before.seat.knows).published + publishes_of b stage
    → own_seen after ≡ own_seen before + publishes_of b stage
own_seen-published b before after stage was now published = omega (arith, was.own, now.own, published)

-- no call is in the making where nothing goes on
pub none-stage_in : (making : Option CallingTerms) → stage_in making ≡ None → making ≡ None
none-stage_in None none = refl
none-stage_in (Some c) none = absurd (cc none)

-- and some call is where something does
pub in_making : (making : Option CallingTerms) → is_some making ≡ true → stage_in making ≡ None → ⊥
in_making None some none = absurd (cc some)
in_making (Some c) some none = absurd (cc none)

pub none-making : (making : Option CallingTerms) → is_some making ≡ false → stage_in making ≡ None
none-making None none = refl
none-making (Some c) none = absurd (cc none)

-- a caller between two calls that learns what an overview has
module _ (b : BookTerms) (seat after : SeatTerms) (rest : Rest) (calls : List Call) (receipts : List Receipt) (room : ℕ) (list : List Publication)
    (was : IsCallerOf seat rest calls receipts None room) (board : after.board ≡ seat.board) (book : after.knows.book ≡ seat.knows.book)
    (learned : LearnsOverview b seat.knows list after.knows) (stands : Stands (pass_of seat rest) receipts → Stands (pass_of after rest) receipts)
    (sent : sent_by (pass_of after rest) ≡ sent_by (pass_of seat rest)) (steps : after.steps ≡ seat.steps)
    (exchanges : after.exchanges ≡ seat.exchanges) (pass : IsOfOnePass after rest) where
  same_knows : after.knows ≡ record seat.knows { seen = after.knows.seen }
  same_knows = learned.same ∙ ap (λ (xs : List Publication). record seat.knows { seen = xs }) (sym (ap (λ (v : Knowledge). v.seen) learned.same))

  pub HasLearned-seat : HasLearned (caller_of seat rest calls receipts None) (caller_of after rest calls receipts None)
  HasLearned-seat = record {
    same = refl;
    pass_same =
        λ t. record { board = board t; knows = same_knows t; steps = steps t; exchanges = exchanges t; counted = rest.totals.upto; calls = rest.calls.count; past = rest.calls.past };
    begins = learned.more;
    sent = sent;
    stands = stands was.caller.stands;
  }

  pub seen-learned : IsPrefix seat.knows.seen list → after.knows.seen ≡ list
  seen-learned before = ap (λ (v : Knowledge). v.seen) learned.same ∙ longer-IsPrefix seat.knows.seen list before

  pub IsCallerOf-learned : IsCallerOf after rest calls receipts None room
  IsCallerOf-learned = record {
    caller = record {
      file = subst (λ (x : BookTerms). IsFile (length x.accounts) calls) (sym book) was.caller.file;
      stands = stands was.caller.stands;
      past = was.caller.past;
      made = was.caller.made;
      within = was.caller.within;
      fits = was.caller.fits;
    };
    making_so = pass;
  }

-- a caller that begins its next call
module _ (b : BookTerms) (seat : SeatTerms) (rest : Rest) (calls : List Call) (receipts : List Receipt) (room : ℕ)
    (was : IsCallerOf seat rest calls receipts None room) (book : seat.knows.book ≡ b) (kept : IsKept seat.knows) (more : length receipts < length calls)
    (c : CallingTerms) (call_is : c.call ≡ get_or calls (length receipts) (Call.Read 0)) (start : c.start ≡ seat) (was_rest : c.was ≡ rest)
    (mark : c.mark ≡ seat) (rest_is : c.rest ≡ rest) (way : IsWay b (pass_of seat rest) c.call c.stage) (unturned : steps_made c.stage ≡ 0)
    (unexchanged : exchanges_made c.stage ≡ 0) (left : 0 < call_turns_left b c.stage) (starts : StartsFrom seat.knows rest.totals c.stage)
    (first : next_step b c.stage ≡ first_step (refusal_in b (pass_of seat rest) c.call)) where
  abbrev begun : CallerTerms
  begun = caller_of seat rest calls receipts (Some c)

  abbrev idle : CallerTerms
  idle = caller_of seat rest calls receipts None

  begun_pass : pass_before c ≡ pass_of seat rest
  begun_pass = ap (λ (s : SeatTerms). pass_of s c.was) start ∙ ap (λ (x : Rest). pass_of seat x) was_rest

  next_way : IsWay b (pass_of seat rest) (next_call idle) c.stage
  next_way = subst (λ (call : Call). IsWay b (pass_of seat rest) call c.stage) call_is way

  pub StartsNext-begun : StartsNext b idle begun
  StartsNext-begun = record {
    stage = c.stage;
    same = λ t. record { pass = begun_pass t; seat = seat; totals = rest.totals; calls = calls; receipts = receipts; stage = Some c.stage };
    history = kept.history;
    way = next_way;
    starts = starts;
    unturned = unturned;
    unexchanged = unexchanged;
    first = first ∙ ap (λ (call : Call). first_step (refusal_in b (pass_of seat rest) call)) call_is;
  }

  pub IsCallerOf-begun : IsCallerOf seat rest calls receipts (Some c) room
  IsCallerOf-begun = record {
    caller = record {
      file = was.caller.file;
      stands = subst (λ (p : PassTerms). Stands p receipts) (sym begun_pass) was.caller.stands;
      past = ap (λ (p : PassTerms). past_receipts p) begun_pass ∙ was.caller.past;
      made = was.caller.made;
      within = was.caller.within;
      fits = was.caller.fits;
    };
    making_so = record {
      more = more;
      call_is = call_is;
      mark = mark;
      rest_is = rest_is;
      book = ap (λ (s : SeatTerms). s.knows.book) start;
      begins = subst (λ (s : SeatTerms). IsPrefix s.knows.seen seat.knows.seen) (sym start) (IsPrefix-refl seat.knows.seen);
      left = subst (λ (x : BookTerms). 0 < call_turns_left x c.stage) (sym book) left;
      way = λ none.
          subst (λ (x : BookTerms). IsWay x (pass_before c) (next_call idle) c.stage) (sym book)
          (subst (λ (p : PassTerms). IsWay b p (next_call idle) c.stage) (sym begun_pass) next_way);
    };
  }

-- a turn of the call in the making, which may be its last
module _ (b : BookTerms) (seat : SeatTerms) (rest : Rest) (calls : List Call) (receipts : List Receipt) (c : CallingTerms) (room : ℕ)
    (was : IsCallerOf seat rest calls receipts (Some c) room) (book : seat.knows.book ≡ b) where
  abbrev before : CallerTerms
  before = caller_of seat rest calls receipts (Some c)

  number : ℕ
  number = length receipts

  abbrev next : IsNextInMaking calls (length receipts) (next_call before) seat rest c
  next = was.making_so

  pub left_in_making : 0 < call_turns_left b c.stage
  left_in_making = subst (λ (x : BookTerms). 0 < call_turns_left x c.stage) book next.left

  way_in_making : steps_made c.stage ≡ 0 → IsWay b (pass_before c) c.call c.stage
  way_in_making none =
      subst (λ (call : Call). IsWay b (pass_before c) call c.stage) (sym next.call_is)
      (subst (λ (x : BookTerms). IsWay x (pass_before c) (next_call before) c.stage) book (next.way none))

  module _ (d : CallingTerms) (after_seat : SeatTerms) (after_rest : Rest) (kept : IsKept after_seat.knows) (same_book : after_seat.knows.book ≡ b)
      (same_call : d.call ≡ c.call) (same_start : d.start ≡ c.start) (same_was : d.was ≡ c.was)
      (turns : steps_made d.stage ≡ steps_made c.stage + steps_of c.stage)
      (exchanges : exchanges_made d.stage ≡ exchanges_made c.stage + exchanges_of c.stage)
      (fewer : call_turns_left b d.stage < call_turns_left b c.stage) (more : IsPrefix c.start.knows.seen after_seat.knows.seen)
      (so_far : IsCallWithin b (pass_before c) c.call after_seat.knows after_rest.totals.upto (steps_made d.stage) (exchanges_made d.stage)) where
    same_pass : pass_before d ≡ pass_before c
    same_pass = ap (λ (s : SeatTerms). pass_of s d.was) same_start ∙ ap (λ (x : Rest). pass_of c.start x) same_was

    -- the steps and exchanges so far, by the call and the pass before it
    within_call : IsCallWithin b (pass_before c) (next_call before) after_seat.knows after_rest.totals.upto (steps_made d.stage) (exchanges_made d.stage)
    within_call =
        subst (λ (call : Call). IsCallWithin b (pass_before c) call after_seat.knows after_rest.totals.upto (steps_made d.stage) (exchanges_made d.stage)) next.call_is so_far

    -- so they are fewer than the most turns of the call
    few_turns : steps_made c.stage + steps_of c.stage < most_turns b (next_call before)
    few_turns = omega (arith, turns, within_call.few, kept.history.few)

    all_turns_left-before : sum_by (most_turns b) (drop (length receipts) calls)
        ≡ most_turns b (next_call before) + sum_by (most_turns b) (drop (length receipts + 1) calls)
    all_turns_left-before = sum_by-drop_more (most_turns b) calls (length receipts) (Call.Read 0) next.more

    -- the call goes on
    module _ (left : 0 < call_turns_left b d.stage) (mark : d.mark ≡ after_seat) (rest_is : d.rest ≡ after_rest) where
      one_step : steps_of c.stage ≡ 1
      one_step = steps_of-going_on b c.stage (omega (arith, left, fewer))

      abbrev going_on : CallerTerms
      going_on = caller_of after_seat after_rest calls receipts (Some d)

      IsStillCalling-turned : FollowsCall b c.stage d.stage → IsStillCalling b before going_on c.stage
      IsStillCalling-turned follows = record {
        pass = same_pass;
        receipts = refl;
        going_on = (d.stage, refl, follows);
        turns = omega (arith, turns, one_step);
        exchanges = exchanges;
        begins = more;
        within = within_call;
      }

      all_turns_left-turned : caller_turns_left b going_on < caller_turns_left b before
      all_turns_left-turned = omega (arith, turns, one_step, few_turns, all_turns_left-before)

      -- so its turn is taken, where the seat has counted its step
      pub TakesTurn-turned : (published : List Publication) → MakesCallStep b published c.stage seat after_seat after_rest.totals → FollowsCall b c.stage d.stage
          → after_seat.steps ≡ raised seat.steps (steps_of c.stage) → after_seat.exchanges ≡ raised seat.exchanges (exchanges_of c.stage)
          → own_seen going_on ≡ own_seen before + publishes_of b c.stage → TakesTurn b published before going_on Step c.stage
      TakesTurn-turned published made follows counted exchanged publishes = record {
        leaves = IsStillCalling-turned follows;
        ends = λ none. absurd (cc none);
        step = made;
        kind = sym one_step;
        steps = counted ∙ ap (raised seat.steps) one_step;
        exchanges = exchanged;
        publishes = publishes;
        calls = refl;
        process_is = ap (λ (p : PassTerms). p.knows.first) same_pass;
        left = omega arith;
        turns_left = all_turns_left-turned;
        stands = subst (λ (p : PassTerms). Stands p receipts) (sym same_pass) was.caller.stands;
        between = λ none. absurd (cc none);
      }

      pub IsCallerOf-turned : IsCallerOf after_seat after_rest calls receipts (Some d) room
      IsCallerOf-turned = record {
        caller = record {
          file = subst (λ (x : BookTerms). IsFile (length x.accounts) calls) (book ∙ sym same_book) was.caller.file;
          stands = subst (λ (p : PassTerms). Stands p receipts) (sym same_pass) was.caller.stands;
          past = ap (λ (p : PassTerms). past_receipts p) same_pass ∙ was.caller.past;
          made = was.caller.made;
          within = was.caller.within;
          fits = was.caller.fits;
        };
        making_so = record {
          more = next.more;
          call_is = same_call ∙ next.call_is;
          mark = mark;
          rest_is = rest_is;
          book = ap (λ (s : SeatTerms). s.knows.book) same_start ∙ (next.book ∙ (book ∙ sym same_book));
          begins = subst (λ (s : SeatTerms). IsPrefix s.knows.seen after_seat.knows.seen) (sym same_start) more;
          left = subst (λ (x : BookTerms). 0 < call_turns_left x d.stage) (sym same_book) left;
          way = λ none. absurd (omega (arith, none, turns, one_step));
        };
      }

    -- the call is answered
    module _ (r : Receipt) (made : CallMade b (pass_before c) (pass_of after_seat after_rest) c.call r)
        (stands : (earlier : List Receipt) → Stands (pass_before c) earlier → Stands (pass_of after_seat after_rest) (earlier ++ r ∷ []))
        (one_pass : IsOfOnePass after_seat after_rest) (one_more : CountsCall c after_seat after_rest r)
        (within : StaysWithin b (pass_before c) (pass_of after_seat after_rest) c.call r) (none : IsRefused r → steps_made d.stage ≡ 0) (all : List Receipt)
        (pushed : all ≡ receipts ++ r ∷ []) where
      abbrev answered : CallerTerms
      answered = caller_of after_seat after_rest calls all None

      count : length all ≡ length receipts + 1
      count = ap (λ (rs : List Receipt). length rs) pushed ∙ length-append receipts (r ∷ [])

      steps_of-answered : steps_of c.stage ≡ steps_in (Answer r)
      steps_of-answered = steps_in-Answer b (pass_before c) (pass_of after_seat after_rest) c.call c.stage r made
          (λ refused. sym turns ∙ none refused) way_in_making left_in_making

      stands_all : Stands (pass_of after_seat after_rest) all
      stands_all = subst (λ (rs : List Receipt). Stands (pass_of after_seat after_rest) rs) (sym pushed) (stands receipts was.caller.stands)

      IsAnswered-turned : IsAnswered b before answered r
      IsAnswered-turned = record {
        receipts = pushed;
        call = call-CallMade b (pass_before c) (pass_of after_seat after_rest) c.call r made ∙ next.call_is;
        made = subst (λ (call : Call). CallMade b (pass_before c) (pass_of after_seat after_rest) call r) next.call_is made;
        stands = stands_all;
        seat = refl;
        within = subst (λ (call : Call). StaysWithin b (pass_before c) (pass_of after_seat after_rest) call r) next.call_is within;
        history = kept.history;
        looked = λ placed. look-CallMade b (pass_before c) (pass_of after_seat after_rest) c.call r made
            (λ refused. placed (refused_at-CallMade b (pass_before c) (pass_of after_seat after_rest) c.call r made refused));
        idle = refl;
      }

      all_turns_left-answered : caller_turns_left b answered < caller_turns_left b before
      all_turns_left-answered = omega (arith, few_turns, all_turns_left-before, ap (λ n. sum_by (most_turns b) (drop n calls)) count)

      calls_left-answered : calls_left_of before ≡ calls_left_of answered + 1
      calls_left-answered = omega (arith, count, next.more)

      pub TakesTurn-answered : (published : List Publication) → MakesCallStep b published c.stage seat after_seat after_rest.totals → EndsCall b c.stage
          → after_seat.steps ≡ raised seat.steps (steps_of c.stage) → after_seat.exchanges ≡ raised seat.exchanges (exchanges_of c.stage)
          → own_seen answered ≡ own_seen before + publishes_of b c.stage → TakesTurn b published before answered (Answer r) c.stage
      TakesTurn-answered published stepped ends counted exchanged publishes = record {
        leaves = IsAnswered-turned;
        ends = λ none. ends;
        step = stepped;
        kind = sym steps_of-answered;
        steps = counted ∙ ap (raised seat.steps) steps_of-answered;
        exchanges = exchanged;
        publishes = publishes;
        calls = refl;
        process_is = process-CallMade b (pass_before c) (pass_of after_seat after_rest) c.call r made;
        left = calls_left-answered;
        turns_left = all_turns_left-answered;
        stands = stands_all;
        between = λ none. refl;
      }

      pub IsCallerOf-answered : (capacity : ℕ) → capacity ≡ room → IsCallerOf after_seat after_rest calls all None capacity
      IsCallerOf-answered capacity same = record {
        caller = record {
          file = subst (λ (x : BookTerms). IsFile (length x.accounts) calls) (book ∙ sym same_book) was.caller.file;
          stands = stands_all;
          past = ap (λ (n : CallCountTerms). map (λ (x : PastCall). x.receipt) n.past) one_more
              ∙ (map-append (λ (x : PastCall). x.receipt) c.was.calls.past _
              ∙ (ap (λ (rs : List Receipt). rs ++ r ∷ []) was.caller.past ∙ sym pushed));
          made =
              ap calls_of pushed
              ∙ (map-append (λ (x : Receipt). x.call) receipts (r ∷ [])
              ∙ (ap (λ (cs : List Call). cs ++ r.call ∷ []) was.caller.made
              ∙ (ap (λ (call : Call). take (length receipts) calls ++ call ∷ [])
              (call-CallMade b (pass_before c) (pass_of after_seat after_rest) c.call r made ∙ next.call_is)
              ∙ (sym (take_more calls (length receipts) (Call.Read 0) next.more) ∙ ap (λ n. take n calls) (sym count)))));
          within = omega (arith, count, next.more);
          fits = omega (arith, was.caller.fits, same);
        };
        making_so = one_pass;
      }
