-- A run whose process has made a turn: what is published then, and by whom.
use Rattle.std.proofs.Common.{◌≡◌, ◌≢◌, ℕ, ◌+◌, ◌<◌, ◌≤◌, Bool, cond, false, true, List, [], ◌∷◌, ◌++◌, None, Some, length, get_or, set, refl, sym, ap, subst, ◌∙◌, arith, inl, inr, length-set}
use Rattle.at_stepper.proofs.Prelude.{cases_eq, get_or-set_other, get_or-set_same, get_or_default, length_push, count_of-push_own, ArePublishedBy-IsHistory, IsPrefix-trans, ArePublishedBy, IsPrefix, count_of, Publication, IsOverviewOf, OverviewTerms, TakesIn, BoardTerms, IsOf, IsPassOf, Stands, seat_of, length_loaded, publishes_of, CallerTerms, IsTurned, own_seen, AreAllIn, AreCallersOn, HaveJustTheirOwn, IsCallerOn, IsAllPublished, PublishesAtMostOne, SeesPublished, TurnsOne, Turned}
use Rattle.at_stepper.proofs.PublishedLaws.{IsPrefix-antisym, PublishesAtMostOne-counts, longer-same}
use Rattle.at_stepper.proofs.StepLaws.{length_loaded-told, publishes_of-le, publishes_of-loaded}
use Rattle.at_stepper.proofs.SteppingLaws.{AreCallersOn-set, TurnsOne-set}

-- where nothing more of a process is published, nothing is
none_published : (process : ℕ) (before after : List Publication) → PublishesAtMostOne process before after → count_of process after ≡ count_of process before
    → after ≡ before
none_published process before after (inl same) count = same
none_published process before after (inr (x, own, is)) count =
    absurd (omega (
      arith,
      count,
      ap (count_of process) is,
      subst (λ p. count_of p (before ++ x ∷ []) ≡ count_of p before + 1) own (count_of-push_own before x),
    ))

-- how much more is published where a record is, and where none is
pub length-PublishesAtMostOne : (process : ℕ) (before after : List Publication) (published : Bool) → PublishesAtMostOne process before after
    → (count_of process after ≡ count_of process before → published ≡ false) → (count_of process before < count_of process after → published ≡ true)
    → length after ≡ length before + cond published 1 0
length-PublishesAtMostOne process before after published (inl same) none some =
    omega (arith, ap (λ (xs : List Publication). length xs) same, ap {B = ℕ} (λ (t : Bool). cond t 1 0) (none (ap (count_of process) same)))
length-PublishesAtMostOne process before after published (inr (x, own, is)) none some =
    let one : count_of process after ≡ count_of process before + 1 =
    ap (count_of process) is ∙ subst (λ p. count_of p (before ++ x ∷ []) ≡ count_of p before + 1) own (count_of-push_own before x) in
    omega (
      arith,
      ap (λ (xs : List Publication). length xs) is,
      length_push before x,
      ap {B = ℕ} (λ (t : Bool). cond t 1 0) (some (omega (arith, one))),
    )

-- the callers and what was published before a turn of a process
module _ (ledger : BoardTerms) (callers : List CallerTerms) (process : ℕ) (published : List Publication) (within : process < length callers)
    (on : AreCallersOn ledger callers) (kept : IsAllPublished ledger.book callers published) where
  pub own_seen-at : (was : CallerTerms) → was ≡ get_or callers process was → count_of process published ≡ own_seen was
  own_seen-at was is =
      let first = subst (λ (c : CallerTerms). c.seat.knows.first ≡ process) (sym is) (on.each process was within).seat_process in
      subst (λ (c : CallerTerms). count_of process published ≡ count_of process c.seat.knows.seen) (sym is) (kept.own process was within)
      ∙ ap (λ p. count_of p was.seat.knows.seen) (sym first)

  -- and what is after it
  module _ (was after : CallerTerms) (turned : Turned) (more : List Publication) (is : was ≡ get_or callers process was)
      (one : IsTurned ledger.book published turned was after) (is_on : IsCallerOn ledger process after)
      (added : TakesIn ledger.book published after.seat.knows more) where
    abbrev all : List CallerTerms
    all = set callers process after

    sized : length all ≡ length callers
    sized = length-set callers process after

    pub AreCallersOn-turned : AreCallersOn ledger all
    AreCallersOn-turned = AreCallersOn-set ledger callers process after within on is_on

    pub AreAllIn-turned : AreAllIn all more
    AreAllIn-turned p d inside =
        elim (cases_eq p process) as (λ _. IsPrefix (get_or all p d).seat.knows.seen more) [
          | inl here ↦
              subst (λ (c : CallerTerms). IsPrefix c.seat.knows.seen more)
              (sym (ap (λ k. get_or all k d) here ∙ get_or-set_same callers process after d within)) added.told
          | inr other ↦
              subst (λ (c : CallerTerms). IsPrefix c.seat.knows.seen more) (sym (get_or-set_other callers process p after d other))
              (IsPrefix-trans (get_or callers p d).seat.knows.seen published more (kept.seen p d (omega (arith, inside, sized))) added.more)
        ]

    -- where it has of each process just the records that its seat has
    module _ (own : HaveJustTheirOwn (set callers process after) more) where
      own-after : (now : CallerTerms) → now ≡ after → count_of process more ≡ count_of process now.seat.knows.seen
      own-after now same =
          own process after (omega (arith, within, sized))
          ∙ ap (λ (c : CallerTerms). count_of process c.seat.knows.seen) (get_or-set_same callers process after after within ∙ sym same)

      own_more : count_of process more ≡ count_of process published + publishes_of ledger.book one.stage
      own_more =
          omega (
            arith,
            own-after after refl,
            ap (λ p. count_of p after.seat.knows.seen) (sym is_on.seat_process),
            one.publishes,
            own_seen-at was is,
          )

      others-after : (q : ℕ) → q < ledger.book.processes → q ≢ process → count_of q more ≤ count_of q published
      others-after q known apart =
          let inside : q < length callers = omega (arith, known, on.count) in
          omega (
            arith,
            own q after (omega (arith, inside, sized)),
            ap (λ (c : CallerTerms). count_of q c.seat.knows.seen) (get_or-set_other callers process q after after apart),
            kept.own q after inside,
          )

      abbrev known_more : ArePublishedBy ledger.book.processes more
      known_more = ArePublishedBy-IsHistory ledger.book more added.history

      grows : PublishesAtMostOne process published more
      grows =
          PublishesAtMostOne-counts ledger.book.processes process published more added.more known_more others-after
          (omega (arith, own_more, publishes_of-le ledger.book one.stage))

      pub IsAllPublished-turned : IsAllPublished ledger.book all more
      IsAllPublished-turned = record { seen = AreAllIn-turned; own = own; known = known_more }

      -- a load of a length has seen what was published, and no more
      loaded-turned : (now : CallerTerms) (d : CallerTerms) (turn : IsTurned ledger.book published turned (get_or callers process d) now) → now ≡ after
          → (p : ℕ) → length_loaded turn.stage ≡ Some p → now.seat.knows.seen ≡ published
      loaded-turned now d turn same p loads =
          let was_d : get_or callers process d ≡ get_or callers process (get_or callers process d) = get_or_default callers process d (get_or callers process d) within in
          let first : now.seat.knows.first ≡ process = ap (λ (c : CallerTerms). c.seat.knows.first) same ∙ is_on.seat_process in
          let count : count_of process more ≡ count_of process published =
          omega (
            arith,
            own-after now same,
            ap (λ q. count_of q now.seat.knows.seen) (sym first),
            turn.publishes,
            publishes_of-loaded ledger.book turn.stage p loads,
            own_seen-at (get_or callers process d) was_d,
          ) in
          let still : more ≡ published = none_published process published more grows count in
          let told : IsPrefix now.seat.knows.seen published =
          subst (λ (c : CallerTerms). IsPrefix c.seat.knows.seen published) (sym same) (subst (IsPrefix after.seat.knows.seen) still added.told) in
          let heard = length_loaded-told ledger.book published turn.ready.seat now.seat now.totals p turn.stage loads turn.step in
          IsPrefix-antisym now.seat.knows.seen published told heard

      sees-turned : (d now : CallerTerms) (turn : IsTurned ledger.book published turned (get_or callers process d) now) → now ≡ after
          → SeesPublished process published more now turn.stage
      sees-turned d now turn same = record {
        seen = subst (λ (c : CallerTerms). IsPrefix c.seat.knows.seen more) (sym same) added.told;
        own = own-after now same;
        loaded = loaded-turned now d turn same;
      }

      pub TurnsOne-turned : TurnsOne process turned (record { ledger = ledger; callers = callers; published = published })
          (record { ledger = ledger; callers = all; published = more })
      TurnsOne-turned =
          TurnsOne-set ledger callers process after within turned published more
          (λ d. subst (λ (c : CallerTerms). IsTurned ledger.book published turned c after) (is ∙ get_or_default callers process was d within) one)
          grows sees-turned

-- an overview that has taken in all takes in one once more
pub overview-once_more : (ledger : BoardTerms) (callers : List CallerTerms) (process : ℕ) (caller : CallerTerms) (overview after : OverviewTerms)
    → process < length callers → AreCallersOn ledger callers → caller ≡ get_or callers process caller → IsOverviewOf overview ledger
    → IsOverviewOf after ledger → AreAllIn callers overview.seen → TakesIn ledger.book overview.seen caller.seat.knows after.seen
    → (after ≡ overview) × (count_of process overview.seen ≡ count_of process caller.seat.knows.seen)
overview-once_more ledger callers process caller overview after within on is was now seen added =
    let first = subst (λ (c : CallerTerms). c.seat.knows.first ≡ process) (sym is) (on.each process caller within).seat_process in
    let before = subst (λ (c : CallerTerms). IsPrefix c.seat.knows.seen overview.seen) (sym is) (seen process caller within) in
    let same : after.seen ≡ overview.seen = added.is ∙ longer-same overview.seen caller.seat.knows.seen before in (
      (λ t. record { board = (now.id ∙ sym was.id) t; book = (now.book ∙ sym was.book) t; seen = same t }),
      ap (λ (list : List Publication). count_of process list) (sym same)
          ∙ subst (λ p. count_of p after.seen ≡ count_of p caller.seat.knows.seen) first added.own,
    )

-- a caller that has turned, and is shown to the overview
module _ (ledger board : BoardTerms) (callers : List CallerTerms) (process : ℕ) (was next shown : CallerTerms) (turned : Turned)
    (overview turned_overview after : OverviewTerms) (within : process < length callers) (on : AreCallersOn ledger callers)
    (kept : IsAllPublished ledger.book callers overview.seen) (board_is : board ≡ ledger) (is : was ≡ get_or callers process was)
    (one : IsTurned board.book overview.seen turned was next) (first : next.seat.knows.first ≡ was.seat.knows.first)
    (stands : Stands next.pass next.receipts) (between : next.stage ≡ None → seat_of next.pass ≡ next.seat)
    (pass : IsPassOf was.pass board → IsPassOf next.pass board) (seat : IsOf next.seat board) (same : turned_overview ≡ overview)
    (added : TakesIn board.book turned_overview.seen next.seat.knows after.seen) (shown_is : shown ≡ next) where
  on_was : IsCallerOn ledger process was
  on_was = subst (IsCallerOn ledger process) (sym is) (on.each process was within)

  on_next : IsCallerOn ledger process next
  on_next = record {
    seat = subst (IsOf next.seat) board_is seat;
    pass = subst (λ (b : BoardTerms). IsPassOf was.pass b → IsPassOf next.pass b) board_is pass on_was.pass;
    process_is = one.process_is ∙ on_was.process_is;
    seat_process = first ∙ on_was.seat_process;
    stands = stands;
    between = between;
  }

  on_shown : IsCallerOn ledger process shown
  on_shown = subst (IsCallerOn ledger process) (sym shown_is) on_next

  one_shown : IsTurned ledger.book overview.seen turned was shown
  one_shown =
      subst (λ (b : BoardTerms). IsTurned b.book overview.seen turned was shown) board_is
      (subst (λ (c : CallerTerms). IsTurned board.book overview.seen turned was c) (sym shown_is) one)

  added_shown : TakesIn ledger.book overview.seen shown.seat.knows after.seen
  added_shown =
      subst (λ (b : BoardTerms). TakesIn b.book overview.seen shown.seat.knows after.seen) board_is
      (subst (λ (o : OverviewTerms). TakesIn board.book o.seen shown.seat.knows after.seen) same
      (subst (λ (c : CallerTerms). TakesIn board.book turned_overview.seen c.seat.knows after.seen) (sym shown_is) added))

  pub AreCallersOn-shown : AreCallersOn ledger (set callers process shown)
  AreCallersOn-shown = AreCallersOn-turned ledger callers process overview.seen within on kept was shown turned after.seen is one_shown on_shown added_shown

  pub AreAllIn-shown : AreAllIn (set callers process shown) after.seen
  AreAllIn-shown = AreAllIn-turned ledger callers process overview.seen within on kept was shown turned after.seen is one_shown on_shown added_shown

  module _ (own : HaveJustTheirOwn (set callers process shown) after.seen) where
    pub IsAllPublished-shown : IsAllPublished ledger.book (set callers process shown) after.seen
    IsAllPublished-shown =
        IsAllPublished-turned ledger callers process overview.seen within on kept was shown turned after.seen is one_shown on_shown added_shown own

    pub TurnsOne-shown : TurnsOne process turned (record { ledger = ledger; callers = callers; published = overview.seen })
        (record { ledger = ledger; callers = set callers process shown; published = after.seen })
    TurnsOne-shown =
        TurnsOne-turned ledger callers process overview.seen within on kept was shown turned after.seen is one_shown on_shown added_shown own
