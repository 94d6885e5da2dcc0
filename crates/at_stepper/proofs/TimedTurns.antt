-- Turns one after another: each answered call rests on a look at no less than all calls before it in time had seen.
use Rattle.std.proofs.Common.{◌≡◌, ◌≢◌, ℕ, ◌+◌, ◌*◌, ◌<◌, ◌≤◌, ◌==◌, ◌&&◌, Bool, cond, true, List, [], ◌∷◌, ◌++◌, None, length, get_or, refl, sym, ap, subst, ◌∙◌, arith, inl, inr}
use Rattle.std.specs.Prelude.{is_some}
use Rattle.at_stepper.proofs.Prelude.{cases_eq, cases_lt, eq-eqb, ne_eqb, length_push, BookTerms, IsPrefix-length, IsPrefix-trans, IsPrefix, Publication, receipt_at, Previous, Receipt, PassTerms, BeginsCall, CallerTerms, IsTurned, answers_in, times_of, turns_of_call, answered_by, ChangesOne, TurnMade, Turned}
use Rattle.at_stepper.proofs.TurnCounts.{answered_by-push, answers-cond}
use Rattle.at_stepper.proofs.TimedCallers.{HasMore, HasMore-IsTurned, HasMore-refl, IsTimedCaller, IsTimedCaller-IsTurned, ahead-IsTurned, begins_or_on, caller_key, caller_key-le, caller_key-more, caller_look, caller_look-more, caller_receipt-more, count-IsTurned, still-IsTurned}
use Rattle.at_stepper.proofs.TurnTimes.{AreTimes, AreTimes-push, begun-push, ended-other, ended-own, is_next_of, is_next_of-number, is_next_of-own, next-answered, number-is_next_of, process-is_next_of, some-own, some-push}

-- the keys of all answered calls that ended before this one begins are at most twice this length
abbrev pub LooksBack : List TurnMade → List CallerTerms → ℕ → ℕ → ℕ → Type 0
LooksBack turns callers q j length_between = (p i : ℕ) (d : CallerTerms) → p < length callers → i < length (get_or callers p d).receipts
    → (times_of turns).ended p i < (times_of turns).begun q j → caller_key (get_or callers p d) i ≤ 2 * length_between

-- an answered call looked at no less than such a length
pub record HasLooked (turns : List TurnMade) (callers : List CallerTerms) (q j : ℕ) (c : CallerTerms) : Type 0 where
  pub length_between : ℕ
  pub back : LooksBack turns callers q j length_between
  pub ahead : (receipt_at c.receipts j).at ≢ Previous → length_between ≤ caller_look c j

-- what turns leave of the callers of all processes, whose seats have seen only what is published: a call in the making has had a turn, and
-- looks back no farther than to what its caller had seen when it began
pub record AreTimedTurns (turns : List TurnMade) (callers : List CallerTerms) (published : List Publication) : Type 0 where
  pub times : AreTimes turns
  pub counted : (p : ℕ) (d : CallerTerms) → p < length callers → answered_by p turns ≡ length (get_or callers p d).receipts
  pub going : (p : ℕ) (d : CallerTerms) → p < length callers → (get_or callers p d).stage ≢ None → 0 < length (turns_of_call turns p (answered_by p turns))
  pub each : (p : ℕ) (d : CallerTerms) → p < length callers → IsTimedCaller p (get_or callers p d)
  pub seen : (p : ℕ) (d : CallerTerms) → p < length callers → IsPrefix (get_or callers p d).seat.knows.seen published
  pub answered : (q j : ℕ) (d : CallerTerms) → q < length callers → j < length (get_or callers q d).receipts →
      HasLooked turns callers q j (get_or callers q d)
  pub making : (q : ℕ) (d : CallerTerms) → q < length callers → (get_or callers q d).stage ≢ None →
      LooksBack turns callers q (answered_by q turns) (length (get_or callers q d).pass.knows.seen)

-- what a caller's pass has seen, its seat has, and it is published
pub pass_seen : (turns : List TurnMade) (callers : List CallerTerms) (published : List Publication) → AreTimedTurns turns callers published
    → (p : ℕ) (d : CallerTerms) → p < length callers → IsPrefix (get_or callers p d).pass.knows.seen published
pass_seen turns callers published are p d within =
    let caller = get_or callers p d in
    IsPrefix-trans caller.pass.knows.seen caller.seat.knows.seen published (are.each p d within).begins (are.seen p d within)

-- one turn more
module _ (b : BookTerms) (turns : List TurnMade) (t : TurnMade) (turned : Turned) (published : List Publication) (before after : List CallerTerms)
    (were : AreTimedTurns turns before published) (changes : ChangesOne (IsTurned b published turned) t.process before after)
    (made : is_some t.reply ≡ (answers_in turned == 1)) where
  abbrev all : List TurnMade
  all = turns ++ t ∷ []

  -- its process's caller has turned, and the others' are the same
  pub HasMore-turned : (p : ℕ) (d : CallerTerms) → HasMore (get_or before p d) (get_or after p d)
  HasMore-turned p d =
      elim (cases_eq p t.process) as (λ _. HasMore (get_or before p d) (get_or after p d)) [
        | inl here ↦
            subst (λ q. HasMore (get_or before q d) (get_or after q d)) (sym here)
            (HasMore-IsTurned b published turned (get_or before t.process d) (get_or after t.process d) (changes.here d))
        | inr other ↦ subst (HasMore (get_or before p d)) (sym (changes.others p d other)) (HasMore-refl (get_or before p d))
      ]

  each-turned : (p : ℕ) (d : CallerTerms) → p < length before → IsTimedCaller p (get_or after p d)
  each-turned p d within =
      elim (cases_eq p t.process) as (λ _. IsTimedCaller p (get_or after p d)) [
        | inl here ↦
            subst (λ q. IsTimedCaller q (get_or after q d)) (sym here)
            (IsTimedCaller-IsTurned b published turned (get_or before t.process d) (get_or after t.process d) (changes.here d) t.process
            (subst (λ q. IsTimedCaller q (get_or before q d)) here (were.each p d within)))
        | inr other ↦ subst (IsTimedCaller p) (sym (changes.others p d other)) (were.each p d within)
      ]

  answered_by-own : answered_by t.process all ≡ answered_by t.process turns + answers_in turned
  answered_by-own =
      omega (
        arith,
        answered_by-push t.process turns t,
        ap {B = ℕ} (λ (x : Bool). cond (x && is_some t.reply) 1 0) (eq-eqb t.process t.process refl),
        answers-cond turned (is_some t.reply) made,
      )

  answered_by-other : (p : ℕ) → p ≢ t.process → answered_by p all ≡ answered_by p turns
  answered_by-other p other =
      omega (
        arith,
        answered_by-push p turns t,
        ap {B = ℕ} (λ (x : Bool). cond (x && is_some t.reply) 1 0) (ne_eqb t.process p (λ e. other (sym e))),
      )

  counted-turned : (p : ℕ) (d : CallerTerms) → p < length before → answered_by p all ≡ length (get_or after p d).receipts
  counted-turned p d within =
      elim (cases_eq p t.process) as (λ _. answered_by p all ≡ length (get_or after p d).receipts) [
        | inl here ↦
            subst (λ q. answered_by q all ≡ length (get_or after q d).receipts) (sym here)
            (omega (
              arith,
              answered_by-own,
              count-IsTurned b published turned (get_or before t.process d) (get_or after t.process d) (changes.here d),
              subst (λ q. answered_by q turns ≡ length (get_or before q d).receipts) here (were.counted p d within),
            ))
        | inr other ↦
            answered_by-other p other
            ∙ (were.counted p d within ∙ sym (ap (λ (c : CallerTerms). length c.receipts) (changes.others p d other)))
      ]

  -- a call of the number of those answered before, if it is answered now, has just had its turn
  ended-new : (p i : ℕ) (d : CallerTerms) → p < length before → length (get_or before p d).receipts ≤ i → i < length (get_or after p d).receipts
      → (times_of all).ended p i ≡ length turns
  ended-new p i d within past inside =
      ended-own turns t p i
      (next-answered turns t p i (omega (arith, past, were.counted p d within)) (omega (arith, inside, counted-turned p d within)))

  ended-old : (p i : ℕ) (d : CallerTerms) → p < length before → i < length (get_or before p d).receipts
      → (times_of all).ended p i ≡ (times_of turns).ended p i
  ended-old p i d within inside =
      ended-other turns t p i (is_next_of-number turns t p i (λ same. absurd (omega (arith, inside, same, were.counted p d within))))

  key-old : (p i : ℕ) (d : CallerTerms) → p < length before → i < length (get_or before p d).receipts
      → caller_key (get_or after p d) i ≡ caller_key (get_or before p d) i
  key-old p i d within inside =
      caller_key-more p (get_or before p d) (were.each p d within) i inside (get_or after p d) (HasMore-turned p d)

  -- a call that had begun still looks back no farther
  LooksBack-turned : (q j length_between : ℕ) → LooksBack turns before q j length_between → 0 < length (turns_of_call turns q j)
      → LooksBack all after q j length_between
  LooksBack-turned q j length_between was some = λ p i d within inside ended.
      let known : p < length before = omega (arith, within, changes.count) in
      let begun = begun-push turns t q j some in
      elim (cases_lt i (length (get_or before p d).receipts)) as (λ _. caller_key (get_or after p d) i ≤ 2 * length_between) [
        | inl old ↦
            omega (arith, key-old p i d known old, was p i d known old (omega (arith, ended, begun, ended-old p i d known old)))
        | inr new ↦
            absurd (omega (
              arith,
              ended,
              begun,
              ended-new p i d known new inside,
              were.times.spans q j some,
              were.times.within q j some,
            ))
      ]

  -- the process's caller, and what its turn goes on from
  module _ (d : CallerTerms) (own : t.process < length before) where
    abbrev was : CallerTerms
    was = get_or before t.process d

    abbrev now : CallerTerms
    now = get_or after t.process d

    abbrev one : IsTurned b published turned (get_or before t.process d) (get_or after t.process d)
    one = changes.here d

    abbrev seen_by_then : ℕ
    seen_by_then = length one.ready.pass.knows.seen

    -- a call that begins with the turn has seen all that is published, and so all that any before it had
    seen-begins : BeginsCall b published was one.ready one.stage → (p : ℕ) (e : CallerTerms) → p < length before
        → length (get_or before p e).pass.knows.seen ≤ seen_by_then
    seen-begins begins p e within =
        let caller = get_or before p e in
        IsPrefix-length caller.pass.knows.seen one.ready.pass.knows.seen
        (subst (IsPrefix caller.pass.knows.seen) (sym begins.seen) (pass_seen turns before published were p e within))

    LooksBack-begins : BeginsCall b published was one.ready one.stage → (j : ℕ) → answered_by t.process turns ≡ j
        → LooksBack all after t.process j seen_by_then
    LooksBack-begins begins j is = λ p i e within inside ended.
        let known : p < length before = omega (arith, within, changes.count) in
        elim (cases_lt i (length (get_or before p e).receipts)) as (λ _. caller_key (get_or after p e) i ≤ 2 * seen_by_then) [
          | inl old ↦
              omega (
                arith,
                key-old p i e known old,
                caller_key-le p (get_or before p e) (were.each p e known) i old,
                seen-begins begins p e known,
              )
          | inr new ↦
              let times : AreTimes all = AreTimes-push turns t were.times in
              let some = some-own turns t t.process j (is_next_of-own turns t j is) in
              absurd (omega (
                arith,
                ended,
                ended-new p i e known new inside,
                times.spans t.process j some,
                times.within t.process j some,
                length_push turns t,
              ))
        ]

    -- so the process's call looks back no farther than to what it had seen when it began
    LooksBack-own : (j : ℕ) → answered_by t.process turns ≡ j → LooksBack all after t.process j seen_by_then
    LooksBack-own j is =
        elim (begins_or_on b published was one.ready now one.stage one.is_ready) as (λ _. LooksBack all after t.process j seen_by_then) [
          | inl begins ↦ LooksBack-begins begins j is
          | inr going_on ↦
              subst (LooksBack all after t.process j) (sym (ap (λ (c : CallerTerms). length c.pass.knows.seen) going_on.1))
              (subst (λ k. LooksBack all after t.process k (length was.pass.knows.seen)) is
              (LooksBack-turned t.process (answered_by t.process turns) (length was.pass.knows.seen)
              (were.making t.process d own going_on.0) (were.going t.process d own going_on.0)))
        ]

    -- whether it goes on
    going-own : now.stage ≢ None → 0 < length (turns_of_call all t.process (answered_by t.process all))
    going-own going_on =
        let still = still-IsTurned b published turned was now one going_on in
        some-own turns t t.process (answered_by t.process all)
        (is_next_of-own turns t (answered_by t.process all) (omega (arith, answered_by-own, still.1)))

    making-own : now.stage ≢ None → LooksBack all after t.process (answered_by t.process all) (length now.pass.knows.seen)
    making-own going_on =
        let still = still-IsTurned b published turned was now one going_on in
        subst (LooksBack all after t.process (answered_by t.process all))
        (sym (ap (λ (pass : PassTerms). length pass.knows.seen) still.0))
        (LooksBack-own (answered_by t.process all) (omega (arith, answered_by-own, still.1)))

    -- or is answered
    HasLooked-own : (j : ℕ) → answered_by t.process turns ≡ j → j < length now.receipts → HasLooked all after t.process j now
    HasLooked-own j is inside = record {
      length_between = seen_by_then;
      back = LooksBack-own j is;
      ahead = λ placed. ahead-IsTurned b published turned was now one j (omega (arith, is, were.counted t.process d own)) inside placed;
    }

  -- all callers
  going-turned : (p : ℕ) (d : CallerTerms) → p < length before → (get_or after p d).stage ≢ None
      → 0 < length (turns_of_call all p (answered_by p all))
  going-turned p d within going_on =
      elim (cases_eq p t.process) as (λ _. 0 < length (turns_of_call all p (answered_by p all))) [
        | inl here ↦
            subst (λ q. 0 < length (turns_of_call all q (answered_by q all))) (sym here)
            (going-own d (omega (arith, within, here)) (subst (λ q. (get_or after q d).stage ≢ None) here going_on))
        | inr other ↦
            subst (λ k. 0 < length (turns_of_call all p k)) (sym (answered_by-other p other))
            (some-push turns t p (answered_by p turns)
            (were.going p d within (subst (λ (c : CallerTerms). c.stage ≢ None) (changes.others p d other) going_on)))
      ]

  making-turned : (q : ℕ) (d : CallerTerms) → q < length before → (get_or after q d).stage ≢ None
      → LooksBack all after q (answered_by q all) (length (get_or after q d).pass.knows.seen)
  making-turned q d within going_on =
      elim (cases_eq q t.process) as (λ _. LooksBack all after q (answered_by q all) (length (get_or after q d).pass.knows.seen)) [
        | inl here ↦
            subst (λ p. LooksBack all after p (answered_by p all) (length (get_or after p d).pass.knows.seen)) (sym here)
            (making-own d (omega (arith, within, here)) (subst (λ p. (get_or after p d).stage ≢ None) here going_on))
        | inr other ↦
            let was_going = subst (λ (c : CallerTerms). c.stage ≢ None) (changes.others q d other) going_on in
            subst (λ k. LooksBack all after q k (length (get_or after q d).pass.knows.seen)) (sym (answered_by-other q other))
            (subst (λ (c : CallerTerms). LooksBack all after q (answered_by q turns) (length c.pass.knows.seen)) (sym (changes.others q d other))
            (LooksBack-turned q (answered_by q turns) (length (get_or before q d).pass.knows.seen)
            (were.making q d within was_going) (were.going q d within was_going)))
      ]

  answered-turned : (q j : ℕ) (d : CallerTerms) → q < length before → j < length (get_or after q d).receipts → HasLooked all after q j (get_or after q d)
  answered-turned q j d within inside =
      elim (cases_lt j (length (get_or before q d).receipts)) as (λ _. HasLooked all after q j (get_or after q d)) [
        | inl old ↦
            let was = were.answered q j d within old in
            let timed = were.each q d within in
            let same = caller_receipt-more q (get_or before q d) timed j old (get_or after q d) (HasMore-turned q d) in
            record {
              length_between = was.length_between;
              back = LooksBack-turned q j was.length_between was.back (were.times.some q j (omega (arith, old, were.counted q d within)));
              ahead = λ placed. omega (
                arith,
                was.ahead (subst (λ (r : Receipt). r.at ≢ Previous) same placed),
                caller_look-more q (get_or before q d) timed j old (get_or after q d) (HasMore-turned q d),
              );
            }
        | inr new ↦
            let own : is_next_of turns t q j ≡ true =
            next-answered turns t q j (omega (arith, new, were.counted q d within)) (omega (arith, inside, counted-turned q d within)) in
            let here = process-is_next_of turns t q j own in
            let number : answered_by t.process turns ≡ j = subst (λ p. answered_by p turns ≡ j) here (number-is_next_of turns t q j own) in
            subst (λ p. HasLooked all after p j (get_or after p d)) (sym here)
            (HasLooked-own d (omega (arith, within, here)) j number (subst (λ p. j < length (get_or after p d).receipts) here inside))
      ]

  -- and what is published since then
  module _ (published_now : List Publication) (grown : IsPrefix published published_now)
      (own : (d : CallerTerms) → IsPrefix (get_or after t.process d).seat.knows.seen published_now) where
    seen-turned : (p : ℕ) (d : CallerTerms) → p < length before → IsPrefix (get_or after p d).seat.knows.seen published_now
    seen-turned p d within =
        elim (cases_eq p t.process) as (λ _. IsPrefix (get_or after p d).seat.knows.seen published_now) [
          | inl here ↦ subst (λ q. IsPrefix (get_or after q d).seat.knows.seen published_now) (sym here) (own d)
          | inr other ↦
              subst (λ (c : CallerTerms). IsPrefix c.seat.knows.seen published_now) (sym (changes.others p d other))
              (IsPrefix-trans (get_or before p d).seat.knows.seen published published_now (were.seen p d within) grown)
        ]

    pub AreTimedTurns-push : AreTimedTurns all after published_now
    AreTimedTurns-push = record {
      times = AreTimes-push turns t were.times;
      counted = λ p d within. counted-turned p d (omega (arith, within, changes.count));
      going = λ p d within going_on. going-turned p d (omega (arith, within, changes.count)) going_on;
      each = λ p d within. each-turned p d (omega (arith, within, changes.count));
      seen = λ p d within. seen-turned p d (omega (arith, within, changes.count));
      answered = λ q j d within inside. answered-turned q j d (omega (arith, within, changes.count)) inside;
      making = λ q d within going_on. making-turned q d (omega (arith, within, changes.count)) going_on;
    }
