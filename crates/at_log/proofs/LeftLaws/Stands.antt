-- What stands with a seat after a call of its process: it is between calls again, with one more receipt.
use Rattle.std.proofs.Common.{◌≡◌, ◌≢◌, ℕ, ◌+◌, ◌<◌, ◌≤◌, true, false, Some, None, List, [], ◌∷◌, ◌++◌, length, replicate, refl, sym, ap, subst, arith, inl, inr}
use Rattle.at_log.proofs.Prelude.{cases_eq, cases_lt, get_or-replicate, get_or_past, length-append, length-replicate, BookTerms, HasSlot, TargetPair, payout_of, count_of-nil, owns_of-IsPrefix, is_own, prefix_of, IsHistory, IsPrefix, count_of, is_settled, named, owns_of, Publication, Request, starting_seat, asking_on, no_asking, own_part, starting_asking, IsKept, Asking, Knowledge, IsPlaced, is_at_own, is_at_round, Told, Receipt, IsBetweenCalls, StandsWith, own_rows, AreInOrder, HasAskedFor}
use Rattle.at_log.proofs.LeftLaws.Calls.{StandsBehind, Told-own, Told-round, Told-still}
use Rattle.at_log.proofs.LeftLaws.Counts.{owns_of-paid}
use Rattle.at_log.proofs.LeftLaws.Order.{AreInOrder-IsPrefix, AreInOrder-asked, AreInOrder-paid, AreInOrder-rows, is_settled-IsPrefix}
use Rattle.at_log.proofs.LeftLaws.Told.{Told-nil}
use Rattle.at_log.proofs.LeftLaws.Seats.{named-IsBetweenCalls}

-- nothing is announced on a new board
pub announced-starting : (b : BookTerms) (p a slot : ℕ) → own_rows (starting_seat b p) a slot ≡ []
announced-starting b p a slot =
    elim (cases_lt a (length b.accounts)) as (λ _. own_rows (starting_seat b p) a slot ≡ []) [
      | inl within ↦ ap (λ (t : Asking). t.announced) (get_or-replicate (length b.accounts) a starting_asking no_asking within)
      | inr past ↦
          ap (λ (t : Asking). t.announced)
          (get_or_past (replicate (length b.accounts) starting_asking) a no_asking (omega (arith, past, length-replicate (length b.accounts) starting_asking)))
    ]

-- each seat of a new board stands with no receipts
pub StandsWith-starting : (b : BookTerms) (p : ℕ) → StandsWith b (starting_seat b p) []
StandsWith-starting b p =
    let none : (a slot number : ℕ) → number < length (own_rows (starting_seat b p) a slot) → ⊥ = λ a slot number within.
    omega (arith, within, ap (λ (row : List Request). length row) (announced-starting b p a slot)) in
    record {
      between = record {
        own = count_of-nil p;
        free = refl;
        settled = λ a slot number has within. absurd (none a slot number within);
        order = record {
          owns = λ m a slot number own asked. absurd (none a slot number asked.within);
          requests = λ a slot number c place other one two apart. absurd (none a slot number one.within);
        };
      };
      told = Told-nil b p;
    }

-- what the seat of one process on one board knew before a call and knows after it, in which it holds no cell
pub record HasMoved (b : BookTerms) (before after : Knowledge) : Type 0 where
  pub kept_before : IsKept before
  pub kept_after : IsKept after
  pub book_before : before.book ≡ b
  pub book_after : after.book ≡ b
  pub process : after.first ≡ before.first
  pub more : IsPrefix before.seen after.seen
  pub free : (own_part after).held ≡ None

-- it has announced nothing in the call
pub record AsksNothing (before after : Knowledge) : Type 0 where
  pub same : (a : ℕ) → (asking_on (own_part after) a).announced ≡ (asking_on (own_part before) a).announced

-- it has published one own record at the end, whose view begins with all that was seen before
pub record PublishesOwn (before after : Knowledge) : Type 0 where
  pub lead : List Publication
  pub record_is : Publication
  pub leads : IsPrefix before.seen lead
  pub seen : after.seen ≡ lead ++ record_is ∷ []
  pub process : record_is.process ≡ before.first
  pub own : is_own record_is.entry ≡ true
  pub begins : IsPrefix before.seen (prefix_of record_is.view after.seen)
  pub published : (own_part after).published ≡ (own_part before).published + 1

-- it has announced one request on an account, whose `since` counts all that was seen before, and settled all that its process asked
-- for there. It has published no own record
pub record AsksOne (b : BookTerms) (before after : Knowledge) (source : ℕ) : Type 0 where
  pub request : Request
  pub announced : (asking_on (own_part after) source).announced ≡ (asking_on (own_part before) source).announced ++ request ∷ []
  pub elsewhere : (c : ℕ) → c ≢ source → (asking_on (own_part after) c).announced ≡ (asking_on (own_part before) c).announced
  pub since : length before.seen ≤ request.since
  pub settled : (slot number : ℕ) → HasSlot b after.first source slot → number < length (own_rows after source slot) →
      is_settled source slot number after.seen ≡ true
  pub owns : owns_of before.first after.seen ≡ owns_of before.first before.seen

module _ (b : BookTerms) (v w : Knowledge) (moved : HasMoved b v w) (was : IsBetweenCalls b v) where
  settled-before : (a slot number : ℕ) → HasAskedFor b v.first (own_rows v) a slot number → is_settled a slot number v.seen ≡ true
  settled-before a slot number asked = was.settled a slot number asked.slot_in asked.within

  -- how many records more its process has published is how many more the seat has seen of it
  count_of-after : (more : ℕ) → (own_part w).published ≡ (own_part v).published + more
      → count_of v.first w.seen ≡ count_of v.first v.seen + more
  count_of-after more published =
      omega (arith, published, moved.kept_after.own, ap (λ p. count_of p w.seen) moved.process, was.own)

  -- between calls again, where all its requests are settled and in order
  between-after : ((a slot number : ℕ) → HasSlot b v.first a slot → number < length (own_rows w a slot) → is_settled a slot number w.seen ≡ true)
      → AreInOrder b v.first w.seen (own_rows w) → IsBetweenCalls b w
  between-after settled order = record {
    own = moved.kept_after.own;
    free = moved.free;
    settled = λ a slot number has within. settled a slot number (subst (λ p. HasSlot b p a slot) moved.process has) within;
    order = subst (λ p. AreInOrder b p w.seen (own_rows w)) (sym moved.process) order;
  }

  named-before : (a slot : ℕ) → HasSlot b v.first a slot → named a slot v.seen ≡ length (own_rows v a slot)
  named-before a slot has = named-IsBetweenCalls b v a slot moved.kept_before moved.book_before was has

  named-after : IsBetweenCalls b w → (a slot : ℕ) → HasSlot b v.first a slot → named a slot w.seen ≡ length (own_rows w a slot)
  named-after between a slot has =
      named-IsBetweenCalls b w a slot moved.kept_after moved.book_after between (subst (λ p. HasSlot b p a slot) (sym moved.process) has)

  -- where nothing was announced
  module _ (nothing : AsksNothing v w) where
    settled-still : (a slot number : ℕ) → HasSlot b v.first a slot → number < length (own_rows w a slot) → is_settled a slot number w.seen ≡ true
    settled-still a slot number has within =
        is_settled-IsPrefix a slot number v.seen w.seen moved.more
        (was.settled a slot number has (omega (arith, within, ap (λ (row : List Request). length row) (nothing.same a))))

    between-still : AreInOrder b v.first w.seen (own_rows v) → IsBetweenCalls b w
    between-still order =
        between-after settled-still (AreInOrder-rows b v.first w.seen (own_rows v) (own_rows w) (λ a slot has. nothing.same a) order)

    named-still : IsBetweenCalls b w → (a slot : ℕ) → HasSlot b v.first a slot → named a slot w.seen ≡ named a slot v.seen
    named-still between a slot has =
        omega (arith, named-before a slot has, named-after between a slot has, ap (λ (row : List Request). length row) (nothing.same a))

    -- it has published nothing
    module _ (published : (own_part w).published ≡ (own_part v).published) where
      pub owns_of-still : owns_of v.first w.seen ≡ owns_of v.first v.seen
      owns_of-still = owns_of-IsPrefix v.first v.seen w.seen moved.more (omega (arith, count_of-after 0 (omega (arith, published))))

      pub IsBetweenCalls-still : IsBetweenCalls b w
      IsBetweenCalls-still = between-still (AreInOrder-IsPrefix b v.first v.seen w.seen (own_rows v) moved.more owns_of-still was.order)

    -- it has published one own record
    module _ (one : PublishesOwn v w) where
      pub owns_of-own : owns_of v.first w.seen ≡ owns_of v.first v.seen + 1
      owns_of-own =
          owns_of-paid v.first v.seen one.lead w.seen one.record_is one.leads one.seen one.process one.own (count_of-after 1 one.published)

      pub IsBetweenCalls-own : IsBetweenCalls b w
      IsBetweenCalls-own =
          between-still
          (AreInOrder-paid b v.first v.seen one.lead w.seen one.record_is (own_rows v) one.leads one.seen one.process
          (count_of-after 1 one.published) one.begins settled-before was.order)

  -- where one request was announced and settled
  module _ (source : ℕ) (asks : AsksOne b v w source) where
    kept_settled : (a slot number : ℕ) → HasSlot b v.first a slot → number < length (own_rows w a slot) → is_settled a slot number w.seen ≡ true
    kept_settled a slot number has within =
        elim (cases_eq a source) as (λ _. is_settled a slot number w.seen ≡ true) [
          | inl same ↦
              let mine : HasSlot b w.first source slot =
              subst (λ p. HasSlot b p source slot) (sym moved.process) (subst (λ k. HasSlot b v.first k slot) same has) in
              subst (λ k. is_settled k slot number w.seen ≡ true) (sym same)
              (asks.settled slot number mine (subst (λ k. number < length (own_rows w k slot)) same within))
          | inr apart ↦
              is_settled-IsPrefix a slot number v.seen w.seen moved.more
              (was.settled a slot number has (omega (arith, within, ap (λ (row : List Request). length row) (asks.elsewhere a apart))))
        ]

    pub IsBetweenCalls-asked : IsBetweenCalls b w
    IsBetweenCalls-asked =
        between-after kept_settled
        (AreInOrder-asked b v.first source v.seen w.seen (own_rows v) (own_rows w) asks.request moved.more asks.owns
        (λ slot. asks.announced) (λ c slot apart. asks.elsewhere c apart) asks.since settled-before was.order)

  -- and the receipts of its calls, of which the last stands behind all that was seen before
  module _ (receipts : List Receipt) (r : Receipt) (told : Told b v.first v.seen receipts) (placed : IsPlaced b v.first w.seen receipts r)
      (behind : StandsBehind v.first v.seen w.seen r) where
    history-before : IsHistory b v.seen
    history-before = subst (λ t. IsHistory t v.seen) moved.book_before moved.kept_before.history

    told-after : Told b v.first w.seen (receipts ++ r ∷ []) → Told b w.first w.seen (receipts ++ r ∷ [])
    told-after one_more = subst (λ p. Told b p w.seen (receipts ++ r ∷ [])) (sym moved.process) one_more

    pub Told-call_still : AsksNothing v w → (own_part w).published ≡ (own_part v).published → is_at_own r.at ≡ false → is_at_round r.at ≡ false
        → Told b w.first w.seen (receipts ++ r ∷ [])
    Told-call_still nothing published no_own no_round =
        told-after (Told-still b v.first v.seen w.seen receipts r history-before moved.more told placed behind
        no_own no_round (owns_of-still nothing published) (named-still nothing (IsBetweenCalls-still nothing published)))

    pub Told-call_own : AsksNothing v w → PublishesOwn v w → is_at_own r.at ≡ true → is_at_round r.at ≡ false
        → Told b w.first w.seen (receipts ++ r ∷ [])
    Told-call_own nothing one at_own no_round =
        told-after (Told-own b v.first v.seen w.seen receipts r history-before moved.more told placed behind
        at_own no_round (owns_of-own nothing one) (named-still nothing (IsBetweenCalls-own nothing one)))

    pub Told-call_asked : (source : ℕ) (targets : List TargetPair) → AsksOne b v w source → payout_of r.call ≡ Some (source, targets)
        → is_at_own r.at ≡ false → is_at_round r.at ≡ true → Told b w.first w.seen (receipts ++ r ∷ [])
    Told-call_asked source targets asks call no_own in_round =
        let between = IsBetweenCalls-asked source asks in
        told-after (Told-round b v.first v.seen w.seen receipts r history-before moved.more told placed behind
        source targets no_own in_round call asks.owns
        (λ slot has.
        omega (
          arith,
          named-before source slot has,
          named-after between source slot has,
          ap (λ (row : List Request). length row) asks.announced,
          length-append (asking_on (own_part v) source).announced (asks.request ∷ []),
        ))
        (λ a slot apart has.
        omega (
          arith,
          named-before a slot has,
          named-after between a slot has,
          ap (λ (row : List Request). length row) (asks.elsewhere a apart),
        )))
