-- Turns publish the records of a run in their order, at most one each.
use Rattle.std.proofs.Common.{◌≡◌, ℕ, zero, suc, ◌+◌, ◌-◌, ◌<◌, ◌≤◌, true, Bool, cond, List, [], ◌∷◌, ◌++◌, length, refl, sum_by, sym, ap, subst, ◌∙◌, arith, inl, inr}
use Rattle.at_stepper.proofs.Prelude.{cases_Bool, cases_lt, get_or_append_left, get_or_push, length_push, take-append-le, take_all, sum_by-take-le, sum_by_more, sum_by_push, publication_at-IsPrefix, IsPrefix-refl, publication_at, IsPrefix, no_publication, Publication, PublishInOrder, published_by_then, turn_at, PublishesAtMostOne, TurnMade}

-- how many records a turn publishes
abbrev pub publishes_in : TurnMade → ℕ
publishes_in t = cond t.published 1 0

publishes_in-le : (t : TurnMade) → publishes_in t ≤ 1
publishes_in-le t =
    elim (cases_Bool t.published) as (λ _. publishes_in t ≤ 1) [
      | inl one ↦ omega (arith, ap {B = ℕ} (λ (b : Bool). cond b 1 0) one)
      | inr none ↦ omega (arith, ap {B = ℕ} (λ (b : Bool). cond b 1 0) none)
    ]

-- what all turns have published
published_by_then-all : (turns : List TurnMade) (m : ℕ) → length turns ≤ m → published_by_then turns m ≡ sum_by publishes_in turns
published_by_then-all turns m all = ap (λ (ts : List TurnMade). sum_by publishes_in ts) (take_all m turns all)

-- the first turns publish no more than that
pub published_by_then-le : (turns : List TurnMade) (m : ℕ) → published_by_then turns m ≤ published_by_then turns (length turns)
published_by_then-le turns m = omega (arith, sum_by-take-le publishes_in turns m, published_by_then-all turns (length turns) (omega arith))

-- and one turn more publishes one record more at most
published_by_then-next : (turns : List TurnMade) (m : ℕ) → published_by_then turns (m + 1) ≤ published_by_then turns m + 1
published_by_then-next turns m =
    elim (cases_lt m (length turns)) as (λ _. published_by_then turns (m + 1) ≤ published_by_then turns m + 1) [
      | inl within ↦ omega (arith, sum_by_more publishes_in turns m (turn_at [] 0) within, publishes_in-le (turn_at turns m))
      | inr past ↦ omega (arith, published_by_then-all turns m past, published_by_then-all turns (m + 1) (omega (arith, past)))
    ]

-- at a moment between two others just so many records were published
pub record IsMoment (turns : List TurnMade) (count first last : ℕ) : Type 0 where
  pub moment : ℕ
  pub since : first ≤ moment
  pub until : moment ≤ last
  pub count_is : count ≡ published_by_then turns moment

-- so it is of each count between those of the two
moment_among : (turns : List TurnMade) (count first more : ℕ) → published_by_then turns first ≤ count → count ≤ published_by_then turns (first + more)
    → IsMoment turns count first (first + more)
moment_among turns count first zero low high =
    let same : first + zero ≡ first = omega arith in
    record {
      moment = first;
      since = omega arith;
      until = omega arith;
      count_is = omega (arith, low, high, ap (published_by_then turns) same);
    }
moment_among turns count first (suc more) low high =
    let next : first + suc more ≡ first + more + 1 = omega arith in
    elim (cases_lt (published_by_then turns (first + more)) count) as (λ _. IsMoment turns count first (first + suc more)) [
      | inl above ↦ record {
        moment = first + suc more;
        since = omega arith;
        until = omega arith;
        count_is = omega (arith, above, high, published_by_then-next turns (first + more), ap (published_by_then turns) next);
      }
      | inr below ↦
          let earlier = moment_among turns count first more low below in
          record {
            moment = earlier.moment;
            since = earlier.since;
            until = omega (arith, earlier.until);
            count_is = earlier.count_is;
          }
    ]

pub moment_between : (turns : List TurnMade) (count first last : ℕ) → first ≤ last → published_by_then turns first ≤ count → count ≤ published_by_then turns last
    → IsMoment turns count first last
moment_between turns count first last ordered low high =
    let is : first + (last - first) ≡ last = omega (arith, ordered) in
    subst (IsMoment turns count first) is
    (moment_among turns count first (last - first) low (subst (λ m. count ≤ published_by_then turns m) (sym is) high))

-- what was published before a turn is published after it
pub grown-PublishesAtMostOne : (process : ℕ) (before after : List Publication) → PublishesAtMostOne process before after → IsPrefix before after
grown-PublishesAtMostOne process before after grows =
    elim grows as (λ _. IsPrefix before after) [
      | inl same ↦ subst (IsPrefix before) (sym same) (IsPrefix-refl before)
      | inr one ↦ (one.0 ∷ [], one.2)
    ]

-- one turn more
module _ (turns : List TurnMade) (t : TurnMade) where
  abbrev all : List TurnMade
  all = turns ++ t ∷ []

  -- leaves what the first turns have published
  pub published_by_then-push : (m : ℕ) → m ≤ length turns → published_by_then all m ≡ published_by_then turns m
  published_by_then-push m within = ap (λ (ts : List TurnMade). sum_by publishes_in ts) (take-append-le m turns (t ∷ []) within)

  published_by_then-more : published_by_then all (length all) ≡ published_by_then turns (length turns) + publishes_in t
  published_by_then-more =
      omega (
        arith,
        published_by_then-all all (length all) (omega arith),
        published_by_then-all turns (length turns) (omega arith),
        sum_by_push publishes_in turns t,
      )

  module _ (before after : List Publication) (were : PublishInOrder turns before) (grows : PublishesAtMostOne t.process before after)
      (counted : length after ≡ length before + publishes_in t) where
    -- the records of the turns before it stand where they stood
    each-old : (m : ℕ) → m < length turns → (turn_at all m).published ≡ true
        → (publication_at after (published_by_then all m)).process ≡ (turn_at all m).process
    each-old m within publishes =
        let is : turn_at all m ≡ turn_at turns m = get_or_append_left turns (t ∷ []) (turn_at [] 0) m within in
        let says : (turn_at turns m).published ≡ true = subst (λ (x : TurnMade). x.published ≡ true) is publishes in
        let inside : published_by_then turns m < length before =
        omega (
          arith,
          sum_by_more publishes_in turns m (turn_at [] 0) within,
          ap {B = ℕ} (λ (b : Bool). cond b 1 0) says,
          published_by_then-le turns (m + 1),
          were.all,
        ) in
        let place : publication_at after (published_by_then all m) ≡ publication_at before (published_by_then turns m) =
        ap (publication_at after) (published_by_then-push m (omega (arith, within)))
        ∙ publication_at-IsPrefix (published_by_then turns m) before after (grown-PublishesAtMostOne t.process before after grows) inside in
        ap (λ (x : Publication). x.process) place ∙ (were.each m within says ∙ sym (ap (λ (x : TurnMade). x.process) is))

    -- and its own stands after them
    each-new : (m : ℕ) → m ≡ length turns → (turn_at all m).published ≡ true
        → (publication_at after (published_by_then all m)).process ≡ (turn_at all m).process
    each-new m last publishes =
        let is : turn_at all m ≡ t = get_or_push turns t (turn_at [] 0) m (sym last) in
        let says : t.published ≡ true = subst (λ (x : TurnMade). x.published ≡ true) is publishes in
        elim grows as (λ _. (publication_at after (published_by_then all m)).process ≡ (turn_at all m).process) [
          | inl same ↦
              absurd (omega (arith, counted, ap (λ xs. length xs) same, ap {B = ℕ} (λ (b : Bool). cond b 1 0) says))
          | inr one ↦
              let count : published_by_then all m ≡ length before =
              ap (published_by_then all) last ∙ (published_by_then-push (length turns) (omega arith) ∙ were.all) in
              let place : publication_at after (published_by_then all m) ≡ one.0 =
              ap (publication_at after) count
              ∙ (ap (λ xs. publication_at xs (length before)) one.2 ∙ get_or_push before one.0 no_publication (length before) refl) in
              ap (λ (x : Publication). x.process) place ∙ (one.1 ∙ sym (ap (λ (x : TurnMade). x.process) is))
        ]

    pub PublishInOrder-push : PublishInOrder all after
    PublishInOrder-push = record {
      each = λ m within publishes.
          elim (cases_lt m (length turns)) as (λ _. (publication_at after (published_by_then all m)).process ≡ (turn_at all m).process) [
            | inl old ↦ each-old m old publishes
            | inr new ↦ each-new m (omega (arith, within, new, length_push turns t)) publishes
          ];
      all = omega (arith, published_by_then-more, were.all, counted);
    }

-- no turns publish nothing
pub PublishInOrder-none : (published : List Publication) → published ≡ [] → PublishInOrder [] published
PublishInOrder-none published none = record {
  each = λ m within. absurd (omega (arith, within));
  all = sym (ap (λ xs. length xs) none);
}
