-- The counts that a call takes, and what one turn more leaves of them: they were loaded in turns of the call, or borrowed.
use Rattle.std.proofs.Common.{◌≡◌, ◌≢◌, ◌⊎◌, ℕ, ◌+◌, ◌<◌, ◌≤◌, true, false, List, Option, Some, [], ◌∷◌, ◌++◌, length, map, slice_index, take, refl, sym, ap, subst, ◌∙◌, arith, inl, inr}
use Rattle.at_stepper.proofs.Prelude.{cases_Bool, cases_lt, get_or-map, get_or_append_left, get_or_push, length-map, length_push, BookTerms, publication_at-IsPrefix, length-IsCut, IsPrefix-length, publications_of-IsPrefix, take-IsPrefix, take-IsPrefix-le, publication_at, IsPrefix, count_of, publications_of, Publication, IsBorrowed, loads_of, own_part, Knowledge, Loads, IsPlaced, read, not_owner, full, short, done, round, At, Cut, Own, Round, Previous, Receipt, cut_behind, IsSnapshot, AreBorrowed, AreLoaded, AreLoadedOrBorrowed, CountsLoads, IsLastLoad, PublishInOrder, is_turn_of, published_by_then, times_of, turn_at, turns_of_call, TurnMade}
use Rattle.at_stepper.proofs.LookLaws.{HasNoCut, RestsOnSnapshot}
use Rattle.at_stepper.proofs.PublishedTurns.{published_by_then-le, published_by_then-push}
use Rattle.at_stepper.proofs.TurnTimes.{AreTimes, AreTimes-push, begun-push, ended-other, ended-own, is_next_of, is_turn_of-last, is_turn_of-push, process-is_next_of, some-own}

-- a receipt that stands at an own record of its process stands within the list
pub own_within : (b : BookTerms) (p : ℕ) (list : List Publication) (earlier : List Receipt) (r : Receipt) → IsPlaced b p list earlier r
    → (number : ℕ) → r.at ≡ Own number → number < count_of p list
own_within b p list earlier r (read account amount call reply cut) number own = absurd (cc (cut.at, own))
own_within b p list earlier r (not_owner source targets call owner reply at) number own = absurd (cc (at, own))
own_within b p list earlier r (full source targets call owner room reply at) number own = absurd (cc (at, own))
own_within b p list earlier r (short source amount targets may single reply cut less) number own = absurd (cc (cut.at, own))
own_within b p list earlier r (done source targets may single reply so) number own =
    let same : so.number ≡ number = cc (so.at, own) in
    subst (λ k. k < count_of p list) same so.within
own_within b p list earlier r (round source targets may shared so) number own = absurd (cc (so.at, own))

-- since a call began its seat has loaded a length in one of the call's turns, or not at all
abbrev pub LoadsIn : List TurnMade → (ℕ → Option ℕ) → List Publication → ℕ → ℕ → ℕ → Knowledge → Knowledge → Type 0
LoadsIn turns loaded published p i q before after =
    ((loads_of (own_part after) q).times ≡ (loads_of (own_part before) q).times)
    ⊎ IsLastLoad turns loaded published p i q (loads_of (own_part after) q).last

-- one turn more
module _ (turns : List TurnMade) (t : TurnMade) (times : AreTimes turns) where
  abbrev all : List TurnMade
  all = turns ++ t ∷ []

  -- as much was published when a call began that had begun, and when it ended
  pub published-begun : (p i : ℕ) → 0 < length (turns_of_call turns p i)
      → published_by_then all ((times_of all).begun p i) ≡ published_by_then turns ((times_of turns).begun p i)
  published-begun p i some =
      ap (published_by_then all) (begun-push turns t p i some)
      ∙ published_by_then-push turns t ((times_of turns).begun p i) (omega (arith, times.spans p i some, times.within p i some))

  pub published-ended : (p i : ℕ) → is_next_of turns t p i ≡ false → 0 < length (turns_of_call turns p i)
      → published_by_then all ((times_of all).ended p i + 1) ≡ published_by_then turns ((times_of turns).ended p i + 1)
  published-ended p i other some =
      ap (λ m. published_by_then all (m + 1)) (ended-other turns t p i other)
      ∙ published_by_then-push turns t ((times_of turns).ended p i + 1) (omega (arith, times.within p i some))

  ended-grows : (p i : ℕ) → 0 < length (turns_of_call turns p i) → (times_of turns).ended p i ≤ (times_of all).ended p i
  ended-grows p i some =
      elim (cases_Bool (is_next_of turns t p i)) as (λ _. (times_of turns).ended p i ≤ (times_of all).ended p i) [
        | inl own ↦ omega (arith, ended-own turns t p i own, times.within p i some)
        | inr other ↦ omega (arith, ended-other turns t p i other)
      ]

  module _ (published published_now : List Publication) (grown : IsPrefix published published_now) (counted : PublishInOrder turns published)
      (loaded loaded_now : ℕ → Option ℕ) (earlier : (m : ℕ) → m < length turns → loaded_now m ≡ loaded m) where
    -- a load of a turn before it is still the last one, where it has loaded something else
    last-push : (p i q turn : ℕ) → (is_next_of turns t p i ≡ true → loaded_now (length turns) ≢ Some q)
        → ((m : ℕ) → turn < m → m < length turns → is_turn_of turns p i m ≡ true → loaded m ≢ Some q)
        → (m : ℕ) → turn < m → m < length all → is_turn_of all p i m ≡ true → loaded_now m ≢ Some q
    last-push p i q turn unloaded last m later within own some =
        elim (cases_lt m (length turns)) as (λ _. ⊥) [
          | inl old ↦ last m later old (sym (is_turn_of-push turns t p i m old) ∙ own) (sym (earlier m old) ∙ some)
          | inr new ↦
              let is : m ≡ length turns = omega (arith, new, within, length_push turns t) in
              unloaded (sym (is_turn_of-last turns t p i) ∙ subst (λ k. is_turn_of all p i k ≡ true) is own)
              (subst (λ k. loaded_now k ≡ Some q) is some)
        ]

    IsLastLoad-push : (p i q count : ℕ) → 0 < length (turns_of_call turns p i) → (is_next_of turns t p i ≡ true → loaded_now (length turns) ≢ Some q)
        → IsLastLoad turns loaded published p i q count → IsLastLoad all loaded_now published_now p i q count
    IsLastLoad-push p i q count some unloaded was =
        let inside : was.turn < length turns = omega (arith, was.until, times.within p i some) in
        let number = published_by_then-push turns t was.turn (omega (arith, inside)) in
        let taken = take-IsPrefix-le (published_by_then turns was.turn) published published_now
        (omega (arith, published_by_then-le turns was.turn, counted.all)) grown in
        record {
          turn = was.turn;
          since = omega (arith, was.since, begun-push turns t p i some);
          until = omega (arith, was.until, ended-grows p i some);
          process_is = ap (λ (x : TurnMade). x.process) (get_or_append_left turns (t ∷ []) (turn_at [] 0) was.turn inside) ∙ was.process_is;
          loads = earlier was.turn inside ∙ was.loads;
          last = last-push p i q was.turn unloaded was.last;
          count_is = was.count_is ∙ sym (ap (count_of q) (ap (λ m. take m published_now) number ∙ taken));
        }

    -- and its own
    pub IsLastLoad-own : (p i q count : ℕ) → is_next_of turns t p i ≡ true → loaded_now (length turns) ≡ Some q → count ≡ count_of q published
        → IsLastLoad all loaded_now published_now p i q count
    IsLastLoad-own p i q count next loads is =
        let number : published_by_then all (length turns) ≡ length published =
        published_by_then-push turns t (length turns) (omega arith) ∙ counted.all in
        record {
          turn = length turns;
          since = omega (arith, (AreTimes-push turns t times).spans p i (some-own turns t p i next), ended-own turns t p i next);
          until = omega (arith, ended-own turns t p i next);
          process_is = ap (λ (x : TurnMade). x.process) (get_or_push turns t (turn_at [] 0) (length turns) refl)
              ∙ sym (process-is_next_of turns t p i next);
          loads = loads;
          last = λ m later within own some. absurd (omega (arith, later, within, length_push turns t));
          count_is = is ∙ sym (ap (count_of q) (ap (λ m. take m published_now) number ∙ take-IsPrefix published published_now grown));
        }

    pub LoadsIn-push : (p i q : ℕ) (before after : Knowledge) → 0 < length (turns_of_call turns p i)
        → (is_next_of turns t p i ≡ true → loaded_now (length turns) ≢ Some q) → LoadsIn turns loaded published p i q before after
        → LoadsIn all loaded_now published_now p i q before after
    LoadsIn-push p i q before after some unloaded (inl none) = inl none
    LoadsIn-push p i q before after some unloaded (inr one) = inr (IsLastLoad-push p i q (loads_of (own_part after) q).last some unloaded one)

    -- the counts of a call that was answered before
    module _ (p i : ℕ) (some : 0 < length (turns_of_call turns p i)) (other : is_next_of turns t p i ≡ false) where
      AreBorrowed-push : (counts : List ℕ) → AreBorrowed turns published p i counts → AreBorrowed all published_now p i counts
      AreBorrowed-push counts was =
          let place = publication_at-IsPrefix was.number published published_now grown
          (omega (arith, was.until, published_by_then-le turns ((times_of turns).ended p i + 1), counted.all)) in
          record {
            number = was.number;
            since = omega (arith, was.since, published-begun p i some);
            until = omega (arith, was.until, published-ended p i other some);
            other = λ same. was.other (sym (ap (λ (x : Publication). x.process) place) ∙ same);
            same = ap (λ (x : Publication). x.view) place ∙ was.same;
          }

      AreLoadedOrBorrowed-push : (counts : List ℕ) → AreLoadedOrBorrowed turns loaded published p i counts → AreLoadedOrBorrowed all loaded_now published_now p i counts
      AreLoadedOrBorrowed-push counts (inl loads) = inl (λ q within.
          IsLastLoad-push p i q (slice_index counts q) some (λ own. absurd (cc (own, other))) (loads q within))
      AreLoadedOrBorrowed-push counts (inr borrowed) = inr (AreBorrowed-push counts borrowed)

      pub CountsLoads-push : (at : At) → ((number : ℕ) → at ≡ Own number → number < count_of p published) → CountsLoads turns loaded published p i at
          → CountsLoads all loaded_now published_now p i at
      CountsLoads-push (Cut view) within was = AreLoadedOrBorrowed-push view was
      CountsLoads-push (Own number) within was =
          let same = publications_of-IsPrefix p number published published_now grown (within number refl) in
          subst (λ (x : Publication). AreLoadedOrBorrowed all loaded_now published_now p i x.view) (sym same)
          (AreLoadedOrBorrowed-push (publication_at (publications_of p published) number).view was)
      CountsLoads-push (Round on place) within was = was
      CountsLoads-push Previous within was = was

-- a call that is answered with what its seat has loaded
module _ (turns : List TurnMade) (loaded : ℕ → Option ℕ) (published : List Publication) (p i : ℕ) (b : BookTerms) (before after : Knowledge) (process_is : after.first ≡ p)
    (seen : IsPrefix after.seen published) (begun : published_by_then turns ((times_of turns).begun p i) ≤ length before.seen)
    (ended : length published ≤ published_by_then turns ((times_of turns).ended p i + 1))
    (loads : (q : ℕ) → LoadsIn turns loaded published p i q before after) where
  AreLoaded-last : (counts : List ℕ) → IsSnapshot b before after counts → counts ≡ map (λ (l : Loads). l.last) (own_part after).loads
      → AreLoaded turns loaded published p i counts
  AreLoaded-last counts snapshot is q within =
      let all = (own_part after).loads in
      let none : Loads = record { times = 0; last = 0 } in
      let known : q < b.processes = omega (arith, within, length-IsCut b.processes counts after.seen snapshot.cut) in
      let inside : q < length all = omega (arith, within, ap (λ (ns : List ℕ). length ns) is, length-map all (λ (l : Loads). l.last)) in
      let last : slice_index counts q ≡ (loads_of (own_part after) q).last =
      ap (λ ns. slice_index ns q) is ∙ get_or-map (λ (l : Loads). l.last) all q none 0 inside in
      elim (loads q) as (λ _. IsLastLoad turns loaded published p i q (slice_index counts q)) [
        | inl none_more ↦ absurd (omega (arith, none_more, snapshot.fresh.loaded q known))
        | inr one ↦ subst (IsLastLoad turns loaded published p i q) (sym last) one
      ]

  AreBorrowed-IsBorrowed : (counts : List ℕ) (m : ℕ) → IsBorrowed before after counts m → AreBorrowed turns published p i counts
  AreBorrowed-IsBorrowed counts m borrowed =
      let place = publication_at-IsPrefix m after.seen published seen borrowed.seen in
      record {
        number = m;
        since = omega (arith, begun, borrowed.later);
        until = omega (arith, borrowed.seen, IsPrefix-length after.seen published seen, ended);
        other = λ same. borrowed.other (sym (ap (λ (x : Publication). x.process) place) ∙ (same ∙ sym process_is));
        same = ap (λ (x : Publication). x.view) place ∙ borrowed.same;
      }

  AreLoadedOrBorrowed-IsSnapshot : (counts : List ℕ) → IsSnapshot b before after counts → AreLoadedOrBorrowed turns loaded published p i counts
  AreLoadedOrBorrowed-IsSnapshot counts snapshot =
      elim snapshot.fresh.taken as (λ _. AreLoadedOrBorrowed turns loaded published p i counts) [
        | inl is ↦ inl (AreLoaded-last counts snapshot is)
        | inr (m, borrowed) ↦ inr (AreBorrowed-IsBorrowed counts m borrowed)
      ]

  CountsLoads-cut : (at : At) → ((number : ℕ) → at ≡ Own number → number < count_of after.first after.seen)
      → IsSnapshot b before after (cut_behind after at) → CountsLoads turns loaded published p i at
  CountsLoads-cut (Cut view) within snapshot = AreLoadedOrBorrowed-IsSnapshot view snapshot
  CountsLoads-cut (Own number) within snapshot =
      let same : publication_at (publications_of p published) number ≡ publication_at (publications_of after.first after.seen) number =
      ap (λ k. publication_at (publications_of k published) number) (sym process_is)
      ∙ publications_of-IsPrefix after.first number after.seen published seen (within number refl) in
      subst (λ (x : Publication). AreLoadedOrBorrowed turns loaded published p i x.view) (sym same)
      (AreLoadedOrBorrowed-IsSnapshot (publication_at (publications_of after.first after.seen) number).view snapshot)
  CountsLoads-cut (Round on place) within snapshot = tt
  CountsLoads-cut Previous within snapshot = tt

  CountsLoads-none : (at : At) → HasNoCut at → CountsLoads turns loaded published p i at
  CountsLoads-none at (inl (on, place, is)) = subst (CountsLoads turns loaded published p i) (sym is) tt
  CountsLoads-none at (inr is) = subst (CountsLoads turns loaded published p i) (sym is) tt

  pub CountsLoads-answered : (at : At) → ((number : ℕ) → at ≡ Own number → number < count_of after.first after.seen) → RestsOnSnapshot b before after at
      → CountsLoads turns loaded published p i at
  CountsLoads-answered at within (inl snapshot) = CountsLoads-cut at within snapshot
  CountsLoads-answered at within (inr none) = CountsLoads-none at none
