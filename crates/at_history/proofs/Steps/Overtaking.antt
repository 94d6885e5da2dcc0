-- The steps that touch the law of overtaking keep it.
use Rattle.std.proofs.Common.{◌≡◌, ◌≢◌, ◌⊎◌, ℕ, ◌+◌, ◌-◌, ◌<◌, ◌≤◌, false, List, [], ◌∷◌, ◌++◌, length, take, sym, ap, subst, ◌∙◌, arith, inl, inr}
use Rattle.at_history.proofs.Prelude.{cases_eq, cases_lt, get_or_push, length_push, Contains-push_cases, Contains, count_by, Decision, BookTerms, BoardState, decision_at, request_at, AreOvertakers, HasLoadedBefore, IsLastRequest, IsUndecided, Overtakes, Overtaking, tag, is_settled, rounds, Sound, Publication, Request, SeenRow}
use Rattle.at_history.proofs.Laws.DecisionNumbers.{named-is_settled, names_slot, no_decision, not_later, number-less, number-less-count, number_is_next, unsettled-IsUndecided}
use Rattle.at_history.proofs.Laws.Rounds.{rounds-take-le, rounds-take_mono}
use Rattle.at_history.proofs.Steps.Announce.{Asked, IsNextRequest, SameAsked-announced, announced, at_slot-other, at_slot-same, row_loaded, slot_cases, with_asked}
use Rattle.at_history.proofs.Steps.Decide.{IsNextDecision, KeptCells, KeptCells-decided, KeptCells-push, cells-other, cells-own, decided}
use Rattle.at_history.proofs.Steps.Publish.{pushed, take-pushed}
use Rattle.at_history.proofs.Steps.Start.{starting_state}

-- nothing is announced yet
pub Overtaking-starting : Overtaking starting_state
Overtaking-starting = record {
  tagged = λ a slot number last. absurd (omega arith);
  overtakers = λ a slot number last. absurd (omega arith);
  missed = λ a slot number other mine last undecided own seen. absurd (omega arith);
}

-- the rounds at the `since` of an announced request are the same in the longer list
tag-pushed : (b : BookTerms) (s : BoardState) (p : ℕ) (x : Publication) (a slot number : ℕ) → Sound b s → IsLastRequest (s.rows a slot) number
    → tag (pushed s p x).published a (s.rows a slot) number ≡ tag s.published a (s.rows a slot) number
tag-pushed b s p x a slot number sound last =
    ap (rounds a) (take-pushed s.published x (request_at (s.rows a slot) number).since (sound.requests a slot number (omega arith)).since)

-- the requests at hand were announced when the list was shorter
pub Overtaking-pushed : (b : BookTerms) (s : BoardState) (p : ℕ) (x : Publication) → Sound b s → Overtaking s → Overtaking (pushed s p x)
Overtaking-pushed b s p x sound law = record {
  tagged = λ a slot number last. omega (arith, tag-pushed b s p x a slot number sound last, law.tagged a slot number last);
  overtakers = law.overtakers;
  missed = λ a slot number other mine last undecided own seen.
      omega (arith, tag-pushed b s p x a other mine sound own, law.missed a slot number other mine last undecided own seen);
}

-- no decision is more than one round ahead of the list
round_ahead : (b : BookTerms) (s : BoardState) (a r : ℕ) → Sound b s → rounds a s.published ≤ r → r < length (s.cells a) → r ≡ rounds a s.published
round_ahead b s a r sound ahead within =
    let d : Decision = decision_at (s.cells a) r in
    omega (arith, ahead, (sound.decisions a r within).next, rounds-take-le a d.place s.published)

-- such a round is not of the slot of a request that is announced next, whose last request was settled before
round_ahead-other : (b : BookTerms) (s : BoardState) (a slot q : ℕ) (r : Request) → Sound b s → IsNextRequest b s a slot r
    → rounds a s.published ≤ q → q < length (s.cells a) → (decision_at (s.cells a) q).slot ≢ slot
round_ahead-other b s a slot q r sound next ahead within slot_is =
    let law = sound.decisions a q within in
    let d : Decision = decision_at (s.cells a) q in
    let known : d.number < length (s.rows a slot) = subst (λ t. d.number < length (s.rows a t)) slot_is law.announced in
    let before = length (s.rows a slot) - 1 in
    let named = named-is_settled b s r.since a slot before sound (next.follows before (omega arith)) in
    let earlier : named.0 < q = omega (arith, named.2, rounds-take-le a r.since s.published, ahead) in
    let less = number-less b s a slot named.0 q sound earlier within named.1.slot_is slot_is in
    omega (arith, less, named.1.number_is, known)

-- so no two rounds overtake a request that was announced last
AreOvertakers-announced : (b : BookTerms) (s : BoardState) (a slot number : ℕ) (r : Request) → Sound b s → IsNextRequest b s a slot r
    → AreOvertakers (s.cells a) (rounds a s.published) slot number
AreOvertakers-announced b s a slot number r sound next = record {
  others = λ q over. round_ahead-other b s a slot q r sound next over.heard_before over.decided;
  once = λ q k one other same.
      round_ahead b s a q sound one.heard_before one.decided ∙ sym (round_ahead b s a k sound other.heard_before other.decided);
}

-- at the slot of the announced request all rounds that stand were heard
heard-announced : (s : BoardState) (a slot : ℕ) (r : Request) (c k : ℕ) → (c ≡ a) × (k ≡ slot)
    → (announced s a slot r).heard c k ≡ rounds c s.published
heard-announced s a slot r c k same =
    at_slot-same s.heard a slot c k (rounds a s.published) same ∙ ap (λ t. rounds t s.published) (sym same.0)

tagged-announced : (s : BoardState) (a slot : ℕ) (r : Request) (c k number : ℕ) → Overtaking s
    → IsLastRequest ((announced s a slot r).rows c k) number
    → tag s.published c ((announced s a slot r).rows c k) number ≤ (announced s a slot r).heard c k
tagged-announced s a slot r c k number law last =
    let t : Asked = announced s a slot r in
    elim (slot_cases a slot c k) as (λ _. tag s.published c (t.rows c k) number ≤ t.heard c k) [
      | inl same ↦ omega (arith, heard-announced s a slot r c k same, rounds-take-le c (request_at (t.rows c k) number).since s.published)
      | inr apart ↦
          let kept = SameAsked-announced s a slot c k r apart in
          let old = law.tagged c k number (subst (λ row. IsLastRequest row number) kept.row last) in
          omega (arith, old, kept.heard, ap (λ row. tag s.published c row number) kept.row)
    ]

overtakers-announced : (b : BookTerms) (s : BoardState) (a slot : ℕ) (r : Request) (c k number : ℕ) → Sound b s → Overtaking s
    → IsNextRequest b s a slot r → IsLastRequest ((announced s a slot r).rows c k) number
    → AreOvertakers (s.cells c) ((announced s a slot r).heard c k) k number
overtakers-announced b s a slot r c k number sound law next last =
    elim (slot_cases a slot c k) as (λ _. AreOvertakers (s.cells c) ((announced s a slot r).heard c k) k number) [
      | inl same ↦
          let here = subst (λ t. IsNextRequest b s t k r) (sym same.0) (subst (λ t. IsNextRequest b s a t r) (sym same.1) next) in
          subst (λ t. AreOvertakers (s.cells c) t k number) (sym (heard-announced s a slot r c k same))
          (AreOvertakers-announced b s c k number r sound here)
      | inr apart ↦
          let kept = SameAsked-announced s a slot c k r apart in
          subst (λ t. AreOvertakers (s.cells c) t k number) (sym kept.heard)
          (law.overtakers c k number (subst (λ row. IsLastRequest row number) kept.row last))
    ]

-- an owner that has just announced a request has missed none
unmissed-announced : (s : BoardState) (a slot : ℕ) (r : Request) (c k missed number : ℕ) → (c ≡ a) × (k ≡ slot)
    → HasLoadedBefore ((announced s a slot r).seen_rows c k) missed number → ⊥
unmissed-announced s a slot r c k missed number same (n, has, below) =
    let none : (announced s a slot r).seen_rows c k ≡ [] = at_slot-same s.seen_rows a slot c k [] same in
    omega (arith, has.1, ap length none)

missed-announced : (s : BoardState) (a slot : ℕ) (r : Request) (c k number other latest : ℕ) → Overtaking s
    → IsLastRequest ((announced s a slot r).rows c k) number → IsUndecided (s.cells c) k number (length (s.cells c))
    → IsLastRequest ((announced s a slot r).rows c other) latest → HasLoadedBefore ((announced s a slot r).seen_rows c other) k number
    → tag s.published c ((announced s a slot r).rows c other) latest ≤ (announced s a slot r).heard c k
missed-announced s a slot r c k number other latest law last undecided own seen =
    let t : Asked = announced s a slot r in
    elim (slot_cases a slot c other) as (λ _. tag s.published c (t.rows c other) latest ≤ t.heard c k) [
      | inl mine ↦ absurd (unmissed-announced s a slot r c other k number mine seen)
      | inr theirs ↦ elim (slot_cases a slot c k) as (λ _. tag s.published c (t.rows c other) latest ≤ t.heard c k) [
        | inl same ↦ omega (arith, heard-announced s a slot r c k same, rounds-take-le c (request_at (t.rows c other) latest).since s.published)
        | inr apart ↦
            let one = SameAsked-announced s a slot c k r apart in
            let two = SameAsked-announced s a slot c other r theirs in
            let old = law.missed c k number other latest (subst (λ row. IsLastRequest row number) one.row last) undecided
            (subst (λ row. IsLastRequest row latest) two.row own) (subst (λ rows. HasLoadedBefore rows k number) two.seen_rows seen) in
            omega (arith, old, one.heard, ap (λ row. tag s.published c row latest) two.row)
      ]
    ]

-- its owner has heard all rounds when a request is announced
pub Overtaking-announced : (b : BookTerms) (s : BoardState) (a slot : ℕ) (r : Request) → Sound b s → Overtaking s → IsNextRequest b s a slot r
    → Overtaking (with_asked s (announced s a slot r))
Overtaking-announced b s a slot r sound law next = record {
  tagged = λ c k number last. tagged-announced s a slot r c k number law last;
  overtakers = λ c k number last. overtakers-announced b s a slot r c k number sound law next last;
  missed = λ c k number other latest last undecided own seen.
      missed-announced s a slot r c k number other latest law last undecided own seen;
}

-- a load misses no last request, so what its owner has missed it had missed before
HasLoadedBefore-row_loaded : (s : BoardState) (a mine slot n c other missed number : ℕ) → length (s.rows a slot) ≡ n → IsLastRequest (s.rows c missed) number
    → HasLoadedBefore ((row_loaded s a mine slot n).seen_rows c other) missed number → HasLoadedBefore (s.seen_rows c other) missed number
HasLoadedBefore-row_loaded s a mine slot n c other missed number counted last (k, has, below) =
    let new : SeenRow = record { slot = slot; count = n } in
    let found : SeenRow = record { slot = missed; count = k } in
    elim (slot_cases a mine c other) as (λ _. HasLoadedBefore (s.seen_rows c other) missed number) [
      | inl same ↦
          let rows = ap (λ t. s.seen_rows t mine) (sym same.0) ∙ ap (s.seen_rows c) (sym same.1) in
          let here = at_slot-same s.seen_rows a mine c other (s.seen_rows a mine ++ new ∷ []) same ∙ ap (λ t. t ++ new ∷ []) rows in
          elim (Contains-push_cases (s.seen_rows c other) new found (subst (λ t. Contains t found) here has)) as (λ _. HasLoadedBefore (s.seen_rows c other) missed number) [
            | inl old ↦ (k, old, below)
            | inr is ↦
                let row = ap (λ t. length (s.rows t missed)) same.0 ∙ ap (λ (t : SeenRow). length (s.rows a t.slot)) (sym is) in
                absurd (omega (arith, last, below, row, counted, ap (λ (t : SeenRow). t.count) is))
          ]
      | inr apart ↦
          let here = at_slot-other s.seen_rows a mine c other (s.seen_rows a mine ++ new ∷ []) apart in
          (k, subst (λ t. Contains t found) here has, below)
    ]

-- a load of an announced word counts the last request that it can have missed
pub Overtaking-row_loaded : (s : BoardState) (a mine slot n : ℕ) → Overtaking s → length (s.rows a slot) ≡ n
    → Overtaking (with_asked s (row_loaded s a mine slot n))
Overtaking-row_loaded s a mine slot n law counted = record {
  tagged = law.tagged;
  overtakers = law.overtakers;
  missed = λ c missed number other latest last undecided own seen.
      law.missed c missed number other latest last undecided own (HasLoadedBefore-row_loaded s a mine slot n c other missed number counted last seen);
}

-- the proposer's own last request is unsettled at the proposal's place and isn't older than the proposed one; of each other
-- slot it has missed the last request, or that is settled at the place or isn't older
pub record IsOldestRequest (s : BoardState) (a own : ℕ) (d : Decision) : Type 0 where
  pub mine : ℕ
  pub last : IsLastRequest (s.rows a own) mine
  pub unsettled : is_settled a own mine (take d.place s.published) ≡ false
  pub first : (request_at (s.rows a d.slot) d.number).since ≤ (request_at (s.rows a own) mine).since
  pub others : (other number : ℕ) → other ≢ own → IsLastRequest (s.rows a other) number →
      HasLoadedBefore (s.seen_rows a own) other number
      ⊎ (is_settled a other number (take d.place s.published) ≡ false →
      (request_at (s.rows a d.slot) d.number).since ≤ (request_at (s.rows a other) number).since)

-- what a request hadn't been decided in is so in fewer decisions
IsUndecided-kept : (xs ys : List Decision) (slot number upto more : ℕ) → KeptCells xs ys → upto ≤ length xs → upto ≤ more
    → IsUndecided ys slot number more → IsUndecided xs slot number upto
IsUndecided-kept xs ys slot number upto more kept within less undecided = λ r below slot_is number_is.
    let same : decision_at ys r ≡ decision_at xs r = kept.kept r (omega arith) in
    undecided r (omega arith) (ap (λ (t : Decision). t.slot) same ∙ slot_is) (ap (λ (t : Decision). t.number) same ∙ number_is)

Overtakes-kept : (xs ys : List Decision) (heard slot number r : ℕ) → KeptCells xs ys → r < length xs → Overtakes ys heard slot number r
    → Overtakes xs heard slot number r
Overtakes-kept xs ys heard slot number r kept within over = record {
  heard_before = over.heard_before;
  decided = within;
  undecided = IsUndecided-kept xs ys slot number (r + 1) (r + 1) kept (omega arith) (omega arith) over.undecided;
}

-- what one more decision has to keep: of the request's slot it can only name the request, and as long as that is undecided none
-- that overtakes it is of the decision's slot
record IsFair (xs : List Decision) (d : Decision) (heard slot number : ℕ) : Type 0 where
  own : d.slot ≡ slot → d.number ≡ number
  apart : IsUndecided xs slot number (length xs) → (q : ℕ) → heard ≤ q → q < length xs → (decision_at xs q).slot ≢ d.slot

decision-push : (xs ys : List Decision) (d : Decision) (r : ℕ) → ys ≡ xs ++ d ∷ [] → length xs ≤ r → r < length ys → decision_at ys r ≡ d
decision-push xs ys d r all late within =
    ap (λ t. decision_at t r) all ∙ get_or_push xs d no_decision r (omega (arith, late, within, ap length all, length_push xs d))

others-push : (xs ys : List Decision) (d : Decision) (heard slot number r : ℕ) → ys ≡ xs ++ d ∷ [] → IsFair xs d heard slot number
    → AreOvertakers xs heard slot number → Overtakes ys heard slot number r → (decision_at ys r).slot ≢ slot
others-push xs ys d heard slot number r all fair law over slot_is =
    let kept = KeptCells-push xs ys d all in
    elim (cases_lt r (length xs)) as (λ _. ⊥) [
      | inl early ↦
          law.others r (Overtakes-kept xs ys heard slot number r kept early over)
          (ap (λ (t : Decision). t.slot) (sym (kept.kept r early)) ∙ slot_is)
      | inr late ↦
          let new : decision_at ys r ≡ d = decision-push xs ys d r all late over.decided in
          let named : d.number ≡ number = fair.own (ap (λ (t : Decision). t.slot) (sym new) ∙ slot_is) in
          over.undecided r (omega arith) slot_is (ap (λ (t : Decision). t.number) new ∙ named)
    ]

-- the new decision and one before it don't both overtake a request, if they are of one slot
once-new : (xs ys : List Decision) (d : Decision) (heard slot number q r : ℕ) → ys ≡ xs ++ d ∷ [] → IsFair xs d heard slot number
    → q < length xs → length xs ≤ r → Overtakes ys heard slot number q → Overtakes ys heard slot number r
    → (decision_at ys q).slot ≢ (decision_at ys r).slot
once-new xs ys d heard slot number q r all fair early late one other same =
    let kept = KeptCells-push xs ys d all in
    let undecided = IsUndecided-kept xs ys slot number (length xs) (r + 1) kept (omega arith) (omega arith) other.undecided in
    fair.apart undecided q one.heard_before early
    (ap (λ (t : Decision). t.slot) (sym (kept.kept q early))
    ∙ (same ∙ ap (λ (t : Decision). t.slot) (decision-push xs ys d r all late other.decided)))

once-push : (xs ys : List Decision) (d : Decision) (heard slot number r q : ℕ) → ys ≡ xs ++ d ∷ [] → IsFair xs d heard slot number
    → AreOvertakers xs heard slot number → Overtakes ys heard slot number r → Overtakes ys heard slot number q
    → (decision_at ys r).slot ≡ (decision_at ys q).slot → r ≡ q
once-push xs ys d heard slot number r q all fair law one other same =
    let kept = KeptCells-push xs ys d all in
    elim (cases_lt r (length xs)) as (λ _. r ≡ q) [
      | inl early ↦ elim (cases_lt q (length xs)) as (λ _. r ≡ q) [
        | inl both ↦
            law.once r q (Overtakes-kept xs ys heard slot number r kept early one) (Overtakes-kept xs ys heard slot number q kept both other)
            (ap (λ (t : Decision). t.slot) (sym (kept.kept r early)) ∙ (same ∙ ap (λ (t : Decision). t.slot) (kept.kept q both)))
        | inr late ↦ absurd (once-new xs ys d heard slot number r q all fair early late one other same)
      ]
      | inr late ↦ elim (cases_lt q (length xs)) as (λ _. r ≡ q) [
        | inl early ↦ absurd (once-new xs ys d heard slot number q r all fair early late other one (sym same))
        | inr both ↦ omega (arith, late, both, one.decided, other.decided, ap length all, length_push xs d)
      ]
    ]

-- a fair decision keeps the law
AreOvertakers-push : (xs ys : List Decision) (d : Decision) (heard slot number : ℕ) → ys ≡ xs ++ d ∷ [] → IsFair xs d heard slot number
    → AreOvertakers xs heard slot number → AreOvertakers ys heard slot number
AreOvertakers-push xs ys d heard slot number all fair law = record {
  others = λ r over. others-push xs ys d heard slot number r all fair law over;
  once = λ r q one other same. once-push xs ys d heard slot number r q all fair law one other same;
}

-- the next decision is of the request that its slot has next
next_number : (b : BookTerms) (s : BoardState) (a round : ℕ) (d : Decision) → Sound b s → IsNextDecision b s a round d → length (s.cells a) ≡ round
    → count_by (names_slot d.slot) (s.cells a) ≡ d.number
next_number b s a round d sound next full =
    number_is_next b s d.place a d.slot d.number sound next.law.place (next.law.next ∙ sym full) next.law.announced next.unsettled

-- of a slot it is of the last request
next_number-last : (b : BookTerms) (s : BoardState) (a round slot number : ℕ) (d : Decision) → Sound b s → IsNextDecision b s a round d
    → length (s.cells a) ≡ round → IsLastRequest (s.rows a slot) number → d.slot ≡ slot → d.number ≡ number
next_number-last b s a round slot number d sound next full last slot_is =
    let least = not_later b s a slot number sound (omega arith) in
    let counted = next_number b s a round d sound next full in
    omega (
      arith,
      least,
      counted,
      ap (λ t. count_by (names_slot t) (s.cells a)) slot_is,
      next.law.announced,
      ap (λ t. length (s.rows a t)) slot_is,
      last,
    )

-- the rounds of its slot stood at the `since` of its request
slot_rounds-tag : (b : BookTerms) (s : BoardState) (a round q : ℕ) (d : Decision) → Sound b s → IsNextDecision b s a round d
    → length (s.cells a) ≡ round → q < length (s.cells a) → (decision_at (s.cells a) q).slot ≡ d.slot
    → q < tag s.published a (s.rows a d.slot) d.number
slot_rounds-tag b s a round q d sound next full within slot_is =
    let less = number-less-count b s a d.slot q sound within slot_is in
    let counted = next_number b s a round d sound next full in
    let before = d.number - 1 in
    let request = sound.requests a d.slot d.number next.law.announced in
    let named = named-is_settled b s (request_at (s.rows a d.slot) d.number).since a d.slot before sound (request.follows before (omega arith)) in
    elim (cases_lt named.0 q) as (λ _. q < tag s.published a (s.rows a d.slot) d.number) [
      | inl early ↦
          let more = number-less b s a d.slot named.0 q sound early within named.1.slot_is slot_is in
          absurd (omega (arith, less, counted, more, named.1.number_is))
      | inr late ↦ omega (arith, late, named.2)
    ]

-- at its `since` no more rounds stood than were heard when an undecided last request was announced
oldest-tag : (b : BookTerms) (s : BoardState) (a own slot number : ℕ) (d : Decision) → Sound b s → Overtaking s → IsOldestRequest s a own d
    → IsLastRequest (s.rows a slot) number → IsUndecided (s.cells a) slot number (length (s.cells a))
    → tag s.published a (s.rows a d.slot) d.number ≤ s.heard a slot
oldest-tag b s a own slot number d sound law oldest last undecided =
    let since = (request_at (s.rows a d.slot) d.number).since in
    let first = rounds-take_mono a since (request_at (s.rows a own) oldest.mine).since s.published oldest.first in
    elim (cases_eq slot own) as (λ _. tag s.published a (s.rows a d.slot) d.number ≤ s.heard a slot) [
      | inl same ↦ omega (arith, first, law.tagged a own oldest.mine oldest.last, ap (s.heard a) same)
      | inr apart ↦ elim (oldest.others slot number apart last) as (λ _. tag s.published a (s.rows a d.slot) d.number ≤ s.heard a slot) [
        | inl missed ↦ omega (arith, first, law.missed a slot number own oldest.mine last undecided oldest.last missed)
        | inr later ↦
            let before = later (unsettled-IsUndecided b s d.place a slot number sound undecided) in
            omega (arith, rounds-take_mono a since (request_at (s.rows a slot) number).since s.published before, law.tagged a slot number last)
      ]
    ]

-- the decision of the oldest request is fair
IsFair-oldest : (b : BookTerms) (s : BoardState) (a round own slot number : ℕ) (d : Decision) → Sound b s → Overtaking s
    → IsNextDecision b s a round d → length (s.cells a) ≡ round → IsOldestRequest s a own d → IsLastRequest (s.rows a slot) number
    → IsFair (s.cells a) d (s.heard a slot) slot number
IsFair-oldest b s a round own slot number d sound law next full oldest last = record {
  own = next_number-last b s a round slot number d sound next full last;
  apart = λ undecided q heard within slot_is.
      omega (arith, oldest-tag b s a own slot number d sound law oldest last undecided, slot_rounds-tag b s a round q d sound next full within slot_is, heard);
}

overtakers-decided : (b : BookTerms) (s : BoardState) (p a round own c slot number : ℕ) (d : Decision) → Sound b s → Overtaking s
    → IsNextDecision b s a round d → length (s.cells a) ≡ round → IsOldestRequest s a own d → IsLastRequest (s.rows c slot) number
    → AreOvertakers ((decided s p a d).cells c) (s.heard c slot) slot number
overtakers-decided b s p a round own c slot number d sound law next full oldest last =
    elim (cases_eq c a) as (λ _. AreOvertakers ((decided s p a d).cells c) (s.heard c slot) slot number) [
      | inl same ↦
          let here : IsLastRequest (s.rows a slot) number = subst (λ t. IsLastRequest (s.rows t slot) number) same last in
          let fair = IsFair-oldest b s a round own slot number d sound law next full oldest here in
          subst (λ t. AreOvertakers ((decided s p a d).cells t) (s.heard t slot) slot number) (sym same)
          (AreOvertakers-push (s.cells a) ((decided s p a d).cells a) d (s.heard a slot) slot number (cells-own s p a d) fair
          (law.overtakers a slot number here))
      | inr apart ↦
          subst (λ t. AreOvertakers t (s.heard c slot) slot number) (sym (cells-other s p a c d apart)) (law.overtakers c slot number last)
    ]

-- the oldest request overtakes none that its proposer knew, and none that was announced later
pub Overtaking-decided : (b : BookTerms) (s : BoardState) (p a round own : ℕ) (d : Decision) → Sound b s → Overtaking s → IsNextDecision b s a round d
    → length (s.cells a) ≡ round → Sound b (decided s p a d) → IsOldestRequest s a own d → Overtaking (decided s p a d)
Overtaking-decided b s p a round own d sound law next full after oldest = record {
  tagged = law.tagged;
  overtakers = λ c slot number last. overtakers-decided b s p a round own c slot number d sound law next full oldest last;
  missed = λ c slot number other latest last undecided mine seen.
      let kept = KeptCells-decided s p a c d in
      let ys = (decided s p a d).cells c in
      law.missed c slot number other latest last
      (IsUndecided-kept (s.cells c) ys slot number (length (s.cells c)) (length ys) kept (omega arith) kept.longer undecided) mine seen;
}
