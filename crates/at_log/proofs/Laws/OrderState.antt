-- The journal's order as the state of a board: what it says of each round, and in which order a slot's requests were decided.
use Rattle.std.proofs.Common.{◌≡◌, ℕ, ◌+◌, ◌<◌, ◌≤◌, ◌==◌, ◌&&◌, Bool, true, false, cond, List, [], length, get_or, take, refl, sym, ap, ◌∙◌, arith, inl, inr}
use Rattle.std.specs.Prelude.{Option, Some, None, nat_lt}
use Rattle.at_log.proofs.Prelude.{cases_Bool, cases_eq, eq-eqb, eqb-true, le-ltb, lt-ltb, ne_eqb, get_or_default, take-take, count_by_more_yes, sum_by-take-le, count_by, filter_map, is_some, Decision, BookTerms, TargetPair, one_if, BoardState, decision_at, publication_at, request_at, is_round_on, names, no_publication, firsts, Entry, Own, Round, Publication, Request, ClosingTerms, IsNumbered, is_earlier_for, journal_order}
use Rattle.at_log.proofs.Laws.OrderPremises.{HasRounds}
use Rattle.at_log.proofs.Laws.OrderRounds.{AreFirsts-journal_order, IsFirst}
use Rattle.at_log.proofs.Laws.Picks.{count_by-before, count_by-filter_map, filter_map-at, picks, take-filter_map}

-- the decision of a round of an account
abbrev pub decision_in : ℕ → Entry → Option Decision
decision_in a (Own from targets) = None
decision_in a (Round account round decision targets) = cond (account == a) (Some decision) None

-- the request that a round decided for a slot, as if it had been asked at the decision's place
abbrev pub request_in : ℕ → ℕ → Entry → Option Request
request_in a slot (Own from targets) = None
request_in a slot (Round account round decision targets) =
    cond ((account == a) && (decision.slot == slot)) (Some (record { targets = targets; since = decision.place })) None

-- the order as the state of a board: its rounds decided what their records say, for the requests that they name
abbrev pub order_state : ClosingTerms → BoardState
order_state c = record {
  published = journal_order c;
  cells = λ a. filter_map (λ x. decision_in a x.entry) (firsts (journal_order c));
  rows = λ a slot. filter_map (λ x. request_in a slot x.entry) (firsts (journal_order c));
  held = λ p. None;
  heard = λ a slot. 0;
  seen_rows = λ a slot. [];
}

is_some-cond : {Y : Type 0} (t : Bool) (y : Y) → is_some (cond t (Some y) None) ≡ t
is_some-cond true y = refl
is_some-cond false y = refl

is_some-decision_in : (a : ℕ) (e : Entry) → is_some (decision_in a e) ≡ is_round_on a e
is_some-decision_in a (Own from targets) = refl
is_some-decision_in a (Round account round decision targets) = is_some-cond (account == a) decision

is_some-request_in : (a slot : ℕ) (e : Entry) → is_some (request_in a slot e) ≡ names a slot e
is_some-request_in a slot (Own from targets) = refl
is_some-request_in a slot (Round account round decision targets) =
    is_some-cond ((account == a) && (decision.slot == slot)) (record { targets = targets; since = decision.place })

-- counts by what is picked
pub count_by-decisions : (a : ℕ) (xs : List Publication) → count_by (picks (λ x. decision_in a x.entry)) xs ≡ count_by (λ x. is_round_on a x.entry) xs
count_by-decisions a xs = λ t. count_by (λ (x : Publication). is_some-decision_in a x.entry t) xs

pub count_by-requests : (a slot : ℕ) (xs : List Publication) → count_by (picks (λ x. request_in a slot x.entry)) xs ≡ count_by (λ x. names a slot x.entry) xs
count_by-requests a slot xs = λ t. count_by (λ (x : Publication). is_some-request_in a slot x.entry t) xs

-- an entry from which a decision is picked
pub decision_in-some : (a : ℕ) (e : Entry) (d : Decision) → decision_in a e ≡ Some d → (r : ℕ) × (targets : List TargetPair) × (e ≡ Round a r d targets)
decision_in-some a (Own from targets) d is = absurd (cc is)
decision_in-some a (Round account round decision targets) d is =
    elim (cases_eq account a) as (λ _. (r : ℕ) × (ts : List TargetPair) × (Round account round decision targets ≡ Round a r d ts)) [
      | inl same ↦
          let found : Some decision ≡ Some d = sym (ap (λ t. cond t (Some decision) None) (eq-eqb account a same)) ∙ is in
          let d_is : decision ≡ d = cc found in
          (round, targets, λ t. Round (same t) round (d_is t) targets)
      | inr apart ↦ absurd (cc (sym (ap (λ t. cond t (Some decision) None) (ne_eqb account a apart)) ∙ is))
    ]

-- and one from which a request is
pub request_in-some : (a slot : ℕ) (e : Entry) (q : Request) → request_in a slot e ≡ Some q
    → (r : ℕ) × (d : Decision) × (e ≡ Round a r d q.targets) × (d.slot ≡ slot)
request_in-some a slot (Own from targets) q is = absurd (cc is)
request_in-some a slot (Round account round d targets) q is =
    elim (cases_Bool ((account == a) && (d.slot == slot))) as (λ _. (r : ℕ) × (e : Decision) × (Round account round d targets ≡ Round a r e q.targets) × (e.slot ≡ slot)) [
      | inl both ↦
          let made : Request = record { targets = targets; since = d.place } in
          let found : Some made ≡ Some q = sym (ap (λ t. cond t (Some made) None) both) ∙ is in
          let q_is : made ≡ q = cc found in
          let account_is : account ≡ a = eqb-true account a (and_first (account == a) (d.slot == slot) both) in
          (round, d, (λ t. Round (account_is t) round d (q_is t).targets), eqb-true d.slot slot (and_second (account == a) (d.slot == slot) both))
      | inr neither ↦ absurd (cc (sym (ap (λ t. cond t (Some (record { targets = targets; since = d.place })) None) neither) ∙ is))
    ]
  where
    and_first : (s t : Bool) → (s && t) ≡ true → s ≡ true
    and_first true t both = refl
    and_first false t both = absurd (cc both)

    and_second : (s t : Bool) → (s && t) ≡ true → t ≡ true
    and_second true t both = both
    and_second false t both = absurd (cc both)

-- whether a record is of an earlier round for a slot
earlier-yes : (a r slot : ℕ) (e : Entry) → ((k : ℕ) (d : Decision) (targets : List TargetPair) → e ≡ Round a k d targets → k < r)
    → is_earlier_for a r slot e ≡ names a slot e
earlier-yes a r slot (Own from targets) below = refl
earlier-yes a r slot (Round account round d targets) below =
    elim (cases_eq account a) as (λ _. ((account == a) && (nat_lt round r && (d.slot == slot))) ≡ ((account == a) && (d.slot == slot))) [
      | inl same ↦
          let first : round < r = below round d targets (λ t. Round (same t) round d targets) in
          ap (λ t. (account == a) && (t && (d.slot == slot))) (lt-ltb round r first)
      | inr apart ↦ ap (λ t. t && (nat_lt round r && (d.slot == slot))) (ne_eqb account a apart) ∙ sym (ap (λ t. t && (d.slot == slot)) (ne_eqb account a apart))
    ]

earlier-no : (a r slot : ℕ) (e : Entry) → ((k : ℕ) (d : Decision) (targets : List TargetPair) → e ≡ Round a k d targets → r ≤ k)
    → is_earlier_for a r slot e ≡ false
earlier-no a r slot (Own from targets) above = refl
earlier-no a r slot (Round account round d targets) above =
    elim (cases_eq account a) as (λ _. ((account == a) && (nat_lt round r && (d.slot == slot))) ≡ false) [
      | inl same ↦
          let late : r ≤ round = above round d targets (λ t. Round (same t) round d targets) in
          (λ t. eq-eqb account a same t && (le-ltb round r late t && (d.slot == slot)))
      | inr apart ↦ ap (λ t. t && (nat_lt round r && (d.slot == slot))) (ne_eqb account a apart)
    ]

-- how many of the first elements pass a test doesn't fall
count_by-take_mono : {X : Type 0} (test : X → Bool) (m k : ℕ) (xs : List X) → m ≤ k → count_by test (take m xs) ≤ count_by test (take k xs)
count_by-take_mono test m k xs few =
    omega (arith, ap (count_by test) (take-take m k xs few), sum_by-take-le (λ x. one_if (test x)) (take k xs) m)

-- the requests of a slot that were decided before a round are those that the first records before it name
pub named_before : (b : BookTerms) (c : ClosingTerms) (a r slot : ℕ) (d : Decision) (targets : List TargetPair) → HasRounds b c
    → (first : IsFirst (journal_order c) a r d targets)
    → count_by (λ x. is_earlier_for a r slot x.entry) (firsts (journal_order c))
    ≡ count_by (λ x. names a slot x.entry) (take first.number (firsts (journal_order c)))
named_before b c a r slot d targets has first =
    let ys = firsts (journal_order c) in
    let j = first.number in
    let on : Publication → Bool = λ x. is_round_on a x.entry in
    let so = AreFirsts-journal_order b c has in
    count_by-before (λ x. is_earlier_for a r slot x.entry) (λ x. names a slot x.entry) ys j
    (λ i e within below.
    earlier-yes a r slot (get_or ys i e).entry (λ k dk ts is.
    let here : (publication_at ys i).entry ≡ Round a k dk ts = ap (λ (x : Publication). x.entry) (get_or_default ys i no_publication e within) ∙ is in
    let counted = so.order i a k dk ts within here in
    let passes : on (publication_at ys i) ≡ true = ap (is_round_on a) here ∙ eq-eqb a a refl in
    omega (arith, counted, first.before, count_by_more_yes on ys i no_publication within passes, count_by-take_mono on (i + 1) j ys (omega (arith, below)))))
    (λ i e within above.
    earlier-no a r slot (get_or ys i e).entry (λ k dk ts is.
    let here : (publication_at ys i).entry ≡ Round a k dk ts = ap (λ (x : Publication). x.entry) (get_or_default ys i no_publication e within) ∙ is in
    omega (arith, so.order i a k dk ts within here, first.before, count_by-take_mono on j i ys above)))

-- what the state says of a round of the order
pub record IsInState (c : ClosingTerms) (a r : ℕ) (d : Decision) (targets : List TargetPair) : Type 0 where
  pub decided : r < length ((order_state c).cells a)
  pub decision : decision_at ((order_state c).cells a) r ≡ d
  pub announced : d.number < length ((order_state c).rows a d.slot)
  pub request : request_at ((order_state c).rows a d.slot) d.number ≡ record { targets = targets; since = d.place }
  pub numbered : count_by (λ e. e.slot == d.slot) (take r ((order_state c).cells a)) ≡ d.number

pub IsInState-first : (b : BookTerms) (c : ClosingTerms) (a r : ℕ) (d : Decision) (targets : List TargetPair) → HasRounds b c
    → IsNumbered b c a r d → IsFirst (journal_order c) a r d targets → IsInState c a r d targets
IsInState-first b c a r d targets has numbered first =
    let ys = firsts (journal_order c) in
    let j = first.number in
    let pick : Publication → Option Decision = λ x. decision_in a x.entry in
    let ask : Publication → Option Request = λ x. request_in a d.slot x.entry in
    let q : Request = record { targets = targets; since = d.place } in
    let named : count_by (λ x. names a d.slot x.entry) (take j ys) ≡ d.number =
    sym (named_before b c a r d.slot d targets has first) ∙ numbered.next in
    let at_round : count_by (picks pick) (take j ys) ≡ r = count_by-decisions a (take j ys) ∙ first.before in
    let at_number : count_by (picks ask) (take j ys) ≡ d.number = count_by-requests a d.slot (take j ys) ∙ named in
    let picked : pick (publication_at ys j) ≡ Some d =
    ap (decision_in a) first.entry ∙ ap (λ t. cond t (Some d) None) (eq-eqb a a refl) in
    let asked : ask (publication_at ys j) ≡ Some q =
    ap (request_in a d.slot) first.entry
    ∙ (λ t. cond (eq-eqb a a refl t && (eq-eqb d.slot d.slot refl t)) (Some q) None) in
    let cell = filter_map-at pick ys j no_publication d (record { ok = false; slot = 0; number = 0; place = 0 }) first.within picked in
    let row = filter_map-at ask ys j no_publication q (record { targets = []; since = 0 }) first.within asked in
    record {
      decided = omega (arith, cell.0, at_round);
      decision = ap (decision_at (filter_map pick ys)) (sym at_round) ∙ cell.1;
      announced = omega (arith, row.0, at_number);
      request = ap (request_at (filter_map ask ys)) (sym at_number) ∙ row.1;
      numbered =
          ap (λ k. count_by (λ e. e.slot == d.slot) (take k (filter_map pick ys))) (sym at_round)
          ∙ (ap (count_by (λ e. e.slot == d.slot)) (take-filter_map pick ys j)
          ∙ (count_by-filter_map pick (λ e. e.slot == d.slot) (λ x. names a d.slot x.entry) (take j ys)
          (λ x e is. names-decided a d.slot x.entry e is) (λ x is. names-undecided a d.slot x.entry is)
          ∙ named));
    }
  where
    names-decided : (a slot : ℕ) (e : Entry) (d : Decision) → decision_in a e ≡ Some d → names a slot e ≡ (d.slot == slot)
    names-decided a slot e d is =
        let one = decision_in-some a e d is in
        ap (names a slot) one.2 ∙ ap (λ t. t && (d.slot == slot)) (eq-eqb a a refl)

    names-undecided : (a slot : ℕ) (e : Entry) → decision_in a e ≡ None → names a slot e ≡ false
    names-undecided a slot (Own from targets) is = refl
    names-undecided a slot (Round account round d targets) is =
        elim (cases_Bool (account == a)) as (λ _. ((account == a) && (d.slot == slot)) ≡ false) [
          | inl same ↦ absurd (cc (sym (ap (λ t. cond t (Some d) None) same) ∙ is))
          | inr apart ↦ ap (λ t. t && (d.slot == slot)) apart
        ]
