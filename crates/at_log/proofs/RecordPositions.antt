-- Where the records of a process and of a round stand in a list, and in the prefixes of its cuts.
use Rattle.std.proofs.Common.{◌≡◌, ℕ, ◌<◌, ◌≤◌, ◌==◌, Bool, true, false, List, length, get_or, take, refl, sym, ap, ◌∙◌, arith, inl, inr}
use Rattle.at_log.proofs.Prelude.{and_from, cases_lt, eq-eqb, get_or-take, get_or_default, length-take, Any-from_list_any, list_any_at, list_any, Decision, TargetPair, IsPosition, position-below, position-below_from_count, get_or-IsCut, position-IsCut, has_round, publication_at, is_round, IsCut, place, count_of, no_publication, Entry, Round, Publication, own_position, round_position}
use Rattle.at_log.proofs.Laws.Positions.{own_position-at, round_position-at}

-- a record that passes a test stands somewhere in the list, or in a prefix of it
pub list_any-at : (test : Publication → Bool) (list : List Publication) → list_any test list ≡ true
    → (k : ℕ) × (k < length list) × (test (publication_at list k) ≡ true)
list_any-at test list some =
    let found = Any-from_list_any test list some in
    (found.0, found.2, ap test (sym (get_or_default list found.0 found.1 no_publication found.2) ∙ found.3) ∙ found.4)

pub list_any-take : (test : Publication → Bool) (m : ℕ) (list : List Publication) → list_any test (take m list) ≡ true
    → (k : ℕ) × (k < m) × (k < length list) × (test (publication_at list k) ≡ true)
list_any-take test m list some =
    let found = list_any-at test (take m list) some in
    let below : found.0 < m = omega (arith, found.1, length-take m list) in
    (found.0, below, omega (arith, found.1, length-take m list), ap test (sym (get_or-take m list found.0 no_publication below)) ∙ found.2)

-- a round's entry is of that round
pub is_round-entry : (a r : ℕ) (d : Decision) (targets : List TargetPair) (e : Entry) → e ≡ Round a r d targets → is_round a r e ≡ true
is_round-entry a r d targets e is = ap (is_round a r) is ∙ and_from (a == a) (r == r) (eq-eqb a a refl) (eq-eqb r r refl)

-- a record of a process stands in the prefix of a cut exactly where the cut counts it
pub counted-own_position : (n p number : ℕ) (view : List ℕ) (list : List Publication) → IsCut n view list → p < n → number < count_of p list
    → own_position p number list < place view → number < get_or view p 0
counted-own_position n p number view list cut known within below =
    let at = own_position-at p number list within in
    let m = own_position p number list in
    let position : IsPosition p number list m = record {
      within = at.within;
      own = λ d. ap (λ (x : Publication). x.process) (get_or_default list m d no_publication at.within) ∙ at.own;
      before = at.before;
    } in
    position-IsCut n view list p number m cut known position below

pub own_position-counted : (n p number : ℕ) (view : List ℕ) (list : List Publication) → IsCut n view list → p < n → number < count_of p list
    → number < get_or view p 0 → own_position p number list < place view
own_position-counted n p number view list cut known within counted =
    let at = own_position-at p number list within in
    position-below_from_count p (own_position p number list) (place view) list (omega (arith, at.before, counted, get_or-IsCut n view list p cut known))

-- the first record of a round stands no later than any of them
pub round_position-le : (a r k : ℕ) (list : List Publication) → k < length list → is_round a r (publication_at list k).entry ≡ true → round_position a r list ≤ k
round_position-le a r k list within there =
    let at = round_position-at a r list k within there in
    elim (cases_lt k (round_position a r list)) as (λ _. round_position a r list ≤ k) [
      | inl early ↦ let both : true ≡ false = sym there ∙ at.first k early in absurd (cc both)
      | inr late ↦ late
    ]

-- it stands in a prefix exactly where the prefix has a record of the round
pub has_round-position : (a r m k : ℕ) (list : List Publication) → k < length list → is_round a r (publication_at list k).entry ≡ true
    → round_position a r list < m → has_round a r (take m list) ≡ true
has_round-position a r m k list within there below =
    let at = round_position-at a r list k within there in
    let j = round_position a r list in
    list_any_at (λ (x : Publication). is_round a r x.entry) (take m list) j no_publication (omega (arith, below, at.within, length-take m list))
    (ap (λ (x : Publication). is_round a r x.entry) (get_or-take m list j no_publication below) ∙ at.here)

pub position-has_round : (a r m : ℕ) (list : List Publication) → has_round a r (take m list) ≡ true → round_position a r list < m
position-has_round a r m list some =
    let found = list_any-take (λ (x : Publication). is_round a r x.entry) m list some in
    omega (arith, found.1, round_position-le a r found.0 list found.2 found.3)

-- records of a process stand by their numbers
pub own_position-le : (p i j : ℕ) (list : List Publication) → i < count_of p list → j < count_of p list → i ≤ j → own_position p i list ≤ own_position p j list
own_position-le p i j list one other before =
    let first = own_position-at p i list one in
    let second = own_position-at p j list other in
    elim (cases_lt (own_position p j list) (own_position p i list)) as (λ _. own_position p i list ≤ own_position p j list) [
      | inl early ↦
          absurd (omega (
            arith,
            before,
            first.before,
            second.before,
            position-below p (own_position p j list) (own_position p i list) list no_publication second.within second.own early,
          ))
      | inr late ↦ late
    ]

pub number-le : (p i j : ℕ) (list : List Publication) → i < count_of p list → j < count_of p list → own_position p i list ≤ own_position p j list → i ≤ j
number-le p i j list one other before =
    let first = own_position-at p i list one in
    let second = own_position-at p j list other in
    elim (cases_lt j i) as (λ _. i ≤ j) [
      | inl early ↦
          let back = own_position-le p j i list other one (omega (arith, early)) in
          let here : own_position p i list ≡ own_position p j list = omega (arith, before, back) in
          omega (arith, first.before, second.before, ap (λ k. count_of p (take k list)) here)
      | inr late ↦ late
    ]
