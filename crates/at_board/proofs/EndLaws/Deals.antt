-- Dealing a new board's first seat keeps the rule.
use Rattle.std.proofs.Common.{◌≡◌, ◌≢◌, ℕ, ◌+◌, ◌-◌, ◌<◌, ◌≤◌, ◌==◌, ◌&&◌, zero, suc, Bool, cond, List, [], ◌∷◌, ◌++◌, length, get_or, replicate, set, refl, sym, ap, subst, ◌∙◌, arith, inl, inr, ◌⊎◌, ltb}
use Rattle.at_board.proofs.Prelude.{get_elem?, some, some-injective, some-ne-none, cases_eq, cases_lt, eq-eqb, le-ltb, lt-ltb, ne_eqb, drop-replicate, get_or-replicate, get_or_append_left, get_or_push, length-replicate, length_push, take-replicate, take_all, get_or-drop, get_or-take, length-drop, length-set, length-take, All-nil, at_last, at_longer, at_set, set_else, set_here, TableId, sum_by, BookTerms, HasSlot, IsBegun, IsBook, firsts-nil, one_if, names, Publication, publications_of-nil, count_of-nil, IsRun-nil, BoardState, IsHistory, IsRun, first_part, other_parts, starting_seat, AgreesWithSeen, DecisionInRange, RequestInRange, HasPart, Knows, asking_on, no_asking, own_part, no_part, part_at, starting_asking, starting_part, starting_knowledge, IsSeat, SeatTerms, AreSeated, Holds, Ruled, record_width, Asking, Part, Knowledge}
use Rattle.at_board.proofs.KnowledgeLaws.Seats.{within_found}
use Rattle.at_board.proofs.StepLaws.StoreRecordWord.{HasPart-words}

-- what is known after the deal is the first one, the new one, or another that stayed
record DealCases (knowledge : List Knowledge) (id j : ℕ) (v left right u : Knowledge) : Type 0 where
  which : ((j ≡ id) × (left ≡ u)) ⊎ (((j ≡ length knowledge) × (right ≡ u)) ⊎ ((j ≢ id) × (get_elem? knowledge j ≡ some u)))

-- the last of a list with one more, by its index
last_found : (l : List Knowledge) (a u : Knowledge) (j : ℕ) → get_elem? (l ++ a ∷ []) j ≡ some u → (get_elem? l j ≡ some u) ⊎ ((j ≡ length l) × (a ≡ u))
last_found [] a u zero e = inr (refl, some-injective a u e)
last_found [] a u (suc j) e = absurd (some-ne-none u (sym e))
last_found (x ∷ xs) a u zero e = inl e
last_found (x ∷ xs) a u (suc j) e =
    elim (last_found xs a u j e) as (λ _. (get_elem? xs j ≡ some u) ⊎ ((suc j ≡ suc (length xs)) × (a ≡ u))) [
      | inl before ↦ inl before
      | inr last ↦ inr (ap suc last.0, last.1)
    ]

deal_cases : (knowledge : List Knowledge) (id j : ℕ) (v left right u : Knowledge) → get_elem? (set knowledge id left ++ right ∷ []) j ≡ some u
    → DealCases knowledge id j v left right u
deal_cases knowledge id j v left right u found =
    elim (last_found (set knowledge id left) right u j found) as (λ _. DealCases knowledge id j v left right u) [
      | inl before ↦
          elim (at_set knowledge id j left u before) as (λ _. DealCases knowledge id j v left right u) [
            | inl here ↦ record { which = inl here }
            | inr other ↦ record { which = inr (inr other) }
          ]
      | inr last ↦ record { which = inr (inl (last.0 ∙ length-set knowledge id left, last.1)) }
    ]

Knows-first_part : (b : BookTerms) (words : List ℕ) (s : BoardState) (v : Knowledge) → Knows b words s v → Knows b words s (first_part v)
Knows-first_part b words s v knows = record {
  seen = knows.seen;
  requests = knows.requests;
  decisions = knows.decisions;
  parts = λ k within.
      let few : (k < 1) × (k < length v.parts) = (omega (arith, length-take 1 v.parts), omega (arith, length-take 1 v.parts)) in
      subst (HasPart b words s (first_part v) (v.first + k)) (sym (get_or-take 1 v.parts k no_part few.0))
      (HasPart-words b words words s v (first_part v) (v.first + k) (part_at v k) refl refl (λ a slot i j is. refl) (λ j is. refl) (knows.parts k few.1));
}

Knows-other_parts : (b : BookTerms) (words : List ℕ) (s : BoardState) (v : Knowledge) → Knows b words s v → Knows b words s (other_parts v)
Knows-other_parts b words s v knows = record {
  seen = knows.seen;
  requests = knows.requests;
  decisions = knows.decisions;
  parts = λ k within.
      let inside : 1 + k < length v.parts = omega (arith, length-drop 1 v.parts) in
      let at : v.first + (1 + k) ≡ v.first + 1 + k = omega arith in
      subst (HasPart b words s (other_parts v) (v.first + 1 + k)) (sym (get_or-drop 1 v.parts k no_part))
      (subst (λ p. HasPart b words s (other_parts v) p (part_at v (1 + k))) at
      (HasPart-words b words words s v (other_parts v) (v.first + (1 + k)) (part_at v (1 + k)) refl refl (λ a slot i j is. refl) (λ j is. refl) (knows.parts (1 + k) inside)));
}

-- after the deal the processes above the first have the new seat
abbrev pub seat_after : (ℕ → ℕ) → ℕ → ℕ → ℕ → ℕ → ℕ
seat_after seat id first new p = cond ((seat p == id) && ltb first p) new (seat p)

-- who has the new seat
seat_after-new : (seat : ℕ → ℕ) (id first new p : ℕ) → seat p ≡ id → first < p → seat_after seat id first new p ≡ new
seat_after-new seat id first new p own above =
    ap (λ (t : Bool). cond t new (seat p)) (ap (λ t. t && ltb first p) (eq-eqb (seat p) id own) ∙ lt-ltb first p above)

seat_after-first : (seat : ℕ → ℕ) (id first new p : ℕ) → seat p ≡ id → p ≤ first → seat_after seat id first new p ≡ seat p
seat_after-first seat id first new p own low =
    ap (λ (t : Bool). cond t new (seat p)) (ap (λ t. t && ltb first p) (eq-eqb (seat p) id own) ∙ le-ltb first p low)

seat_after-other : (seat : ℕ → ℕ) (id first new p : ℕ) → seat p ≢ id → seat_after seat id first new p ≡ seat p
seat_after-other seat id first new p other =
    ap (λ (t : Bool). cond t new (seat p)) (ap (λ t. t && ltb first p) (ne_eqb (seat p) id other))

Holds-first_part : (v : Knowledge) (p : ℕ) → Holds (first_part v) p → (p ≡ v.first) × Holds v p
Holds-first_part v p holds =
    (omega (arith, holds.0, holds.1, length-take 1 v.parts), (holds.0, omega (arith, holds.1, length-take 1 v.parts)))

Holds-other_parts : (v : Knowledge) (p : ℕ) → Holds (other_parts v) p → (v.first < p) × Holds v p
Holds-other_parts v p holds =
    (omega (arith, holds.0), (omega (arith, holds.0), omega (arith, holds.0, holds.1, length-drop 1 v.parts)))

AreSeated-deal : (b : BookTerms) (seat : ℕ → ℕ) (knowledge : List Knowledge) (id : ℕ) (v : Knowledge) → AreSeated b seat knowledge → get_elem? knowledge id ≡ some v
    → AreSeated b (seat_after seat id v.first (length knowledge)) (set knowledge id (first_part v) ++ other_parts v ∷ [])
AreSeated-deal b seat knowledge id v seated found =
    let after = set knowledge id (first_part v) ++ other_parts v ∷ [] in
    let new = length knowledge in
    record {
      only = λ j p u there holds.
          elim (deal_cases knowledge id j v (first_part v) (other_parts v) u there).which as (λ _. seat_after seat id v.first new p ≡ j) [
            | inl left ↦
                let mine = Holds-first_part v p (subst (λ t. Holds t p) (sym left.1) holds) in
                let own = seated.only id p v found mine.1 in
                seat_after-first seat id v.first new p own (omega (arith, mine.0)) ∙ (own ∙ sym left.0)
            | inr rest ↦ elim rest as (λ _. seat_after seat id v.first new p ≡ j) [
              | inl right ↦
                  let mine = Holds-other_parts v p (subst (λ t. Holds t p) (sym right.1) holds) in
                  seat_after-new seat id v.first new p (seated.only id p v found mine.1) mine.0 ∙ sym right.0
              | inr other ↦
                  let own = seated.only j p u other.1 holds in
                  seat_after-other seat id v.first new p (λ e. other.0 (sym own ∙ e)) ∙ own
            ]
          ];
      some_seat = λ p within.
          let before = seated.some_seat p within in
          elim (cases_eq (seat p) id) as (λ _. (u : Knowledge) × (get_elem? after (seat_after seat id v.first new p) ≡ some u) × Holds u p) [
            | inl own ↦
                let same : before.0 ≡ v = some-injective before.0 v (sym before.1 ∙ (ap (get_elem? knowledge) own ∙ found)) in
                let old : Holds v p = subst (λ t. Holds t p) same before.2 in
                elim (cases_lt v.first p) as (λ _. (u : Knowledge) × (get_elem? after (seat_after seat id v.first new p) ≡ some u) × Holds u p) [
                  | inl above ↦ (
                    other_parts v,
                    ap (get_elem? after) (seat_after-new seat id v.first new p own above)
                        ∙ at_last (set knowledge id (first_part v)) (other_parts v) new (length-set knowledge id (first_part v)),
                    (omega arith, omega (arith, old.1, length-drop 1 v.parts)),
                  )
                  | inr low ↦ (
                    first_part v,
                    ap (get_elem? after) (seat_after-first seat id v.first new p own low ∙ own)
                        ∙ at_longer (set knowledge id (first_part v)) (other_parts v ∷ []) id (first_part v) (set_here knowledge id (first_part v) (within_found knowledge id v found)),
                    (old.0, omega (arith, old.0, old.1, low, length-take 1 v.parts)),
                  )
                ]
            | inr other ↦ (
              before.0,
              ap (get_elem? after) (seat_after-other seat id v.first new p other)
                  ∙ at_longer (set knowledge id (first_part v)) (other_parts v ∷ []) (seat p) before.0 (set_else knowledge id (seat p) (first_part v) other ∙ before.1),
              before.2,
            )
          ];
    }

-- dealing a seat keeps the rule
pub Ruled-deal : (b : BookTerms) (words : List ℕ) (knowledge : List Knowledge) (id : ℕ) (v : Knowledge) → Ruled b words knowledge → get_elem? knowledge id ≡ some v
    → Ruled b words (set knowledge id (first_part v) ++ other_parts v ∷ [])
Ruled-deal b words knowledge id v ruled found =
    let knows = ruled.knows id v found in
    record {
      state = ruled.state;
      seat = seat_after ruled.seat id v.first (length knowledge);
      shown = ruled.shown;
      sound = ruled.sound;
      overtaking = ruled.overtaking;
      knows = λ j u there. elim (deal_cases knowledge id j v (first_part v) (other_parts v) u there).which as (λ _. Knows b words ruled.state u) [
        | inl left ↦ subst (Knows b words ruled.state) left.1 (Knows-first_part b words ruled.state v knows)
        | inr rest ↦ elim rest as (λ _. Knows b words ruled.state u) [
          | inl right ↦ subst (Knows b words ruled.state) right.1 (Knows-other_parts b words ruled.state v knows)
          | inr other ↦ ruled.knows j u other.1
        ]
      ];
      seated = AreSeated-deal b ruled.seat knowledge id v ruled.seated found;
    }

-- the list that nobody has published to
pub IsHistory-nil : (b : BookTerms) → IsBegun b → IsHistory b []
IsHistory-nil b begun = record {
  views = λ m within. absurd (omega arith);
  entries = λ m within. absurd (omega arith);
  decisions = λ m within. absurd (omega arith);
  agree = λ m k within inside. absurd (omega arith);
  own_room = λ p. omega arith;
  room = λ p within. omega (arith, ap length (publications_of-nil p));
  few = omega arith;
  runs = λ m within. subst (IsRun b) (sym (take_all m [] (omega arith))) (IsRun-nil b begun);
}

-- what the seats know that are still to be dealt
abbrev pub rest_view : BookTerms → ℕ → Knowledge
rest_view b p = record (starting_knowledge b) { first = p; parts = replicate (b.processes - p) (starting_part b) }

-- the seat of a process, and the rest
pub first_part-rest_view : (b : BookTerms) (p : ℕ) → p < b.processes → first_part (rest_view b p) ≡ starting_seat b p
first_part-rest_view b p within = ap (λ (parts : List Part). record (starting_knowledge b) { first = p; parts = parts }) (take-replicate 1 (b.processes - p) (starting_part b) (omega arith))

pub other_parts-rest_view : (b : BookTerms) (p : ℕ) → other_parts (rest_view b p) ≡ rest_view b (p + 1)
other_parts-rest_view b p =
    let count : b.processes - p - 1 ≡ b.processes - (p + 1) = omega arith in
    ap (λ (parts : List Part). record (starting_knowledge b) { first = p + 1; parts = parts })
    (drop-replicate 1 (b.processes - p) (starting_part b) ∙ ap (λ n. replicate n (starting_part b)) count)

-- the last seat is the rest
pub rest_view-last : (b : BookTerms) (p : ℕ) → p + 1 ≡ b.processes → rest_view b p ≡ starting_seat b p
rest_view-last b p last =
    let one : b.processes - p ≡ 1 = omega arith in
    ap (λ n. record (starting_knowledge b) { first = p; parts = replicate n (starting_part b) }) one

-- nothing was seen
AgreesWithSeen-starting : (b : BookTerms) (p : ℕ) → AgreesWithSeen (starting_seat b p)
AgreesWithSeen-starting b p = record {
  requests = λ a slot number r q one other. absurd (omega (arith, one.1));
  decisions = λ a round d sees. absurd (omega (arith, sees.1));
  records = λ k x within. absurd (omega (arith, within));
}

-- what it has on an account that it shares
asking_on-starting : (b : BookTerms) (p a slot : ℕ) → HasSlot b p a slot → asking_on (own_part (starting_seat b p)) a ≡ starting_asking
asking_on-starting b p a slot has = get_or-replicate (length b.accounts) a starting_asking no_asking has.account_in

-- nothing is announced
announced-starting : (b : BookTerms) (p a slot : ℕ) → HasSlot b p a slot → length (asking_on (own_part (starting_seat b p)) a).announced ≡ 0
announced-starting b p a slot has = ap (λ (w : Asking). length w.announced) (asking_on-starting b p a slot has)

pub IsSeat-starting : (b : BookTerms) (p : ℕ) → IsBook b → p < b.processes → IsSeat (starting_seat b p) p 0
IsSeat-starting b p book within = record {
  one_part = refl;
  accounts = length-replicate (length b.accounts) starting_asking;
  words = length-replicate (record_width b) 0;
  next_words = λ a slot has. ap (λ (w : Asking). length w.stored) (asking_on-starting b p a slot has);
  process_is = refl;
  published_is = refl;
  own = count_of-nil p;
  asked = λ a slot i has inside. absurd (omega (arith, inside, announced-starting b p a slot has));
  known = within;
  book = book;
  history = IsHistory-nil b book.begun;
  in_range = record { requests = All-nil (RequestInRange b); decisions = All-nil (DecisionInRange b) };
  agrees = AgreesWithSeen-starting b p;
  names = λ a slot has. record {
    records = λ number settled. absurd (cc settled);
    decisions = λ round d sees same. absurd (omega (arith, sees.1));
    rounds = omega (arith, ap (sum_by (λ (x : Publication). one_if (names a slot x.entry))) firsts-nil);
  };
  overtaken = λ a slot number m has last within unsettled. absurd (omega (arith, last, announced-starting b p a slot has));
}

-- the seat of a process on a new board
abbrev pub new_seat : BookTerms → TableId → ℕ → SeatTerms
new_seat b id p = record { board = id; knows = starting_seat b p; steps = 0; exchanges = 0 }

-- one more seat
pub new_seats-more : (b : BookTerms) (id : TableId) (xs ys : List SeatTerms) (x : SeatTerms) (n : ℕ) → ys ≡ xs ++ x ∷ [] → x ≡ new_seat b id n
    → length xs ≡ n → ((p : ℕ) (d : SeatTerms) → p < n → get_or xs p d ≡ new_seat b id p)
    → (length ys ≡ n + 1) × ((p : ℕ) (d : SeatTerms) → p < n + 1 → get_or ys p d ≡ new_seat b id p)
new_seats-more b id xs ys x n all is sized each = (
  ap length all ∙ (length_push xs x ∙ ap (λ k. k + 1) sized),
  λ p d below. ap (λ l. get_or l p d) all ∙ elim (cases_lt p n) as (λ _. get_or (xs ++ x ∷ []) p d ≡ new_seat b id p) [
    | inl before ↦ get_or_append_left xs (x ∷ []) d p (omega (arith, sized)) ∙ each p d before
    | inr after ↦
        let at : p ≡ n = omega arith in
        get_or_push xs x d p (sized ∙ sym at) ∙ (is ∙ ap (new_seat b id) (sym at))
  ],
)
