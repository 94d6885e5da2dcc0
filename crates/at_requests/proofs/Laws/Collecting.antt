-- The rows of the owners, one after another.
use Rattle.std.proofs.Common.{IfSome, map, refl, get_or, ◌≡◌, ◌≢◌, ◌⊎◌, ℕ, if◌then◌else◌, ◌+◌, ◌*◌, ◌<◌, List, [], ◌∷◌, ◌++◌, length, Option, Some, None, sym, ap, subst, ◌∙◌, arith, inl, inr}
use Rattle.at_requests.proofs.Prelude.{cases_eq, cases_lt, eq-eqb, ne_eqb, same_number_lists, append-nil, get_or_append_left, get_or_default, get_or_push, length_push, map-append, get_or-range_with_len, length-range_with_len, Contains-append_cases, Contains-append_left, Contains-append_right, Contains-push, Contains-push_cases, Contains, range_with_len, option_to_list, slots_of, BookTerms, HasSlot, account_of, IsPrefix-length, request_at, IsLastRequest, Request, SeenRow, HasLoadedRows, IsCandidate, HasLoadedRequest, SeesRequest, asking_on, own_part, seen_as, IsSeat, Asking, Knowledge, LoadedWord, SeenRequest, REQUEST_WORDS, HasAsked, AreWords, HasRow, IsCollectingRows, IsOwnOrLast, loaded_words, AreBelow, AreRising, IsAmong, request_in, request_of, seen_of, AreCandidates, CollectsRows, LoadsOnly, WordCounts, SeesAsked, IsFound, LoadsRow, row_steps, OpenRequest}
use Rattle.at_requests.proofs.Laws.Accounts.{HasAccount}
use Rattle.at_requests.proofs.Laws.Rows.{LoadsOnly-refl, LoadsOnly-trans, announced-LoadsOnly, asking_on-LoadsOnly, first-LoadsOnly}
use Rattle.at_requests.proofs.Laws.Loading.{Contains-loaded_words, request-loaded_words}

pub IsCollectingRows-start : (v : Knowledge) (a : ℕ) (own : OpenRequest) → SeesRequest v a own.slot own.number (request_of own) → IsCollectingRows v v a own [] 0 0
IsCollectingRows-start v a own sees = record {
  rows = [];
  words = [];
  loads = LoadsOnly-refl v a;
  rising = λ i j less within. absurd (omega (arith, within));
  below = λ k within. absurd (omega (arith, within));
  few = omega arith;
  own_in = λ below. absurd (omega (arith, below));
  last = λ x there. absurd (omega (arith, there.1));
  counted = λ slot below. absurd (omega (arith, below));
  only = λ l there. absurd (omega (arith, there.1));
  slots = refl;
  own_seen = sees;
  seen = λ x there. absurd (omega (arith, there.1));
  steps_before = λ _. omega arith;
  steps_after = λ below. absurd (omega (arith, below));
}

-- more rows and words are loaded
IsOwnOrLast-more : (a : ℕ) (own : OpenRequest) (rows more_rows : List SeenRow) (words more_words : List LoadedWord) (x : OpenRequest)
    → IsOwnOrLast a own rows words x → IsOwnOrLast a own (rows ++ more_rows) (words ++ more_words) x
IsOwnOrLast-more a own rows more_rows words more_words x (inl is) = inl is
IsOwnOrLast-more a own rows more_rows words more_words x (inr (apart, counted, whole)) = inr (
  apart,
  Contains-append_left rows more_rows (record { slot = x.slot; count = x.number + 1 }) counted,
  λ j within. Contains-append_left words more_words (record { request = seen_of a x; word = j }) (whole j within),
)

HasRow-more : (rows more_rows : List SeenRow) (list all : List OpenRequest) (slot : ℕ) → ((x : OpenRequest) → Contains list x → Contains all x)
    → HasRow rows list slot → HasRow (rows ++ more_rows) all slot
HasRow-more rows more_rows list all slot among (n, counted, last) = (
  n,
  Contains-append_left rows more_rows (record { slot = slot; count = n }) counted,
  λ number is. let found = last number is in (found.0, among found.0 found.1, found.2, found.3),
)

IsAmong-more : (a : ℕ) (list more : List OpenRequest) (y : SeenRequest) → IsAmong a list y → IsAmong a (list ++ more) y
IsAmong-more a list more y (x, there, is) = (x, Contains-append_left list more x there, is)

-- the slots rise still
request_in-push : (list : List OpenRequest) (x : OpenRequest) (i : ℕ) → i < length list → request_in (list ++ x ∷ []) i ≡ request_in list i
request_in-push list x i within = get_or_append_left list (x ∷ []) _ i within

request_in-last : (list : List OpenRequest) (x : OpenRequest) (i : ℕ) → i ≡ length list → request_in (list ++ x ∷ []) i ≡ x
request_in-last list x i at = get_or_push list x _ i (sym at)

AreRising-push : (list : List OpenRequest) (x : OpenRequest) (s : ℕ) → AreRising list → AreBelow list s → x.slot ≡ s
    → AreRising (list ++ x ∷ [])
AreRising-push list x s rising below at i j less within =
    let size = length_push list x in
    let here : request_in (list ++ x ∷ []) i ≡ request_in list i = request_in-push list x i (omega (arith, less, within, size)) in
    let slot_here = ap (λ (t : OpenRequest). t.slot) here in
    elim (cases_lt j (length list)) as (λ _. (request_in (list ++ x ∷ []) i).slot < (request_in (list ++ x ∷ []) j).slot) [
      | inl inside ↦ omega (arith, rising i j less inside, slot_here, ap (λ (t : OpenRequest). t.slot) (request_in-push list x j inside))
      | inr past ↦
          let last : j ≡ length list = omega (arith, past, within, size) in
          omega (arith, below i (omega (arith, less, last)), slot_here, at, ap (λ (t : OpenRequest). t.slot) (request_in-last list x j last))
    ]

below-push : (list : List OpenRequest) (x : OpenRequest) (s : ℕ) → AreBelow list s → x.slot ≡ s → AreBelow (list ++ x ∷ []) (s + 1)
below-push list x s below at k within =
    elim (cases_lt k (length list)) as (λ _. (request_in (list ++ x ∷ []) k).slot < s + 1) [
      | inl inside ↦ omega (arith, below k inside, ap (λ (t : OpenRequest). t.slot) (request_in-push list x k inside))
      | inr past ↦ omega (arith, at, ap (λ (t : OpenRequest). t.slot) (request_in-last list x k (omega (arith, past, within, length_push list x))))
    ]

-- the numbers from 0 on, one more
range_with_len-more : (s : ℕ) → range_with_len 0 (s + 1) ≡ range_with_len 0 s ++ s ∷ []
range_with_len-more s =
    let size = length-range_with_len 0 s in
    let more = length-range_with_len 0 (s + 1) in
    same_number_lists (range_with_len 0 (s + 1)) (range_with_len 0 s ++ s ∷ []) (omega (arith, size, more, length_push (range_with_len 0 s) s))
    (λ k within. get_or-range_with_len 0 (s + 1) k 0 (omega (arith, within, more)) ∙ elim (cases_lt k s) as (λ _. 0 + k ≡ get_or (range_with_len 0 s ++ s ∷ []) k 0) [
      | inl below ↦ sym (get_or_append_left (range_with_len 0 s) (s ∷ []) 0 k (omega (arith, below, size)) ∙ get_or-range_with_len 0 s k 0 below)
      | inr past ↦
          let last : k ≡ s = omega (arith, past, within, more) in
          let at : length (range_with_len 0 s) ≡ k = omega (arith, last, size) in
          let zero_more : 0 + k ≡ s = omega (arith, last) in
          zero_more ∙ sym (get_or_push (range_with_len 0 s) s 0 k at)
    ])

-- one more slot
slots-push : (rows : List SeenRow) (s count : ℕ) → map (λ r. r.slot) rows ≡ range_with_len 0 s
    → map (λ r. r.slot) (rows ++ record { slot = s; count = count } ∷ []) ≡ range_with_len 0 (s + 1)
slots-push rows s count so_far =
    map-append (λ (r : SeenRow). r.slot) rows (record { slot = s; count = count } ∷ [])
    ∙ (ap (λ (ks : List ℕ). ks ++ s ∷ []) so_far ∙ sym (range_with_len-more s))

-- what was seen stays so
SeesAsked-LoadsOnly : (u w : Knowledge) (a : ℕ) (rows : List SeenRow) (words : List LoadedWord) (x : OpenRequest) → LoadsOnly u w a rows words → SeesAsked u a x → SeesAsked w a x
SeesAsked-LoadsOnly u w a rows words x told has = record {
  sees = told.gained (seen_of a x) has.sees;
  since = omega (arith, has.since, IsPrefix-length u.seen w.seen told.more);
}

-- a row of which nothing is loaded besides
IsCollectingRows-none : (v u w : Knowledge) (a : ℕ) (own : OpenRequest) (list : List OpenRequest) (s made count : ℕ) (found : List LoadedWord) → HasAccount v a
    → IsCollectingRows v u a own list s made → LoadsOnly u w a (record { slot = s; count = count } ∷ []) found → s ≢ own.slot → count ≡ 0 → found ≡ []
    → IsCollectingRows v w a own list (s + 1) (made + 1)
IsCollectingRows-none v u w a own list s made count found has so_far told apart zero none =
    let row : SeenRow = record { slot = s; count = count } in
    let rows : List SeenRow = so_far.rows ++ row ∷ [] in
    record {
      rows = rows;
      words = so_far.words ++ found;
      loads = LoadsOnly-trans v u w a so_far.rows (row ∷ []) so_far.words found has so_far.loads told;
      rising = so_far.rising;
      below = λ k within. omega (arith, so_far.below k within);
      few = omega (arith, so_far.few);
      own_in = λ below. so_far.own_in (omega (arith, below, apart));
      last = λ x there. IsOwnOrLast-more a own so_far.rows (row ∷ []) so_far.words found x (so_far.last x there);
      counted = λ slot below other. elim (cases_eq slot s) as (λ _. HasRow rows list slot) [
        | inl same ↦ subst (HasRow rows list) (sym same) (count, Contains-push so_far.rows row, λ number is. absurd (omega (arith, is, zero)))
        | inr before ↦ HasRow-more so_far.rows (row ∷ []) list list slot (λ x there. there) (so_far.counted slot (omega (arith, below, before)) other)
      ];
      only = λ l there. elim (Contains-append_cases so_far.words found l there) as (λ _. IsAmong a list l.request) [
        | inl old ↦ so_far.only l old
        | inr new ↦ let empty = subst (λ (ls : List LoadedWord). Contains ls l) none new in absurd (omega (arith, empty.1))
      ];
      slots = slots-push so_far.rows s count so_far.slots;
      own_seen = told.gained (seen_of a own) so_far.own_seen;
      seen = λ x there. SeesAsked-LoadsOnly u w a (row ∷ []) found x told (so_far.seen x there);
      steps_before = λ below. omega (arith, so_far.steps_before (omega (arith, below)));
      steps_after = λ below. omega (arith, so_far.steps_after (omega (arith, below, apart)));
    }

-- the seat's own row
IsCollectingRows-own : (v u w : Knowledge) (a : ℕ) (own : OpenRequest) (list : List OpenRequest) (s made count : ℕ) (found : List LoadedWord) → HasAccount v a
    → IsCollectingRows v u a own list s made → LoadsOnly u w a (record { slot = s; count = count } ∷ []) found → s ≡ own.slot → found ≡ []
    → SeesAsked w a own → IsCollectingRows v w a own (list ++ own ∷ []) (s + 1) (made + 1)
IsCollectingRows-own v u w a own list s made count found has so_far told at none own_has =
    let row : SeenRow = record { slot = s; count = count } in
    let rows : List SeenRow = so_far.rows ++ row ∷ [] in
    let all : List OpenRequest = list ++ own ∷ [] in
    let size = length_push list own in
    record {
      rows = rows;
      words = so_far.words ++ found;
      loads = LoadsOnly-trans v u w a so_far.rows (row ∷ []) so_far.words found has so_far.loads told;
      rising = AreRising-push list own s so_far.rising so_far.below (sym at);
      below = below-push list own s so_far.below (sym at);
      few = omega (arith, so_far.few, size);
      own_in = λ below. Contains-push list own;
      last = λ x there. elim (Contains-push_cases list own x there) as (λ _. IsOwnOrLast a own rows (so_far.words ++ found) x) [
        | inl old ↦ IsOwnOrLast-more a own so_far.rows (row ∷ []) so_far.words found x (so_far.last x old)
        | inr new ↦ inl (sym new)
      ];
      counted = λ slot below other.
          HasRow-more so_far.rows (row ∷ []) list all slot (λ x there. Contains-append_left list (own ∷ []) x there) (so_far.counted slot (omega (arith, below, other, at)) other);
      only = λ l there. elim (Contains-append_cases so_far.words found l there) as (λ _. IsAmong a all l.request) [
        | inl old ↦ IsAmong-more a list (own ∷ []) l.request (so_far.only l old)
        | inr new ↦ let empty = subst (λ (ls : List LoadedWord). Contains ls l) none new in absurd (omega (arith, empty.1))
      ];
      slots = slots-push so_far.rows s count so_far.slots;
      own_seen = told.gained (seen_of a own) so_far.own_seen;
      seen = λ x there. elim (Contains-push_cases list own x there) as (λ _. SeesAsked w a x) [
        | inl old ↦ SeesAsked-LoadsOnly u w a (row ∷ []) found x told (so_far.seen x old)
        | inr new ↦ subst (SeesAsked w a) new own_has
      ];
      steps_before = λ below. absurd (omega (arith, below, at));
      steps_after = λ below. omega (arith, so_far.steps_before (omega (arith, at)), size);
    }

-- the row of another owner that has asked
IsCollectingRows-other : (v u w : Knowledge) (a : ℕ) (own : OpenRequest) (list : List OpenRequest) (s made count : ℕ) (found : List LoadedWord) (x : OpenRequest)
    → HasAccount v a → IsCollectingRows v u a own list s made → LoadsOnly u w a (record { slot = s; count = count } ∷ []) found → s ≢ own.slot → x.slot ≡ s
    → x.number + 1 ≡ count → found ≡ loaded_words (seen_of a x) → SeesAsked w a x → IsCollectingRows v w a own (list ++ x ∷ []) (s + 1) (made + (1 + REQUEST_WORDS))
IsCollectingRows-other v u w a own list s made count found x has so_far told apart at last whole x_has =
    let row : SeenRow = record { slot = s; count = count } in
    let rows : List SeenRow = so_far.rows ++ row ∷ [] in
    let words : List LoadedWord = so_far.words ++ found in
    let all : List OpenRequest = list ++ x ∷ [] in
    let size = length_push list x in
    let loaded : AreWords words (seen_of a x) = λ j within.
    Contains-append_right so_far.words found (record { request = seen_of a x; word = j })
    (subst (λ (ls : List LoadedWord). Contains ls (record { request = seen_of a x; word = j })) (sym whole) (Contains-loaded_words (seen_of a x) j within)) in
    let counts : WordCounts rows x.slot (x.number + 1) =
    subst (λ k. WordCounts rows k (x.number + 1)) (sym at) (subst (λ n. WordCounts rows s n) (sym last) (Contains-push so_far.rows row)) in
    record {
      rows = rows;
      words = words;
      loads = LoadsOnly-trans v u w a so_far.rows (row ∷ []) so_far.words found has so_far.loads told;
      rising = AreRising-push list x s so_far.rising so_far.below at;
      below = below-push list x s so_far.below at;
      few = omega (arith, so_far.few, size);
      own_in = λ below. Contains-append_left list (x ∷ []) own (so_far.own_in (omega (arith, below, apart)));
      last = λ y there. elim (Contains-push_cases list x y there) as (λ _. IsOwnOrLast a own rows words y) [
        | inl old ↦ IsOwnOrLast-more a own so_far.rows (row ∷ []) so_far.words found y (so_far.last y old)
        | inr new ↦ subst (IsOwnOrLast a own rows words) new (inr (λ same. apart (sym at ∙ same), counts, loaded))
      ];
      counted = λ slot below other. elim (cases_eq slot s) as (λ _. HasRow rows all slot) [
        | inl same ↦ subst (HasRow rows all) (sym same)
            (count, Contains-push so_far.rows row, λ number is. (x, Contains-push list x, at, omega (arith, is, last)))
        | inr before ↦ HasRow-more so_far.rows (row ∷ []) list all slot (λ y there. Contains-append_left list (x ∷ []) y there)
            (so_far.counted slot (omega (arith, below, before)) other)
      ];
      only = λ l there. elim (Contains-append_cases so_far.words found l there) as (λ _. IsAmong a all l.request) [
        | inl old ↦ IsAmong-more a list (x ∷ []) l.request (so_far.only l old)
        | inr new ↦ (x, Contains-push list x, request-loaded_words (seen_of a x) l (subst (λ (ls : List LoadedWord). Contains ls l) whole new))
      ];
      slots = slots-push so_far.rows s count so_far.slots;
      own_seen = told.gained (seen_of a own) so_far.own_seen;
      seen = λ y there. elim (Contains-push_cases list x y there) as (λ _. SeesAsked w a y) [
        | inl old ↦ SeesAsked-LoadsOnly u w a (row ∷ []) found y told (so_far.seen y old)
        | inr new ↦ subst (SeesAsked w a) new x_has
      ];
      steps_before = λ below. omega (arith, so_far.steps_before (omega (arith, below)), size);
      steps_after = λ below. omega (arith, so_far.steps_after (omega (arith, below, apart)), size);
    }

-- one more row
IsCollectingRows-found : (v u w : Knowledge) (a : ℕ) (own : OpenRequest) (list : List OpenRequest) (s made count : ℕ) (words : List LoadedWord) (found : Option OpenRequest)
    → HasAccount v a → IsCollectingRows v u a own list s made → LoadsOnly u w a (record { slot = s; count = count } ∷ []) words → IsFound a s own count words found → IfSome found (SeesAsked w a)
    → IsCollectingRows v w a own (list ++ option_to_list found) (s + 1) (made + row_steps own.slot s found)
IsCollectingRows-found v u w a own list s made count words None has so_far told (apart, zero, none) seen =
    subst (λ (l : List OpenRequest). IsCollectingRows v w a own l (s + 1) (made + 1)) (sym (append-nil list))
    (IsCollectingRows-none v u w a own list s made count words has so_far told apart zero none)
IsCollectingRows-found v u w a own list s made count words (Some x) has so_far told (inl (at, is, none)) seen =
    let cost : row_steps own.slot s (Some x) ≡ 1 = ap (λ t. if t then 1 else 1 + REQUEST_WORDS) (eq-eqb s own.slot at) in
    subst (λ n. IsCollectingRows v w a own (list ++ x ∷ []) (s + 1) (made + n)) (sym cost)
    (subst (λ (y : OpenRequest). IsCollectingRows v w a own (list ++ y ∷ []) (s + 1) (made + 1)) (sym is)
    (IsCollectingRows-own v u w a own list s made count words has so_far told at none (subst (SeesAsked w a) is seen)))
IsCollectingRows-found v u w a own list s made count words (Some x) has so_far told (inr (apart, at, last, whole)) seen =
    let cost : row_steps own.slot s (Some x) ≡ 1 + REQUEST_WORDS = ap (λ t. if t then 1 else 1 + REQUEST_WORDS) (ne_eqb s own.slot apart) in
    subst (λ n. IsCollectingRows v w a own (list ++ x ∷ []) (s + 1) (made + n)) (sym cost)
    (IsCollectingRows-other v u w a own list s made count words x has so_far told apart at last whole seen)

pub IsCollectingRows-row : (v u w : Knowledge) (a : ℕ) (own : OpenRequest) (list : List OpenRequest) (s made : ℕ) (found : Option OpenRequest) → HasAccount v a
    → IsCollectingRows v u a own list s made → LoadsRow u w a s own found
    → IsCollectingRows v w a own (list ++ option_to_list found) (s + 1) (made + row_steps own.slot s found)
IsCollectingRows-row v u w a own list s made found has so_far told =
    IsCollectingRows-found v u w a own list s made told.count told.words found has so_far told.loads told.is_found told.seen

-- what is found in the next row stands above the list
pub AreBelow-LoadsRow : (u w : Knowledge) (a s : ℕ) (own : OpenRequest) (list : List OpenRequest) (found : Option OpenRequest) → AreBelow list s
    → LoadsRow u w a s own found → IfSome found (λ x. AreBelow list x.slot)
AreBelow-LoadsRow u w a s own list None below told = tt
AreBelow-LoadsRow u w a s own list (Some x) below told = elim told.is_found as (λ _. AreBelow list x.slot) [
  | inl mine ↦ subst (AreBelow list) (mine.0 ∙ sym (ap (λ (t : OpenRequest). t.slot) mine.1)) below
  | inr other ↦ subst (AreBelow list) (sym other.1) below
]

-- all rows were loaded: what is on the account then
rows-IsCollectingRows : (v w : Knowledge) (a : ℕ) (own : OpenRequest) (list : List OpenRequest) (s made slot n : ℕ) → HasAccount v a
    → (all : IsCollectingRows v w a own list s made) → WordCounts all.rows slot n → WordCounts (asking_on (own_part w) a).rows slot n
rows-IsCollectingRows v w a own list s made slot n has all counted =
    let old : Asking = asking_on (own_part v) a in
    let there = asking_on-LoadsOnly v w a all.rows all.words has all.loads in
    subst (λ (t : Asking). WordCounts t.rows slot n) (sym there) (Contains-append_right old.rows all.rows (record { slot = slot; count = n }) counted)

words-IsCollectingRows : (v w : Knowledge) (a : ℕ) (own : OpenRequest) (list : List OpenRequest) (s made : ℕ) (y : SeenRequest) → HasAccount v a
    → (all : IsCollectingRows v w a own list s made) → AreWords all.words y → HasLoadedRequest (asking_on (own_part w) a) y
words-IsCollectingRows v w a own list s made y has all words =
    let old : Asking = asking_on (own_part v) a in
    let there = asking_on-LoadsOnly v w a all.rows all.words has all.loads in
    λ j within. subst (λ (t : Asking). Contains t.loaded (record { request = y; word = j })) (sym there)
    (Contains-append_right old.loaded all.words (record { request = y; word = j }) (words j within))

-- an element of another slot is whole
whole-IsOwnOrLast : (a : ℕ) (own : OpenRequest) (rows : List SeenRow) (words : List LoadedWord) (x : OpenRequest) → IsOwnOrLast a own rows words x → x.slot ≢ own.slot
    → AreWords words (seen_of a x)
whole-IsOwnOrLast a own rows words x (inl is) apart = absurd (apart (ap (λ (t : OpenRequest). t.slot) is))
whole-IsOwnOrLast a own rows words x (inr (other, counted, whole)) apart = whole

pub HasLoadedRows-IsCollectingRows : (b : BookTerms) (v w : Knowledge) (a : ℕ) (own : OpenRequest) (list : List OpenRequest) (s made : ℕ) → HasAccount v a
    → HasAsked b v a own → IsCollectingRows v w a own list s made → s ≡ slots_of (account_of b a) → HasLoadedRows b w a own.slot
HasLoadedRows-IsCollectingRows b v w a own list s made has asked all whole = record {
  slot_in = subst (λ p. HasSlot b p a own.slot) (sym (first-LoadsOnly v w a all.rows all.words all.loads)) asked.slot_in;
  rows = λ other within apart.
      let (n, counted, last) = all.counted other (omega (arith, within, whole)) apart in (
        n,
        rows-IsCollectingRows v w a own list s made other n has all counted,
        λ number is.
            let (x, there, slot_is, number_is) = last number is in
            let here : x.slot ≢ own.slot = λ same. apart (sym slot_is ∙ same) in
            let loaded = words-IsCollectingRows v w a own list s made (seen_of a x) has all (whole-IsOwnOrLast a own all.rows all.words x (all.last x there) here) in (
              request_of x,
              subst (λ k. HasLoadedRequest (asking_on (own_part w) a) (seen_as a k number (request_of x))) slot_is
                  (subst (λ k. HasLoadedRequest (asking_on (own_part w) a) (seen_as a x.slot k (request_of x))) number_is loaded),
            ),
      );
}

pub CollectsRows-IsCollectingRows : (b : BookTerms) (v w : Knowledge) (a : ℕ) (own : OpenRequest) (list : List OpenRequest) (s made : ℕ)
    → HasAsked b v a own → IsCollectingRows v w a own list s made → s ≡ slots_of (account_of b a) → CollectsRows b v w a own list
CollectsRows-IsCollectingRows b v w a own list s made asked all whole = record {
  rows = all.rows;
  words = all.words;
  loads = all.loads;
  slots = all.slots ∙ ap (range_with_len 0) whole;
  own_in = all.own_in (omega (arith, whole, asked.slot_in.within));
  last = λ x there. elim (all.last x there) as (λ _. (x ≡ own) ⊎ ((x.slot ≢ own.slot) × WordCounts all.rows x.slot (x.number + 1))) [
    | inl is ↦ inl is
    | inr other ↦ inr (other.0, other.1)
  ];
  others = λ slot within apart. all.counted slot (omega (arith, within, whole)) apart;
  within = λ x there.
      let is : request_in list there.0 ≡ x = get_or_default list there.0 _ x there.1 ∙ there.2 in
      omega (arith, all.below there.0 there.1, whole, ap (λ (t : OpenRequest). t.slot) is);
  seen = all.seen;
}

-- the seat's own request is a candidate
candidate-own : (b : BookTerms) (v w : Knowledge) (a : ℕ) (own : OpenRequest) → HasAsked b v a own
    → (asking_on (own_part w) a).announced ≡ (asking_on (own_part v) a).announced → IsCandidate (asking_on (own_part w) a) a own.slot (seen_of a own)
candidate-own b v w a own asked same = inl (
  own.number,
  omega (arith, asked.last, ap (λ (row : List Request). length row) same),
  ap (λ (r : Request). seen_as a own.slot own.number r) (sym asked.same ∙ ap (λ (row : List Request). request_at row own.number) (sym same)),
)

-- a candidate is the seat's own request, or was loaded
candidate-cases : (b : BookTerms) (v w : Knowledge) (a : ℕ) (own : OpenRequest) (y : SeenRequest) → HasAsked b v a own
    → (asking_on (own_part w) a).announced ≡ (asking_on (own_part v) a).announced → IsCandidate (asking_on (own_part w) a) a own.slot y
    → (y ≡ seen_of a own) ⊎ HasLoadedRequest (asking_on (own_part w) a) y
candidate-cases b v w a own y asked same (inl (number, last, is)) =
    let at : number ≡ own.number = omega (arith, last, asked.last, ap (λ (row : List Request). length row) same) in
    inl (is ∙ (ap (λ k. seen_as a own.slot k (request_at (asking_on (own_part w) a).announced k)) at
    ∙ ap (λ (r : Request). seen_as a own.slot own.number r) (ap (λ (row : List Request). request_at row own.number) same ∙ asked.same)))
candidate-cases b v w a own y asked same (inr loaded) = inr loaded

pub AreCandidates-IsCollectingRows : (b : BookTerms) (v w : Knowledge) (a : ℕ) (own : OpenRequest) (list : List OpenRequest) (s made : ℕ) → HasAccount v a
    → HasAsked b v a own → IsCollectingRows v w a own list s made → s ≡ slots_of (account_of b a) → AreCandidates v w a own.slot list
AreCandidates-IsCollectingRows b v w a own list s made has asked all whole =
    let old : Asking = asking_on (own_part v) a in
    let now : Asking = asking_on (own_part w) a in
    let there = asking_on-LoadsOnly v w a all.rows all.words has all.loads in
    let same = announced-LoadsOnly v w a all.rows all.words has all.loads in
    let loaded : now.loaded ≡ old.loaded ++ all.words = ap (λ (t : Asking). t.loaded) there in
    let only : (l : LoadedWord) → Contains now.loaded l → Contains old.loaded l ⊎ IsAmong a list l.request =
    λ l here. elim (Contains-append_cases old.loaded all.words l (subst (λ (ls : List LoadedWord). Contains ls l) loaded here))
    as (λ _. Contains old.loaded l ⊎ IsAmong a list l.request) [ inl before ↦ inl before | inr new ↦ inr (all.only l new) ] in
    record {
      each = λ y (x, among, is). subst (IsCandidate now a own.slot) (sym is) (elim (all.last x among) as (λ _. IsCandidate now a own.slot (seen_of a x)) [
        | inl own_is ↦ subst (λ (t : OpenRequest). IsCandidate now a own.slot (seen_of a t)) (sym own_is) (candidate-own b v w a own asked same)
        | inr other ↦ inr (words-IsCollectingRows v w a own list s made (seen_of a x) has all other.2)
      ]);
      only = only;
      all = λ none y candidate. elim (candidate-cases b v w a own y asked same candidate) as (λ _. IsAmong a list y) [
        | inl is ↦ (own, all.own_in (omega (arith, whole, asked.slot_in.within)), is)
        | inr has_loaded ↦
            elim (only (record { request = y; word = 0 }) (has_loaded 0 (omega arith))) as (λ _. IsAmong a list y) [
              | inl before ↦ let empty = subst (λ (ls : List LoadedWord). Contains ls (record { request = y; word = 0 })) none before in absurd (omega (arith, empty.1))
              | inr among ↦ among
            ]
      ];
    }

-- in so many steps
pub steps-IsCollectingRows : (b : BookTerms) (v w : Knowledge) (a : ℕ) (own : OpenRequest) (list : List OpenRequest) (s made : ℕ) → HasAsked b v a own
    → IsCollectingRows v w a own list s made → s ≡ slots_of (account_of b a)
    → made + REQUEST_WORDS ≡ slots_of (account_of b a) + REQUEST_WORDS * length list
steps-IsCollectingRows b v w a own list s made asked all whole =
    omega (arith, whole, all.steps_after (omega (arith, whole, asked.slot_in.within)))

-- the seat's own request is the last one still
pub HasAsked-IsCollectingRows : (b : BookTerms) (v w : Knowledge) (a : ℕ) (own : OpenRequest) (list : List OpenRequest) (s made : ℕ) → HasAccount v a
    → HasAsked b v a own → IsCollectingRows v w a own list s made → HasAsked b w a own
HasAsked-IsCollectingRows b v w a own list s made has asked all =
    let same = announced-LoadsOnly v w a all.rows all.words has all.loads in
    record {
      slot_in = subst (λ p. HasSlot b p a own.slot) (sym (first-LoadsOnly v w a all.rows all.words all.loads)) asked.slot_in;
      last = subst (λ (row : List Request). IsLastRequest row own.number) (sym same) asked.last;
      same = ap (λ (row : List Request). request_at row own.number) same ∙ asked.same;
    }

-- the seat has seen its own request
pub SeesRequest-HasAsked : (b : BookTerms) (v : Knowledge) (a : ℕ) (own : OpenRequest) → v.book ≡ b → (process published : ℕ) → IsSeat v process published → HasAsked b v a own
    → SeesRequest v a own.slot own.number (request_of own)
SeesRequest-HasAsked b v a own book process published seat asked =
    let slot_in : HasSlot v.book v.first a own.slot = subst (λ (t : BookTerms). HasSlot t v.first a own.slot) (sym book) asked.slot_in in
    subst (SeesRequest v a own.slot own.number) asked.same (seat.asked a own.slot own.number slot_in (omega (arith, asked.last)))
