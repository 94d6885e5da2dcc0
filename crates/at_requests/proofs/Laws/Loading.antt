-- The words of an announced request that are loaded one after another.
use Rattle.std.proofs.Common.{◌≡◌, ℕ, ◌+◌, ◌<◌, ◌^◌, List, [], ◌∷◌, ◌++◌, length, get_or, set, replicate, refl, sym, ap, subst, ◌∙◌, arith, below_more, inl, inr}
use Rattle.at_requests.proofs.Prelude.{cases_lt, replicate_next, same_number_lists, append_assoc, get_or-replicate, get_or-set_other, get_or-set_same, length-map, length-replicate, All-contains, All-map, All-weaker, Contains-append_right, get_or-map-range_with_len, length-map-range_with_len, map-range_with_len_more, Contains, BookTerms, IsBook, AreTargetsOn, TargetPair, AreTargets, Request, DecisionInRange, RequestInRange, SeesInRange, SeesRequest, asking_on, own_part, seen_as, with_asking, KnowsOf, LoadsRequestWord, with_loaded, request_words, ArePacked, accounts_of, Asking, Knowledge, LoadedWord, SeenRequest, REQUEST_WORDS, opened, LoadsRequest, first_words, with_words, loaded_words, IsLoaded, IsLoading, with_first_words, OpenRequest}
use Rattle.at_requests.proofs.Laws.Accounts.{HasAccount, asking_on-with_asking, with_asking-again}

-- the account of a request that the seat knows of is one of the book's
pub account-KnowsOf : (v : Knowledge) (a slot number : ℕ) → SeesInRange v → KnowsOf v a slot number → a < length v.book.accounts
account-KnowsOf v a slot number range (inl (r, sees)) =
    (All-contains (RequestInRange v.book) v.requests (seen_as a slot number r) range.requests sees).words.0
account-KnowsOf v a slot number range (inr (round, d, sees, slot_is, number_is)) =
    (All-contains (DecisionInRange v.book) v.decisions (record { account = a; round = round; decision = d }) range.decisions sees).words.0

pub IsLoaded-start : (b : BookTerms) (v : Knowledge) (a slot number : ℕ) (words : List ℕ) → IsLoaded b v v a slot number words 0
IsLoaded-start b v a slot number words = record { start = λ none. refl; loading = λ some. absurd (omega (arith, some)) }

-- the first word
IsLoading-first : (b : BookTerms) (v w : Knowledge) (a slot number : ℕ) (words : List ℕ) (n : ℕ) → 0 < length words
    → LoadsRequestWord b v w a slot number 0 n → IsLoading b v w a slot number (set words 0 n) 1
IsLoading-first b v w a slot number words n some told = record {
  request = told.request;
  known = told.known;
  targets = told.targets;
  since = told.since;
  same = told.same;
  words_so_far = λ k below.
      let first : k ≡ 0 = omega (arith, below) in
      subst (λ i. get_or (set words 0 n) i 0 ≡ get_or (request_words told.request) i 0) (sym first) (get_or-set_same words 0 n 0 some ∙ told.word);
}

-- a seat that has loaded some words has seen the request
SeesRequest-with_first_words : (v : Knowledge) (a : ℕ) (x : SeenRequest) (j : ℕ) → 0 < j → Contains (v.requests ++ replicate j x) x
SeesRequest-with_first_words v a x j some =
    Contains-append_right v.requests (replicate j x) x (0, omega (arith, some, length-replicate j x), get_or-replicate j 0 x x some)

-- one more word
first_words-more : (w : Asking) (x : SeenRequest) (j : ℕ) → with_loaded (with_words w (first_words x j)) x j ≡ with_words w (first_words x (j + 1))
first_words-more w x j =
    let f : ℕ → LoadedWord = λ k. record { request = x; word = k } in
    ap (λ (ls : List LoadedWord). record w { loaded = ls })
    (append_assoc w.loaded (first_words x j) (record { request = x; word = j } ∷ [])
    ∙ ap (λ (ls : List LoadedWord). w.loaded ++ ls) (sym (map-range_with_len_more f 0 j j (omega arith))))

requests-more : (rs : List SeenRequest) (x : SeenRequest) (j : ℕ) → (rs ++ replicate j x) ++ x ∷ [] ≡ rs ++ replicate (j + 1) x
requests-more rs x j = append_assoc rs (replicate j x) (x ∷ []) ∙ ap (λ (xs : List SeenRequest). rs ++ xs) (sym (replicate_next j x))

with_first_words-more : (v : Knowledge) (a : ℕ) (x : SeenRequest) (j : ℕ) → HasAccount v a
    → let u : Knowledge = with_first_words v a x j in
    with_asking (record u { requests = u.requests ++ x ∷ [] }) a (with_loaded (asking_on (own_part u) a) x j) ≡ with_first_words v a x (j + 1)
with_first_words-more v a x j has =
    let w : Asking = asking_on (own_part v) a in
    let now : Asking = with_words w (first_words x j) in
    let before : Knowledge = record v { requests = v.requests ++ replicate j x } in
    let u : Knowledge = with_asking before a now in
    let rs = u.requests ++ x ∷ [] in
    let here : HasAccount before a = record { part = has.part; inside = has.inside } in
    ap (λ (t : Asking). with_asking (record u { requests = rs }) a (with_loaded t x j)) (asking_on-with_asking before a now here)
    ∙ (with_asking-again before v.seen rs a now (with_loaded now x j) here
    ∙ (ap (λ (t : Asking). with_asking (record v { requests = rs }) a t) (first_words-more w x j)
    ∙ ap (λ (xs : List SeenRequest). with_asking (record v { requests = xs }) a (with_words w (first_words x (j + 1)))) (requests-more v.requests x j)))

IsLoading-more : (b : BookTerms) (v u w : Knowledge) (a slot number : ℕ) (words : List ℕ) (j n : ℕ) → HasAccount v a → 0 < j → j < length words
    → IsLoading b v u a slot number words j → LoadsRequestWord b u w a slot number j n → IsLoading b v w a slot number (set words j n) (j + 1)
IsLoading-more b v u w a slot number words j n has some inside loading told =
    let r : Request = loading.request in
    let x : SeenRequest = seen_as a slot number r in
    let sees : SeesRequest u a slot number r =
    subst (λ t. SeesRequest t a slot number r) (sym loading.same) (SeesRequest-with_first_words v a x j some) in
    let is : told.request ≡ r = sym (told.known r sees) in
    let step : Knowledge → Request → Knowledge =
    λ t q. with_asking (record t { requests = t.requests ++ seen_as a slot number q ∷ [] }) a (with_loaded (asking_on (own_part t) a) (seen_as a slot number q) j) in
    record {
      request = r;
      known = loading.known;
      targets = loading.targets;
      since = loading.since;
      same = told.same ∙ (ap (step u) is ∙ (ap (λ t. step t r) loading.same ∙ with_first_words-more v a x j has));
      words_so_far = below_more (λ k. get_or (set words j n) k 0 ≡ get_or (request_words r) k 0) j
          (λ k below. get_or-set_other words j k n 0 (omega arith) ∙ loading.words_so_far k below)
          (get_or-set_same words j n 0 inside ∙ (told.word ∙ ap (λ q. get_or (request_words q) j 0) is));
    }

pub IsLoaded-more : (b : BookTerms) (v u w : Knowledge) (a slot number : ℕ) (words : List ℕ) (j n : ℕ) → HasAccount v a → j < length words
    → IsLoaded b v u a slot number words j → LoadsRequestWord b u w a slot number j n → IsLoaded b v w a slot number (set words j n) (j + 1)
IsLoaded-more b v u w a slot number words j n has inside so_far told = record {
  start = λ none. absurd (omega (arith, none));
  loading = λ next. elim (cases_lt 0 j) as (λ _. IsLoading b v w a slot number (set words j n) (j + 1)) [
    | inl some ↦ IsLoading-more b v u w a slot number words j n has some inside (so_far.loading some) told
    | inr none ↦
        let first : j ≡ 0 = omega (arith, none) in
        let here : LoadsRequestWord b v w a slot number 0 n =
        subst (λ t. LoadsRequestWord b t w a slot number 0 n) (so_far.start first) (subst (λ i. LoadsRequestWord b u w a slot number i n) first told) in
        subst (λ i. IsLoading b v w a slot number (set words i n) (i + 1)) (sym first) (IsLoading-first b v w a slot number words n (omega (arith, inside)) here)
  ];
}

-- the seat may load another word
pub KnowsOf-IsLoaded : (b : BookTerms) (v u : Knowledge) (a slot number : ℕ) (words : List ℕ) (j : ℕ) → IsLoaded b v u a slot number words j → KnowsOf v a slot number
    → KnowsOf u a slot number
KnowsOf-IsLoaded b v u a slot number words j so_far knows = elim (cases_lt 0 j) as (λ _. KnowsOf u a slot number) [
  | inl some ↦
      let loading = so_far.loading some in
      let x : SeenRequest = seen_as a slot number loading.request in
      inl (loading.request, subst (λ t. SeesRequest t a slot number loading.request) (sym loading.same) (SeesRequest-with_first_words v a x j some))
  | inr none ↦ subst (λ t. KnowsOf t a slot number) (sym (so_far.start (omega (arith, none)))) knows
]

-- the words of a request are those of all its words
pub Contains-loaded_words : (x : SeenRequest) (j : ℕ) → j < REQUEST_WORDS → Contains (loaded_words x) (record { request = x; word = j })
Contains-loaded_words x j within =
    let f : ℕ → LoadedWord = λ k. record { request = x; word = k } in
    (j, omega (arith, within, length-map-range_with_len f 0 REQUEST_WORDS), get_or-map-range_with_len f 0 REQUEST_WORDS j j (f j) within (omega arith))

-- all words are loaded
LoadsRequest-whole : (b : BookTerms) (v w : Knowledge) (a slot number : ℕ) (words : List ℕ) → HasAccount v a
    → (loading : IsLoading b v w a slot number words REQUEST_WORDS)
    → LoadsRequest b v w a slot number (opened slot number loading.request.targets loading.request.since)
LoadsRequest-whole b v w a slot number words has loading =
    let r : Request = loading.request in
    let x : SeenRequest = seen_as a slot number r in
    let all : List LoadedWord = (asking_on (own_part v) a).loaded ++ loaded_words x in
    let there : (asking_on (own_part w) a).loaded ≡ all =
    ap (λ t. (asking_on (own_part t) a).loaded) loading.same
    ∙ ap (λ (t : Asking). t.loaded) (asking_on-with_asking (record v { requests = v.requests ++ replicate REQUEST_WORDS x }) a
    (with_words (asking_on (own_part v) a) (loaded_words x)) (record { part = has.part; inside = has.inside })) in
    record {
      slot_is = refl;
      number_is = refl;
      known = loading.known;
      sees = subst (λ t. SeesRequest t a slot number r) (sym loading.same) (SeesRequest-with_first_words v a x REQUEST_WORDS (omega arith));
      targets = loading.targets;
      since = loading.since;
      loaded = λ j within. subst (λ (ls : List LoadedWord). Contains ls (record { request = x; word = j })) (sym there)
          (Contains-append_right (asking_on (own_part v) a).loaded (loaded_words x) (record { request = x; word = j }) (Contains-loaded_words x j within));
      same = loading.same;
    }

-- the list is that of the request's words
pub words-IsLoading : (b : BookTerms) (v w : Knowledge) (a slot number : ℕ) (words : List ℕ) → length words ≡ REQUEST_WORDS
    → (loading : IsLoading b v w a slot number words REQUEST_WORDS) → words ≡ request_words loading.request
words-IsLoading b v w a slot number words sized loading =
    same_number_lists words (request_words loading.request) sized (λ k within. loading.words_so_far k (omega (arith, within, sized)))

-- and each of them is of that request
pub request-loaded_words : (x : SeenRequest) (l : LoadedWord) → Contains (loaded_words x) l → l.request ≡ x
request-loaded_words x l (k, within, is) =
    let f : ℕ → LoadedWord = λ i. record { request = x; word = i } in
    let here : k < REQUEST_WORDS = omega (arith, within, length-map-range_with_len f 0 REQUEST_WORDS) in
    ap (λ (t : LoadedWord). t.request) (sym is ∙ get_or-map-range_with_len f 0 REQUEST_WORDS k k l here (omega arith))

-- each of them is one of at most 1,024 accounts
pub AreTargetsOn-AreTargets : (b : BookTerms) (targets : List TargetPair) → IsBook b → AreTargets b targets → AreTargetsOn (2 ^ 10) targets
AreTargetsOn-AreTargets b targets book are =
    All-weaker (λ (t : TargetPair). t.0 < length b.accounts) (λ (t : TargetPair). t.0 < 2 ^ 10) (λ t below. omega (arith, below, book.begun.few_accounts))
    targets are.accounts

-- targets fit their word
pub ArePacked-AreTargets : (b : BookTerms) (targets : List TargetPair) → IsBook b → AreTargets b targets → ArePacked (accounts_of targets)
ArePacked-AreTargets b targets book are = record {
  some = omega (arith, are.some, length-map targets (λ (t : TargetPair). t.0));
  few = omega (arith, are.few, length-map targets (λ (t : TargetPair). t.0));
  small = All-map (λ account. account < 2 ^ 10) (λ (t : TargetPair). t.0) targets (AreTargetsOn-AreTargets b targets book are);
}

-- the last word is small enough for a number of 32 bits
pub since-IsLoading : (b : BookTerms) (v w : Knowledge) (a slot number : ℕ) (words : List ℕ) → IsLoading b v w a slot number words REQUEST_WORDS
    → get_or words 5 0 < 2 ^ 32
since-IsLoading b v w a slot number words loading = omega (arith, loading.since, loading.words_so_far 5 (omega arith))

-- so the request of these words is the one that was announced
pub LoadsRequest-IsLoading : (b : BookTerms) (v w : Knowledge) (a slot number : ℕ) (words : List ℕ) (x : OpenRequest) → IsBook b → HasAccount v a
    → length words ≡ REQUEST_WORDS → IsLoading b v w a slot number words REQUEST_WORDS
    → ((r : Request) → ArePacked (accounts_of r.targets) → words ≡ request_words r → x ≡ opened slot number r.targets r.since)
    → LoadsRequest b v w a slot number x
LoadsRequest-IsLoading b v w a slot number words x book has sized loading told =
    let r : Request = loading.request in
    subst (LoadsRequest b v w a slot number)
    (sym (told r (ArePacked-AreTargets b r.targets book loading.targets) (words-IsLoading b v w a slot number words sized loading)))
    (LoadsRequest-whole b v w a slot number words has loading)
