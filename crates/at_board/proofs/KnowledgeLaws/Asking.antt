-- What stays of the parts of processes when a seat learns more, when rows of requests grow, or when words of requests change.
use Rattle.std.proofs.Common.{◌≡◌, ◌≢◌, ℕ, ◌+◌, ◌<◌, List, length, get_or, set, refl, sym, subst, ◌∙◌, arith, inl, inr, ap, Some}
use Rattle.at_board.proofs.Prelude.{cases_eq, get_or-set_other, get_or-set_same, length-set, All-weaker, All, Contains, BookTerms, HasSlot, IsPrefix-refl, IsPrefix-count_of, Asked, Grows, SameAsked, SameAsked-refl, asked_of, length-Grows, request_at-Grows, with_asked, BoardState, request_at, IsPrefix, count_of, HasAsking, HasPart, IsAnnounced, Knows, part_asking, asking_on, no_asking, own_part, part_at, with_part, IsAddress, request_word, word_at, Asking, LoadedWord, Part, SeenRequest, Knowledge}
use Rattle.at_board.proofs.WordLaws.Same.{SameRecordWords}

pub IsAnnounced-Grows : (s : BoardState) (t : Asked) (x : SeenRequest) → Grows s.rows t.rows → IsAnnounced s x → IsAnnounced (with_asked s t) x
IsAnnounced-Grows s t x grows is =
    (omega (arith, is.0, length-Grows s.rows t.rows x.account x.slot grows), request_at-Grows s.rows t.rows x.account x.slot x.number grows is.0 ∙ is.1)

pub all_announced : (s : BoardState) (t : Asked) (xs : List SeenRequest) → Grows s.rows t.rows → All (IsAnnounced s) xs → All (IsAnnounced (with_asked s t)) xs
all_announced s t xs grows is = All-weaker (IsAnnounced s) (IsAnnounced (with_asked s t)) (λ x. IsAnnounced-Grows s t x grows) xs is

pub loaded-Grows : (s : BoardState) (t : Asked) (ls : List LoadedWord) → Grows s.rows t.rows → All (λ l. IsAnnounced s l.request) ls
    → All (λ l. IsAnnounced (with_asked s t) l.request) ls
loaded-Grows s t ls grows is =
    All-weaker (λ (l : LoadedWord). IsAnnounced s l.request) (λ (l : LoadedWord). IsAnnounced (with_asked s t) l.request)
    (λ l. IsAnnounced-Grows s t l.request grows) ls is

-- all requests that were seen are seen after
abbrev pub SeesMore : Knowledge → Knowledge → Type 0
SeesMore v u = (x : SeenRequest) → Contains v.requests x → Contains u.requests x

-- the words of one request are the same
abbrev pub SameRequest : BookTerms → List ℕ → List ℕ → ℕ → ℕ → ℕ → Type 0
SameRequest b words after a slot i = (j : ℕ) → IsAddress b (request_word a slot i j) →
    word_at b after (request_word a slot i j) ≡ word_at b words (request_word a slot i j)

-- a slot and the words of its next request are the same
abbrev pub SameAsking : BookTerms → List ℕ → List ℕ → Asked → Asked → ℕ → ℕ → Asking → Type 0
SameAsking b words after t u a slot w = SameAsked t u a slot × SameRequest b words after a slot (length w.announced)

pub HasAsking-kept : (b : BookTerms) (words after : List ℕ) (s : BoardState) (t : Asked) (v u : Knowledge) (a slot : ℕ) (w : Asking)
    → Grows s.rows t.rows → IsPrefix v.seen u.seen → SeesMore v u → SameAsking b words after (asked_of s) t a slot w
    → HasAsking b words s v a slot w → HasAsking b after (with_asked s t) u a slot w
HasAsking-kept b words after s t v u a slot w grows longer more same has = record {
  announced = has.announced ∙ sym same.0.row;
  seen = λ i within. more _ (has.seen i within);
  sized = has.sized;
  stored = λ j is. same.1 j is ∙ has.stored j is;
  heard = has.heard ∙ sym same.0.heard;
  rows = has.rows ∙ sym same.0.seen_rows;
  loaded = loaded-Grows s t w.loaded grows has.loaded;
}

-- what a step leaves of a part
pub record IsLeft (b : BookTerms) (words after : List ℕ) (t u : Asked) (p : ℕ) (q : Part) : Type 0 where
  pub record_words : SameRecordWords b words after p q.published
  pub asking : (a slot : ℕ) → HasSlot b p a slot → SameAsking b words after t u a slot (asking_on q a)

-- nothing changes where no word and nothing of the requests does
pub IsLeft-refl : (b : BookTerms) (words : List ℕ) (t : Asked) (p : ℕ) (q : Part) → IsLeft b words words t t p q
IsLeft-refl b words t p q = record { record_words = λ j is. refl; asking = λ a slot slot_in. (SameAsked-refl t a slot, λ j is. refl) }

pub HasPart-kept : (b : BookTerms) (words after : List ℕ) (s : BoardState) (t : Asked) (v u : Knowledge) (p : ℕ) (q : Part)
    → Grows s.rows t.rows → IsPrefix v.seen u.seen → SeesMore v u → count_of p u.seen ≡ q.published → IsLeft b words after (asked_of s) t p q
    → HasPart b words s v p q → HasPart b after (with_asked s t) u p q
HasPart-kept b words after s t v u p q grows longer more counted left has = record {
  known = has.known;
  published = has.published;
  seen = counted;
  sized = has.sized;
  stored = λ j is. left.record_words j is ∙ has.stored j is;
  held = has.held;
  lengths = has.lengths;
  accounts = has.accounts;
  asking = λ a slot slot_in. HasAsking-kept b words after s t v u a slot (asking_on q a) grows longer more (left.asking a slot slot_in) (has.asking a slot slot_in);
}

-- the part with something new on an account
pub HasPart-asking : (b : BookTerms) (words after : List ℕ) (s : BoardState) (t : Asked) (v u : Knowledge) (p : ℕ) (q : Part) (a : ℕ) (w : Asking)
    → Grows s.rows t.rows → IsPrefix v.seen u.seen → SeesMore v u → count_of p u.seen ≡ q.published
    → SameRecordWords b words after p q.published
    → ((c slot : ℕ) → c ≢ a → HasSlot b p c slot → SameAsking b words after (asked_of s) t c slot (asking_on q c))
    → ((slot : ℕ) → HasSlot b p a slot → HasAsking b after (with_asked s t) u a slot w)
    → HasPart b words s v p q → HasPart b after (with_asked s t) u p (part_asking q a w)
HasPart-asking b words after s t v u p q a w grows longer more counted same_records others new has = record {
  known = has.known;
  published = has.published;
  seen = counted;
  sized = has.sized;
  stored = λ j is. same_records j is ∙ has.stored j is;
  held = has.held;
  lengths = has.lengths;
  accounts = length-set q.asking a w ∙ has.accounts;
  asking = λ c slot slot_in.
      elim (cases_eq c a) as (λ _. HasAsking b after (with_asked s t) u c slot (get_or (set q.asking a w) c no_asking)) [
        | inl here ↦
            let inside : a < length q.asking = omega (arith, slot_in.account_in, has.accounts, here) in
            let mine = new slot (subst (λ k. HasSlot b p k slot) here slot_in) in
            subst (λ k. HasAsking b after (with_asked s t) u k slot (get_or (set q.asking a w) k no_asking)) (sym here)
            (subst (HasAsking b after (with_asked s t) u a slot) (sym (get_or-set_same q.asking a w no_asking inside)) mine)
        | inr apart ↦
            subst (HasAsking b after (with_asked s t) u c slot) (sym (get_or-set_other q.asking a c w no_asking apart))
            (HasAsking-kept b words after s t v u c slot (asking_on q c) grows longer more (others c slot apart slot_in) (has.asking c slot slot_in))
      ];
}

-- what another seat knows
pub Knows-kept : (b : BookTerms) (words after : List ℕ) (s : BoardState) (t : Asked) (v : Knowledge) → Grows s.rows t.rows
    → ((k : ℕ) → k < length v.parts → IsLeft b words after (asked_of s) t (v.first + k) (part_at v k))
    → Knows b words s v → Knows b after (with_asked s t) v
Knows-kept b words after s t v grows left knows = record {
  seen = knows.seen;
  requests = all_announced s t v.requests grows knows.requests;
  decisions = knows.decisions;
  parts = λ k within. HasPart-kept b words after s t v v (v.first + k) (part_at v k) grows (IsPrefix-refl v.seen) (λ x sees. sees) (knows.parts k within).seen (left k within) (knows.parts k within);
}

-- a seat with a longer list, and the same requests
pub HasAsking-longer : (b : BookTerms) (words : List ℕ) (s : BoardState) (v u : Knowledge) (a slot : ℕ) (w : Asking)
    → IsPrefix v.seen u.seen → u.requests ≡ v.requests → HasAsking b words s v a slot w → HasAsking b words s u a slot w
HasAsking-longer b words s v u a slot w longer same has = record {
  announced = has.announced;
  seen = λ i within. subst (λ (rs : List SeenRequest). Contains rs (record { account = a; slot = slot; number = i; request = request_at w.announced i })) (sym same) (has.seen i within);
  sized = has.sized;
  stored = has.stored;
  heard = has.heard;
  rows = has.rows;
  loaded = has.loaded;
}

-- a seat that has seen all, and the same requests
pub HasPart-all : (b : BookTerms) (words : List ℕ) (s : BoardState) (v u : Knowledge) (p : ℕ) (q : Part)
    → IsPrefix v.seen s.published → u.seen ≡ s.published → u.requests ≡ v.requests → HasPart b words s v p q → HasPart b words s u p q
HasPart-all b words s v u p q before all same has = record {
  known = has.known;
  published = has.published;
  seen = ap (count_of p) all ∙ sym has.published;
  sized = has.sized;
  stored = has.stored;
  held = has.held;
  lengths = has.lengths;
  accounts = has.accounts;
  asking = λ a slot slot_in. HasAsking-longer b words s v u a slot _ (subst (IsPrefix v.seen) (sym all) before) same (has.asking a slot slot_in);
}

-- each request of one list stands in the other
abbrev pub HasRequests : List SeenRequest → List SeenRequest → Type 0
HasRequests more rs = (x : SeenRequest) → Contains rs x → Contains more x

HasAsking-more : (b : BookTerms) (words : List ℕ) (s : BoardState) (v u : Knowledge) (a slot : ℕ) (w : Asking)
    → IsPrefix v.seen u.seen → HasRequests u.requests v.requests → HasAsking b words s v a slot w → HasAsking b words s u a slot w
HasAsking-more b words s v u a slot w longer more has = record {
  announced = has.announced;
  seen = λ i within. more (record { account = a; slot = slot; number = i; request = request_at w.announced i }) (has.seen i within);
  sized = has.sized;
  stored = has.stored;
  heard = has.heard;
  rows = has.rows;
  loaded = has.loaded;
}

pub HasPart-more : (b : BookTerms) (words : List ℕ) (s : BoardState) (v u : Knowledge) (p : ℕ) (q : Part)
    → IsPrefix v.seen u.seen → IsPrefix u.seen s.published → HasRequests u.requests v.requests
    → HasPart b words s v p q → HasPart b words s u p q
HasPart-more b words s v u p q longer before more has = record {
  known = has.known;
  published = has.published;
  seen = omega (arith, has.seen, has.published, IsPrefix-count_of p v.seen u.seen longer, IsPrefix-count_of p u.seen s.published before);
  sized = has.sized;
  stored = has.stored;
  held = has.held;
  lengths = has.lengths;
  accounts = has.accounts;
  asking = λ a slot slot_in. HasAsking-more b words s v u a slot (asking_on q a) longer more (has.asking a slot slot_in);
}

-- the part that was set is the seat's own
pub own_part-with_part : (v : Knowledge) (q : Part) → 0 < length v.parts → own_part (with_part v q) ≡ q
own_part-with_part v q part = get_or-set_same v.parts 0 q _ part

-- a process has one slot on an account
pub same_slot : (b : BookTerms) (p a slot other : ℕ) → HasSlot b p a slot → HasSlot b p a other → slot ≡ other
same_slot b p a slot other one two = let e : Some slot ≡ Some other = sym one.owner ∙ two.owner in cc
