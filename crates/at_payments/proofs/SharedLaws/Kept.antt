-- A helping stays one, whatever its turns do.
use Rattle.std.proofs.Common.{◌≡◌, ◌⊎◌, ℕ, Bool, true, List, None, sym, ap, subst, ◌∙◌, arith, inl, inr}
use Rattle.at_payments.proofs.Prelude.{or_left, Contains-append_cases, Contains-append_left, list_any-append, Contains, list_any, BookTerms, HasSlot, IsPrefix-length, rounds-IsPrefix, request_at, settles, IsLastRequest, IsPrefix, is_settled, Publication, Request, HasLoadedRow, IsCandidate, HasLoadedRequest, asking_on, own_part, seen_as, Asking, Knowledge, LoadedWord, SeenRequest, IsAmong, seen_of, HelpingTerms, IsHelpingAt}
use Rattle.at_payments.proofs.SharedLaws.After.{IsAfter, with_more}

-- what is settled stays so
pub is_settled-IsPrefix : (a slot number : ℕ) (xs ys : List Publication) → IsPrefix xs ys → is_settled a slot number xs ≡ true
    → is_settled a slot number ys ≡ true
is_settled-IsPrefix a slot number xs ys (more, e) settled =
    let test : Publication → Bool = λ y. settles a slot number y.entry in
    ap (list_any test) e ∙ (list_any-append test xs more ∙ or_left (list_any test xs) (list_any test more) settled)

-- what was loaded stays so
HasLoadedRequest-more : (t : Asking) (n : ℕ) (words : List LoadedWord) (y : SeenRequest) → HasLoadedRequest t y → HasLoadedRequest (with_more t n words) y
HasLoadedRequest-more t n words y loaded j within = Contains-append_left t.loaded words (record { request = y; word = j }) (loaded j within)

HasLoadedRow-more : (t : Asking) (n a slot : ℕ) (words : List LoadedWord) → HasLoadedRow t a slot → HasLoadedRow (with_more t n words) a slot
HasLoadedRow-more t n a slot words (count, row, last) = (
  count,
  row,
  λ number is. let (r, loaded) = last number is in (r, HasLoadedRequest-more t n words (seen_as a slot number r) loaded),
)

IsCandidate-more : (t : Asking) (n a slot : ℕ) (words : List LoadedWord) (y : SeenRequest) → IsCandidate t a slot y → IsCandidate (with_more t n words) a slot y
IsCandidate-more t n a slot words y (inl own) = inl own
IsCandidate-more t n a slot words y (inr loaded) = inr (HasLoadedRequest-more t n words y loaded)

-- the words that were loaded besides are of requests that are settled or were collected
abbrev pub AreKnownWords : HelpingTerms → List Publication → List LoadedWord → Type 0
AreKnownWords h list words =
    (l : LoadedWord) → Contains words l → IsAmong h.account h.asked l.request ⊎ (is_settled h.account l.request.slot l.request.number list ≡ true)

pub IsHelpingAt-IsAfter : (b : BookTerms) (v w : Knowledge) (list all : List Publication) (h : HelpingTerms) (n : ℕ) (words : List LoadedWord)
    → IsAfter v w h.account n words → (own_part w).held ≡ None → IsPrefix list all → AreKnownWords h all words → IsHelpingAt b v list h
    → IsHelpingAt b w all h
IsHelpingAt-IsAfter b v w list all h n words after free longer known is =
    let a = h.account in
    let old : Asking = asking_on (own_part v) a in
    let back = sym after.asking in
    let announced : (asking_on (own_part w) a).announced ≡ old.announced = ap (λ (t : Asking). t.announced) after.asking in
    record {
      asked = record {
        slot_in = subst (λ p. HasSlot b p a h.own.slot) (sym after.first) is.asked.slot_in;
        last = subst (λ (row : List Request). IsLastRequest row h.own.number) (sym announced) is.asked.last;
        same = ap (λ (row : List Request). request_at row h.own.number) announced ∙ is.asked.same;
      };
      room = is.room;
      since = omega (arith, is.since, IsPrefix-length list all longer);
      heard = omega (arith, is.heard, rounds-IsPrefix a list all longer, ap (λ (t : Asking). t.heard) after.asking);
      free = free;
      collected = record {
        slot_in = subst (λ p. HasSlot b p a h.own.slot) (sym after.first) is.collected.slot_in;
        rows = λ other within apart. subst (λ (t : Asking). HasLoadedRow t a other) back (HasLoadedRow-more old n a other words (is.collected.rows other within apart));
      };
      own_in = is.own_in;
      slots = is.slots;
      seen = λ x among. after.requests (seen_of a x) (is.seen x among);
      candidates = λ x among. subst (λ (t : Asking). IsCandidate t a h.own.slot (seen_of a x)) back (IsCandidate-more old n a h.own.slot words (seen_of a x) (is.candidates x among));
      loaded = λ l there.
          elim (Contains-append_cases old.loaded words l (subst (λ (t : Asking). Contains t.loaded l) after.asking there))
          as (λ _. IsAmong a h.asked l.request ⊎ (is_settled a l.request.slot l.request.number all ≡ true)) [
            | inl before ↦ elim (is.loaded l before) as (λ _. IsAmong a h.asked l.request ⊎ (is_settled a l.request.slot l.request.number all ≡ true)) [
              | inl among ↦ inl among
              | inr settled ↦ inr (is_settled-IsPrefix a l.request.slot l.request.number list all longer settled)
            ]
            | inr new ↦ known l new
          ];
    }
