-- A load of an announced request from one turn to the next.
use Rattle.std.proofs.Common.{◌≡◌, ℕ, ◌<◌, ◌^◌, List, length, get_or, set, sym, ap, subst, ◌∙◌, arith, inl, inr}
use Rattle.at_machines.proofs.Prelude.{cases_lt, BookTerms, Request, IsKept, KnowsOf, LoadsRequestWord, MayLoadRequest, request_words, ArePacked, accounts_of, Knowledge, REQUEST_WORDS, HasAccount, HasAccount-IsSeat, IsLoaded-more, IsLoaded-start, KnowsOf-IsLoaded, LoadsRequest-IsLoading, account-KnowsOf, since-IsLoading, opened, IsLoading, LoadsRequest, OpenRequest, own_part, IsLoadingRequestSo, LoadingRequestTerms, request_after, starting_request}

pub IsLoadingRequestSo-start : (v : Knowledge) (a slot number : ℕ) (words : List ℕ) → IsKept v → KnowsOf v a slot number
    → IsLoadingRequestSo (starting_request v a slot number) words
IsLoadingRequestSo-start v a slot number words kept known = record {
  seat = kept;
  known = known;
  within = omega arith;
  so_far = IsLoaded-start v.book v a slot number words;
}

-- the book stays
pub book-IsLoadingRequestSo : (l : LoadingRequestTerms) (words : List ℕ) → IsLoadingRequestSo l words → l.mark.book ≡ l.start.book
book-IsLoadingRequestSo l words so =
    elim (cases_lt 0 l.loaded) as (λ _. l.mark.book ≡ l.start.book) [
      | inl some ↦ ap (λ (t : Knowledge). t.book) (so.so_far.loading some).same
      | inr none ↦ ap (λ (t : Knowledge). t.book) (so.so_far.start (omega arith))
    ]

-- the seat has something on the account
has_account : (l : LoadingRequestTerms) (words : List ℕ) → IsLoadingRequestSo l words → HasAccount l.start l.account
has_account l words so =
    HasAccount-IsSeat l.start l.start.first (own_part l.start).published l.account so.seat
    (account-KnowsOf l.start l.account l.slot l.number so.seat.in_range so.known)

-- the next word may be loaded
pub MayLoadRequest-IsLoadingRequestSo : (l : LoadingRequestTerms) (words : List ℕ) → l.loaded < REQUEST_WORDS → IsLoadingRequestSo l words
    → MayLoadRequest l.mark l.account l.slot l.number l.loaded
MayLoadRequest-IsLoadingRequestSo l words left so = record {
  known = KnowsOf-IsLoaded l.start.book l.start l.mark l.account l.slot l.number words l.loaded so.so_far so.known;
  word = left;
}

-- what the board's book tells is told of the one at the start
pub IsLoadingRequestSo-turn : (b : BookTerms) (l : LoadingRequestTerms) (words : List ℕ) (w : Knowledge) (n : ℕ) → l.mark.book ≡ b → l.loaded < REQUEST_WORDS
    → length words ≡ REQUEST_WORDS → IsLoadingRequestSo l words → LoadsRequestWord b l.mark w l.account l.slot l.number l.loaded n
    → IsLoadingRequestSo (request_after l w) (set words l.loaded n)
IsLoadingRequestSo-turn b l words w n book left sized so told =
    let same : b ≡ l.start.book = sym book ∙ book-IsLoadingRequestSo l words so in
    record {
      seat = so.seat;
      known = so.known;
      within = omega (arith, left);
      so_far = IsLoaded-more l.start.book l.start l.mark w l.account l.slot l.number words l.loaded n (has_account l words so) (omega (arith, left, sized)) so.so_far
          (subst (λ (t : BookTerms). LoadsRequestWord t l.mark w l.account l.slot l.number l.loaded n) same told);
    }

-- all words are loaded
whole : (l : LoadingRequestTerms) (words : List ℕ) → l.loaded ≡ REQUEST_WORDS → IsLoadingRequestSo l words
    → IsLoading l.start.book l.start l.mark l.account l.slot l.number words REQUEST_WORDS
whole l words all so =
    subst (IsLoading l.start.book l.start l.mark l.account l.slot l.number words) all (so.so_far.loading (omega (arith, all)))

pub since-IsLoadingRequestSo : (l : LoadingRequestTerms) (words : List ℕ) → l.loaded ≡ REQUEST_WORDS → IsLoadingRequestSo l words → get_or words 5 0 < 2 ^ 32
since-IsLoadingRequestSo l words all so =
    since-IsLoading l.start.book l.start l.mark l.account l.slot l.number words (whole l words all so)

pub LoadsRequest-IsLoadingRequestSo : (b : BookTerms) (l : LoadingRequestTerms) (words : List ℕ) (x : OpenRequest) → l.mark.book ≡ b → length words ≡ REQUEST_WORDS
    → l.loaded ≡ REQUEST_WORDS → IsLoadingRequestSo l words
    → ((r : Request) → ArePacked (accounts_of r.targets) → words ≡ request_words r → x ≡ opened l.slot l.number r.targets r.since)
    → LoadsRequest b l.start l.mark l.account l.slot l.number x
LoadsRequest-IsLoadingRequestSo b l words x book sized all so told =
    subst (λ (t : BookTerms). LoadsRequest t l.start l.mark l.account l.slot l.number x) (sym (book-IsLoadingRequestSo l words so) ∙ book)
    (LoadsRequest-IsLoading l.start.book l.start l.mark l.account l.slot l.number words x so.seat.book (has_account l words so) sized (whole l words all so) told)
