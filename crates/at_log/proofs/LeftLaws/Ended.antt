-- The end of a board: receipts that stand with a seat account for its process in all that was ever published.
use Rattle.std.proofs.Common.{◌≡◌, ℕ, ◌<◌, ◌≤◌, true, List, length, take, sym, ap, arith, inl, inr}
use Rattle.at_log.proofs.Prelude.{cases_lt, take_all, BookTerms, HasSlot, named-is_settled, is_settled-named, IsPrefix-refl, owns_of-IsPrefix, BoardState, IsHistory, IsPrefix, count_of, is_settled, named, Sound, Publication, Request, asking_on, own_part, Knowledge, Told, Receipt, IsBetweenCalls, StandsWith, own_rows, AreInOrder}
use Rattle.at_log.proofs.LeftLaws.Counts.{named-IsPrefix, named-at_least}
use Rattle.at_log.proofs.LeftLaws.Order.{AreInOrder-count_of, AreInOrder-rows}
use Rattle.at_log.proofs.LeftLaws.Told.{Told-IsPrefix}

-- the rounds of a state name a slot at most once for each of its announced requests
pub named-announced : (b : BookTerms) (s : BoardState) (a slot : ℕ) → Sound b s → IsHistory b s.published
    → named a slot s.published ≤ length (s.rows a slot)
named-announced b s a slot sound history =
    let xs = s.published in
    let n = length (s.rows a slot) in
    let all : take (length xs) xs ≡ xs = take_all (length xs) xs (omega arith) in
    elim (cases_lt n (named a slot xs)) as (λ _. named a slot xs ≤ n) [
      | inl past ↦
          let settled = is_settled-named b xs (length xs) a slot n history (omega arith) (omega (arith, past, ap (named a slot) all)) in
          let found = named-is_settled b s (length xs) a slot n sound settled in
          let named_in = found.1 in
          let announced = (sound.decisions a found.0 named_in.within).announced in
          absurd (omega (arith, announced, named_in.number_is, ap (λ k. length (s.rows a k)) named_in.slot_is))
      | inr fits ↦ fits
    ]

-- where all announced requests of a slot are settled in a list, as many rounds name the slot there as in each longer list of the state
pub named-settled : (b : BookTerms) (s : BoardState) (list more : List Publication) (a slot : ℕ) → Sound b s → IsHistory b s.published
    → IsHistory b list → IsPrefix list more → IsPrefix more s.published
    → ((number : ℕ) → number < length (s.rows a slot) → is_settled a slot number list ≡ true) → named a slot more ≡ named a slot list
named-settled b s list more a slot sound history listed before within settled =
    omega (
      arith,
      named-at_least b list a slot (length (s.rows a slot)) listed settled,
      named-IsPrefix a slot list more before,
      named-IsPrefix a slot more s.published within,
      named-announced b s a slot sound history,
    )

-- receipts that stand with a seat account for its process in what its board has published, where the seat has seen all that its
-- process published and the board has the rows of requests that the seat has
pub Told-ended : (b : BookTerms) (s : BoardState) (v : Knowledge) (receipts : List Receipt) → Sound b s → IsHistory b s.published
    → IsHistory b v.seen → IsPrefix v.seen s.published → count_of v.first s.published ≡ count_of v.first v.seen
    → ((a slot : ℕ) → HasSlot b v.first a slot → s.rows a slot ≡ (asking_on (own_part v) a).announced) → StandsWith b v receipts
    → Told b v.first s.published receipts
Told-ended b s v receipts sound history seen before counted rows stands =
    Told-IsPrefix b v.first v.seen s.published receipts seen before (owns_of-IsPrefix v.first v.seen s.published before (sym counted))
    (λ a slot has.
    named-settled b s v.seen s.published a slot sound history seen before (IsPrefix-refl s.published)
    (λ number within.
    stands.between.settled a slot number has (omega (arith, within, ap (λ (row : List Request). length row) (rows a slot has)))))
    stands.told

-- and its own records and requests are in order there
pub AreInOrder-ended : (b : BookTerms) (s : BoardState) (v : Knowledge) → IsPrefix v.seen s.published
    → count_of v.first s.published ≡ count_of v.first v.seen
    → ((a slot : ℕ) → HasSlot b v.first a slot → s.rows a slot ≡ (asking_on (own_part v) a).announced) → IsBetweenCalls b v
    → AreInOrder b v.first s.published s.rows
AreInOrder-ended b s v before counted rows between =
    AreInOrder-rows b v.first s.published (own_rows v) s.rows rows
    (AreInOrder-count_of b v.first v.seen s.published (own_rows v) before counted between.order)
