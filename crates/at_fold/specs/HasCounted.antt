-- What totals have counted, of a list of publications that a seat has seen.
use Rattle.std.specs.Prelude.{◌≡◌, ℕ, ◌*◌, ◌^◌, ◌<◌, ◌≤◌, List, length, slice_index}
use Rattle.at_fold.specs.Prelude.{Covers, rounds_room, BookTerms, IsBook, account_of, Entry, Publication, credits, debits, publication_at, is_round, IsCut, slots_of, IsPrefix, count_of, counts, publications_of, named, rounds, IsHistory, list_any}
use Rattle.at_fold.specs.Counted.{IsSettledSo, counted_records}
use Rattle.at_fold.specs.Sums.{AccountSums, SlotSums, TotalSums, answer_at, is_counted, sums_at, slot_at}

-- the sums of a slot are those of the list
pub record IsSlotOf (b : BookTerms) (list : List Publication) (a slot : ℕ) (sums : SlotSums) : Type 0 where
  pub done : sums.done ≡ named a slot list
  pub room : length sums.settled ≡ b.request_room
  pub settled : (number : ℕ) → number < b.request_room → IsSettledSo list a slot number (answer_at sums number)

-- the sums of an account are those of the list, and no record of it adds more than four amounts of 64 bits
pub record IsAccountOf (b : BookTerms) (list : List Publication) (a : ℕ) (account_sums : AccountSums) : Type 0 where
  pub opening : account_sums.opening ≡ (account_of b a).opening
  pub credits : account_sums.credits ≡ credits a list
  pub debits : account_sums.debits ≡ debits a list
  pub small_credits : account_sums.credits ≤ length list * 2 ^ 66
  pub small_debits : account_sums.debits ≤ length list * 2 ^ 66
  pub rounds : account_sums.rounds ≡ rounds a list
  pub room : length account_sums.is_counted ≡ rounds_room b.request_room (account_of b a)
  pub is_counted : (r : ℕ) → r < rounds_room b.request_room (account_of b a) →
      is_counted account_sums r ≡ list_any (λ x. is_round a r x.entry) list
  pub slots_room : length account_sums.slots ≡ slots_of (account_of b a)
  pub slots : (slot : ℕ) → slot < slots_of (account_of b a) → IsSlotOf b list a slot (slot_at account_sums slot)

-- the sums are those of the list: credits, debits, distinct rounds, and the answer to each request
pub record AreSumsOf (b : BookTerms) (list : List Publication) (all_sums : List AccountSums) : Type 0 where
  pub sized : length all_sums ≡ length b.accounts
  pub accounts : (a : ℕ) → a < length b.accounts → IsAccountOf b list a (sums_at all_sums a)

-- the totals have counted records that are in the list, and no others
pub record HasCounted (t : TotalSums) (b : BookTerms) (seen : List Publication) : Type 0 where
  pub book : IsBook b
  pub processes : length t.upto ≡ b.processes
  pub within : Covers (counts b.processes seen) t.upto
  pub sums : AreSumsOf b (counted_records t.upto seen) t.accounts

-- and so they have when more is published
abbrev pub StaysCounted : TotalSums → BookTerms → List Publication → Type 0
StaysCounted t b seen = (more : List Publication) → IsPrefix seen more → HasCounted t b more

-- the list has so many records of each process
pub record HasRecords (b : BookTerms) (seen : List Publication) (upto : List ℕ) : Type 0 where
  pub sized : length upto ≡ b.processes
  pub within : Covers (counts b.processes seen) upto

-- the entry is that of the first record of the process that isn't counted yet
pub record IsNext (t : TotalSums) (b : BookTerms) (seen : List Publication) (p : ℕ) (e : Entry) : Type 0 where
  pub process : p < b.processes
  pub within : slice_index t.upto p < count_of p seen
  pub entry : e ≡ (publication_at (publications_of p seen) (slice_index t.upto p)).entry

-- the totals may count the entry next
pub record MayCount (t : TotalSums) (b : BookTerms) (seen : List Publication) (p : ℕ) (entry : Entry) : Type 0 where
  pub history : IsHistory b seen
  pub counts : HasCounted t b seen
  pub next : IsNext t b seen p entry

-- the totals have counted so for a book with this account
pub record CountsAccount (t : TotalSums) (b : BookTerms) (seen : List Publication) (a : ℕ) : Type 0 where
  pub counted : HasCounted t b seen
  pub account_in : a < length b.accounts

-- and with this slot of it
pub record CountsSlot (t : TotalSums) (b : BookTerms) (seen : List Publication) (a slot : ℕ) : Type 0 where
  pub account : CountsAccount t b seen a
  pub slot_in : slot < slots_of (account_of b a)

-- the totals have counted exactly the records of a prefix of the list
pub record CountsCut (t : TotalSums) (b : BookTerms) (seen : List Publication) : Type 0 where
  pub history : IsHistory b seen
  pub cut : IsCut b.processes t.upto seen
