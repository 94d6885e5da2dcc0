-- Where the records of a closing stand in the order of its publications.
use Rattle.std.specs.Prelude.{◌≡◌, ℕ, ◌^◌, ◌<◌, ◌≤◌, ◌==◌, ◌++◌, List, [], ◌∷◌, length, filter, slice_index, slice_index_or, slice_set, All, ⊤, if◌then◌else◌, true}
use Rattle.at_journal.specs.Prelude.{range_with_len, count_of, rounds, Entry, Own, Round, Publication, ClosingTerms, receipts_of, Coherent, journal_order, is_success, receipt_at, BookTerms, first_account, own_position, round_position, At, Receipt}
use Rattle.at_journal.specs.Order.{AreRecords, no_number, published_in}
use Rattle.at_journal.specs.declared.order.Numbered.{Numbered}

-- where those of a process stand
abbrev pub positions_of : ℕ → List Numbered → List ℕ
positions_of process all = filter (λ m. (slice_index_or all m no_number).process == process) (range_with_len 0 (length all))

-- where those of each of so many processes stand
pub record ArePositions (processes : ℕ) (all : List Numbered) (lists : List (List ℕ)) : Type 0 where
  pub sized : length lists ≡ processes
  pub each : (p : ℕ) → p < processes → slice_index_or lists p [] ≡ positions_of p all

-- a round's record is of one of so many accounts
abbrev pub IsOnAccount : ℕ → Entry → Type 0
IsOnAccount accounts (Own from targets) = ⊤
IsOnAccount accounts (Round account round decision targets) = account < accounts

-- the positions of the first records of rounds, account by account, with a record more
abbrev pub with_position : ℕ → Entry → List (List ℕ) → List (List ℕ)
with_position position (Own from targets) starts = starts
with_position position (Round account round decision targets) starts =
    if length (slice_index_or starts account []) == round
    then slice_set starts account (slice_index_or starts account [] ++ position ∷ [])
    else starts

-- for each account the positions in a list of the first records of those rounds that its prefix has
pub record HasRoundPositions (accounts : ℕ) (prefix list : List Publication) (starts : List (List ℕ)) : Type 0 where
  pub sized : length starts ≡ accounts
  pub counted : (a : ℕ) → a < accounts → length (slice_index_or starts a []) ≡ rounds a prefix
  pub first : (a r : ℕ) → a < accounts → r < length (slice_index_or starts a []) → slice_index (slice_index_or starts a []) r ≡ round_position a r list

-- the positions of the records of a process
pub record HasOwnPositions (process : ℕ) (list : List Publication) (positions : List ℕ) : Type 0 where
  pub counted : length positions ≡ count_of process list
  pub own : (i : ℕ) → i < length positions → slice_index positions i ≡ own_position process i list

-- what a receipt names is found in these positions
pub record HasStarts (process : ℕ) (list : List Publication) (own : List ℕ) (starts : List (List ℕ)) (r : Receipt) : Type 0 where
  pub own_at : (number : ℕ) → r.at ≡ At.Own number → number < length own × slice_index own number ≡ own_position process number list
  pub own_within : (number : ℕ) → r.at ≡ At.Own number → own_position process number list < length list
  pub account_in : (round place : ℕ) → r.at ≡ At.Round round place → is_success r.reply ≡ true → first_account r.call < length starts
  pub round_at : (round place : ℕ) → r.at ≡ At.Round round place → is_success r.reply ≡ true
      → round < length (slice_index_or starts (first_account r.call) [])
      × slice_index (slice_index_or starts (first_account r.call) []) round ≡ round_position (first_account r.call) round list
  pub round_within : (round place : ℕ) → r.at ≡ At.Round round place → is_success r.reply ≡ true
      → round_position (first_account r.call) round list < length list

-- the calls of a process can be given their keys, by where the records of each process stand and where rounds begin
pub record MayBeKeyed (c : ClosingTerms) (process : ℕ) (own starts : List (List ℕ)) : Type 0 where
  pub small_process : process < 2 ^ 32
  pub known : process < length c.receipts
  pub owned : process < length own
  pub few : length (receipts_of c process) < 2 ^ 32
  pub found : (i : ℕ) → i < length (receipts_of c process)
      → HasStarts process (journal_order c) (slice_index_or own process []) starts (receipt_at (receipts_of c process) i)
  pub small : length (journal_order c) ≤ 2 ^ 36

-- all calls of a closing can be given their keys: these are its records in the order of its publications, and so rounds begin in it
pub record MayAllBeKeyed (b : BookTerms) (c : ClosingTerms) (order : List Numbered) (starts : List (List ℕ)) : Type 0 where
  pub coherent : Coherent b c
  pub records : AreRecords c order
  pub order_is : published_in c order ≡ journal_order c
  pub starts_are : HasRoundPositions (length b.accounts) (journal_order c) (journal_order c) starts
  pub small : length (journal_order c) ≤ 2 ^ 36
  pub few : All (λ receipts. length receipts < 2 ^ 32) c.receipts
