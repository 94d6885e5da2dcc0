-- What totals keep of slots and accounts, and how one more record changes it.
use Rattle.std.specs.Prelude.{ℕ, ◌+◌, ◌^◌, ◌<◌, ◌==◌, Bool, true, false, List, [], length, replicate, slice_index_or, slice_set, Option, Some, None, if◌then◌else◌, not}
use Rattle.at_fold.specs.Prelude.{Decision, rounds_room, BookTerms, account_of, AreTargetsOn, Entry, Own, Round, credit_of, debit_of, slots_of}

-- how many requests of a slot are decided, and the round and decision of each by its number
pub record SlotSums : Type 0 where
  pub done : ℕ
  pub settled : List (Option (ℕ × Decision))

-- what is added to an account, what is taken from it, how many rounds it has, which ones, and its slots
pub record AccountSums : Type 0 where
  pub opening : ℕ
  pub credits : ℕ
  pub debits : ℕ
  pub rounds : ℕ
  pub is_counted : List Bool
  pub slots : List SlotSums

-- how many records of each process are counted, and the sums of each account
pub record TotalSums : Type 0 where
  pub upto : List ℕ
  pub accounts : List AccountSums

abbrev pub no_slot : SlotSums
no_slot = record { done = 0; settled = [] }

abbrev pub no_sums : AccountSums
no_sums = record { opening = 0; credits = 0; debits = 0; rounds = 0; is_counted = []; slots = [] }

-- the sums of an account
abbrev pub sums_at : List AccountSums → ℕ → AccountSums
sums_at all_sums a = slice_index_or all_sums a no_sums

-- the sums of an account's slot
abbrev pub slot_at : AccountSums → ℕ → SlotSums
slot_at account_sums slot = slice_index_or account_sums.slots slot no_slot

-- the round and decision of a request, if it is decided
abbrev pub answer_at : SlotSums → ℕ → Option (ℕ × Decision)
answer_at account_sums number = slice_index_or account_sums.settled number None

-- whether a record of the round is counted
abbrev pub is_counted : AccountSums → ℕ → Bool
is_counted account_sums round = slice_index_or account_sums.is_counted round false

-- one more decided request
abbrev pub with_answer : SlotSums → ℕ → Decision → SlotSums
with_answer account_sums round d = record { done = account_sums.done + 1; settled = slice_set account_sums.settled d.number (Some (round, d)) }

-- one more round
abbrev pub with_round : AccountSums → ℕ → Decision → AccountSums
with_round account_sums round d = record account_sums {
  rounds = account_sums.rounds + 1;
  is_counted = slice_set account_sums.is_counted round true;
  slots = slice_set account_sums.slots d.slot (with_answer (slot_at account_sums d.slot) round d);
}

-- more is added, or taken
abbrev pub with_credit : AccountSums → ℕ → AccountSums
with_credit account_sums amount = record account_sums { credits = account_sums.credits + amount }

abbrev pub with_debit : AccountSums → ℕ → AccountSums
with_debit account_sums amount = record account_sums { debits = account_sums.debits + amount }

abbrev pub with_amounts : ℕ → ℕ → AccountSums → AccountSums
with_amounts credit debit account_sums = record account_sums { credits = account_sums.credits + credit; debits = account_sums.debits + debit }

-- what a record says of a round, if it is of the account
abbrev pub with_decided_round : ℕ → Entry → AccountSums → AccountSums
with_decided_round a (Own from targets) account_sums = account_sums
with_decided_round a (Round account round d targets) account_sums = if account == a then with_round account_sums round d else account_sums

-- the sums of an account after a record of a round that wasn't counted before, or an own one
abbrev pub after_entry : ℕ → Entry → AccountSums → AccountSums
after_entry a entry account_sums = with_decided_round a entry (with_amounts (credit_of a entry) (debit_of a entry) account_sums)

-- no record of this round is counted
abbrev pub is_new_to : List AccountSums → Entry → Bool
is_new_to all_sums (Own from targets) = true
is_new_to all_sums (Round account round d targets) = not (is_counted (sums_at all_sums account) round)

-- there are sums for all that the entry names
abbrev pub HasSums : List AccountSums → Entry → Type 0
HasSums all_sums (Own from targets) = (from < length all_sums) × AreTargetsOn (length all_sums) targets
HasSums all_sums (Round account round d targets) = (account < length all_sums) × AreTargetsOn (length all_sums) targets
    × (round < length (sums_at all_sums account).is_counted) × (d.slot < length (sums_at all_sums account).slots)
    × (d.number < length (slot_at (sums_at all_sums account) d.slot).settled)

-- four amounts more still fit each sum
abbrev pub FitsMore : List AccountSums → Type 0
FitsMore all_sums = (a : ℕ) → a < length all_sums → ((sums_at all_sums a).credits + 2 ^ 66 < 2 ^ 128) × ((sums_at all_sums a).debits + 2 ^ 66 < 2 ^ 128)

-- one more round still fits the counts
abbrev pub FitsRound : List AccountSums → Entry → Type 0
FitsRound all_sums (Own from targets) = Unit {0}
FitsRound all_sums (Round account round d targets) =
    ((sums_at all_sums account).rounds + 1 < 2 ^ 32) × ((slot_at (sums_at all_sums account) d.slot).done + 1 < 2 ^ 32)

-- nothing is counted of a slot, or of an account
abbrev pub starting_slot : ℕ → SlotSums
starting_slot request_room = record { done = 0; settled = replicate request_room None }

abbrev pub starting_sums : BookTerms → ℕ → AccountSums
starting_sums b a = record {
  opening = (account_of b a).opening;
  credits = 0;
  debits = 0;
  rounds = 0;
  is_counted = replicate (rounds_room b.request_room (account_of b a)) false;
  slots = replicate (slots_of (account_of b a)) (starting_slot b.request_room);
}
