-- What each command shows of a book and payments.
use Rattle.std.specs.Prelude.{◌≡◌, ℕ, ◌<◌, ◌≤◌, List, [], length, slice_index_or, sum_by}
use Rattle.at_commands.specs.Prelude.{AreCostsWithin, costs_text, ledger_text, AreGroups, groups_of, kinds_text, needs_text, owner_asks, account_of, Line, Call, receipts_of, ClosedTerms, AreAnswers, Replies, orders_text, CostTerms, OpeningsCover, IsSettled, HasMoreStages, STAGES_MAX, Status, TooManyOrders}
use Rattle.at_commands.specs.Commands.{KeepingClosed, KeepingNone, Never}
use Rattle.at_commands.specs.Forms.{FormTerms}
use Rattle.at_commands.specs.Loading.{Loaded}
use Rattle.at_commands.specs.Running.{IsPlayed, IsPlayedNoting}

-- `kinds`: the text is that of the kinds of the calls. Its groups are just the sets of owners that have payments to agree on
pub record ShowsKinds (l : Loaded) (text : List ℕ) : Type 0 where
  pub groups : AreGroups l.book l.files (groups_of l.book l.files)
  pub printed : text ≡ kinds_text l.book l.names l.files

-- `needs`: the text is that of what the payments of each account's owners ask of it. Those from an account that lacks nothing need no
-- agreement
pub record ShowsNeeds (l : Loaded) (text : List ℕ) : Type 0 where
  pub settled : (a : ℕ) → a < length l.book.accounts → sum_by (owner_asks l.book l.files a) (account_of l.book a).owners ≤ (account_of l.book a).opening
      → IsSettled l.book l.files a
  pub printed : text ≡ needs_text l.book l.names l.files

-- `costs`: the text has a record for each call that was made on a closed ledger, the files' calls and no others, whose journal is one legal
-- run of them. The costs are what these calls made and counted, and none is above the bounds that are printed beside it
pub record ShowsCosts (l : Loaded) (closed : ClosedTerms) (text : List ℕ) : Type 0 where
  pub costs : List (List CostTerms)
  pub played : IsPlayedNoting l.book l.files closed costs
  pub within : (p : ℕ) → p < l.book.processes → AreCostsWithin l.book (receipts_of closed.closing p) (slice_index_or costs p [])
  pub printed : text ≡ costs_text l.book l.names closed.closing.receipts costs

-- `ledger`: the text is that of the journal of a closed ledger on which the files' calls were made, which is one legal run of them
pub record ShowsLedger (l : Loaded) (closed : ClosedTerms) (text : List ℕ) : Type 0 where
  pub lines : List Line
  pub played : IsPlayed l.book l.files closed lines
  pub printed : text ≡ ledger_text l.book l.names lines

-- `orders`: the text has for each call just the replies that some order of all calls gives it
pub record ShowsOrders (l : Loaded) (text : List ℕ) : Type 0 where
  pub answers : List (List Replies)
  pub are : AreAnswers l.book l.files answers
  pub printed : text ≡ orders_text l.book l.names l.files answers

-- the openings don't cover the files, and the orders of the calls go through more stages than are walked
pub record HasTooMany (l : Loaded) : Type 0 where
  pub uncovered : OpeningsCover l.book l.files → ⊥
  pub stages : HasMoreStages l.book l.files STAGES_MAX

-- what `orders` refuses besides
abbrev pub RefusesMany : Loaded → Status → Type 0
RefusesMany l TooManyOrders = HasTooMany l
RefusesMany l refusal = ⊥

abbrev pub kinds_terms : FormTerms Call
kinds_terms = record { refuses = Never; prints = KeepingNone ShowsKinds }

abbrev pub needs_terms : FormTerms Call
needs_terms = record { refuses = Never; prints = KeepingNone ShowsNeeds }

abbrev pub orders_terms : FormTerms Call
orders_terms = record { refuses = RefusesMany; prints = KeepingNone ShowsOrders }

abbrev pub costs_terms : FormTerms Call
costs_terms = record { refuses = Never; prints = KeepingClosed ShowsCosts }

abbrev pub ledger_terms : FormTerms Call
ledger_terms = record { refuses = Never; prints = KeepingClosed ShowsLedger }
