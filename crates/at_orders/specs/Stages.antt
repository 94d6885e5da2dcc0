-- The stages that orders go through: how many calls each process has made, and the ledger then.
use Rattle.std.specs.Prelude.{◌≡◌, ℕ, ◌*◌, ◌/◌, ◌%◌, ◌<◌, ◌≢◌, ◌==◌, ◌&&◌, Bool, List, [], ◌++◌, length, filter, map, min, replicate, slice_index, slice_index_or, take, All, Option, is_some, if◌then◌else◌}
use Rattle.at_orders.specs.Prelude.{range_with_len, is_shared, TargetPair, first_account, payout_of, BookTerms, account_of, is_owner, LedgerState, moved, opening_state, step, with_sent, last_state, lines_of, Call, Line, with_made}
use Rattle.at_orders.specs.Orders.{IsOrder}
use Rattle.at_orders.specs.declared.stage.Stage.{Stage}

-- how many calls each process has made, and the ledger then
pub record StageTerms : Type 0 where
  pub made : List ℕ
  pub ledger : LedgerState

-- before the first call
abbrev pub first_stage : BookTerms → StageTerms
first_stage b = record { made = replicate b.processes 0; ledger = opening_state b }

-- after one more call of the process
abbrev pub stage_after : StageTerms → ℕ → Call → StageTerms
stage_after t process call = record { made = with_made t.made process; ledger = (step t.ledger process call).ledger }

-- some order goes through the stage: after its first lines
pub record IsStage (b : BookTerms) (files : List (List Call)) (t : StageTerms) : Type 0 where
  pub before : List Line
  pub after : List Line
  pub order : IsOrder b files (before ++ after)
  pub counts : length t.made ≡ length files
  pub made : (p : ℕ) → p < length files → slice_index t.made p ≡ length (lines_of p before)
  pub ledger : t.ledger ≡ last_state b before

-- there are more than so many stages, no two of them the same
pub record HasMoreStages (b : BookTerms) (files : List (List Call)) (most : ℕ) : Type 0 where
  pub stages : List StageTerms
  pub are : All (IsStage b files) stages
  pub apart : (i j : ℕ) (t : StageTerms) → i < j → j < length stages → slice_index_or stages i t ≢ slice_index_or stages j t
  pub more : most < length stages

-- what the stages of a walk stand on: the book, the files, the accounts that calls name first, and the place of each account among them, if it is there
pub record GroundTerms : Type 0 where
  pub book : BookTerms
  pub files : List (List Call)
  pub named : List ℕ
  pub places : List (Option ℕ)

-- the call is a payment from the account
abbrev pub is_payment_from : ℕ → Call → Bool
is_payment_from account call = is_some (payout_of call) && (first_account call == account)

-- how many of the calls are payments from the account
abbrev pub payments_from : ℕ → List Call → ℕ
payments_from account calls = length (filter (is_payment_from account) calls)

-- the requests of a process on an account, after these calls: one for each payment from it while there is room, where it shares the account
abbrev pub requests_of : BookTerms → ℕ → ℕ → List Call → ℕ
requests_of b process account calls =
    if is_owner b process account && is_shared (account_of b account) then min b.request_room (payments_from account calls) else 0

-- the calls that the process has made
abbrev pub calls_made : GroundTerms → List ℕ → ℕ → List Call
calls_made g made process = take (slice_index made process) (slice_index_or g.files process [])

-- the requests of each process on each account, those of process 0 first
abbrev pub requests_at : GroundTerms → List ℕ → List ℕ
requests_at g made =
    let accounts = length g.book.accounts in
    map (λ k. requests_of g.book (k / accounts) (k % accounts) (calls_made g made (k / accounts))) (range_with_len 0 (g.book.processes * accounts))

-- the ledger with the numbers of a stage, and these balances
abbrev pub ledger_at : GroundTerms → Stage → List ℕ → LedgerState
ledger_at g s balances = record { book = g.book; balances = balances; sent = s.sent.items; asked = requests_at g s.made.items }

-- a success, but for the request that it may have used: the counts of calls tell the requests
abbrev pub after_success : LedgerState → ℕ → ℕ → List TargetPair → LedgerState
after_success s process source targets =
    if is_shared (account_of s.book source) then moved s source targets else with_sent (moved s source targets) process
