-- The book and the calls that a number gives.
use Rattle.std.specs.Prelude.{ℕ, ◌+◌, ◌*◌, ◌/◌, ◌%◌, ◌^◌, ◌==◌, List, [], ◌∷◌, ◌++◌, map, zero, suc, if◌then◌else◌}
use Rattle.at_commands.specs.Prelude.{range_with_len, AccountTerms, BookTerms, terms_with, Call, Transfer, Read}

-- the state after a draw
unfoldable pub next_state : ℕ → ℕ
next_state x = (6364136223846793005 * x + 1442695040888963407) % 2 ^ 64

-- what a draw gives, from the state after it
abbrev pub drawn : ℕ → ℕ
drawn x = x / 2 ^ 33

-- the first draw of a call from this state, by what four leaves of it
abbrev pub kind_drawn : ℕ → ℕ
kind_drawn x = drawn (next_state x) % 4

-- the second draw is the account that is read, or the target
abbrev pub account_drawn : ℕ → ℕ → ℕ
account_drawn processes x = drawn (next_state (next_state x)) % (processes + 1)

-- the third is the amount
abbrev pub amount_drawn : ℕ → ℕ
amount_drawn x = 1 + drawn (next_state (next_state (next_state x))) % 100

-- the source is the account of all processes, or the process's own
abbrev pub source_drawn : ℕ → ℕ → ℕ → ℕ
source_drawn processes process x = if kind_drawn x == 1 then processes else process

-- the call of a process from this state
unfoldable pub call_drawn : ℕ → ℕ → ℕ → Call
call_drawn processes process x =
    if kind_drawn x == 0 then Read (account_drawn processes x)
    else Transfer (source_drawn processes process x) (account_drawn processes x) (amount_drawn x)

-- the state after its draws: two for a read, and three for a transfer
unfoldable pub state_after_call : ℕ → ℕ
state_after_call x = if kind_drawn x == 0 then next_state (next_state x) else next_state (next_state (next_state x))

-- the state after so many calls
unfoldable pub state_after_calls : ℕ → ℕ → ℕ
state_after_calls x zero = x
state_after_calls x (suc n) = state_after_call (state_after_calls x n)

-- so many calls of a process from this state
abbrev pub calls_drawn : ℕ → ℕ → ℕ → ℕ → List Call
calls_drawn processes process calls x = map (λ i. call_drawn processes process (state_after_calls x i)) (range_with_len 0 calls)

-- the calls of each process: those of process 0 first, and the state runs on from one to the next
abbrev pub files_made : ℕ → ℕ → ℕ → List (List Call)
files_made first processes calls = map (λ p. calls_drawn processes p calls (state_after_calls first (p * calls))) (range_with_len 0 processes)

-- the account of one process
abbrev pub own_terms : ℕ → ℕ → AccountTerms
own_terms calls process = terms_with (100 * calls) (process ∷ [])

-- the account of all processes
abbrev pub joint_terms : ℕ → ℕ → AccountTerms
joint_terms processes calls = terms_with (100 * calls * processes) (range_with_len 0 processes)

-- the book with the first accounts of one process each
abbrev pub book_of_own_accounts : ℕ → ℕ → ℕ → BookTerms
book_of_own_accounts processes calls accounts =
    record { processes = processes; own_room = calls; request_room = calls; accounts = map (own_terms calls) (range_with_len 0 accounts) }

-- an account for each process, and then the one of all
abbrev pub book_made : ℕ → ℕ → BookTerms
book_made processes calls = record {
  processes = processes;
  own_room = calls;
  request_room = calls;
  accounts = map (own_terms calls) (range_with_len 0 processes) ++ joint_terms processes calls ∷ [];
}
