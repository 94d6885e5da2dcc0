-- Files in which no payment can be short of balance, however their calls are ordered.
use Rattle.std.specs.Prelude.{◌≡◌, ℕ, zero, suc, ◌+◌, ◌-◌, ◌<◌, ◌≤◌, ◌==◌, ◌&&◌, nat_lt, Option, None, Some, List, [], ◌∷◌, length, slice_index_or, sum_by, if◌then◌else◌}
use Rattle.at_orders.specs.Prelude.{BookTerms, account_of, is_owner, TargetPair, amount_of, Call, Transfer, Read, Pay}

-- f 0 + f 1 + .., so many of them
unfoldable pub sum_below : ℕ → (ℕ → ℕ) → ℕ
sum_below zero f = 0
sum_below (suc n) f = sum_below n f + f n

-- what a pay-out of the process asks of the account: nothing where another account is its source, or the process doesn't own it
abbrev pub asked_by_pay : BookTerms → ℕ → ℕ → ℕ → List TargetPair → ℕ
asked_by_pay b process account source targets = if is_owner b process account && (source == account) then amount_of targets else 0

-- what a call of the process asks of the account
abbrev pub asked_by_call : BookTerms → ℕ → ℕ → Call → ℕ
asked_by_call b process account (Transfer from to amount) = asked_by_pay b process account from ((to, amount) ∷ [])
asked_by_call b process account (Read other) = 0
asked_by_call b process account (Pay from targets) = asked_by_pay b process account from targets

-- what all calls of a process ask of the account
abbrev pub asked_in_file : BookTerms → ℕ → ℕ → List Call → ℕ
asked_in_file b process account calls = sum_by (asked_by_call b process account) calls

-- what the first files ask of the account. The sum of the amounts of each payment from it by an owner
abbrev pub asked_in_files : BookTerms → ℕ → List (List Call) → ℕ → ℕ
asked_in_files b account files count = sum_below count (λ process. asked_in_file b process account (slice_index_or files process []))

-- the account opens with all that the files ask of it
abbrev pub OpeningCovers : BookTerms → List (List Call) → ℕ → Type 0
OpeningCovers b files account = asked_in_files b account files (length files) ≤ (account_of b account).opening

-- so does each account
abbrev pub OpeningsCover : BookTerms → List (List Call) → Type 0
OpeningsCover b files = (account : ℕ) → account < length b.accounts → OpeningCovers b files account

-- what is left where so much is asked: nothing any more once that is above what there was
abbrev pub left_when_asked : Option ℕ → ℕ → Option ℕ
left_when_asked None asked = None
left_when_asked (Some had) asked = if nat_lt had asked then None else Some (had - asked)

-- so much is asked of each account
pub record AreLeft (b : BookTerms) (asks : ℕ → ℕ) (old new : List (Option ℕ)) : Type 0 where
  pub accounts : length new ≡ length old
  pub each : (account : ℕ) → account < length b.accounts → slice_index_or new account None ≡ left_when_asked (slice_index_or old account None) (asks account)

-- something is left, if it be nothing, of each account that opens with all that the files ask of it, and of no other
pub record TellCovered (b : BookTerms) (files : List (List Call)) (left : List (Option ℕ)) : Type 0 where
  pub accounts : length left ≡ length b.accounts
  pub covered : (account has : ℕ) → account < length b.accounts → slice_index_or left account None ≡ Some has → OpeningCovers b files account
  pub uncovered : (account : ℕ) → account < length b.accounts → slice_index_or left account None ≡ None → OpeningCovers b files account → ⊥
