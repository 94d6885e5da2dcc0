-- What holds of an account that opens with all that the files ask of it, in whatever order their calls come.
use Rattle.std.specs.Prelude.{◌≡◌, ◌≢◌, ℕ, ◌<◌, ◌≤◌, ◌&&◌, Bool, true, false, List, [], length, filter, slice_get, slice_index_or, Contains, Some, is_some}
use Rattle.at_orders.specs.Prelude.{BookTerms, account_of, is_owner, is_shared, is_single, TargetPair, first_account, payout_of, Call, Line, Reply, Short}
use Rattle.at_orders.specs.Orders.{Comes, IsOrder}

-- no payment from the account is short
abbrev pub IsNeverShort : BookTerms → List (List Call) → ℕ → Type 0
IsNeverShort b files account = (lines : List Line) (line : Line) (targets : List TargetPair) → IsOrder b files lines → Contains lines line
    → payout_of line.call ≡ Some (account, targets) → line.reply ≢ Short

-- each payment of the process from the account has one reply
abbrev pub HasOneReply : BookTerms → List (List Call) → ℕ → ℕ → Type 0
HasOneReply b files account process = (i : ℕ) (call : Call) (targets : List TargetPair) (x y : Reply) → slice_get (slice_index_or files process []) i ≡ Some call
    → payout_of call ≡ Some (account, targets) → Comes b files process i x → Comes b files process i y → x ≡ y

-- the call is a payment of the process from an account that it alone owns
abbrev pub is_own_payment : BookTerms → ℕ → Call → Bool
is_own_payment b process call = is_some (payout_of call) && (is_owner b process (first_account call) && is_single (account_of b (first_account call)))

-- the process has own room for all such payments
abbrev pub HasOwnRoom : BookTerms → ℕ → List Call → Type 0
HasOwnRoom b process calls = length (filter (is_own_payment b process) calls) ≤ b.own_room

-- no payment from the account needs agreement: none is short, and each has one reply, where owners share the account or the payer has own room
pub record IsSettled (b : BookTerms) (files : List (List Call)) (account : ℕ) : Type 0 where
  pub never_short : IsNeverShort b files account
  pub shared : is_shared (account_of b account) ≡ true → (process : ℕ) → process < length files → HasOneReply b files account process
  pub own : is_shared (account_of b account) ≡ false → (process : ℕ) → process < length files → HasOwnRoom b process (slice_index_or files process [])
      → HasOneReply b files account process
