-- What a call names: its source and its targets.
use Rattle.std.specs.Prelude.{ℕ, ◌<◌, List, [], ◌∷◌, sum_by, slice_index_or, All, Option, Some, None}
use Rattle.at_ledger.specs.declared.call.Call.{Call}
use Rattle.at_ledger.specs.declared.call.Call.TheVariants.{Transfer, Read, Pay}
use Rattle.at_ledger.specs.declared.call.Line.{Line}

-- an account and the amount for it
abbrev pub TargetPair : Type 0
TargetPair = ℕ × ℕ

-- the target at a position
abbrev pub target_at : List TargetPair → ℕ → TargetPair
target_at targets i = slice_index_or targets i (0, 0)

-- the sum of the amounts
abbrev pub amount_of : List TargetPair → ℕ
amount_of targets = sum_by (λ t. t.1) targets

-- each target is an account of these
abbrev pub AreTargetsOn : ℕ → List TargetPair → Type 0
AreTargetsOn accounts targets = All (λ t. t.0 < accounts) targets

-- the call names accounts that are there
abbrev pub IsCallOn : ℕ → Call → Type 0
IsCallOn accounts (Transfer from to amount) = (from < accounts) × (to < accounts)
IsCallOn accounts (Read account) = account < accounts
IsCallOn accounts (Pay from targets) = (from < accounts) × AreTargetsOn accounts targets

-- the source and the targets of a pay-out: a transfer is the pay-out with its one target
abbrev pub payout_of : Call → Option (ℕ × List TargetPair)
payout_of (Transfer from to amount) = Some (from, (to, amount) ∷ [])
payout_of (Read account) = None
payout_of (Pay from targets) = Some (from, targets)

-- the account that a call names first: the source of a pay-out, or the account that is read
abbrev pub first_account : Call → ℕ
first_account (Transfer from to amount) = from
first_account (Read account) = account
first_account (Pay from targets) = from

-- the line is of one of these processes and names accounts that are there
abbrev pub IsLineOn : ℕ → ℕ → Line → Type 0
IsLineOn processes accounts l = (l.process < processes) × IsCallOn accounts l.call
