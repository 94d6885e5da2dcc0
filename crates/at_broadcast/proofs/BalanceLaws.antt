-- Balances as natural numbers.
use Rattle.std.proofs.Common.{◌≡◌, ℕ, ◌+◌, ◌≤◌, pos, ◌-ℤ◌, ◌≤ℤ◌, List, arith}
use Rattle.at_broadcast.proofs.Prelude.{ints, LogTerms, MessageList, balance_at, came, went}

pub le-difference : (x c d : ℕ) → d + x ≤ c → pos x ≤ℤ (pos c -ℤ pos d)
le-difference x c d h = omega (arith, ints)

pub le-from_difference : (x c d : ℕ) → pos x ≤ℤ (pos c -ℤ pos d) → d + x ≤ c
le-from_difference x c d h = omega (arith, ints)

pub is-difference : (x c d : ℕ) → x + d ≡ c → pos x ≡ pos c -ℤ pos d
is-difference x c d h = omega (arith, ints)

-- a balance covers an amount where what came covers what went and the amount
pub balance_at-covers : (b : LogTerms) (messages : List MessageList) (counts : List ℕ) (account amount : ℕ)
    → went messages counts account + amount ≤ came b messages counts account → pos amount ≤ℤ balance_at b messages counts account
unfolding balance_at
balance_at-covers b messages counts account amount h = le-difference amount (came b messages counts account) (went messages counts account) h

pub covers-from_balance_at : (b : LogTerms) (messages : List MessageList) (counts : List ℕ) (account amount : ℕ)
    → pos amount ≤ℤ balance_at b messages counts account → went messages counts account + amount ≤ came b messages counts account
unfolding balance_at
covers-from_balance_at b messages counts account amount h = le-from_difference amount (came b messages counts account) (went messages counts account) h

pub balance_at-is : (b : LogTerms) (messages : List MessageList) (counts : List ℕ) (account balance : ℕ)
    → balance + went messages counts account ≡ came b messages counts account → pos balance ≡ balance_at b messages counts account
unfolding balance_at
balance_at-is b messages counts account balance h = is-difference balance (came b messages counts account) (went messages counts account) h
