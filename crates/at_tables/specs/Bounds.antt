-- The most that a call may cost, by its book, its reply, and the records that it counted anew.
use Rattle.std.specs.Prelude.{◌≡◌, ℕ, ◌+◌, ◌*◌, ◌≤◌, Bool, true, false, List, [], ◌∷◌, if◌then◌else◌}
use Rattle.at_tables.specs.Prelude.{slots_of, BookTerms, account_of, Call, Reply, Done, Short, NotOwner, Full, Balance, RECORD_WORDS, first_account, Receipt, call_steps, may_exchange, CostTerms}

-- whether the call was answered before it looked at any balance
abbrev pub is_refusal : Reply → Bool
is_refusal Done = false
is_refusal Short = false
is_refusal NotOwner = true
is_refusal Full = true
is_refusal (Balance amount) = false

-- the most steps: those of the call without other traffic, and the words of each record that it counted anew. 0 where the call was refused
abbrev pub most_steps : BookTerms → Call → Reply → ℕ → ℕ
most_steps b call reply new = if is_refusal reply then 0 else call_steps b call + RECORD_WORDS * new

-- the most exchanges: one for each owner of an account that several own, and none else
abbrev pub most_exchanges : BookTerms → Call → Reply → ℕ
most_exchanges b call reply = if is_refusal reply then 0 else (if may_exchange b call then slots_of (account_of b (first_account call)) else 0)

-- the cost is within both
pub record IsCostWithin (b : BookTerms) (r : Receipt) (cost : CostTerms) : Type 0 where
  pub steps : cost.steps ≤ most_steps b r.call r.reply cost.new_records
  pub exchanges : cost.exchanges ≤ most_exchanges b r.call r.reply

-- each cost of the list is, of its receipt
unfoldable pub AreCostsWithin : BookTerms → List Receipt → List CostTerms → Type 0
AreCostsWithin b [] [] = Unit {0}
AreCostsWithin b [] (c ∷ costs) = ⊥
AreCostsWithin b (r ∷ receipts) [] = ⊥
AreCostsWithin b (r ∷ receipts) (c ∷ costs) = IsCostWithin b r c × AreCostsWithin b receipts costs
