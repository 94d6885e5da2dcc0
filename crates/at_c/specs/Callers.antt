-- Callers as exports see them, what the type of a caller keeps, and what a call leaves.
use Rattle.std.specs.Prelude.{◌≡◌, ℕ, ◌-◌, ◌^◌, ◌<◌, ◌≤◌, ◌++◌, List, [], ◌∷◌, drop, length}
use Rattle.at_c.specs.Prelude.{Call, Reply, Receipt, CallMade, StaysWithin, HasSeenBalances, TakesLook, PassTerms}
use Rattle.at_c.specs.Given.{IsGivenBack}
use Rattle.at_c.specs.Notes.{LearnsNote, LeavesNote}
use Rattle.at_c.specs.declared.outcome.Outcome.{Outcome}
use Rattle.at_c.specs.Shared.{SharedTerms}

-- a caller by its ledger and the names of its book, its pass, the receipts of its calls, and how many receipts it has memory for
pub record OwnCallerTerms : Type 0 where
  pub shared : SharedTerms
  pub pass : PassTerms
  pub receipts : List Receipt
  pub room : ℕ

-- the pass is of the ledger and of one of its processes, and the receipts are those of all calls that were made with it. They fit the
-- memory
pub record IsCaller (caller : OwnCallerTerms) : Type 0 where
  pub account : IsGivenBack caller.shared.ledger caller.pass caller.receipts
  pub process : caller.pass.knows.first < caller.shared.ledger.book.processes
  pub within : length caller.receipts ≤ caller.room
  pub few : caller.room < 2 ^ 32

-- the call was made by the caller on its ledger, and answered so. It made so many steps, and so many of them were exchanges. Its
-- receipt was put behind the others, and nothing else of the caller has changed but the pass
pub record MakesCall (call : Call) (before after : OwnCallerTerms) (reply : Reply) (steps exchanges : ℕ) : Type 0 where
  pub receipt : Receipt
  pub made : CallMade before.shared.ledger.book before.pass after.pass call receipt
  pub within : StaysWithin before.shared.ledger.book before.pass after.pass call receipt
  pub replies : reply ≡ receipt.reply
  pub steps_are : steps ≡ after.pass.steps - before.pass.steps
  pub exchanges_are : exchanges ≡ after.pass.exchanges - before.pass.exchanges
  pub after_is : after ≡ record before { pass = after.pass; receipts = before.receipts ++ receipt ∷ [] }

-- the caller was to leave a note, or to take one in, and nothing of it has changed but what its pass has seen and counted
abbrev pub CallerNotes : ℕ → OwnCallerTerms → OwnCallerTerms → Outcome → Type 0
CallerNotes process before after outcome =
    LeavesNote before.shared.ledger process before.pass after.pass outcome × (after ≡ record before { pass = after.pass })

abbrev pub CallerLearns : ℕ → OwnCallerTerms → OwnCallerTerms → Outcome → Type 0
CallerLearns process before after outcome =
    LearnsNote before.shared.ledger process before.pass after.pass outcome × (after ≡ record before { pass = after.pass })

-- the caller has looked at all balances, which are these. Nothing of it has changed but what its pass has seen and counted
pub record LooksAtBalances (before after : OwnCallerTerms) (balances : List ℕ) : Type 0 where
  pub seen : HasSeenBalances before.shared.ledger.book before.pass after.pass balances
  pub within : TakesLook before.shared.ledger.book before.pass after.pass
  pub calls_are : after.pass.calls ≡ before.pass.calls
  pub past_is : after.pass.past ≡ before.pass.past
  pub after_is : after ≡ record before { pass = after.pass }

-- the caller was asked for all balances: they stand over the first numbers. Where there are fewer places than accounts, nothing has changed
abbrev pub CallerTellsBalances : OwnCallerTerms → OwnCallerTerms → List ℕ → List ℕ → Outcome → Type 0
CallerTellsBalances before after was now Outcome.Done =
    (balances : List ℕ) × (now ≡ balances ++ drop (length balances) was) × LooksAtBalances before after balances
CallerTellsBalances before after was now Outcome.NoRoom =
    (length was < length before.shared.ledger.book.accounts) × (after ≡ before) × (now ≡ was)
CallerTellsBalances before after was now other = ⊥
