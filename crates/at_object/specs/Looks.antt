-- What a look at all balances leaves of its pass.
use Rattle.std.specs.Prelude.{◌≡◌, ℕ, ◌+◌, ◌*◌, ◌<◌, ◌≤◌, List, length, slice_index, sum}
use Rattle.at_object.specs.Prelude.{BookTerms, total_of, HasLoaded, Publication, balance_after, prefix_of, RECORD_WORDS, Receipt, IsSnapshot, snapshot_steps}
use Rattle.at_object.specs.Passes.{PassTerms, Stands, asked_by, counted_anew, others_counted, sent_by}

-- the balance of each account after a list of publications. They sum to what the book opens with
pub record AreBalancesAfter (b : BookTerms) (list : List Publication) (balances : List ℕ) : Type 0 where
  pub sized : length balances ≡ length b.accounts
  pub each : (a : ℕ) → a < length b.accounts → slice_index balances a ≡ balance_after b list a
  pub total : sum balances ≡ total_of b

-- all balances are those at the cut of one snapshot, by loads of lengths and records alone, and no receipt comes of it
pub record HasSeenBalances (book : BookTerms) (before after : PassTerms) (balances : List ℕ) : Type 0 where
  pub cut : List ℕ
  pub snapshot : IsSnapshot book before.knows after.knows cut
  pub balances_at : AreBalancesAfter book (prefix_of cut after.knows.seen) balances
  pub loads : HasLoaded book before.knows after.knows
  pub stands : (receipts : List Receipt) → Stands before receipts → Stands after receipts
  pub process_is : after.knows.first ≡ before.knows.first
  pub asked : (a : ℕ) → asked_by after a ≡ asked_by before a
  pub sent : sent_by after ≡ sent_by before
  pub counted : others_counted before ≤ others_counted after

-- it takes at most what a read does, and no exchange
pub record TakesLook (book : BookTerms) (before after : PassTerms) : Type 0 where
  pub few : after.steps ≤ before.steps + snapshot_steps book.processes + RECORD_WORDS * counted_anew before after
  pub risen : before.steps ≤ after.steps
  pub exchanges : after.exchanges ≡ before.exchanges
