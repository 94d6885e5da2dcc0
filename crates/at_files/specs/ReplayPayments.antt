-- The payments of one process for a replay, which makes fewer calls than a file may have.
use Rattle.std.specs.Prelude.{ℕ, ◌+◌, ◌≤◌, List, length, nat_le, Result, Ok, Err, if◌then◌else◌}
use Rattle.at_files.specs.Prelude.{BookTerms, Call}
use Rattle.at_files.specs.Limits.{most_replay_calls}
use Rattle.at_files.specs.Names.{NameList}
use Rattle.at_files.specs.Payments.{Pays, before_calls, payments_of}
use Rattle.at_files.specs.Records.{Fields}
use Rattle.at_files.specs.Results.{and_then}
use Rattle.at_files.specs.declared.payments_fault.BadPayments.{BadPayments}
use Rattle.at_files.specs.declared.payments_fault.PaymentsWhy.TheVariants.{TooManyCalls}

-- the calls behind so many records that are none, unless they are more than a replay makes
abbrev pub few_calls : ℕ → List Call → Result (List Call) BadPayments
few_calls skipped calls =
    if nat_le (length calls) most_replay_calls then Ok calls else Err (record { line = skipped + most_replay_calls + 1; why = TooManyCalls })

-- the calls of a file's records, or the first fault: how many calls there are is looked at last
abbrev pub replay_payments_of : NameList → ℕ → List Fields → Result (List Call) BadPayments
replay_payments_of names process records = and_then (payments_of names process records) (few_calls (before_calls records))

-- the file pays these calls, and they are no more than a replay makes
pub record PaysReplay (b : BookTerms) (names : NameList) (process : ℕ) (records : List Fields) (calls : List Call) : Type 0 where
  pub pays : Pays b names process records calls
  pub few : length calls ≤ most_replay_calls
