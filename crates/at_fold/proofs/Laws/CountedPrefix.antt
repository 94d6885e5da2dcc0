-- Totals that have counted the records of a prefix.
use Rattle.std.proofs.Common.{◌≡◌, ℕ, ◌+◌, ◌-◌, ◌^◌, ◌<◌, ◌≤◌, List, length, get_or, sym, ap, ◌∙◌, arith}
use Rattle.at_fold.proofs.Prelude.{get_or_default, All-contains_itself, All-from_get_or, All-take, Contains, BookTerms, place-IsCut-le, balance_after, prefix_of, place, IsHistory, IsRun, ArePublishedBy, no_publication, Publication, counted_records, AreSumsOf, CountsAccount, CountsCut, HasCounted, AccountSums, TotalSums, no_sums, sums_at}
use Rattle.at_fold.proofs.Laws.CountedRecords.{All-counted_records, HasSameRecords-prefix_of, length-counted_records-le}
use Rattle.at_fold.proofs.SumsOfLists.{AreSumsOf-same}

pub ArePublishedBy-IsHistory : (b : BookTerms) (seen : List Publication) → IsHistory b seen → ArePublishedBy b.processes seen
ArePublishedBy-IsHistory b seen history =
    All-from_get_or (λ x. x.process < b.processes) seen no_publication (λ i within. (history.views i within).process)

-- the sums are those of the prefix
pub AreSumsOf-cut : (t : TotalSums) (b : BookTerms) (seen : List Publication) → HasCounted t b seen → CountsCut t b seen
    → AreSumsOf b (prefix_of t.upto seen) t.accounts
AreSumsOf-cut t b seen counts at =
    AreSumsOf-same b seen at.history (counted_records t.upto seen) (prefix_of t.upto seen) t.accounts
    (λ p. sym (HasSameRecords-prefix_of b.processes t.upto seen at.cut (ArePublishedBy-IsHistory b seen at.history) p))
    (All-counted_records t.upto seen) (All-take (Contains seen) (place t.upto) seen (All-contains_itself seen)) counts.sums

-- the sums of an account give this balance
pub record IsBalanced (account_sums : AccountSums) (balance : ℕ) : Type 0 where
  pub room : account_sums.credits + 2 ^ 64 ≤ 2 ^ 128
  pub covered : account_sums.debits ≤ account_sums.opening + account_sums.credits
  pub fits : account_sums.opening + account_sums.credits - account_sums.debits < 2 ^ 64
  pub is : account_sums.opening + account_sums.credits - account_sums.debits ≡ balance

pub IsBalanced-cut : (t : TotalSums) (b : BookTerms) (seen : List Publication) (a : ℕ) → CountsAccount t b seen a → CountsCut t b seen
    → IsBalanced (sums_at t.accounts a) (balance_after b (prefix_of t.upto seen) a)
IsBalanced-cut t b seen a counts at =
    let account_sums = (AreSumsOf-cut t b seen counts.counted at).accounts a counts.account_in in
    let before = counts.counted.sums.accounts a counts.account_in in
    let run : IsRun b (prefix_of t.upto seen) =
    at.history.runs (place t.upto) (place-IsCut-le b.processes t.upto seen at.cut (ArePublishedBy-IsHistory b seen at.history)) in
    let few = length-counted_records-le b t.upto seen counts.counted.book at.history counts.counted.processes in
    record {
      room = omega (arith, before.small_credits, few);
      covered = omega (arith, account_sums.opening, account_sums.credits, account_sums.debits, run.covered a counts.account_in);
      fits = omega (arith, account_sums.opening, account_sums.credits, account_sums.debits, run.fits a counts.account_in);
      is = omega (arith, account_sums.opening, account_sums.credits, account_sums.debits);
    }

-- what an index reads
pub sums_read : (inside all_sums : List AccountSums) (a : ℕ) (account_sums : AccountSums) → account_sums ≡ get_or inside a account_sums → inside ≡ all_sums → a < length all_sums
    → account_sums ≡ sums_at all_sums a
sums_read inside all_sums a account_sums is same within =
    is ∙ (get_or_default inside a account_sums no_sums (omega (arith, within, ap length same)) ∙ ap (λ r. sums_at r a) same)
