-- How a payment turns until its request is settled.
use Rattle.std.specs.Prelude.{◌≡◌, ℕ, suc, ◌<◌, List}
use Rattle.at_payments.specs.Prelude.{slots_of, BookTerms, account_of, TargetPair, Knowledge}
use Rattle.at_payments.specs.HelpTurns.{HelpAnswers, SettlesOwn}
use Rattle.at_payments.specs.HelpingTerms.{HelpingTerms}
use Rattle.at_payments.specs.Helpings.{HasStarted}
use Rattle.at_payments.specs.declared.helping.HelpTurn.TheVariants.{More}

-- what a seat knows after so many turns in a row since it has started, of which each answered more
pub data HasTurned (b : BookTerms) (h : HelpingTerms) (started : Knowledge) : ℕ → Knowledge → Type 0 where
  none : HasTurned b h started 0 started
  again : (turns : ℕ) (before after : Knowledge) → HasTurned b h started turns before → HelpAnswers b before after h More
      → HasTurned b h started (suc turns) after

-- a helping for these targets was started on the account and turned: fewer turns than the account has slots answered more,
-- and one more answered that the request is settled. What the seat knows was changed by these alone
pub record SettlesInTurns (b : BookTerms) (before after : Knowledge) (a : ℕ) (targets : List TargetPair) : Type 0 where
  pub helping : HelpingTerms
  pub account : helping.account ≡ a
  pub targets_are : helping.own.targets ≡ targets
  pub started : Knowledge
  pub starts : HasStarted b before started helping
  pub turns : ℕ
  pub few : turns < slots_of (account_of b a)
  pub last : Knowledge
  pub turned : HasTurned b helping started turns last
  pub settles : SettlesOwn b last after helping
