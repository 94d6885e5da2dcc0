-- What a node's calls leave, and what is promised of it, whatever it has read.
use Rattle.std.specs.Prelude.{◌≡◌, ℕ, ◌+◌, List, slice_set, sum}
use Rattle.at_logs.specs.Prelude.{AgreesWithAll, Covers, IsClosed, IsFinal, IsSolvent, KeepsUp, MessageList, Reached, SharesBalances, SharesPrefixes, ShowsBalances, one_more_of, sha256, total_of, total_on_logs}
use Rattle.at_logs.specs.Answers.{HasTaken, LeavesAfter}
use Rattle.at_logs.specs.Compact.{backlog_of, backlog_told}
use Rattle.at_logs.specs.Draft.{IsFinalAt}
use Rattle.at_logs.specs.Entry.{EntryTerms}
use Rattle.at_logs.specs.Reading.{IsHistoryOf, NodeTerms, ReadingState, read_state, shown, tail_of}
use Rattle.at_logs.specs.SameLogs.{AgreesOnLogs, FollowsOnLogs, ReadsGrown, ReadsOn, SharesBalancesOnLogs, SharesPrefixesOnLogs, TellsOn}
use Rattle.at_logs.specs.Telling.{IsFirstUntold, TellsLegally, TellsNext}
use Rattle.at_logs.specs.declared.node.Answer.{Answer}
use Rattle.at_logs.specs.declared.node.Answer.TheVariants.{Taken}
use Rattle.at_logs.specs.declared.node.Draft.{Draft}
use Rattle.at_logs.specs.declared.node.Told.{Told}

-- the node that has read `s` has read one entry more
pub record HasReadEntry (s : ReadingState) (log : ℕ) (bytes : List ℕ) (e : EntryTerms) (n : NodeTerms) : Type 0 where
  pub messages : List MessageList
  pub history : IsHistoryOf messages n
  pub taken : HasTaken s log bytes e (read_state n messages)

-- it has answered bytes at a place: this is what it has read then, and it is bytes of the same logs
pub record HasAnswered (s : ReadingState) (log place : ℕ) (bytes : List ℕ) (a : Answer) (n : NodeTerms) : Type 0 where
  pub messages : List MessageList
  pub history : IsHistoryOf messages n
  pub left : LeavesAfter s log bytes (read_state n messages) a
  pub read : ReadsOn s log place bytes (read_state n messages)

-- it has answered a draft at its place, and once that was taken its payment is final
pub record HasMade (s : ReadingState) (d : Draft) (a : Answer) (n : NodeTerms) : Type 0 where
  pub answered : HasAnswered s d.log d.place d.bytes.items a n
  pub is_final : a ≡ Taken → IsFinalAt (read_state n answered.messages) d

-- it has told the next message, of the lowest log that has one
pub record HasTold (s : ReadingState) (told : Told) (n : NodeTerms) : Type 0 where
  pub history : IsHistoryOf s.node.messages n
  pub next : TellsNext s (read_state n s.node.messages) told
  pub first : IsFirstUntold s told
  pub read : TellsOn s (read_state n s.node.messages)

-- so many messages of each log are told by some node that has read the same and told no less
pub record CanResume (s : ReadingState) (told : List ℕ) : Type 0 where
  pub below : Covers told s.told
  pub reached : ∥ Reached s.node.book s.node.messages told ∥₁

-- it has told these, and is else the same
pub record HasResumed (s : ReadingState) (told : List ℕ) (n : NodeTerms) : Type 0 where
  pub history : IsHistoryOf s.node.messages n
  pub left : read_state n s.node.messages ≡ record s { told = told }
  pub read : TellsOn s (read_state n s.node.messages)

-- it has passed over bytes
abbrev pub passed_terms : NodeTerms → ℕ → List ℕ → NodeTerms
passed_terms n log bytes = record n {
  tails = slice_set n.tails log (record (tail_of (shown n) log) { entries = (tail_of (shown n) log).entries + 1; hash = sha256 bytes });
}

-- it has told the next message of a log, and let it go
abbrev pub told_terms : NodeTerms → ℕ → NodeTerms
told_terms n p = record n {
  core = record n.core { told = one_more_of n.core.told p; backlogs = slice_set n.core.backlogs p (backlog_told (backlog_of n.core.backlogs p) 1) };
}

-- what is promised of a node that has read this: of it alone, beside any other node, and beside any that was given bytes of the same logs
pub record Promises (s : ReadingState) : Type 0 where
  pub closed : IsClosed s.node.book s.node.messages s.node.validated
  pub balances : ShowsBalances s.node
  pub solvent : IsSolvent s.node
  pub total : sum s.node.balances ≡ total_on_logs s.node.book
  pub book_total : sum s.node.balances ≡ total_of s.book
  pub told : TellsLegally s
  pub agree : AgreesWithAll s.node
  pub keeps_up : KeepsUp s.node
  pub is_final : IsFinal s.node
  pub prefixes : SharesPrefixes s.node
  pub shared : SharesBalances s.node
  pub grown : ReadsGrown s
  pub agree_on_logs : AgreesOnLogs s
  pub follows_on_logs : FollowsOnLogs s
  pub prefixes_on_logs : SharesPrefixesOnLogs s
  pub balances_on_logs : SharesBalancesOnLogs s
