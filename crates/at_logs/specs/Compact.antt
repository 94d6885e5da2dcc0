-- What a node keeps of the messages that it has read: those that weren't told, and what is left of the others.
use Rattle.std.specs.Prelude.{◌≡◌, ℕ, ◌==◌, ◌+◌, ◌-◌, ◌<◌, ◌≤◌, List, [], ◌∷◌, ◌++◌, All, length, map, filter, drop, replicate, sum, sum_by, slice_get, slice_index, slice_index_or, Option, Some, None, Bool, false, not, nat_lt, if◌then◌else◌}
use Rattle.at_logs.specs.Prelude.{Covers, IsLogBook, IsMessageOn, IsSteady, LogTerms, IsValid, MESSAGES_MAX, Message, MessageList, NodeState, Payout, TargetPair, account_on_logs, amount_of, came, message_of, range_with_len, total_on_logs, went}
use Rattle.at_logs.specs.declared.credits.Credit.{Credit}

-- of one log: its messages that weren't told, from the first on; the credits to accounts that it debits which the `deps` of its next message
-- can still leave out; and the `deps` up to which the credits to these accounts are settled
pub record BacklogState : Type 0 where
  pub messages : List Message
  pub credits : List Credit
  pub settled_at : List ℕ

-- what is kept of all logs: how many messages of each are validated, and how many were told; of each account what is settled, without the
-- credits that are kept, and the balance; and the backlog of each log
pub record CompactState : Type 0 where
  pub book : LogTerms
  pub validated : List ℕ
  pub told : List ℕ
  pub settled : List ℕ
  pub balances : List ℕ
  pub backlogs : List BacklogState

abbrev pub no_backlog : BacklogState
no_backlog = record { messages = []; credits = []; settled_at = [] }

-- the backlog of a log
abbrev pub backlog_of : List BacklogState → ℕ → BacklogState
backlog_of backlogs p = slice_index_or backlogs p no_backlog

-- what a credit brings to an account
abbrev pub credit_to : ℕ → Credit → ℕ
credit_to account c = if c.account == account then c.amount else 0

-- whether `deps` count the message that it came by
abbrev pub is_below : List ℕ → Credit → Bool
is_below deps c = nat_lt c.number (slice_index deps c.log)

-- what it brings there by then
abbrev pub credit_below : ℕ → List ℕ → Credit → ℕ
credit_below account deps c = if is_below deps c then credit_to account c else 0

-- the log without the credits below some counts, up to which it is settled then
abbrev pub backlog_settled : BacklogState → List ℕ → BacklogState
backlog_settled l deps = record { messages = l.messages; credits = filter (λ x. not (is_below deps x)) l.credits; settled_at = deps }

-- with more messages at its end
abbrev pub backlog_with : BacklogState → List Message → BacklogState
backlog_with l more = record { messages = l.messages ++ more; credits = l.credits; settled_at = l.settled_at }

-- without its first messages
abbrev pub backlog_told : BacklogState → ℕ → BacklogState
backlog_told l n = record { messages = drop n l.messages; credits = l.credits; settled_at = l.settled_at }

-- of one of so many logs, when nothing was read
abbrev pub new_backlog : ℕ → BacklogState
new_backlog logs = record { messages = []; credits = []; settled_at = replicate logs 0 }

-- whether this is the log
abbrev pub is_log : ℕ → Option ℕ → Bool
is_log p None = false
is_log p (Some q) = q == p

-- the credits to accounts that log `p` debits by a message of this log and number
abbrev pub credits_of : LogTerms → ℕ → ℕ → ℕ → List TargetPair → List Credit
credits_of b p log number [] = []
credits_of b p log number (t ∷ targets) =
    if is_log p (account_on_logs b t.0).log
    then record { account = t.0; log = log; number = number; amount = t.1 } ∷ credits_of b p log number targets
    else credits_of b p log number targets

-- the log with the credits to its accounts by a message of a log and number
abbrev pub backlog_credited : LogTerms → ℕ → BacklogState → ℕ → ℕ → List TargetPair → BacklogState
backlog_credited b p l log number targets =
    record { messages = l.messages; credits = l.credits ++ credits_of b p log number targets; settled_at = l.settled_at }

-- nothing was read, and each account has what it opens with
abbrev pub new_state : LogTerms → CompactState
new_state b = record {
  book = b;
  validated = replicate b.logs 0;
  told = replicate b.logs 0;
  settled = map (λ t. t.opening) b.accounts;
  balances = map (λ t. t.opening) b.accounts;
  backlogs = replicate b.logs (new_backlog b.logs);
}

-- the node that keeps all messages
abbrev pub whole_node : CompactState → List MessageList → NodeState
whole_node c messages = record { book = c.book; messages = messages; validated = c.validated; balances = c.balances }

-- the `deps` of a log's messages never fall
abbrev pub HasRisingDeps : List MessageList → Type 0
HasRisingDeps messages = (p number later : ℕ) (m next : Message) → number ≤ later → message_of messages p number ≡ Some m → message_of messages p later ≡ Some next
    → Covers next.deps m.deps

-- credits of a log are settled up to nothing, or up to no more than the `deps` of a message that is validated or comes next
pub data IsSettledUpTo (messages : List MessageList) (p validated : ℕ) (deps : List ℕ) : Type 0 where
  nothing : ((q : ℕ) → slice_index deps q ≡ 0) → IsSettledUpTo messages p validated deps
  message : (number : ℕ) (m : Message) → number ≤ validated → message_of messages p number ≡ Some m
      → ((q : ℕ) → slice_index deps q ≤ slice_index m.deps q) → IsSettledUpTo messages p validated deps

-- counts at which the next message of a log can be made: they have all of the log, no more than is validated, and no less than is settled
pub record AreNextDeps (b : LogTerms) (validated : List ℕ) (p : ℕ) (settled_at deps : List ℕ) : Type 0 where
  pub sized : length deps ≡ b.logs
  pub own : slice_index deps p ≡ slice_index validated p
  pub within : Covers validated deps
  pub settled : Covers deps settled_at

-- of each account that the log debits: what is settled and the kept credits below such counts are what came less what went by them
pub record IsSettledFrom (b : LogTerms) (messages : List MessageList) (validated settled : List ℕ) (p : ℕ) (credits : List Credit) (settled_at : List ℕ) : Type 0 where
  pub sized : length settled_at ≡ b.logs
  pub up_to : IsSettledUpTo messages p (slice_index validated p) settled_at
  pub within : Covers validated settled_at
  pub left : All (λ x. slice_index settled_at x.log ≤ x.number) credits
  pub earlier : All (λ x. x.number < slice_index validated x.log) credits
  pub balance : (account : ℕ) (deps : List ℕ) → account < length b.accounts → (account_on_logs b account).log ≡ Some p → AreNextDeps b validated p settled_at deps
      → slice_index settled account + sum_by (credit_below account deps) credits + went messages deps account ≡ came b messages deps account

-- this is kept of these messages
pub record IsKeptOf (messages : List MessageList) (c : CompactState) : Type 0 where
  pub steady : IsSteady (whole_node c messages)
  pub rising : HasRisingDeps messages
  pub waiting : (p k : ℕ) → p < c.book.logs → message_of messages p (slice_index c.told p + k) ≡ slice_get (backlog_of c.backlogs p).messages k
  pub settled : (p : ℕ) → p < c.book.logs
      → IsSettledFrom c.book messages c.validated c.settled p (backlog_of c.backlogs p).credits (backlog_of c.backlogs p).settled_at

-- ---- what holds of such a state, whatever it is kept of

-- a credit to an account of the log
pub record IsCreditOf (b : LogTerms) (p : ℕ) (x : Credit) : Type 0 where
  pub account : x.account < length b.accounts
  pub log : x.log < b.logs
  pub owner : (account_on_logs b x.account).log ≡ Some p

-- the messages that weren't told go as far as those that are validated, and there are numbers for them
pub record IsBacklog (c : CompactState) (p : ℕ) (l : BacklogState) : Type 0 where
  pub told : slice_index c.told p ≤ slice_index c.validated p
  pub within : slice_index c.validated p ≤ slice_index c.told p + length l.messages
  pub few : slice_index c.told p + length l.messages ≤ MESSAGES_MAX
  pub known : All (IsMessageOn c.book.logs (length c.book.accounts)) l.messages
  pub sized : length l.settled_at ≡ c.book.logs
  pub credits : All (IsCreditOf c.book p) l.credits

-- a balance is what is settled and what is kept, and all balances are the total
pub record IsCompact (c : CompactState) : Type 0 where
  pub book : IsLogBook c.book
  pub counted : length c.validated ≡ c.book.logs
  pub told_counted : length c.told ≡ c.book.logs
  pub sized : length c.backlogs ≡ c.book.logs
  pub settled_sized : length c.settled ≡ length c.book.accounts
  pub balanced : length c.balances ≡ length c.book.accounts
  pub total : sum c.balances ≡ total_on_logs c.book
  pub backlogs : (p : ℕ) → p < c.book.logs → IsBacklog c p (backlog_of c.backlogs p)
  pub split : (p account : ℕ) → p < c.book.logs → account < length c.book.accounts → (account_on_logs c.book account).log ≡ Some p
      → slice_index c.settled account + sum_by (credit_to account) (backlog_of c.backlogs p).credits ≡ slice_index c.balances account

-- ---- memory: there is room for the credits that messages will bring once they are validated

-- a backlog, and for how many more credits it has room
pub record RoomyBacklog : Type 0 where
  pub kept : BacklogState
  pub room : ℕ

-- the backlogs alone
abbrev pub kept_of : List RoomyBacklog → List BacklogState
kept_of all = map (λ l. l.kept) all

-- the room of a log
abbrev pub room_of : List RoomyBacklog → ℕ → ℕ
room_of all p = (slice_index_or all p (record { kept = no_backlog; room = 0 })).room

-- how many of some targets are accounts that the log debits
abbrev pub named_among : LogTerms → ℕ → List TargetPair → ℕ
named_among b p targets = sum_by (λ t. if is_log p (account_on_logs b t.0).log then 1 else 0) targets

-- the messages of a log that aren't validated
abbrev pub waiting_of : CompactState → ℕ → List Message
waiting_of c q = drop (slice_index c.validated q - slice_index c.told q) (backlog_of c.backlogs q).messages

-- how many credits to accounts of the log they bring, those of all logs
abbrev pub needed : CompactState → ℕ → ℕ
needed c p = sum_by (λ q. sum_by (λ m. named_among c.book p m.targets) (waiting_of c q)) (range_with_len 0 c.book.logs)

abbrev pub HasCreditRoom : CompactState → List RoomyBacklog → Type 0
HasCreditRoom c all = (p : ℕ) → p < c.book.logs → needed c p ≤ room_of all p

-- the state of what a node keeps, without the room
abbrev pub state_of : LogTerms → List ℕ → List ℕ → List ℕ → List ℕ → List RoomyBacklog → CompactState
state_of b validated told settled balances all =
    record { book = b; validated = validated; told = told; settled = settled; balances = balances; backlogs = kept_of all }

-- ---- steps

-- the message that a log's next one is, if it was read
abbrev pub next_message : CompactState → ℕ → Option Message
next_message c p = slice_get (backlog_of c.backlogs p).messages (slice_index c.validated p - slice_index c.told p)

-- credits may be settled, and all messages are kept that were
pub record SettlesFrom (old new : CompactState) : Type 0 where
  pub book : new.book ≡ old.book
  pub validated : new.validated ≡ old.validated
  pub told : new.told ≡ old.told
  pub messages : (p : ℕ) → (backlog_of new.backlogs p).messages ≡ (backlog_of old.backlogs p).messages
  pub kept : (messages : List MessageList) → IsKeptOf messages old → IsKeptOf messages new

-- messages may be validated too
pub record ValidatesFrom (old new : CompactState) : Type 0 where
  pub book : new.book ≡ old.book
  pub told : new.told ≡ old.told
  pub messages : (p : ℕ) → (backlog_of new.backlogs p).messages ≡ (backlog_of old.backlogs p).messages
  pub kept : (messages : List MessageList) → IsKeptOf messages old → IsKeptOf messages new

-- the next message of a log, which moves this, is made there: the log debits its source, and its `deps` are counts at which it can be made
pub record IsNextMade (c : CompactState) (t : Payout) (deps : List ℕ) : Type 0 where
  pub message : Message
  pub log : t.log < c.book.logs
  pub next : next_message c t.log ≡ Some message
  pub source : t.from ≡ message.from
  pub targets : t.targets ≡ message.targets
  pub read : deps ≡ message.deps
  pub owner : (account_on_logs c.book message.from).log ≡ Some t.log
  pub own : slice_index message.deps t.log ≡ slice_index c.validated t.log
  pub covered : Covers c.validated message.deps

-- it is valid, and what is settled covers it
pub record IsPayable (c : CompactState) (t : Payout) : Type 0 where
  pub deps : List ℕ
  pub ready : IsNextMade c t deps
  pub covers : amount_of t.targets ≤ slice_index c.settled t.from
  pub valid : (messages : List MessageList) → IsKeptOf messages c → IsValid c.book messages c.validated t.log ready.message

-- no next message of the log is valid after a step, whatever the messages are of which all was kept before it
abbrev pub IsStuckIn : CompactState → CompactState → ℕ → Type 0
IsStuckIn old new p = (messages : List MessageList) → IsKeptOf messages old → (m : Message) → ¬ IsValid new.book messages new.validated p m

abbrev pub IsStuck : CompactState → ℕ → Type 0
IsStuck c p = IsStuckIn c c p
