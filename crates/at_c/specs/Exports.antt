-- What exports answer, as numbers and as plain data.
use Rattle.std.specs.Prelude.{◌≡◌, ℕ, ◌<◌, ◌≤◌, ◌++◌, true, drop, is_some, length, map, Err, List, [], None, Option, Some, ⊤}
use Rattle.at_c.specs.Prelude.{book_of_records, file_records, BadBook, IsCallOn, TargetPair, most_targets, Call, Reply}
use Rattle.at_ledger.specs.declared.call.Reply.TheVariants as reply
use Rattle.at_c.specs.Callers.{CallerLearns, CallerNotes, CallerTellsBalances, OwnCallerTerms, MakesCall}
use Rattle.at_c.specs.Endings.{EndsAs, GatheredTerms, IsReportOfClosed}
use Rattle.at_c.specs.Ledgers.{GathersPasses, HandsOut, IsNewLedger, IsStillOpen, OpenedTerms}
use Rattle.at_c.specs.Why.{why_number}
use Rattle.at_c.specs.declared.ending.Ending.{Ending}
use Rattle.at_c.specs.declared.handing.Handed.{Handed}
use Rattle.at_c.specs.declared.held.Held.{Held}
use Rattle.at_c.specs.declared.outcome.Answer.{Answer}
use Rattle.at_c.specs.declared.outcome.Outcome.{Outcome}
use Rattle.at_c.specs.declared.target.Target.{Target}

-- the number of an outcome in C; of reply_number that of a reply
abbrev pub outcome_number : Outcome → ℕ
outcome_number Outcome.Done = 0
outcome_number Outcome.WrongHandle = 1
outcome_number Outcome.InUse = 2
outcome_number Outcome.NoMemory = 3
outcome_number Outcome.BadBook = 4
outcome_number Outcome.NoCaller = 5
outcome_number Outcome.NoAccount = 6
outcome_number Outcome.NoRoom = 7
outcome_number Outcome.NoPayOut = 8
outcome_number Outcome.CallersOut = 9
outcome_number Outcome.NoProcess = 10
outcome_number Outcome.NoNote = 11
outcome_number Outcome.Busy = 12

abbrev pub reply_number : Reply → ℕ
reply_number reply.Done = 0
reply_number reply.Short = 1
reply_number reply.NotOwner = 2
reply_number reply.Full = 3
reply_number (reply.Balance amount) = 4

-- the balance that a read found. 0 of each reply but a read's
abbrev pub balance_in : Reply → ℕ
balance_in reply.Done = 0
balance_in reply.Short = 0
balance_in reply.NotOwner = 0
balance_in reply.Full = 0
balance_in (reply.Balance amount) = amount

-- the answer of a reply with its steps and exchanges
abbrev pub answer_with : Reply → ℕ → ℕ → Answer
answer_with r steps exchanges = record { reply = reply_number r; balance = balance_in r; steps = steps; exchanges = exchanges }

-- the call was made by the caller, and answered so
pub record Makes (call : Call) (before after : OwnCallerTerms) (answer : Answer) : Type 0 where
  pub reply : Reply
  pub steps : ℕ
  pub exchanges : ℕ
  pub made : MakesCall call before after reply steps exchanges
  pub answer_is : answer ≡ answer_with reply steps exchanges

-- a call that a caller was asked to make was answered so. Where it is done, it was made; where it isn't, nothing has changed. It names
-- an account that isn't there, or there is no room for its receipt, or else it is done
abbrev pub CallerAnswers : Call → OwnCallerTerms → OwnCallerTerms → Answer → Answer → Outcome → Type 0
CallerAnswers call before after was now Outcome.Done =
    IsCallOn (length before.shared.ledger.book.accounts) call × (length before.receipts < before.room) × Makes call before after now
CallerAnswers call before after was now Outcome.NoAccount =
    (¬ IsCallOn (length before.shared.ledger.book.accounts) call) × (after ≡ before) × (now ≡ was)
CallerAnswers call before after was now Outcome.NoRoom =
    IsCallOn (length before.shared.ledger.book.accounts) call × (before.room ≤ length before.receipts) × (after ≡ before) × (now ≡ was)
CallerAnswers call before after was now other = ⊥

-- a call that a handle was given for: the caller that it holds answers it. Where it holds none, nothing has changed
abbrev pub HandleAnswers : Call → Option Held → Option Held → Answer → Answer → Outcome → Type 0
HandleAnswers call (Some (Held.Caller c)) after was now outcome =
    (c' : OwnCallerTerms) × (after ≡ Some (Held.Caller c')) × CallerAnswers call c c' was now outcome
HandleAnswers call before after was now outcome = (outcome ≡ Outcome.WrongHandle) × (after ≡ before) × (now ≡ was)

-- targets as pairs of an account and an amount
abbrev pub pairs_of : List Target → List TargetPair
pairs_of targets = map (λ (t : Target). (t.account, t.amount)) targets

-- a pay-out may have these: they aren't none, and not too many
abbrev pub IsPayOut : List Target → Type 0
IsPayOut targets = (1 ≤ length targets) × (length targets ≤ most_targets)

-- a handle was given a source and targets: the pay-out that they are is answered. Where they are none, nothing has changed
abbrev pub HandlePays : ℕ → List Target → Option Held → Option Held → Answer → Answer → Outcome → Type 0
HandlePays from targets before after was now outcome =
    (IsPayOut targets → HandleAnswers (Call.Pay from (pairs_of targets)) before after was now outcome)
    × ((¬ IsPayOut targets) → (outcome ≡ Outcome.NoPayOut) × (after ≡ before) × (now ≡ was))

-- a handle was to be filled with a ledger of the bytes. Want of memory may be the outcome of every handle that holds nothing, whatever the
-- bytes spell
abbrev pub Opens : List ℕ → Option Held → Option Held → ℕ → ℕ → Outcome → Type 0
Opens bytes before after line why Outcome.Done =
    (before ≡ None) × ((l : OpenedTerms) × (after ≡ Some (Held.Ledger l)) × IsNewLedger bytes l)
Opens bytes before after line why Outcome.BadBook = (before ≡ None) × (after ≡ before)
    × ((bad : BadBook) × (book_of_records (file_records bytes) ≡ Err bad) × (line ≡ bad.line) × (why ≡ why_number bad.why))
Opens bytes before after line why Outcome.InUse = (is_some before ≡ true) × (after ≡ before)
Opens bytes before after line why Outcome.NoMemory = (before ≡ None) × (after ≡ before)
Opens bytes before after line why other = ⊥

-- the next caller of a ledger was handed out
abbrev pub HandsOutOf : ℕ → Held → Held → OwnCallerTerms → Type 0
HandsOutOf calls Held.Nothing after caller = ⊥
HandsOutOf calls (Held.Caller c) after caller = ⊥
HandsOutOf calls (Held.Ending e) after caller = ⊥
HandsOutOf calls (Held.Ledger l) after caller =
    (l' : OpenedTerms) × (after ≡ Held.Ledger l') × HandsOut calls l l' (Some caller)

-- this is no ledger that hands out callers
abbrev pub IsNoLedger : Held → Type 0
IsNoLedger Held.Nothing = ⊤
IsNoLedger (Held.Caller c) = ⊤
IsNoLedger (Held.Ledger l) = ⊥
IsNoLedger (Held.Ending e) = ⊤

-- this is a ledger of which all callers were handed out
abbrev pub HasNoneLeft : Held → Type 0
HasNoneLeft Held.Nothing = ⊥
HasNoneLeft (Held.Caller c) = ⊥
HasNoneLeft (Held.Ledger l) = l.waiting ≡ []
HasNoneLeft (Held.Ending e) = ⊥

-- what was asked for the next caller of its ledger has answered so, and was left so
abbrev pub HandedOf : ℕ → Held → Held → Handed → Type 0
HandedOf calls before after (Handed.Next caller) = HandsOutOf calls before after caller
HandedOf calls before after Handed.NoCaller = HasNoneLeft before × (after ≡ before)
HandedOf calls before after Handed.NoMemory = after ≡ before
HandedOf calls before after Handed.NoLedger = IsNoLedger before × (after ≡ before)

-- the same of what a handle holds
abbrev pub HoldsNoLedger : Option Held → Type 0
HoldsNoLedger None = ⊤
HoldsNoLedger (Some held) = IsNoLedger held

abbrev pub HoldsNoneLeft : Option Held → Type 0
HoldsNoneLeft None = ⊥
HoldsNoneLeft (Some held) = HasNoneLeft held

-- a handle was to be filled with the next caller of the ledger that another holds. Where it isn't, nothing has changed
abbrev pub HandsOutTo : ℕ → Option Held → Option Held → Option Held → Option Held → Outcome → Type 0
HandsOutTo calls ledger ledger_now caller caller_now Outcome.Done = (caller ≡ None)
    × ((held : Held) × (held_now : Held) × (next : OwnCallerTerms) × (ledger ≡ Some held) × (ledger_now ≡ Some held_now)
    × (caller_now ≡ Some (Held.Caller next)) × HandsOutOf calls held held_now next)
HandsOutTo calls ledger ledger_now caller caller_now Outcome.InUse =
    (is_some caller ≡ true) × (ledger_now ≡ ledger) × (caller_now ≡ caller)
HandsOutTo calls ledger ledger_now caller caller_now Outcome.WrongHandle =
    (caller ≡ None) × (ledger_now ≡ ledger) × (caller_now ≡ caller) × HoldsNoLedger ledger
HandsOutTo calls ledger ledger_now caller caller_now Outcome.NoMemory = (caller ≡ None) × (ledger_now ≡ ledger) × (caller_now ≡ caller)
HandsOutTo calls ledger ledger_now caller caller_now Outcome.NoCaller =
    (caller ≡ None) × (ledger_now ≡ ledger) × (caller_now ≡ caller) × HoldsNoneLeft ledger
HandsOutTo calls ledger ledger_now caller caller_now other = ⊥

-- the steps of a caller
abbrev pub steps_of_held : Held → ℕ
steps_of_held Held.Nothing = 0
steps_of_held (Held.Ledger l) = 0
steps_of_held (Held.Caller c) = c.pass.steps
steps_of_held (Held.Ending e) = 0

abbrev pub exchanges_of_held : Held → ℕ
exchanges_of_held Held.Nothing = 0
exchanges_of_held (Held.Ledger l) = 0
exchanges_of_held (Held.Caller c) = c.pass.exchanges
exchanges_of_held (Held.Ending e) = 0

-- the same of what a handle holds
abbrev pub steps_by_handle : Option Held → ℕ
steps_by_handle None = 0
steps_by_handle (Some held) = steps_of_held held

-- the count of the caller's pass, and 0 where the handle holds none
abbrev pub exchanges_by_handle : Option Held → ℕ
exchanges_by_handle None = 0
exchanges_by_handle (Some held) = exchanges_of_held held

-- how many accounts the book of a ledger or of a caller has
abbrev pub accounts_of_held : Held → ℕ
accounts_of_held Held.Nothing = 0
accounts_of_held (Held.Ledger l) = length l.shared.ledger.book.accounts
accounts_of_held (Held.Caller c) = length c.shared.ledger.book.accounts
accounts_of_held (Held.Ending e) = 0

-- the same of what a handle holds, and 0 where it holds neither
abbrev pub accounts_by_handle : Option Held → ℕ
accounts_by_handle None = 0
accounts_by_handle (Some held) = accounts_of_held held

-- a handle was given to leave a note for a process, or to learn what one has left: the caller that it holds does. Where it holds none,
-- nothing has changed
abbrev pub HandleNotes : ℕ → Option Held → Option Held → Outcome → Type 0
HandleNotes process (Some (Held.Caller c)) after outcome =
    (c' : OwnCallerTerms) × (after ≡ Some (Held.Caller c')) × CallerNotes process c c' outcome
HandleNotes process before after outcome = (outcome ≡ Outcome.WrongHandle) × (after ≡ before)

abbrev pub HandleLearns : ℕ → Option Held → Option Held → Outcome → Type 0
HandleLearns process (Some (Held.Caller c)) after outcome =
    (c' : OwnCallerTerms) × (after ≡ Some (Held.Caller c')) × CallerLearns process c c' outcome
HandleLearns process before after outcome = (outcome ≡ Outcome.WrongHandle) × (after ≡ before)

-- a handle was given to tell all balances: the caller that it holds does. Where it holds none, nothing has changed
abbrev pub HandleTellsBalances : Option Held → Option Held → List ℕ → List ℕ → Outcome → Type 0
HandleTellsBalances (Some (Held.Caller c)) after was now outcome =
    (c' : OwnCallerTerms) × (after ≡ Some (Held.Caller c')) × CallerTellsBalances c c' was now outcome
HandleTellsBalances before after was now outcome = (outcome ≡ Outcome.WrongHandle) × (after ≡ before) × (now ≡ was)

-- this is no caller
abbrev pub IsNoCaller : Held → Type 0
IsNoCaller Held.Nothing = ⊤
IsNoCaller (Held.Ledger l) = ⊤
IsNoCaller (Held.Caller c) = ⊥
IsNoCaller (Held.Ending e) = ⊤

-- what giving back leaves of what is held
abbrev pub GivesBackHeld : Held → Held → Outcome → Type 0
GivesBackHeld before after Outcome.Done = (c : OwnCallerTerms) × (before ≡ Held.Caller c) × (after ≡ Held.Nothing)
GivesBackHeld before after Outcome.Busy = (c : OwnCallerTerms) × (before ≡ Held.Caller c) × (after ≡ before)
GivesBackHeld before after Outcome.WrongHandle = IsNoCaller before × (after ≡ before)
GivesBackHeld before after other = ⊥

-- the same of what a handle holds
abbrev pub HoldsCaller : Option Held → Type 0
HoldsCaller held = (c : OwnCallerTerms) × (held ≡ Some (Held.Caller c))

abbrev pub HoldsNoCaller : Option Held → Type 0
HoldsNoCaller None = ⊤
HoldsNoCaller (Some held) = IsNoCaller held

-- a handle was to give back the caller that it holds: it is left with nothing, or as it was
abbrev pub GivesBack : Option Held → Option Held → Outcome → Type 0
GivesBack before after Outcome.Done = HoldsCaller before × (after ≡ None)
GivesBack before after Outcome.Busy = HoldsCaller before × (after ≡ before)
GivesBack before after Outcome.WrongHandle = HoldsNoCaller before × (after ≡ before)
GivesBack before after other = ⊥

-- how far an end goes on to another: not at all, or to its closed ledger, or to the report of that
abbrev pub GoesOnTo : Ending → Ending → Type 0
GoesOnTo (Ending.Gathered g) (Ending.Gathered g') = g' ≡ g
GoesOnTo (Ending.Gathered g) (Ending.Closed e) = EndsAs g e
GoesOnTo (Ending.Gathered g) (Ending.Reported r) = EndsAs g r.ended × IsReportOfClosed r.ended.closed r.ended.names r.text
GoesOnTo (Ending.Closed e) (Ending.Gathered g) = ⊥
GoesOnTo (Ending.Closed e) (Ending.Closed e') = e' ≡ e
GoesOnTo (Ending.Closed e) (Ending.Reported r) = (r.ended ≡ e) × IsReportOfClosed r.ended.closed r.ended.names r.text
GoesOnTo (Ending.Reported r) (Ending.Gathered g) = ⊥
GoesOnTo (Ending.Reported r) (Ending.Closed e) = ⊥
GoesOnTo (Ending.Reported r) (Ending.Reported r') = r' ≡ r

-- it is done where the report is made, and else memory was wanting
abbrev pub ending_outcome : Ending → Outcome
ending_outcome (Ending.Gathered g) = Outcome.NoMemory
ending_outcome (Ending.Closed e) = Outcome.NoMemory
ending_outcome (Ending.Reported r) = Outcome.Done

-- an end went on, and this is held now
abbrev pub EndsHeld : Ending → Held → Outcome → Type 0
EndsHeld before after outcome =
    (e : Ending) × (after ≡ Held.Ending e) × GoesOnTo before e × (outcome ≡ ending_outcome e)

-- what closing leaves of what is held. A ledger of which a caller is out stays as it is, but that more may have come back
abbrev pub ClosesHeld : Held → Held → Outcome → Type 0
ClosesHeld (Held.Ledger l) after Outcome.CallersOut = (l' : OpenedTerms) × (after ≡ Held.Ledger l') × IsStillOpen l l'
ClosesHeld (Held.Ledger l) after outcome = (g : GatheredTerms) × GathersPasses l g × EndsHeld (Ending.Gathered g) after outcome
ClosesHeld (Held.Ending e) after outcome = EndsHeld e after outcome
ClosesHeld before after outcome = (outcome ≡ Outcome.WrongHandle) × (after ≡ before)

-- a handle was to be closed
abbrev pub Closes : Option Held → Option Held → Outcome → Type 0
Closes None after outcome = (outcome ≡ Outcome.WrongHandle) × (after ≡ None)
Closes (Some before) after outcome = (held : Held) × (after ≡ Some held) × ClosesHeld before held outcome

-- the report, and nothing of what holds none
abbrev pub report_of_ending : Ending → List ℕ
report_of_ending (Ending.Gathered g) = []
report_of_ending (Ending.Closed e) = []
report_of_ending (Ending.Reported r) = r.text

abbrev pub report_of_held : Held → List ℕ
report_of_held Held.Nothing = []
report_of_held (Held.Ledger l) = []
report_of_held (Held.Caller c) = []
report_of_held (Held.Ending e) = report_of_ending e

-- the report that a handle holds, none where it holds none
abbrev pub report_by_handle : Option Held → List ℕ
report_by_handle None = []
report_by_handle (Some held) = report_of_held held

-- the text stands over the first bytes, if they are as many. Else all are as they were
pub record WritesOver (text before after : List ℕ) : Type 0 where
  pub written : length text ≤ length before → after ≡ text ++ drop (length text) before
  pub same : length before < length text → after ≡ before
