-- The table of commands: what each promises, and what is left of what words ask for.
use Rattle.std.specs.Prelude.{◌≡◌, ℕ, ⊤, Option, Some, None}
use Rattle.at_commands.specs.Prelude.{Call, Usage, Words}
use Rattle.at_commands.specs.Agreed.{agree_promise}
use Rattle.at_commands.specs.Answer.{check_promise, run_terms}
use Rattle.at_commands.specs.Claims.{verify_terms}
use Rattle.at_commands.specs.Commands.{Answered, KeepsNone, Promise}
use Rattle.at_commands.specs.Delivering.{deliver_terms}
use Rattle.at_commands.specs.Faults.Kind.{messages, payments, scheduled}
use Rattle.at_commands.specs.Forms.{FurtherOf, further_promise, payments_promise}
use Rattle.at_commands.specs.Loading.{PaysBytes, PaysReplayBytes, SendsBytes, calls_given, messages_given, replay_calls_given}
use Rattle.at_commands.specs.Made.{make_promise}
use Rattle.at_commands.specs.Outcome.{Found, Outcome}
use Rattle.at_commands.specs.Picturing.{ShowsPage}
use Rattle.at_commands.specs.Replaying.{Printing, ReportsReplay, turns_terms}
use Rattle.at_commands.specs.Tracing.{ShowsTrace}
use Rattle.at_commands.specs.Views.{costs_terms, kinds_terms, ledger_terms, needs_terms, orders_terms}
use Rattle.at_commands.specs.Words.{FurtherForm, Wanted}
use Rattle.at_commands.specs.Words.Wanted.{Agree, Files, Further, Make}
use Rattle.at_commands.specs.declared.words.FormCommand.TheVariants.{Run, Check, Kinds, Needs, Orders, Costs, Ledger}
use Rattle.at_commands.specs.declared.words.FurtherCommand.TheVariants.{Replay, Trace, Show, Verify, Deliver}

-- what a command promises that plays a schedule
abbrev pub turns_promise : Printing → FurtherForm → Promise (FurtherOf Call ℕ)
turns_promise prints form = further_promise replay_calls_given PaysReplayBytes scheduled (turns_terms prints) form

-- what a command promises, of what its files hold
pub record Promised : Type 1 where
  pub What : Type 0
  pub promise : Promise What

abbrev pub promised_of : {W : Type 0} → Promise W → Promised
promised_of {W} P = record { What = W; promise = P }

-- what words promise, by their command
abbrev pub promised : Wanted → Promised
promised (Files Run form) = promised_of (payments_promise run_terms form)
promised (Files Check form) = promised_of (check_promise form)
promised (Files Kinds form) = promised_of (payments_promise kinds_terms form)
promised (Files Needs form) = promised_of (payments_promise needs_terms form)
promised (Files Orders form) = promised_of (payments_promise orders_terms form)
promised (Files Costs form) = promised_of (payments_promise costs_terms form)
promised (Files Ledger form) = promised_of (payments_promise ledger_terms form)
promised (Further Replay form) = promised_of (turns_promise ReportsReplay form)
promised (Further Trace form) = promised_of (turns_promise ShowsTrace form)
promised (Further Show form) = promised_of (turns_promise ShowsPage form)
promised (Further Verify form) = promised_of (further_promise calls_given PaysBytes payments verify_terms form)
promised (Further Deliver form) = promised_of (further_promise messages_given SendsBytes messages deliver_terms form)
promised (Make m) = promised_of (make_promise m)
promised (Agree values) = promised_of (agree_promise values)

-- what is left of what words ask for: what that promises, and where they ask for nothing, that they are refused
abbrev pub Leaves : Option Wanted → Found → Outcome → Type 0
Leaves (Some wanted) s o = Answered (promised wanted).promise s o
Leaves None s o = o.answer ≡ Usage Words

-- the words ask for nothing that is read
abbrev pub ReadsNothing : Option Wanted → Type 0
ReadsNothing (Some wanted) = (promised wanted).promise.unread
ReadsNothing None = ⊤

-- the words ask for nothing that leaves a ledger
abbrev pub LeavesNoLedger : Option Wanted → Type 0
LeavesNoLedger (Some wanted) = KeepsNone (promised wanted).promise
LeavesNoLedger None = ⊤
