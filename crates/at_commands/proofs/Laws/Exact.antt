-- What a refusal is where no fault of the shelf is counted.
use Rattle.std.proofs.Common.{◌≡◌, ◌⊎◌, ℕ, Bool, true, Result, Err, inl, inr, refl}
use Rattle.at_commands.proofs.Prelude.{Status, Usage, BadBook, BadPayments, ReadFault, WriteFault, NoMemory, TooLong, BadSchedule, BadOrder, BadMessages, NotLegal, TooManyOrders, IsFaultless, IsUnread, Kind, MayRefuseOf, payments, scheduled, messages}
use Rattle.at_report.specs.declared.status.Status.TheVariants.{Done}
use Rattle.at_report.specs.declared.status.UsageFault.TheVariants as usage
use Rattle.at_commands.proofs.Laws.MayRefuse.{Rose-IsFaultless}

-- a refusal without a fault is the one that the files bring
refusal-unread : {A : Type 0} (tells : Bool) (expected : Result A Status) (before now : ℕ) (refusal : Status)
    → IsFaultless before now → IsUnread tells expected before now refusal → expected ≡ Err refusal
refusal-unread tells expected before now refusal faultless (inl rose) = absurd (Rose-IsFaultless before now faultless rose)
refusal-unread tells expected before now refusal faultless (inr lacks) = lacks.1

-- it is want of memory, or what the files bring
pub refusal-brought : {A : Type 0} (kind : Kind) (tells : Bool) (expected : Result A Status) (before now : ℕ) (refusal : Status)
    → tells ≡ true → IsFaultless before now → MayRefuseOf kind tells expected before now refusal → (refusal ≡ NoMemory) ⊎ (expected ≡ Err refusal)
refusal-brought kind tells expected before now NoMemory told faultless h = inl refl
refusal-brought kind tells expected before now (ReadFault file) told faultless h = inr (refusal-unread tells expected before now (ReadFault file) faultless h)
refusal-brought kind tells expected before now (Usage (usage.Files wanted given)) told faultless h = inr (h.1 told)
refusal-brought kind tells expected before now (BadBook at why) told faultless h = inr (h.1 told)
refusal-brought kind tells expected before now (TooLong file) told faultless h = inr (h.1 told)
refusal-brought kind tells expected before now (Usage usage.Words) told faultless h = absurd h
refusal-brought kind tells expected before now Done told faultless h = absurd h
refusal-brought kind tells expected before now WriteFault told faultless h = absurd h
refusal-brought kind tells expected before now (NotLegal line line_expected) told faultless h = absurd h
refusal-brought kind tells expected before now TooManyOrders told faultless h = absurd h
refusal-brought payments tells expected before now (BadPayments process at why) told faultless h = inr (h.1 told)
refusal-brought scheduled tells expected before now (BadPayments process at why) told faultless h = inr (h.1 told)
refusal-brought messages tells expected before now (BadPayments process at why) told faultless h = absurd h
refusal-brought payments tells expected before now (BadSchedule at why) told faultless h = absurd h
refusal-brought scheduled tells expected before now (BadSchedule at why) told faultless h = inr (h.1 told)
refusal-brought messages tells expected before now (BadSchedule at why) told faultless h = absurd h
refusal-brought payments tells expected before now (BadOrder at why) told faultless h = absurd h
refusal-brought scheduled tells expected before now (BadOrder at why) told faultless h = absurd h
refusal-brought messages tells expected before now (BadOrder at why) told faultless h = inr (h.1 told)
refusal-brought payments tells expected before now (BadMessages process at why) told faultless h = absurd h
refusal-brought scheduled tells expected before now (BadMessages process at why) told faultless h = absurd h
refusal-brought messages tells expected before now (BadMessages process at why) told faultless h = inr (h.1 told)
