-- Opened ledgers as exports see them, and what handing out a caller leaves.
use Rattle.std.specs.Prelude.{◌≡◌, ℕ, ◌+◌, ◌<◌, ◌≤◌, ◌++◌, replicate, List, [], ◌∷◌, length, slice_index_or, All, None, Option, Some}
use Rattle.at_c.specs.Prelude.{Spells, file_records, IsAccountedFor, IsNewPass, PassTerms, Receipt}
use Rattle.at_c.specs.Callers.{OwnCallerTerms}
use Rattle.at_c.specs.Endings.{GatheredTerms}
use Rattle.at_c.specs.Given.{AreReceipts}
use Rattle.at_c.specs.Shared.{SharedTerms}

-- an opened ledger by what its callers share, how many callers were handed out, the passes of the others, the passes that came back with
-- their receipts, and how many it has memory for
pub record OpenedTerms : Type 0 where
  pub shared : SharedTerms
  pub handed : ℕ
  pub waiting : List PassTerms
  pub passes : List PassTerms
  pub receipts : List (List Receipt)
  pub passes_room : ℕ
  pub receipts_room : ℕ

-- those that wait are new passes of the ledger, of the next processes in order. Those that came back are of the first ones, in order, each
-- with the receipts of its calls
pub record IsOpened (o : OpenedTerms) : Type 0 where
  pub count : o.handed + length o.waiting ≡ o.shared.ledger.book.processes
  pub each : (i : ℕ) (d : PassTerms) → i < length o.waiting → IsNewPass o.shared.ledger (o.handed + i) (slice_index_or o.waiting i d)
  pub within : length o.passes ≤ o.handed
  pub even : length o.receipts ≡ length o.passes
  pub back : (p : ℕ) (d : PassTerms) → p < length o.passes →
      IsAccountedFor o.shared.ledger p (slice_index_or o.passes p d) (slice_index_or o.receipts p [])
  pub are : All (AreReceipts (length o.shared.ledger.book.accounts)) o.receipts
  pub passes_fit : o.shared.ledger.book.processes ≤ o.passes_room
  pub receipts_fit : o.shared.ledger.book.processes ≤ o.receipts_room

-- a new ledger for the book that the bytes spell, of which no caller was handed out
pub record IsNewLedger (bytes : List ℕ) (o : OpenedTerms) : Type 0 where
  pub spelled : Spells (file_records bytes) o.shared.ledger.book o.shared.names
  pub handed_is : o.handed ≡ 0

-- where a pass waited, the caller of the next process was handed out, which has made no call and has room for so many. The others still
-- wait. Where none did, all is as it was
abbrev pub HandsOut : ℕ → OpenedTerms → OpenedTerms → Option OwnCallerTerms → Type 0
HandsOut calls before after None = (before.waiting ≡ []) × (after ≡ before)
HandsOut calls before after (Some caller) =
    (pass : PassTerms) × (rest : List PassTerms) × (before.waiting ≡ pass ∷ rest) × IsNewPass before.shared.ledger before.handed pass
    × (caller ≡ record { shared = before.shared; pass = pass; receipts = []; room = calls })
    × (after ≡ record before { handed = before.handed + 1; waiting = rest })

-- nothing has changed but that these more passes may have come back, with their receipts
pub record IsStillOpen (before after : OpenedTerms) : Type 0 where
  pub passes : List PassTerms
  pub receipts : List (List Receipt)
  pub same : after ≡ record before { passes = before.passes ++ passes; receipts = before.receipts ++ receipts }

-- the ledger alone with all its passes: those that were back, those that came back now, each with its receipts, and those that were never
-- handed out, which have none
pub record GathersPasses (o : OpenedTerms) (g : GatheredTerms) : Type 0 where
  pub still : OpenedTerms
  pub more : IsStillOpen o still
  pub all : length still.passes ≡ o.handed
  pub ledger_is : g.ledger ≡ o.shared.ledger
  pub names_are : g.names ≡ o.shared.names
  pub passes_are : g.passes ≡ still.passes ++ o.waiting
  pub receipts_are : g.receipts ≡ still.receipts ++ replicate (length o.waiting) []
