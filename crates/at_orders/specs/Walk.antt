-- What the walk knows of the stages that it has seen.
use Rattle.std.specs.Prelude.{◌≡◌, ℕ, ◌+◌, ◌<◌, ◌≤◌, List, [], ◌++◌, length, slice_get, slice_index, slice_index_or, sum, take, All, Contains, Option, None, Some}
use Rattle.at_orders.specs.Prelude.{IsBook, total_of, TargetPair, first_account, payout_of, LedgerState, step, IsPlayable, Call, Reply, AreWithinFiles, with_made}
use Rattle.at_orders.specs.Stages.{GroundTerms, IsStage, StageTerms, first_stage, ledger_at, payments_from, requests_at, stage_after}
use Rattle.at_orders.specs.Replies.{AreJust}
use Rattle.at_orders.specs.declared.replies.Replies.{Replies}
use Rattle.at_orders.specs.declared.stage.Stage.{Stage}

-- how many payments from the account that it names first stand before each call of the file
pub record AreCountedBefore (file : List Call) (before : List ℕ) : Type 0 where
  pub calls : length before ≡ length file
  pub each : (i : ℕ) (call : Call) → slice_get file i ≡ Some call → slice_index before i ≡ payments_from (first_account call) (take i file)

-- so of each call of each file
pub record AreAllCountedBefore (files : List (List Call)) (before : List (List ℕ)) : Type 0 where
  pub processes : length before ≡ length files
  pub each : (p : ℕ) → p < length files → AreCountedBefore (slice_index_or files p []) (slice_index_or before p [])

-- the accounts, of which there are so many, have these places in the list, no two of them the same
pub record ArePlaces (accounts : ℕ) (named : List ℕ) (places : List (Option ℕ)) : Type 0 where
  pub size : length places ≡ accounts
  pub within : (account place : ℕ) → slice_index_or places account None ≡ Some place → place < length named
  pub there : (account place : ℕ) → slice_index_or places account None ≡ Some place → slice_index named place ≡ account
  pub back : (place : ℕ) → place < length named → slice_index_or places (slice_index named place) None ≡ Some place

-- the account has a place
abbrev pub HasPlace : List (Option ℕ) → ℕ → Type 0
HasPlace places account = (place : ℕ) × (slice_index_or places account None ≡ Some place)

-- so has the account that the call names first
abbrev pub HasFirstPlace : List (Option ℕ) → Call → Type 0
HasFirstPlace places call = HasPlace places (first_account call)

-- no account has lost its place
abbrev pub KeepsPlaces : List (Option ℕ) → List (Option ℕ) → Type 0
KeepsPlaces old new = (account place : ℕ) → slice_index_or old account None ≡ Some place → slice_index_or new account None ≡ Some place

-- there is a file for each process, each can be played, and each account that a call names first has a place
pub record IsGround (g : GroundTerms) : Type 0 where
  pub book : IsBook g.book
  pub processes : length g.files ≡ g.book.processes
  pub files : All (IsPlayable (length g.book.accounts)) g.files
  pub places : ArePlaces (length g.book.accounts) g.named g.places
  pub named : All (All (HasFirstPlace g.places)) g.files

-- the next call of the process
abbrev pub IsNextCall : GroundTerms → Stage → ℕ → Call → Type 0
IsNextCall g s p call = slice_get (slice_index_or g.files p []) (slice_index s.made.items p) ≡ Some call

-- it is a payment from this account to these targets
pub record IsNextPayment (g : GroundTerms) (s : Stage) (p source : ℕ) (targets : List TargetPair) : Type 0 where
  pub call : Call
  pub next : IsNextCall g s p call
  pub paid : payout_of call ≡ Some (source, targets)

-- of these balances of all accounts, those of the accounts with a place are kept there
pub record AreKept (g : GroundTerms) (kept balances : List ℕ) : Type 0 where
  pub size : length balances ≡ length g.book.accounts
  pub each : (account place : ℕ) → slice_index_or g.places account None ≡ Some place → slice_index balances account ≡ slice_index kept place

-- the ledger has the numbers of the stage, and any balance where none is kept
pub record HasNumbers (g : GroundTerms) (s : Stage) (l : LedgerState) : Type 0 where
  pub is : ledger_at g s l.balances ≡ l
  pub kept : AreKept g s.balances.items l.balances

-- so it has, once the next call of the process is counted too
pub record IsMadeTo (g : GroundTerms) (s : Stage) (p : ℕ) (l : LedgerState) (new : Stage) : Type 0 where
  pub is : record (ledger_at g new l.balances) { asked = requests_at g (with_made s.made.items p) } ≡ l
  pub kept : AreKept g new.balances.items l.balances

-- the stage of the walk stands for this one: as many calls were made, and the ledger has its numbers
pub record StandsFor (g : GroundTerms) (s : Stage) (t : StageTerms) : Type 0 where
  pub made : s.made.items ≡ t.made
  pub ledger : HasNumbers g s t.ledger

-- its numbers are those of a ledger of the book, and it counts the calls of each process
pub record IsStanding (g : GroundTerms) (s : Stage) : Type 0 where
  pub counts : length s.made.items ≡ g.book.processes
  pub balances : length s.balances.items ≡ length g.named
  pub all : List ℕ
  pub kept : AreKept g s.balances.items all
  pub total : sum all ≡ total_of g.book
  pub sent : length s.sent.items ≡ g.book.processes
  pub sent_room : All (λ n. n ≤ g.book.own_room) s.sent.items

-- an order goes through a stage that it stands for
pub record IsSeen (g : GroundTerms) (s : Stage) : Type 0 where
  pub standing : IsStanding g s
  pub within : AreWithinFiles g.files s.made.items
  pub stage : StageTerms
  pub stands : StandsFor g s stage
  pub is : IsStage g.book g.files stage

-- these stages, and maybe more
pub record Grows (old new : List Stage) : Type 0 where
  pub more : List Stage
  pub is : new ≡ old ++ more

-- one of these stands for it
pub record HasStage (g : GroundTerms) (seen : List Stage) (t : StageTerms) : Type 0 where
  pub one : Stage
  pub there : Contains seen one
  pub stands : StandsFor g one t

-- whatever it stands for: the stage after the next call of the process is seen, if it has one
abbrev pub HasNext : GroundTerms → List Stage → Stage → ℕ → Type 0
HasNext g seen s p = (t : StageTerms) (call : Call) → StandsFor g s t → IsNextCall g s p call → HasStage g seen (stage_after t p call)

-- so are those after the next calls of all processes
abbrev pub HasAllNext : GroundTerms → List Stage → Stage → Type 0
HasAllNext g seen s = (p : ℕ) → p < g.book.processes → HasNext g seen s p

-- orders go through what these stages stand for, after so many calls
pub record AreLevel (g : GroundTerms) (made : ℕ) (stages : List Stage) : Type 0 where
  pub are : All (IsSeen g) stages
  pub counts : All (λ s. sum s.made.items ≡ made) stages

-- no two of them stand for the same
abbrev pub AreApart : GroundTerms → List Stage → Type 0
AreApart g stages = (i j : ℕ) (s : Stage) (t : StageTerms) → i < j → j < length stages → StandsFor g (slice_index_or stages i s) t → StandsFor g (slice_index_or stages j s) t → ⊥

-- the level after this one has these stages
pub record IsNextLevel (g : GroundTerms) (made : ℕ) (level next : List Stage) : Type 0 where
  pub stages : AreLevel g (made + 1) next
  pub apart : AreApart g next
  pub looked : All (HasAllNext g next) level

-- the level after so many calls has more stages than so many
pub record HasMoreNext (g : GroundTerms) (made most : ℕ) : Type 0 where
  pub next : List Stage
  pub stages : AreLevel g (made + 1) next
  pub apart : AreApart g next
  pub more : most < length next

-- the stages of the first levels, all of them looked at, and those of the level after so many calls
pub record IsWalkedTo (g : GroundTerms) (past level : List Stage) (made : ℕ) : Type 0 where
  pub stages : AreLevel g made level
  pub are : All (IsSeen g) past
  pub before : All (λ s. sum s.made.items < made) past
  pub apart : AreApart g (past ++ level)
  pub begun : HasStage g (past ++ level) (first_stage g.book)
  pub looked : All (HasAllNext g (past ++ level)) past

-- they stand for all stages of the orders
pub record AreAllStages (g : GroundTerms) (seen : List Stage) : Type 0 where
  pub are : All (IsSeen g) seen
  pub all : (t : StageTerms) → IsStage g.book g.files t → HasStage g seen t

-- one of these stages is before call i of the process, and a stage of an order that it stands for has this reply for it
pub record IsHeard (g : GroundTerms) (file : List Call) (stages : List Stage) (p i : ℕ) (reply : Reply) : Type 0 where
  pub one : Stage
  pub there : Contains stages one
  pub before : slice_index one.made.items p ≡ i
  pub call : Call
  pub next : slice_get file i ≡ Some call
  pub stage : StageTerms
  pub stands : StandsFor g one stage
  pub is : IsStage g.book g.files stage
  pub answered : (step stage.ledger p call).reply ≡ reply

-- each call of the file has just the replies that it has at these stages
pub record AreHeard (g : GroundTerms) (file : List Call) (stages : List Stage) (p : ℕ) (replies : List Replies) : Type 0 where
  pub calls : length replies ≡ length file
  pub each : (i : ℕ) (r : Replies) → i < length file → AreJust (IsHeard g file stages p i) (slice_index_or replies i r)

-- so has each call of the first files
pub record AreAllHeard (g : GroundTerms) (stages : List Stage) (answers : List (List Replies)) (count : ℕ) : Type 0 where
  pub processes : length answers ≡ count
  pub each : (p : ℕ) → p < count → AreHeard g (slice_index_or g.files p []) stages p (slice_index_or answers p [])

-- so has each call of the first files, and of the others at the stages before these
pub record AreHeardInPart (g : GroundTerms) (past stages : List Stage) (answers : List (List Replies)) (count : ℕ) : Type 0 where
  pub processes : length answers ≡ length g.files
  pub first : (p : ℕ) → p < count → p < length g.files → AreHeard g (slice_index_or g.files p []) (past ++ stages) p (slice_index_or answers p [])
  pub others : (p : ℕ) → count ≤ p → p < length g.files → AreHeard g (slice_index_or g.files p []) past p (slice_index_or answers p [])
