-- What the calls of a part do by themselves, and what that says of all files.
use Rattle.std.specs.Prelude.{◌≡◌, ℕ, ◌-◌, ◌<◌, ◌≤◌, ◌==◌, ◌⊎◌, List, [], length, map, slice_index, slice_index_or, Contains, if◌then◌else◌}
use Rattle.at_orders.specs.Prelude.{BookTerms, account_of, first_account, contents_of, Call}
use Rattle.at_orders.specs.Covered.{sum_below}
use Rattle.at_orders.specs.Orders.{AreAnswers, Comes}
use Rattle.at_orders.specs.Parts.{files_of_part}
use Rattle.at_orders.specs.Replies.{AreJust, range_at}
use Rattle.at_orders.specs.Stages.{GroundTerms, IsStage, StageTerms}
use Rattle.at_orders.specs.declared.part.Part.{Part}
use Rattle.at_orders.specs.declared.replies.Range.{Range}
use Rattle.at_orders.specs.declared.replies.Replies.{Replies}
use Rattle.at_orders.specs.declared.stage.Stage.{Stage}

-- the account has this much at some stage
pub record HoldsAt (b : BookTerms) (files : List (List Call)) (account balance : ℕ) : Type 0 where
  pub stage : StageTerms
  pub is : IsStage b files stage
  pub has : slice_index stage.ledger.balances account ≡ balance

-- the range is from the least to the greatest of these numbers
pub record IsSpan (CanBe : ℕ → Type 0) (range : Range) : Type 0 where
  pub least : CanBe range.least
  pub greatest : CanBe range.greatest
  pub low : (v : ℕ) → CanBe v → range.least ≤ v
  pub high : (v : ℕ) → CanBe v → v ≤ range.greatest

-- one of these stages has this balance in the place
pub record IsKeptAt (stages : List Stage) (place balance : ℕ) : Type 0 where
  pub one : Stage
  pub there : Contains stages one
  pub has : slice_index one.balances.items place ≡ balance

-- each account with a place has from the least to the greatest balance at these stages, and before the first call
pub record AreSpans (g : GroundTerms) (stages : List Stage) (spans : List Range) : Type 0 where
  pub size : length spans ≡ length g.named
  pub each : (place : ℕ) (d : Range) → place < length g.named
      → IsSpan (λ v. (v ≡ (account_of g.book (slice_index g.named place)).opening) ⊎ IsKeptAt stages place v) (slice_index_or spans place d)

-- some call of the files names the account first
pub record IsNamedFirst (files : List (List Call)) (account : ℕ) : Type 0 where
  pub process : ℕ
  pub within : process < length files
  pub call : Call
  pub stands : Contains (slice_index_or files process []) call
  pub names : first_account call ≡ account

-- the range of an account in a list of them, one for each account
abbrev pub range_in : List Range → ℕ → Range
range_in ranges account = slice_index_or ranges account (range_at 0)

-- what the files of a part do: the replies to their calls, and from where to where they bring each account that a call of all files names first
pub record IsOrdered (b : BookTerms) (files : List (List Call)) (parts : List ℕ) (part : ℕ) (done : Part) : Type 0 where
  pub answers : AreAnswers b (files_of_part files parts part) (contents_of done.replies.items)
  pub accounts : length done.spans.items ≡ length b.accounts
  pub spans : (account : ℕ) → account < length b.accounts → IsNamedFirst files account
      → IsSpan (HoldsAt b (files_of_part files parts part) account) (range_in done.spans.items account)

-- so do the files of the first parts
pub record AreOrdered (b : BookTerms) (files : List (List Call)) (parts : List ℕ) (done : List Part) (count : ℕ) : Type 0 where
  pub count_of : length done ≡ count
  pub each : (part : ℕ) (d : Part) → part < count → IsOrdered b files parts part (slice_index_or done part d)

-- the range that the account has in each part
abbrev pub part_ranges : List Part → ℕ → ℕ → Range
part_ranges done account part = range_in (slice_index_or (map (λ d. d.spans.items) done) part []) account

-- each part has a range for each account
pub record AreSpansOn (b : BookTerms) (done : List Part) : Type 0 where
  pub each : (part : ℕ) (d : Part) → part < length done → length (slice_index_or done part d).spans.items ≡ length b.accounts

-- x at the part, and f at the others
abbrev pub at_else : ℕ → ℕ → (ℕ → ℕ) → ℕ → ℕ
at_else part x f other = if other == part then x else f other

-- how far the first parts, but this one, can bring the account below its opening, where each has this range
abbrev pub falls_of : BookTerms → ℕ → (ℕ → Range) → ℕ → ℕ → ℕ
falls_of b account ranges part count = sum_below count (at_else part 0 (λ other. (account_of b account).opening - (ranges other).least))

-- and how far above it
abbrev pub rises_of : BookTerms → ℕ → (ℕ → Range) → ℕ → ℕ → ℕ
rises_of b account ranges part count = sum_below count (at_else part 0 (λ other. (ranges other).greatest - (account_of b account).opening))

-- each of the first calls of the process has just the replies that some order gives it
pub record AreFirstAnswers (b : BookTerms) (files : List (List Call)) (process : ℕ) (answers : List Replies) (count : ℕ) : Type 0 where
  pub calls : length answers ≡ count
  pub each : (i : ℕ) (r : Replies) → i < count → AreJust (Comes b files process i) (slice_index_or answers i r)

-- so has each call of the first files
pub record AreFilesAnswers (b : BookTerms) (files : List (List Call)) (answers : List (List Replies)) (count : ℕ) : Type 0 where
  pub processes : length answers ≡ count
  pub each : (process : ℕ) → process < count
      → AreFirstAnswers b files process (slice_index_or answers process []) (length (slice_index_or files process []))
