-- Processes whose payments meet at an account that isn't covered are of one part. Each part is ordered by itself.
use Rattle.std.specs.Prelude.{◌≡◌, ℕ, ◌<◌, ◌==◌, ◌⊎◌, true, List, [], ◌∷◌, length, map, slice_index, slice_index_or, Contains, Option, None, Some, if◌then◌else◌}
use Rattle.at_orders.specs.Prelude.{range_with_len, BookTerms, is_owner, TargetPair, payout_of, Call, Transfer, Read, Pay}
use Rattle.at_orders.specs.Covered.{OpeningCovers, TellCovered}
use Rattle.at_orders.specs.Stages.{HasMoreStages}
use Rattle.at_orders.specs.declared.parts.Parts.{Parts}

-- the account is that of a target
pub record IsTarget (targets : List TargetPair) (account : ℕ) : Type 0 where
  pub at : ℕ
  pub within : at < length targets
  pub is : (slice_index_or targets at (0, 0)).0 ≡ account

-- a payment names the account: as its source or a target
unfoldable pub Names : Call → ℕ → Type 0
Names (Transfer from to amount) account = (from ≡ account) ⊎ IsTarget ((to, amount) ∷ []) account
Names (Read other) account = ⊥
Names (Pay from targets) account = (from ≡ account) ⊎ IsTarget targets account

-- the call is a payment by an owner of its source, from or to the account
pub record PaysAt (b : BookTerms) (process account : ℕ) (call : Call) : Type 0 where
  pub source : ℕ
  pub targets : List TargetPair
  pub pays : payout_of call ≡ Some (source, targets)
  pub owns : is_owner b process source ≡ true
  pub names : Names call account

-- the process makes such a payment among these calls
pub record PaysIn (b : BookTerms) (process : ℕ) (calls : List Call) (account : ℕ) : Type 0 where
  pub call : Call
  pub stands : Contains calls call
  pub pays : PaysAt b process account call

-- so it does in its file
abbrev pub Touches : BookTerms → List (List Call) → ℕ → ℕ → Type 0
Touches b files process account = PaysIn b process (slice_index_or files process []) account

-- both processes make one, from or to an account that doesn't open with all that the files ask of it
pub record Meet (b : BookTerms) (files : List (List Call)) (p q : ℕ) : Type 0 where
  pub account : ℕ
  pub within : account < length b.accounts
  pub uncovered : OpeningCovers b files account → ⊥
  pub first : Touches b files p account
  pub second : Touches b files q account

-- the processes hang together by such meetings: whatever is the same of each two that meet is the same of these
abbrev pub HangTogether : BookTerms → List (List Call) → ℕ → ℕ → Type 0
HangTogether b files p q =
    (label : ℕ → ℕ) → ((x y : ℕ) → x < length files → y < length files → Meet b files x y → label x ≡ label y) → label p ≡ label q

-- the part of each process, by the number of one of its processes: those that meet are of one part, and a part hangs together
pub record AreParts (b : BookTerms) (files : List (List Call)) (parts : List ℕ) : Type 0 where
  pub processes : length parts ≡ length files
  pub known : (p : ℕ) → p < length files → slice_index parts p < length files
  pub meeting : (p q : ℕ) → p < length files → q < length files → Meet b files p q → slice_index parts p ≡ slice_index parts q
  pub together : (p q : ℕ) → p < length files → q < length files → slice_index parts p ≡ slice_index parts q → HangTogether b files p q

-- the file of the process where it is of the part, and else no call
abbrev pub part_file : List (List Call) → List ℕ → ℕ → ℕ → List Call
part_file files parts part process = if slice_index parts process == part then slice_index_or files process [] else []

-- the files of the part, and of the other processes no calls
unfoldable pub files_of_part : List (List Call) → List ℕ → ℕ → List (List Call)
files_of_part files parts part = map (part_file files parts part) (range_with_len 0 (length files))

-- the orders of some part go through more than so many stages
pub record HasBigPart (b : BookTerms) (files : List (List Call)) (most : ℕ) : Type 0 where
  pub parts : List ℕ
  pub are : AreParts b files parts
  pub part : ℕ
  pub more : HasMoreStages b (files_of_part files parts part) most

-- one part is of another's name
abbrev pub renamed : ℕ → ℕ → ℕ → ℕ
renamed from to part = if part == from then to else part

-- the process that was found to use the account, if some was
abbrev pub user_of : Parts → ℕ → Option ℕ
user_of p account = slice_index_or p.users.items account None

-- the parts so far: what is of one part hangs together, and each account that isn't covered has a user where some process was found to use it
pub record AreJoined (b : BookTerms) (files : List (List Call)) (p : Parts) : Type 0 where
  pub processes : length p.of.items ≡ length files
  pub accounts : length p.users.items ≡ length b.accounts
  pub known : (q : ℕ) → q < length files → slice_index p.of.items q < length files
  pub together : (x y : ℕ) → x < length files → y < length files → slice_index p.of.items x ≡ slice_index p.of.items y → HangTogether b files x y
  pub user : (account q : ℕ) → user_of p account ≡ Some q → q < length files
  pub uncovered : (account q : ℕ) → user_of p account ≡ Some q → OpeningCovers b files account → ⊥
  pub touches : (account q : ℕ) → user_of p account ≡ Some q → Touches b files q account

-- the process is of one part with the account's user
pub record HasUser (p : Parts) (process account : ℕ) : Type 0 where
  pub user : ℕ
  pub is : user_of p account ≡ Some user
  pub same : slice_index p.of.items user ≡ slice_index p.of.items process

-- parts of these files, of which one process is gone through
pub record AreJoining (b : BookTerms) (files : List (List Call)) (left : List (Option ℕ)) (process : ℕ) (p : Parts) : Type 0 where
  pub joined : AreJoined b files p
  pub tells : TellCovered b files left
  pub within : process < length files

-- the process is joined with the users of these accounts that aren't covered, and no process has left the part of an account's user
pub record AreTouched (b : BookTerms) (files : List (List Call)) (process : ℕ) (Is : ℕ → Type 0) (old new : Parts) : Type 0 where
  pub joined : AreJoined b files new
  pub keeps : (other account : ℕ) → other < length files → HasUser old other account → HasUser new other account
  pub found : (account : ℕ) → account < length b.accounts → Is account → (OpeningCovers b files account → ⊥) → HasUser new process account

-- whatever the files are in which the process touches these accounts
abbrev pub Touch : BookTerms → List (Option ℕ) → ℕ → (ℕ → Type 0) → Parts → Parts → Type 0
Touch b left process Is old new = (files : List (List Call)) → AreJoining b files left process old
    → ((account : ℕ) → Is account → Touches b files process account) → AreTouched b files process Is old new

-- there are files in which it does
pub record CanTouch (b : BookTerms) (left : List (Option ℕ)) (process : ℕ) (Is : ℕ → Type 0) (p : Parts) : Type 0 where
  pub files : List (List Call)
  pub joining : AreJoining b files left process p
  pub touches : (account : ℕ) → Is account → Touches b files process account
