-- The stages of a walk, where each is told by one before it.
use Rattle.std.specs.Prelude.{◌≡◌, ℕ, ◌+◌, ◌-◌, ◌*◌, ◌%◌, ◌^◌, ◌<◌, ◌≤◌, List, [], ◌∷◌, ◌++◌, length, drop, take, slice_index_or, sum, All, Option, None, Some, nat_eq}
use Rattle.std.specs.List.{fold}
use Rattle.indexmap.specs.IndexMap.{get}
use Rattle.at_orders.specs.Prelude.{Call}
use Rattle.at_orders.specs.Ordered.{AreSpans}
use Rattle.at_orders.specs.Stages.{GroundTerms, StageTerms, stage_after}
use Rattle.at_orders.specs.Walk.{AreAllHeard, AreApart, AreLevel, HasAllNext, HasNext, IsNextCall, IsSeen, IsStanding, IsWalkedTo, StandsFor}
use Rattle.at_orders.specs.declared.replies.Range.{Range}
use Rattle.at_orders.specs.declared.replies.Replies.{Replies}
use Rattle.at_orders.specs.declared.stage.Stage.{Stage}
use Rattle.at_orders.specs.declared.trail.Link.{Link}
use Rattle.at_orders.specs.declared.trail.Trail.{Trail}

-- the numbers of both are the same
pub record HaveSameNumbers (x y : Stage) : Type 0 where
  pub made : x.made.items ≡ y.made.items
  pub balances : x.balances.items ≡ y.balances.items
  pub sent : x.sent.items ≡ y.sent.items

-- the next call of the process leads from the one stage to the other
pub record IsNextStage (g : GroundTerms) (s : Stage) (p : ℕ) (new : Stage) : Type 0 where
  pub call : Call
  pub next : IsNextCall g s p call
  pub stands : (t : StageTerms) → StandsFor g s t → StandsFor g new (stage_after t p call)
  pub standing : IsStanding g new

-- a hash, and one number more in it
abbrev pub hashed : ℕ → ℕ → ℕ
hashed hash n = (hash + n) % 2 ^ 64 * 0x9E3779B97F4A7C15 % 2 ^ 64

-- the hash of a stage: those with the same numbers have the same
unfoldable pub hash_of : Stage → ℕ
hash_of s = fold hashed (fold hashed (fold hashed 0 s.made.items) s.balances.items) s.sent.items

-- no further than this number; nothing is, where there is none
abbrev pub IsUpTo : Option ℕ → ℕ → Type 0
IsUpTo None j = ⊥
IsUpTo (Some i) j = j ≤ i

-- of the stages from one number to before another the last that has this hash, if one has
pub record IsLatest (stages : List Stage) (begun end hash : ℕ) (at : Option ℕ) : Type 0 where
  pub is : (i : ℕ) (d : Stage) → at ≡ Some i → (begun ≤ i) × (i < end) × (hash_of (slice_index_or stages i d) ≡ hash)
  pub all : (j : ℕ) (d : Stage) → begun ≤ j → j < end → hash_of (slice_index_or stages j d) ≡ hash → IsUpTo at j

-- the link tells the stage with this number
pub record IsLink (g : GroundTerms) (begun : ℕ) (stages : List Stage) (i : ℕ) (l : Link) : Type 0 where
  pub from : l.from < i
  pub process : l.process < g.book.processes
  pub leads : (d : Stage) → IsNextStage g (slice_index_or stages l.from d) l.process (slice_index_or stages i d)
  pub twin : (d : Stage) → begun ≤ i → IsLatest stages begun i (hash_of (slice_index_or stages i d)) l.twin

-- the trail tells these stages: the first are held, and each other one is led to by one before it
pub record IsTrail (g : GroundTerms) (t : Trail) (stages : List Stage) : Type 0 where
  pub seen : All (IsSeen g) stages
  pub size : length stages ≡ length t.held.items + length t.links.items
  pub held : (i : ℕ) (s d : Stage) → i < length t.held.items → HaveSameNumbers (slice_index_or t.held.items i s) (slice_index_or stages i d)
  pub links : (k : ℕ) (l : Link) → k < length t.links.items → IsLink g t.begun stages (length t.held.items + k) (slice_index_or t.links.items k l)
  pub whole : length t.held.items ≤ t.begun
  pub looked : t.looked ≤ t.begun
  pub within : t.begun ≤ length stages
  pub latest : (hash : ℕ) → IsLatest stages t.begun (length stages) hash (get nat_eq t.latest hash)

-- no link
abbrev pub no_link : Link
no_link = record { from = 0; process = 0; twin = None }

-- the stage with this number has the same numbers
pub record IsAt (stages : List Stage) (i : ℕ) (s : Stage) : Type 0 where
  pub within : i < length stages
  pub same : (d : Stage) → HaveSameNumbers (slice_index_or stages i d) s

-- one of these stages, from this number on, has the same numbers
pub record HasTwin (stages : List Stage) (begun : ℕ) (s : Stage) : Type 0 where
  pub one : ℕ
  pub from : begun ≤ one
  pub is : IsAt stages one s

-- the process leads from the stage with this number to the new one
abbrev pub AreLed : GroundTerms → List Stage → ℕ → ℕ → Stage → Type 0
AreLed g stages from process new = (from < length stages) × ((d : Stage) → IsNextStage g (slice_index_or stages from d) process new)

-- the stage is the last of the trail's next level
pub record IsPushed (g : GroundTerms) (old new : Trail) (stages : List Stage) (s : Stage) : Type 0 where
  pub is : IsTrail g new (stages ++ s ∷ [])
  pub begun : new.begun ≡ old.begun
  pub looked : new.looked ≡ old.looked

-- the stages from this number on are all that there are, held whole
pub record AreKeptWhole (begun : ℕ) (new : Trail) (stages : List Stage) : Type 0 where
  pub size : length new.held.items ≡ length stages - begun
  pub held : (i : ℕ) (s d : Stage) → i < length new.held.items → HaveSameNumbers (slice_index_or new.held.items i s) (slice_index_or stages (begun + i) d)
  pub links : new.links.items ≡ []
  pub begun_at : new.begun ≡ 0

-- the stage is one of the trail's next level, if none was there with the same numbers
pub record Adds (g : GroundTerms) (old new : Trail) (stages : List Stage) (s : Stage) : Type 0 where
  pub more : List Stage
  pub is : IsTrail g new (stages ++ more)
  pub only : All (λ x. x ≡ s) more
  pub few : length more ≤ 1
  pub has : HasTwin (stages ++ more) old.begun s
  pub apart : HasTwin stages old.begun s → more ≡ []
  pub begun : new.begun ≡ old.begun
  pub looked : new.looked ≡ old.looked

-- the stages after the next calls of these processes are of the next level
pub record Looks (g : GroundTerms) (old new : Trail) (stages : List Stage) (s : Stage) (Is : ℕ → Type 0) : Type 0 where
  pub more : List Stage
  pub is : IsTrail g new (stages ++ more)
  pub counts : All (λ x. sum x.made.items ≡ sum s.made.items + 1) more
  pub apart : AreApart g (drop old.begun stages) → AreApart g (drop old.begun (stages ++ more))
  pub next : (p : ℕ) → Is p → HasNext g (drop old.begun (stages ++ more)) s p
  pub begun : new.begun ≡ old.begun
  pub looked : new.looked ≡ old.looked

-- the next level is the one that is looked at, and none is after it
pub record TurnsOver (g : GroundTerms) (old new : Trail) (stages : List Stage) : Type 0 where
  pub kept : List Stage
  pub is : IsTrail g new kept
  pub level : drop new.looked kept ≡ drop old.begun stages
  pub all : length kept ≡ new.begun

-- the levels are walked up to the one that is looked at, and what each call has for replies, and each account for balances, at the stages
-- before it; so many stages may still come
pub record IsWalked (g : GroundTerms) (t : Trail) (answers : List (List Replies)) (spans : List Range) (left : ℕ) : Type 0 where
  pub past : List Stage
  pub stages : List Stage
  pub made : ℕ
  pub trail : IsTrail g t stages
  pub all : length stages ≡ t.begun
  pub walked : IsWalkedTo g past (drop t.looked stages) made
  pub heard : AreAllHeard g past answers (length g.files)
  pub held : AreSpans g past spans
  pub count : length past + length (drop t.looked stages) + left ≡ 1048576

-- the next level is there too, and no more than so many
pub record IsWalkedOn (g : GroundTerms) (t : Trail) (answers : List (List Replies)) (spans : List Range) (left : ℕ) : Type 0 where
  pub past : List Stage
  pub stages : List Stage
  pub made : ℕ
  pub trail : IsTrail g t stages
  pub walked : IsWalkedTo g past (drop t.begun stages) made
  pub heard : AreAllHeard g past answers (length g.files)
  pub held : AreSpans g past spans
  pub count : length past + left ≡ 1048576
  pub few : length stages ≤ t.begun + left

-- the level is looked at up to this stage
pub record IsWalking (g : GroundTerms) (t : Trail) (answers : List (List Replies)) (spans : List Range) (most at : ℕ) : Type 0 where
  pub past : List Stage
  pub before : List Stage
  pub next : List Stage
  pub made : ℕ
  pub trail : IsTrail g t (before ++ next)
  pub all : length before ≡ t.begun
  pub from : t.looked ≤ at
  pub walked : IsWalkedTo g past (drop t.looked before) made
  pub level : AreLevel g (made + 1) next
  pub apart : AreApart g next
  pub looked : All (HasAllNext g next) (take (at - t.looked) (drop t.looked before))
  pub heard : AreAllHeard g (past ++ take (at - t.looked) (drop t.looked before)) answers (length g.files)
  pub held : AreSpans g (past ++ take (at - t.looked) (drop t.looked before)) spans
  pub count : length past + length (drop t.looked before) + most ≡ 1048576
