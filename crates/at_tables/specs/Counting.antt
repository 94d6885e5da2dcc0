-- Counts of the calls of the files.
use Rattle.std.specs.Prelude.{◌≡◌, ℕ, ◌+◌, ◌<◌, ◌^◌, List, count_by, length, slice_index}
use Rattle.at_tables.specs.Prelude.{BookTerms, Call}
use Rattle.at_tables.specs.Kinds.{count_first, has_kind, is_agreed_kind, is_alone_kind, is_by_owner_of, is_refused_kind}
use Rattle.at_tables.specs.declared.counts.Counts.{Counts}

-- these calls of the process are counted too
pub record AreCounted (b : BookTerms) (process : ℕ) (calls : List Call) (old new : Counts) : Type 0 where
  pub refused : new.refused ≡ old.refused + count_by (has_kind is_refused_kind b process) calls
  pub alone : new.alone ≡ old.alone + count_by (has_kind is_alone_kind b process) calls
  pub agreed : new.agreed ≡ old.agreed + count_by (has_kind is_agreed_kind b process) calls
  pub accounts : length new.by_owners.items ≡ length old.by_owners.items
  pub by_owners : (a : ℕ) → slice_index new.by_owners.items a ≡ slice_index old.by_owners.items a + count_by (is_by_owner_of a b process) calls

-- the files of the first processes are counted, and nothing else
pub record AreCounts (b : BookTerms) (files : List (List Call)) (processes : ℕ) (c : Counts) : Type 0 where
  pub refused : c.refused ≡ count_first (has_kind is_refused_kind b) files processes
  pub alone : c.alone ≡ count_first (has_kind is_alone_kind b) files processes
  pub agreed : c.agreed ≡ count_first (has_kind is_agreed_kind b) files processes
  pub accounts : length c.by_owners.items ≡ length b.accounts
  pub by_owners : (a : ℕ) → slice_index c.by_owners.items a ≡ count_first (is_by_owner_of a b) files processes

-- so many calls more can be counted
pub record HasRoomToCount (c : Counts) (calls : ℕ) : Type 0 where
  pub refused : c.refused + calls < 2 ^ 32
  pub alone : c.alone + calls < 2 ^ 32
  pub agreed : c.agreed + calls < 2 ^ 32
  pub by_owners : (a : ℕ) → slice_index c.by_owners.items a + calls < 2 ^ 32
