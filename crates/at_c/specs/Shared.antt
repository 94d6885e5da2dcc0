-- What the callers of one ledger share.
use Rattle.std.specs.Prelude.{◌≡◌, ◌/◌, ◌%◌, ◌<◌, ℕ, List, length, slice_index_or}
use Rattle.at_c.specs.Prelude.{BoardTerms, AreNamesOf, NameList}
use Rattle.at_c.specs.declared.given.Owner.{Owner}

-- a ledger, with the names of its book
pub record SharedTerms : Type 0 where
  pub ledger : BoardTerms
  pub names : NameList

-- each place is of this ledger, so many for each process in order, each of these for one process
pub record IsOwned (ledger : BoardTerms) (process to : ℕ) (o : Owner) : Type 0 where
  pub ledger_is : o.ledger.value ≡ ledger
  pub process_is : o.process ≡ process
  pub to_is : o.to ≡ to

abbrev pub AreOwned : BoardTerms → ℕ → List Owner → Type 0
AreOwned ledger each places = (i : ℕ) (d : Owner) → i < length places → IsOwned ledger (i / each) (i % each) (slice_index_or places i d)

-- the names are the book's. Each process has a place for what its caller gives back, and places for its notes to sixteen processes
pub record IsShared (s : SharedTerms) (given notes : List Owner) : Type 0 where
  pub named : AreNamesOf s.ledger.book s.names
  pub given_count : length given ≡ s.ledger.book.processes
  pub given_owned : AreOwned s.ledger 1 given
  pub notes_count : length notes ≡ 256
  pub notes_owned : AreOwned s.ledger 16 notes
