-- Which step was made, by what a seat knew before it and after it.
use Rattle.std.specs.Prelude.{◌≡◌, ℕ, ◌<◌, length, Option, None, Some}
use Rattle.at_board.specs.Prelude.{Decision, BookTerms, HasSlot, Publication, Request}
use Rattle.at_board.specs.Knowledge.Parts.{asking_on, own_part}
use Rattle.at_board.specs.Steps.Announce.{Announces}
use Rattle.at_board.specs.Steps.Decide.{Decides}
use Rattle.at_board.specs.Steps.LoadAnnounced.{LoadsAnnounced}
use Rattle.at_board.specs.Steps.LoadLength.{LoadsLength}
use Rattle.at_board.specs.Steps.LoadRecordWord.{MayLoadWord}
use Rattle.at_board.specs.Steps.LoadRequestWord.{LoadsRequestWord}
use Rattle.at_board.specs.Steps.Publish.{Publishes}
use Rattle.at_board.specs.Steps.StoreRecordWord.{StoresWord}
use Rattle.at_board.specs.Steps.StoreRequestWord.{StoresRequestWord}
use Rattle.at_board.specs.Words.Addresses.{record_width}
use Rattle.at_board.specs.declared.knowledge.Knowledge.{Knowledge}
use Rattle.at_board.specs.declared.step.BoardStep.{BoardStep}
use Rattle.at_board.specs.declared.step.BoardWord.{BoardWord}
use Rattle.at_board.specs.declared.words.TheConstants.{REQUEST_WORDS}

-- just this word was loaded. A word of a record that was seen tells nothing new, and no cell is ever loaded
abbrev pub IsLoadOf : BookTerms → Knowledge → Knowledge → BoardWord → Type 0
IsLoadOf b before after (BoardWord.Length p) = (n : ℕ) × LoadsLength b before after p n
IsLoadOf b before after (BoardWord.Record p i j) = MayLoadWord b before p i j × (after ≡ before)
IsLoadOf b before after (BoardWord.Announced a slot) = (n : ℕ) × LoadsAnnounced b before after a slot n
IsLoadOf b before after (BoardWord.Request a slot number j) = (w : ℕ) × LoadsRequestWord b before after a slot number j w
IsLoadOf b before after (BoardWord.Cell a round) = ⊥

-- the word is one of the next record of the seat's process, or of its next request on an account
abbrev pub IsOfNextRecord : BookTerms → Knowledge → ℕ → ℕ → ℕ → Type 0
IsOfNextRecord b v p i j = (p ≡ v.first) × (i ≡ (own_part v).published) × (j < record_width b)

abbrev pub IsOfNextRequest : BookTerms → Knowledge → ℕ → ℕ → ℕ → ℕ → Type 0
IsOfNextRequest b v a slot number j =
    HasSlot b v.first a slot × (number ≡ length (asking_on (own_part v) a).announced) × (j < REQUEST_WORDS)

-- just this word was stored: a process stores its own words alone, and no cell
abbrev pub IsStoreOf : BookTerms → Knowledge → Knowledge → BoardWord → Type 0
IsStoreOf b before after (BoardWord.Length p) = (p ≡ before.first) × ((x : Publication) × Publishes b before after x)
IsStoreOf b before after (BoardWord.Record p i j) = IsOfNextRecord b before p i j × ((w : ℕ) × StoresWord before after j w)
IsStoreOf b before after (BoardWord.Announced a slot) =
    HasSlot b before.first a slot × ((r : Request) × Announces b before after a slot r)
IsStoreOf b before after (BoardWord.Request a slot number j) =
    IsOfNextRequest b before a slot number j × ((w : ℕ) × StoresRequestWord before after a j w)
IsStoreOf b before after (BoardWord.Cell a round) = ⊥

-- just this word was exchanged, which is a cell
abbrev pub IsExchangeOf : BookTerms → Knowledge → Knowledge → BoardWord → Type 0
IsExchangeOf b before after (BoardWord.Length p) = ⊥
IsExchangeOf b before after (BoardWord.Record p i j) = ⊥
IsExchangeOf b before after (BoardWord.Announced a slot) = ⊥
IsExchangeOf b before after (BoardWord.Request a slot number j) = ⊥
IsExchangeOf b before after (BoardWord.Cell a round) = (d : Decision) × (w : ℕ) × Decides b before after a round d w

-- just this step was made
abbrev pub IsStep : BookTerms → Knowledge → Knowledge → BoardStep → Type 0
IsStep b before after (BoardStep.Load word) = IsLoadOf b before after word
IsStep b before after (BoardStep.Store word) = IsStoreOf b before after word
IsStep b before after (BoardStep.Exchange word) = IsExchangeOf b before after word

-- in so many steps just this one was made, or none
abbrev pub MakesOnly : BookTerms → Knowledge → Knowledge → ℕ → Option BoardStep → Type 0
MakesOnly b before after steps None = (steps ≡ 0) × (after ≡ before)
MakesOnly b before after steps (Some step) = (steps ≡ 1) × IsStep b before after step
